-- The refusals' numbers.
use Rattle.std.specs.Prelude.{ℕ}
use Rattle.calls.specs.declared.answer.Refusal.{Refusal}
use Rattle.calls.specs.declared.answer.Refusal.TheVariants.{Root, Empty, Missing, Shape, Full, Range, Buffer}

-- the number that a line shows for a refusal
abbrev pub refusal_number : Refusal → ℕ
refusal_number Root = 1
refusal_number Empty = 2
refusal_number Missing = 3
refusal_number Shape = 4
refusal_number Full = 5
refusal_number Range = 6
refusal_number Buffer = 7
