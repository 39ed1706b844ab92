-- Pairs of a car and an address, and what the updates of a set, its notes and forgets, make of them.
use Rattle.std.specs.Prelude.{ℕ, zero, suc, ◌+◌, Bool, false, cond, not, ◌&&◌, ◌||◌, List, [], ◌∷◌, ◌==◌}
use Rattle.remembered.specs.declared.Update.{Update}
use Rattle.remembered.specs.declared.Update.TheVariants.{Note, Forget}
use Rattle.remembered.specs.Laws.{in_range}

-- which pairs of a car and an address there are
abbrev pub Pairs : Type 0
Pairs = ℕ → ℕ → Bool

-- there is no pair
abbrev pub no_pairs : Pairs
no_pairs c a = false

-- what a set is told, the newest update first
abbrev pub Updates : Type 0
Updates = List Update

-- the pairs of P and those in range that were noted, but for those whose car was forgotten since
abbrev pub still_noted : Pairs → Updates → Pairs
still_noted P [] c a = P c a
still_noted P (Note d b ∷ us) c a = (in_range c a && (c == d && a == b)) || still_noted P us c a
still_noted P (Forget d ∷ us) c a = not (c == d) && still_noted P us c a

-- how many numbers below n are in P
abbrev pub count : (ℕ → Bool) → ℕ → ℕ
count P zero = 0
count P (suc n) = cond (P n) 1 0 + count P n

-- how many pairs of a car there are
abbrev pub pairs_of : (ℕ → ℕ → Bool) → ℕ → ℕ
pairs_of has c = count (has c) 8192
