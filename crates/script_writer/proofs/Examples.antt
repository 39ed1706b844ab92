-- Lines written by the definitions alone.
use Rattle.std.proofs.Common.{◌≡◌, true, [], ◌∷◌, ◌++◌, codes, refl}
use Rattle.calls.specs.declared.answer.Answer.TheVariants.{Refused, Value, Tally, Step}
use Rattle.calls.specs.declared.answer.StepKind.TheVariants.{Car}
use Rattle.calls.specs.declared.answer.Refusal.TheVariants.{Range}
use Rattle.calls.specs.Faults.{bad_words, player_fault}
use Rattle.std.specs.Fmt.{digits}
use Rattle.script_writer.specs.Writer.{answer_line, fault_line}

pub a_fault : fault_line (player_fault (bad_words 4 8)) ≡ codes "reader 9 line 4 at 8" ++ 10 ∷ []
unfolding digits
a_fault = refl

pub a_refusal : answer_line (Refused Range) ≡ codes "6" ++ 10 ∷ []
unfolding digits
a_refusal = refl

pub a_value : answer_line (Value 4294967295) ≡ codes "0 4294967295" ++ 10 ∷ []
unfolding digits
a_value = refl

pub a_tally : answer_line (Tally (record { words = 3072; cars = 28; trains = 8; mark = true })) ≡ codes "0 3072 28 8 1" ++ 10 ∷ []
unfolding digits
a_tally = refl

pub a_step : answer_line (Step (record { kind = Car; out = 1; back = 0; copied = 3; lost = 0; looked = 1; cars = 1 })) ≡ codes "0 car 1 0 3 0 1 1" ++ 10 ∷ []
unfolding digits
a_step = refl
