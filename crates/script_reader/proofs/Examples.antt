-- Lines read by the definitions alone.
use Rattle.std.proofs.Common.{◌≡◌, [], ◌∷◌, ◌++◌, negsuc, Ok, Err, codes, refl}
use Rattle.std.specs.Fmt.{digits}
use Rattle.calls.specs.declared.call.Call.TheVariants as call
use Rattle.calls.specs.declared.call.Access.TheVariants as access
use Rattle.calls.specs.Faults.{bad_words, no_number, line_fault, player_fault}
use Rattle.script_reader.specs.Lines.{Walks}
use Rattle.script_reader.specs.Reader.{line_of, player_of}
use Rattle.script_reader.specs.Spelling.{spelled, Spells}
use Rattle.script_reader.proofs.Walks.{walked}

pub leading_zero : line_of 1 (codes "drop 07") ≡ Err (line_fault (no_number 1 5))
leading_zero = refl

pub space_behind : line_of 4 (codes "step ") ≡ Err (bad_words 4 5)
space_behind = refl

pub carried_up : player_of 4 (codes "step ") ≡ Err (player_fault (bad_words 4 5))
carried_up = refl

pub empty_line : line_of 1 (codes "") ≡ Err (bad_words 1 0)
empty_line = refl

pub no_number_there : line_of 1 (codes "drop ") ≡ Err (line_fault (no_number 1 5))
no_number_there = refl

pub missing_word : line_of 2 (codes "put 1 2") ≡ Err (bad_words 2 7)
missing_word = refl

pub words-first : line_of 2 (codes "put 01 2 3 4") ≡ Err (bad_words 2 11)
words-first = refl

pub largest : line_of 1 (codes "put 0 0 4294967295") ≡ Ok (call.Access (access.Put 0 0 4294967295))
largest = refl

pub too_large : line_of 1 (codes "put 0 0 4294967296") ≡ Err (line_fault (no_number 1 8))
too_large = refl

pub lowered : line_of 1 (codes "lift 1 0 -10") ≡ Ok (call.Access (access.Lift 1 0 (negsuc 9)))
lowered = refl

pub least : line_of 1 (codes "lift 1 0 -2147483648") ≡ Ok (call.Access (access.Lift 1 0 (negsuc 2147483647)))
least = refl

pub minus-zero : line_of 1 (codes "lift 1 0 -0") ≡ Err (line_fault (no_number 1 9))
minus-zero = refl

pub lift_spelled : spelled (call.Access (access.Lift 1 0 (negsuc 9))) ≡ codes "lift 1 0 -10"
unfolding digits
lift_spelled = refl

pub make_spelled : spelled (call.Make 31 1 63 0) ≡ codes "make 31 1 63 0"
unfolding digits
make_spelled = refl

pub step_spelled : spelled call.Step ≡ codes "step"
step_spelled = refl

pub words_not-in_script : Spells (codes "words 0 15") (call.Access (access.Words 0 15)) → ⊥
words_not-in_script s = s.call

pub walked_lines : Walks (codes "step" ++ 10 ∷ 10 ∷ codes "tally") 0 (codes "step" ∷ [] ∷ codes "tally" ∷ [])
walked_lines = walked (codes "step" ++ 10 ∷ 10 ∷ codes "tally")
