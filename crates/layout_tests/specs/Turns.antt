-- References and data words in turns, 1 to 31 of each. A header is their number, and a word that is no header tells of
-- no words at all or of more than there can be, many of them at one place.
use Rattle.std.specs.Prelude.{ℕ, ◌+◌, ◌*◌, ◌%◌, Bool, ◌&&◌, ◌==◌, nat_le}
use Rattle.std.specs.Bool.{then_some}
use Rattle.std.proofs.Common.{arith}
use Rattle.std.proofs.lemmas.Bool.Decides.{nat_tests}
use Rattle.layout.specs.declared.Shape.{Shape}
use Rattle.layout.specs.ShapeTable.{ShapeTable, Offsets, Lawful}
use Rattle.layout.specs.Coding.{Coded}

abbrev pub turns : (count : ℕ) → Offsets
turns n = record { refs = n; words = n; ref_at = λ i. 1 + 2 * (i % 32); word_at = λ j. 2 + 2 * (j % 32) }

abbrev pub is_turns : Shape → Bool
is_turns s = (s.kind == 0) && ((s.refs == s.words) && (nat_le 1 s.refs && nat_le s.refs 31))

abbrev pub turns_table : ShapeTable
turns_table = record { kinds = 1; offsets = λ s. then_some (is_turns s) (turns s.refs) }

pub turns_lawful : Lawful turns_table
turns_lawful = grind (arith, nat_tests)

pub turns_coded : Coded turns_table (λ s. s.refs) turns
turns_coded = grind (arith, nat_tests)
