-- An array: 1 to 63 references and no data words.
use Rattle.std.specs.Prelude.{ℕ, Bool, ◌&&◌, ◌==◌, nat_le}
use Rattle.std.specs.Bool.{then_some}
use Rattle.std.proofs.Common.{arith}
use Rattle.std.proofs.lemmas.Bool.Decides.{nat_tests}
use Rattle.layout.specs.declared.array.TheConstants.{MOST_REFERENCES}
use Rattle.layout.specs.declared.Shape.{Shape}
use Rattle.layout.specs.LowPart.{low_part, low_part_self}
use Rattle.layout.specs.ShapeTable.{ShapeTable, Offsets, Lawful, refs_first}
use Rattle.layout.specs.Coding.{Coded}

abbrev pub is_array : Shape → Bool
is_array s = (s.kind == 0) && (nat_le 1 s.refs && (nat_le s.refs MOST_REFERENCES && s.words == 0))

abbrev pub array_table : ShapeTable
array_table = record { kinds = 1; offsets = λ s. then_some (is_array s) (refs_first s.refs 0) }

abbrev pub array_code : Shape → ℕ
array_code s = s.refs

-- the low six bits of a header, and 1 in the place of 0, which is no shape
abbrev pub array_decoded : ℕ → Offsets
array_decoded h = refs_first (low_part 64 1 h) 0

pub array_lawful : Lawful array_table
array_lawful = grind (arith, nat_tests)

pub array_coded : Coded array_table array_code array_decoded
array_coded = grind (arith, nat_tests, low_part_self)
