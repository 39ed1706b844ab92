-- A record: up to 15 references and up to 15 data words, one word at least, references first.
use Rattle.std.specs.Prelude.{ℕ, ◌+◌, ◌*◌, ◌/◌, ◌%◌, Bool, ◌&&◌, ◌==◌, nat_le}
use Rattle.std.specs.Bool.{then_some}
use Rattle.std.proofs.Common.{arith}
use Rattle.std.proofs.lemmas.Bool.Decides.{nat_tests}
use Rattle.layout.specs.declared.record.TheConstants.{MOST_OF_EACH}
use Rattle.layout.specs.declared.Shape.{Shape}
use Rattle.layout.specs.LowPart.{low_part, low_part_self}
use Rattle.layout.specs.ShapeTable.{ShapeTable, Offsets, Lawful, refs_first}
use Rattle.layout.specs.Coding.{Coded}

abbrev pub is_record : Shape → Bool
is_record s =
    (s.kind == 0) && (nat_le s.refs MOST_OF_EACH && (nat_le s.words MOST_OF_EACH && nat_le 1 (s.refs + s.words)))

abbrev pub record_table : ShapeTable
record_table = record { kinds = 1; offsets = λ s. then_some (is_record s) (refs_first s.refs s.words) }

abbrev pub record_code : Shape → ℕ
record_code s = s.refs + 16 * s.words

-- the low eight bits of a header, and 16, one data word alone, in the place of 0, which is no shape
abbrev pub record_bits : ℕ → ℕ
record_bits = low_part 256 16

abbrev pub record_decoded : ℕ → Offsets
record_decoded h = refs_first (record_bits h % 16) (record_bits h / 16)

pub record_lawful : Lawful record_table
record_lawful = grind (arith, nat_tests)

pub record_coded : Coded record_table record_code record_decoded
record_coded = grind (arith, nat_tests, low_part_self)
