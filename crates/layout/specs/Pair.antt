-- Two layouts beside each other: the first one's kinds come first, and the lowest bit of a header tells whose it is.
use Rattle.std.specs.Prelude.{ℕ, ◌+◌, ◌-◌, min, if◌then◌else◌, nat_lt, Option, None}
use Rattle.std.proofs.Common.{arith}
use Rattle.std.proofs.lemmas.Bool.Decides.{nat_tests}
use Rattle.layout.specs.declared.Shape.{Shape}
use Rattle.layout.specs.declared.pair.Half.TheVariants.{First, Second}
use Rattle.layout.specs.Halves.{half_of, header_of, in_half, half_of-header_of}
use Rattle.layout.specs.ShapeTable.{ShapeTable, Offsets, Lawful}
use Rattle.layout.specs.Coding.{Coded}

-- kinds from this number on are not admitted
abbrev pub most_kinds : ℕ
most_kinds = 4294967295

-- a shape is admitted only if its header in its own layout is below this: doubled, it is a word still
abbrev pub half_headers : ℕ
half_headers = 2147483648

-- what a half says of a shape with that header
abbrev pub if_small : (code : ℕ) → Option Offsets → Option Offsets
if_small c o = if nat_lt c half_headers then o else None

-- a shape whose kind is the second's, as the second itself counts it
abbrev pub second_shape : (first_kinds : ℕ) → Shape → Shape
second_shape n s = record { kind = s.kind - n; refs = s.refs; words = s.words }

abbrev pub pair_table : (A B : ShapeTable) (code_a code_b : Shape → ℕ) → ShapeTable
pair_table A B a b = record {
  kinds = min (A.kinds + B.kinds) most_kinds;
  offsets = λ s.
      if nat_lt s.kind A.kinds then if_small (a s) (A.offsets s)
      else if nat_lt s.kind most_kinds
      then if_small (b (second_shape A.kinds s)) (B.offsets (second_shape A.kinds s))
      else None;
}

abbrev pub pair_code : (first_kinds : ℕ) (code_a code_b : Shape → ℕ) → Shape → ℕ
pair_code n a b s = header_of (if nat_lt s.kind n then First (a s) else Second (b (second_shape n s)))

abbrev pub pair_decoded : (decoded_a decoded_b : ℕ → Offsets) → ℕ → Offsets
pair_decoded a b h = in_half a b (half_of h)

pub pair_lawful : {A B : ShapeTable} {a : Shape → ℕ} {x : ℕ → Offsets} (b : Shape → ℕ)
    → Lawful A → Coded A a x → Lawful B → Lawful (pair_table A B a b)
pair_lawful b l c m = grind (arith, nat_tests)

pub pair_coded : {A B : ShapeTable} {a b : Shape → ℕ} {x y : ℕ → Offsets}
    → Coded A a x → Coded B b y → Coded (pair_table A B a b) (pair_code A.kinds a b) (pair_decoded x y)
pair_coded c d = grind (arith, nat_tests, half_of-header_of)
