-- The product's layout: records are kind 0 and arrays kind 1.
use Rattle.std.specs.Prelude.{◌≡◌, ℕ, ◌+◌, ◌<◌, ◌≤◌, ◌⊎◌, Option, Some}
use Rattle.std.specs.Option.{SomeIff}
use Rattle.layout.specs.declared.Shape.{Shape}
use Rattle.layout.specs.ShapeTable.{ShapeTable, Offsets, refs_first}
use Rattle.layout.specs.Record.{record_table, record_code}
use Rattle.layout.specs.Array.{array_table, array_code}
use Rattle.layout.specs.Pair.{pair_table, pair_code}

abbrev pub product_table : ShapeTable
product_table = pair_table record_table array_table record_code array_code

abbrev pub product_code : Shape → ℕ
product_code = pair_code record_table.kinds record_code array_code

-- what the product admits, number by number
abbrev pub ProductShape : (kind refs words : ℕ) → Type 0
ProductShape k r w =
    ((k ≡ 0) × (r ≤ 15) × (w ≤ 15) × (1 ≤ r + w))
    ⊎ ((k ≡ 1) × (1 ≤ r) × (r ≤ 63) × (w ≡ 0))

-- the header word of a shape, or none if it is no shape of the product
abbrev pub HeadedProduct : Shape → Option ℕ → Type 0
HeadedProduct s o = SomeIff o (ProductShape s.kind s.refs s.words) (product_code s)

-- the product's shapes and no others: they have the numbers asked for, references first, and headers that leave room for
-- a pair of the product and a third layout
pub record ProductShapes (M : ShapeTable) (code : Shape → ℕ) : Type 0 where
  pub two_kinds : M.kinds ≡ 2
  pub these : (s : Shape) → ProductShape s.kind s.refs s.words → M.offsets s ≡ Some (refs_first s.refs s.words)
  pub no_others : (s : Shape) (o : Offsets) → M.offsets s ≡ Some o → ProductShape s.kind s.refs s.words
  pub small_headers : (s : Shape) → ProductShape s.kind s.refs s.words → code s < 131072

-- headers of records and of arrays
pub record SmallHeaders : Type 0 where
  pub records : (s : Shape) (o : Offsets) → record_table.offsets s ≡ Some o → record_code s < 65536
  pub arrays : (s : Shape) (o : Offsets) → array_table.offsets s ≡ Some o → array_code s < 65536
