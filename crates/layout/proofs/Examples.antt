-- What the product admits at its edges.
use Rattle.std.proofs.Common.{◌≡◌, ℕ, Option, None, Some, refl}
use Rattle.layout.specs.ShapeTable.{Offsets, refs_first}
use Rattle.layout.specs.Product.{product_table}

abbrev made : (kind refs words : ℕ) → Option Offsets
made k r w = product_table.offsets (record { kind = k; refs = r; words = w })

empty_record : made 0 0 0 ≡ None
empty_record = refl

full_record : made 0 15 15 ≡ Some (refs_first 15 15)
full_record = refl

wide_record : made 0 16 0 ≡ None
wide_record = refl

long_record : made 0 0 16 ≡ None
long_record = refl

full_array : made 1 63 0 ≡ Some (refs_first 63 0)
full_array = refl

long_array : made 1 64 0 ≡ None
long_array = refl

array_with_data : made 1 63 1 ≡ None
array_with_data = refl

empty_array : made 1 0 0 ≡ None
empty_array = refl

third_kind : made 2 1 0 ≡ None
third_kind = refl
