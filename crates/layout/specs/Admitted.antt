-- What code above a layout finds at the header of an admitted shape.
use Rattle.std.specs.Prelude.{◌≡◌, ℕ, ◌+◌, ◌≤◌, Option, None, Some, refl}
use Rattle.std.specs.Option.{option_map}
use Rattle.std.proofs.Common.{arith}
use Rattle.layout.specs.ShapeTable.{ShapeTable, Offsets, Apart, Lawful}
use Rattle.layout.specs.Coding.{Coded, SameOffsets, header_word, size_of}
use Rattle.layout.specs.declared.Shape.{Shape}

-- a shape with the words `x` is admitted, and `h` is its header
pub record HeaderOf (x : Option Offsets) (code h : ℕ) : Type 0 where
  pub offsets : Offsets
  pub admitted : x ≡ Some offsets
  pub header : code ≡ h

header_of_some : (x : Option Offsets) (code h : ℕ) → option_map (λ _. code) x ≡ Some h → HeaderOf x code h
header_of_some None code h e = absurd (cc)
header_of_some (Some o) code h e = record { offsets = o; admitted = refl; header = cc }

-- a shape that gets a header is admitted
pub header_word_some : (M : ShapeTable) (code : Shape → ℕ) (s : Shape) (h : ℕ) → header_word M code s ≡ Some h
    → HeaderOf (M.offsets s) (code s) h
header_word_some M code s h e = header_of_some (M.offsets s) (code s) h e

-- what a header tells, `x`, if it is that of a shape with the words `o`: the same words, each with a place of its own
-- within the object, which has 2 to 64 words with its header
pub record TellsOf (o x : Offsets) : Type 0 where
  pub same : SameOffsets o x
  pub apart : Apart x
  pub size : size_of x ≡ 1 + o.refs + o.words
  pub least : 2 ≤ size_of x
  pub most : size_of x ≤ 64

pub admitted_header : {M : ShapeTable} {code : Shape → ℕ} {decoded : ℕ → Offsets} → Lawful M → Coded M code decoded
    → (s : Shape) (o : Offsets) → M.offsets s ≡ Some o → TellsOf o (decoded (code s))
admitted_header l c s o a = grind (arith, c.gives_back s o a, l.apart s o a)
