-- How header words stand for shapes, and what a header word tells of its object.
use Rattle.std.specs.Prelude.{◌≡◌, ℕ, ◌+◌, ◌<◌, ◌≤◌, min, Option, Some, MatchOption, ◌≢◌}
use Rattle.std.specs.Option.{option_map}
use Rattle.layout.specs.ShapeTable.{ShapeTable, Offsets}
use Rattle.layout.specs.declared.Shape.{Shape}

-- the header word of a shape, or none if the shape is not admitted
abbrev pub header_word : ShapeTable → (Shape → ℕ) → Shape → Option ℕ
header_word M code s = option_map (λ _. code s) (M.offsets s)

-- the words of an object, its header among them, as far as a number of 32 bits can tell
abbrev pub size_of : Offsets → ℕ
size_of o = min (1 + o.refs + o.words) 4294967295

-- the i-th of n offsets, or none
abbrev pub Nth : (n : ℕ) → (ℕ → ℕ) → (i : ℕ) → Option ℕ → Type 0
Nth n f i o = MatchOption o (n ≤ i) (λ x. (i < n) × (x ≡ f i))

-- which of n offsets a given one is, or none
abbrev pub Which : (n : ℕ) → (ℕ → ℕ) → (x : ℕ) → Option ℕ → Type 0
Which n f x o = MatchOption o ((i : ℕ) → i < n → f i ≢ x) (λ i. (i < n) × (f i ≡ x))

-- the same counts, and the same offset for each reference and for each data word
pub record SameOffsets (o x : Offsets) : Type 0 where
  pub refs : x.refs ≡ o.refs
  pub words : x.words ≡ o.words
  pub ref_at : (i : ℕ) → i < o.refs → x.ref_at i ≡ o.ref_at i
  pub word_at : (j : ℕ) → j < o.words → x.word_at j ≡ o.word_at j

-- the header of an admitted shape is a word, and gives back where the shape's words stand; of a word that is the header
-- of no admitted shape nothing is asked
pub record Coded (M : ShapeTable) (code : Shape → ℕ) (decoded : ℕ → Offsets) : Type 0 where
  pub few_kinds : M.kinds ≤ 4294967295
  pub fits : (s : Shape) (o : Offsets) → M.offsets s ≡ Some o → code s < 4294967296
  pub gives_back : (s : Shape) (o : Offsets) → M.offsets s ≡ Some o → SameOffsets o (decoded (code s))
