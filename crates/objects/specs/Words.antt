-- What is said of words of memory: which of them stay as they were, and what stands at an object's address.
use Rattle.std.specs.Prelude.{◌≡◌, ℕ, ◌+◌, ◌<◌, ◌≤◌, List, length, ◌++◌, drop, Option, MatchOption, slice_index}
use Rattle.std.specs.Option.{option_map_or}
use Rattle.layout.specs.Coding.{size_of}
use Rattle.layout.specs.ShapeTable.{Offsets, ShapeTable}
use Rattle.layout.specs.declared.Shape.{Shape}
use Rattle.model.specs.Bodies.{Body, size}
use Rattle.model.specs.Notes.{Slot, ref_offset}
use Rattle.objects.specs.Lies.{Lies, word_of}

-- the words from a on, so many as n, are the same in both
pub record SameWithin (v w : List ℕ) (a n : ℕ) : Type 0 where
  pub same : (k : ℕ) → a ≤ k → k < a + n → slice_index w k ≡ slice_index v k

-- all but the words from a on, so many as n, are the same in both
pub record SameOutside (v w : List ℕ) (a n : ℕ) : Type 0 where
  pub before : (k : ℕ) → k < a → slice_index w k ≡ slice_index v k
  pub behind : (k : ℕ) → a + n ≤ k → slice_index w k ≡ slice_index v k

-- so many words as n, from the address a in v, stand from the address b on in w
pub record Copied (v w : List ℕ) (a b n : ℕ) : Type 0 where
  pub copied : (k : ℕ) → k < n → slice_index w (b + k) ≡ slice_index v (a + k)

-- how far behind the header the j-th data word of an object of a shape stands
abbrev pub word_offset : ShapeTable → Shape → ℕ → ℕ
word_offset M s j = option_map_or (λ o. o.word_at j) (M.offsets s) 0

-- what holds of the inside of the object that stands at a, whichever it is; it ends within memory
abbrev pub OfObject : ShapeTable → (Shape → ℕ) → List ℕ → (a : ℕ) → (Body → Type 0) → Type 0
OfObject M code words a P = (at : ℕ → ℕ) (b : Body) → Lies M code at words a b → a + size b ≤ 8192 → P b

-- values at the front of a buffer that has room for them, and their number; if it has none, the buffer is as it was
abbrev pub FillsFront : (values old new : List ℕ) → Option ℕ → Type 0
FillsFront values old new result = MatchOption result
    ((length old < length values) × (new ≡ old))
    (λ n. (n ≡ length values) × (length values ≤ length old) × (new ≡ values ++ drop (length values) old))

-- what a header tells is what an object has inside: its counts, how far behind the header its words stand, and its size
pub record Tells (M : ShapeTable) (b : Body) (told : Offsets) : Type 0 where
  pub refs : told.refs ≡ length b.refs
  pub words : told.words ≡ length b.values
  pub ref_at : (i : ℕ) → i < length b.refs → told.ref_at i ≡ ref_offset M b.shape i
  pub word_at : (j : ℕ) → j < length b.values → told.word_at j ≡ word_offset M b.shape j
  pub whole : size_of told ≡ size b
  pub least : 2 ≤ size b
  pub most : size b ≤ 64

-- at a slot's address stands the word of what the slot holds
abbrev pub HasItsWord : (at : ℕ → ℕ) → List ℕ → Slot → Type 0
HasItsWord at words s = slice_index words s.address ≡ word_of at s.target
