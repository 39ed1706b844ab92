-- How the objects of a memory match entries of the plain graph.
use Rattle.std.specs.Prelude.{◌≡◌, ◌≢◌, ℕ, ◌<◌, length, None, Some, Option, slice_index, slice_index_or, slice_get}
use Rattle.layout.specs.Coding.{SameOffsets}
use Rattle.layout.specs.ShapeTable.{Offsets, ShapeTable}
use Rattle.model.specs.Bodies.{Body, held, root_count}
use Rattle.model.specs.Plain.{Graph}
use Rattle.model.specs.Reach.{GraphReaches}
use Rattle.objects.specs.Lies.{nothing}
use Rattle.memory.specs.Heap.{Heap}
use Rattle.halts.specs.Objects.{told, ref_word, data_word, IsObject}
use Rattle.halts.specs.Reached.{MemoryReaches}

-- a root or a reference with this word holds what one of the graph does: none in both, or the object of the same entry
abbrev pub Holds : (address : ℕ → ℕ) → (word : ℕ) → Option ℕ → Type 0
Holds address w None = w ≡ nothing
Holds address w (Some x) = (w ≡ address x) × (w < nothing)

-- the object at a has inside what an entry has: its header tells the counts and offsets that the table gives the entry's shape,
-- its data words are the same, and so is what its references hold
pub record SameInside (M : ShapeTable) (decoded : ℕ → Offsets) (heap : Heap) (address : ℕ → ℕ) (a : ℕ) (b : Body) : Type 0 where
  pub offsets : Offsets
  pub admitted : M.offsets b.shape ≡ Some offsets
  pub ref_count : length b.refs ≡ offsets.refs
  pub word_count : length b.values ≡ offsets.words
  pub header : SameOffsets offsets (told decoded heap a)
  pub data_words : (j : ℕ) → j < offsets.words → data_word decoded heap a j ≡ slice_index b.values j
  pub refs : (i : ℕ) → i < offsets.refs → Holds address (ref_word decoded heap a i) (slice_index_or b.refs i None)

-- the entry of this number is as the object at a
pub record EntryOf (M : ShapeTable) (decoded : ℕ → Offsets) (g : Graph) (heap : Heap) (address : ℕ → ℕ) (a x : ℕ) : Type 0 where
  pub body : Body
  pub entry : slice_get g.entries x ≡ Some body
  pub same : SameInside M decoded heap address a body

-- objects of the memory, waste too, match entries one to one: `address` tells where the object of an entry stands, and is
-- `nothing` for an entry whose object is gone; each object has an entry, and no two entries have one object
pub record Matching (M : ShapeTable) (decoded : ℕ → Offsets) (g : Graph) (heap : Heap) : Type 0 where
  pub address : ℕ → ℕ
  pub each : (a : ℕ) → IsObject decoded heap a → (x : ℕ) × (address x ≡ a)
  pub stands : (x : ℕ) → address x ≢ nothing → IsObject decoded heap (address x)
  pub entries : (x : ℕ) → address x ≢ nothing → EntryOf M decoded g heap address (address x) x
  pub differ : (x y : ℕ) → address x ≢ nothing → address x ≡ address y → x ≡ y
  pub below : (a : ℕ) → IsObject decoded heap a → a < nothing

-- the roots hold the same in the memory and in the graph; the object of each entry that they reach is reached, and each object
-- that they reach is that of an entry that they reach
pub record ReachesTheSame (M : ShapeTable) (decoded : ℕ → Offsets) (g : Graph) (heap : Heap) (w : Matching M decoded g heap) : Type 0 where
  pub roots : (r : ℕ) → r < root_count → Holds w.address (slice_index heap.roots r) (held g.roots r)
  pub forth : (x : ℕ) → GraphReaches g x → MemoryReaches decoded heap (w.address x)
  pub back : (a : ℕ) → MemoryReaches decoded heap a → (x : ℕ) × GraphReaches g x × (w.address x ≡ a)
  pub objects : (a : ℕ) → MemoryReaches decoded heap a → IsObject decoded heap a
