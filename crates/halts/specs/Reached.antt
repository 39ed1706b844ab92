-- What the roots of a memory reach.
use Rattle.std.specs.Prelude.{◌≡◌, ◌≢◌, ℕ, ◌<◌, Some, slice_index}
use Rattle.layout.specs.ShapeTable.{Offsets}
use Rattle.model.specs.Bodies.{root_count}
use Rattle.objects.specs.Lies.{nothing}
use Rattle.memory.specs.declared.Mark.{Mark}
use Rattle.memory.specs.Heap.{Heap}
use Rattle.halts.specs.Objects.{told, ref_word, IsObject, IsObjectOf}

-- the word of a root is this address, or the word of a reference of something reached is
pub data MemoryReaches (decoded : ℕ → Offsets) (heap : Heap) : ℕ → Type 0 where
  by_root : {a : ℕ} (r : ℕ) → r < root_count → slice_index heap.roots r ≡ a → a ≢ nothing → MemoryReaches decoded heap a
  by_ref : {a b : ℕ} (i : ℕ) → MemoryReaches decoded heap a → i < (told decoded heap a).refs → ref_word decoded heap a i ≡ b → b ≢ nothing
      → MemoryReaches decoded heap b

-- an object that the roots do not reach
pub record IsWaste (decoded : ℕ → Offsets) (heap : Heap) (a : ℕ) : Type 0 where
  pub object : IsObject decoded heap a
  pub unreached : MemoryReaches decoded heap a → ⊥

-- no waste lies in a train of a rank above j, and a mark on waste does not send it above j
pub record WasteUpToRank (decoded : ℕ → Offsets) (j : ℕ) (heap : Heap) : Type 0 where
  pub lies : (k a : ℕ) → j < k → IsObjectOf decoded heap k a → IsWaste decoded heap a → ⊥
  pub marked : (w : Mark) → heap.mark ≡ Some w → j < w.rank → IsWaste decoded heap w.object → ⊥
