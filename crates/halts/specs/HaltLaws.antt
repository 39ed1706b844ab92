-- The laws of a memory at a halt.
use Rattle.std.specs.Prelude.{◌≡◌, ◌≢◌, ℕ, ◌+◌, ◌-◌, ◌*◌, ◌≤◌, List, ◌++◌, length, nat_eq, true, ◌⊎◌, sum_by}
use Rattle.std.specs.List.{range_with_len, IsDistinct}
use Rattle.layout.specs.declared.Shape.{Shape}
use Rattle.layout.specs.ShapeTable.{Offsets, ShapeTable}
use Rattle.model.specs.Calls.{History}
use Rattle.model.specs.Laws.{AnswersAsTheGraph, GoesOn, train_steps, sizes}
use Rattle.model.specs.Plain.{graph_of}
use Rattle.model.specs.Space.{space_of, Use}
use Rattle.model.specs.Trains.{one_of}
use Rattle.objects.specs.Lies.{nothing}
use Rattle.memory.specs.Heap.{Heap}
use Rattle.memory.specs.Stands.{Stands}
use Rattle.halts.specs.Objects.{size_at, IsObjectOf, LiesWhole, filled_words}
use Rattle.halts.specs.Reached.{MemoryReaches, IsWaste, WasteUpToRank}
use Rattle.halts.specs.Matching.{Matching, ReachesTheSame}

-- the memory stands for the space after the history
abbrev pub StandsAfter : ShapeTable → (Shape → ℕ) → History → Heap → Type 0
StandsAfter M code h heap = Stands M code (space_of M h) heap

-- what holds however the use goes on: of each longer history, with at least n steps in what is added to h, and of each memory
-- that stands for the space after it
abbrev pub EachAfter : ShapeTable → (Shape → ℕ) → History → (n : ℕ) → (History → Heap → Type 0) → Type 0
EachAfter M code h n P =
    (more : History) (later : Heap) → GoesOn M h n more → StandsAfter M code (more ++ h) later → P (more ++ h) later

-- as many times the steps of a train as there are trains, and once more
abbrev pub enough_steps : Heap → ℕ
enough_steps heap = (length heap.trains.trains + 1) * train_steps

-- of the objects that stood in the memory at the halt only those that were reachable are left
pub record OnlyReachableLeft (M : ShapeTable) (decoded : ℕ → Offsets) (h : History) (heap : Heap) (w : Matching M decoded (graph_of M h) heap)
    (after : History) (later : Heap) : Type 0 where
  pub matching : Matching M decoded (graph_of M after) later
  -- each object is one that the roots reached at the halt, wherever it stood then, or was made since
  pub known : (x : ℕ) → matching.address x ≢ nothing → MemoryReaches decoded heap (w.address x) ⊎ (length (graph_of M h).entries ≤ x)
  -- what was waste at the halt stands nowhere
  pub gone : (x : ℕ) → IsWaste decoded heap (w.address x) → matching.address x ≡ nothing

pub record WasteIsGone (M : ShapeTable) (code : Shape → ℕ) (decoded : ℕ → Offsets) (h : History) (heap : Heap)
    (w : Matching M decoded (graph_of M h) heap) : Type 0 where
  pub after_enough : EachAfter M code h (enough_steps heap) (OnlyReachableLeft M decoded h heap w)
  -- if no waste lies above rank j or is sent there, after as many times the steps of a train as there are ranks up to j
  pub sooner : (j : ℕ) → WasteUpToRank decoded j heap → EachAfter M code h ((j + 1) * train_steps) (OnlyReachableLeft M decoded h heap w)

-- the addresses that the roots reach, each once
pub record ListsReached (decoded : ℕ → Offsets) (heap : Heap) (xs : List ℕ) : Type 0 where
  pub once : IsDistinct nat_eq xs
  pub all : (a : ℕ) → MemoryReaches decoded heap a → one_of a xs ≡ true
  pub only : (a : ℕ) → one_of a xs ≡ true → MemoryReaches decoded heap a

-- the sizes of the objects at these addresses, added
abbrev pub sizes_at : (decoded : ℕ → Offsets) → Heap → List ℕ → ℕ
sizes_at decoded heap xs = sum_by (size_at decoded heap) xs

-- the sizes of the entries that were made from one history to a longer one, added
abbrev pub sizes_made : ShapeTable → (before after : History) → ℕ
sizes_made M before after =
    let old = length (graph_of M before).entries in
    let es = (graph_of M after).entries in
    sizes es (range_with_len old (length es - old))

-- the words in use are the filled words of all cars
abbrev pub CountsWords : Heap → Type 0
CountsWords heap = heap.used ≡ filled_words heap.trains.trains

-- they are at most the sizes of what stood at these addresses at the halt, and of what was made since
pub record WordsWithin (M : ShapeTable) (decoded : ℕ → Offsets) (h : History) (heap : Heap) (xs : List ℕ)
    (after : History) (later : Heap) : Type 0 where
  pub counted : CountsWords later
  pub bounded : later.used ≤ sizes_at decoded heap xs + sizes_made M h after

-- what the roots reach at the halt can be listed, and with each such list the words in use are bounded after enough steps
pub record WordsAreBounded (M : ShapeTable) (code : Shape → ℕ) (decoded : ℕ → Offsets) (h : History) (heap : Heap) : Type 0 where
  pub counted : CountsWords heap
  pub listed : (xs : List ℕ) × ListsReached decoded heap xs
  pub after_enough : (xs : List ℕ) → ListsReached decoded heap xs → EachAfter M code h (enough_steps heap) (WordsWithin M decoded h heap xs)

pub record HaltLaw (M : ShapeTable) (code : Shape → ℕ) (decoded : ℕ → Offsets) (h : History) (heap : Heap) : Type 0 where
  -- each reply so far, but to a step or a tally, was the plain graph's
  pub replies : AnswersAsTheGraph M h
  -- objects match entries, and the roots reach the same: shapes, numbers and sharing are those of the plain graph
  pub matching : Matching M decoded (graph_of M h) heap
  pub reach : ReachesTheSame M decoded (graph_of M h) heap matching
  -- an object ends within the filled words of its car
  pub whole : (k a : ℕ) (l : IsObjectOf decoded heap k a) → LiesWhole decoded heap l.car a
  pub waste : WasteIsGone M code decoded h heap matching
  pub words : WordsAreBounded M code decoded h heap

-- what holds at each halt of each use
abbrev pub HaltLaws : (M : ShapeTable) → (code : Shape → ℕ) → (decoded : ℕ → Offsets) → Type 0
HaltLaws M code decoded = (h : History) (heap : Heap) → Use M h → StandsAfter M code h heap → HaltLaw M code decoded h heap
