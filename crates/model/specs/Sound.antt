-- What holds of a space at every halt.
use Rattle.std.specs.Prelude.{◌≡◌, ℕ, ◌<◌, ◌≤◌, List, [], ◌∷◌, length, Some, None, Option, slice_index_or}
use Rattle.std.specs.List.{AllByRecursion}
use Rattle.model.specs.Bodies.{Roots, held}
use Rattle.model.specs.Trains.{Obj, Train, Trains, train_objects, objects, words_of, words_in_use, times, obj_size, capacity, most_trains, car_words}
use Rattle.model.specs.Space.{Model}
use Rattle.model.specs.Claims.{MoveRequest}

-- each reference of an object holds none or an identity of Q
abbrev pub Points : (ℕ → Type 0) → Obj → Type 0
Points Q o = (i y : ℕ) → slice_index_or o.body.refs i None ≡ Some y → Q y

-- an object has from 2 to 64 words
abbrev pub Sized : Obj → Type 0
Sized o = (2 ≤ obj_size o) × (obj_size o ≤ 64)

-- no car is empty or overfull, and each but the last of its train has more than half its words
abbrev pub Filled : Train → Type 0
Filled [] = Unit {0}
Filled (c ∷ []) = (1 ≤ words_of c.objects) × (words_of c.objects ≤ car_words)
Filled (c ∷ d ∷ cs) = (65 ≤ words_of c.objects) × (words_of c.objects ≤ car_words) × Filled (d ∷ cs)

-- a train has a car
abbrev pub HasCars : Train → Type 0
HasCars t = 1 ≤ length t

abbrev pub first_objects : Trains → List Obj
first_objects [] = []
first_objects (t ∷ ts) = train_objects t

-- a mark is on an object of the first train, and has the rank of another train, or of the one that would be opened next
pub record Marked (w : MoveRequest) (ts : Trains) : Type 0 where
  pub lies : 1 ≤ times w.who (first_objects ts)
  pub above : 1 ≤ w.rank
  pub within : w.rank ≤ length ts
  pub below : w.rank < most_trains

pub record SoundAt (made : ℕ) (rs : Roots) (ts : Trains) (mk : Option MoveRequest) : Type 0 where
  -- identities were given, and each lies in a car at most once
  pub old : AllByRecursion (λ o. o.id < made) (objects ts)
  pub once : (x : ℕ) → times x (objects ts) ≤ 1
  pub sized : AllByRecursion Sized (objects ts)
  -- roots and references, those of waste too, hold what lies in a car or none
  pub roots : (r x : ℕ) → held rs r ≡ Some x → 1 ≤ times x (objects ts)
  pub refs : AllByRecursion (Points (λ y. 1 ≤ times y (objects ts))) (objects ts)
  pub room : words_in_use ts ≤ capacity
  pub filled : AllByRecursion Filled ts
  pub standing : AllByRecursion HasCars ts
  pub few : length ts ≤ most_trains
  pub mark : (w : MoveRequest) → mk ≡ Some w → Marked w ts

-- the facts that every call keeps
abbrev pub Sound : Model → Type 0
Sound m = SoundAt m.made m.roots m.trains m.mark
