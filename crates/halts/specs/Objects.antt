-- What stands in a memory, by its words alone: a walk over each car meets its objects, and a header tells where the object's
-- words stand.
use Rattle.std.specs.Prelude.{◌≡◌, ℕ, ◌+◌, ◌*◌, ◌<◌, ◌≤◌, List, [], Some, slice_index, slice_index_or, slice_get, sum_by}
use Rattle.layout.specs.ShapeTable.{Offsets}
use Rattle.model.specs.Trains.{car_words, car_count}
use Rattle.trains.specs.Fills.{CarFill, TrainFill}
use Rattle.memory.specs.Heap.{Heap}

-- what the header at the address a tells
abbrev pub told : (decoded : ℕ → Offsets) → Heap → (a : ℕ) → Offsets
told decoded heap a = decoded (slice_index heap.words a)

-- how many words the object at a has, its header among them
abbrev pub size_at : (decoded : ℕ → Offsets) → Heap → (a : ℕ) → ℕ
size_at decoded heap a = 1 + (told decoded heap a).refs + (told decoded heap a).words

-- the word of its i-th reference, and its j-th data word
abbrev pub ref_word : (decoded : ℕ → Offsets) → Heap → (a i : ℕ) → ℕ
ref_word decoded heap a i = slice_index heap.words (a + (told decoded heap a).ref_at i)

abbrev pub data_word : (decoded : ℕ → Offsets) → Heap → (a j : ℕ) → ℕ
data_word decoded heap a j = slice_index heap.words (a + (told decoded heap a).word_at j)

-- the headers that a walk from the address `first` meets, each object behind the one before it, up to the address `end`
pub data Meets (decoded : ℕ → Offsets) (heap : Heap) (first end : ℕ) : ℕ → Type 0 where
  at_first : {a : ℕ} → a ≡ first → a < end → Meets decoded heap first end a
  behind : {a b : ℕ} → Meets decoded heap first end a → b ≡ a + size_at decoded heap a → b < end → Meets decoded heap first end b

-- a walk over the filled words of a car of this train meets an object at a
pub record LiesIn (decoded : ℕ → Offsets) (heap : Heap) (t : TrainFill) (a : ℕ) : Type 0 where
  pub place : ℕ
  pub car : CarFill
  pub stands : slice_get t place ≡ Some car
  pub met : Meets decoded heap (car_words * car.number) (car_words * car.number + car.filled) a

-- an object stands at a, in a car of the train of this rank
abbrev pub IsObjectOf : (decoded : ℕ → Offsets) → Heap → (rank a : ℕ) → Type 0
IsObjectOf decoded heap k a = LiesIn decoded heap (slice_index_or heap.trains.trains k []) a

-- an object stands at a
pub record IsObject (decoded : ℕ → Offsets) (heap : Heap) (a : ℕ) : Type 0 where
  pub rank : ℕ
  pub lies : IsObjectOf decoded heap rank a

-- the object at a ends within the filled words of this car, and the car within memory
pub record LiesWhole (decoded : ℕ → Offsets) (heap : Heap) (c : CarFill) (a : ℕ) : Type 0 where
  pub ends : a + size_at decoded heap a ≤ car_words * c.number + c.filled
  pub filled : c.filled ≤ car_words
  pub number : c.number < car_count

-- the filled words of all cars, added
abbrev pub filled_words : List TrainFill → ℕ
filled_words ts = sum_by (λ t. sum_by (λ c. c.filled) t) ts
