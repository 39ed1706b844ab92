-- How a whole placement stands in memory, what a placement keeps for that, and where a new object comes to stand.
use Rattle.std.specs.Prelude.{ℕ, zero, suc, ◌+◌, ◌*◌, ◌/◌, ◌<◌, ◌≤◌, List, [], ◌∷◌, if◌then◌else◌}
use Rattle.std.specs.List.{AllByRecursion}
use Rattle.layout.specs.declared.Shape.{Shape}
use Rattle.layout.specs.ShapeTable.{ShapeTable}
use Rattle.model.specs.Bodies.{Body, size}
use Rattle.model.specs.Laws.{CarsApart}
use Rattle.model.specs.Sound.{Sized}
use Rattle.model.specs.Trains.{Obj, Car, Train, Trains, objects, words_of, times, fits, car_words, car_count}
use Rattle.objects.specs.Lies.{Lies, ArePlaced, CarStands}

-- what holds of each car of each train
abbrev pub EachCar : (Car → Type 0) → Trains → Type 0
EachCar P ts = AllByRecursion (λ t. AllByRecursion P t) ts

-- each car stands in memory
abbrev pub TrainsStand : ShapeTable → (Shape → ℕ) → (at : ℕ → ℕ) → List ℕ → Trains → Type 0
TrainsStand M code at words ts = EachCar (CarStands M code at words) ts

-- the part of it that speaks of addresses alone
pub record CarPlaced (at : ℕ → ℕ) (c : Car) : Type 0 where
  pub placed : ArePlaced at (car_words * c.number) c.objects
  pub number : c.number < car_count
  pub within : words_of c.objects ≤ car_words

-- an object stands at its address, within the words of one car of memory
pub record ObjectStands (M : ShapeTable) (code : Shape → ℕ) (at : ℕ → ℕ) (words : List ℕ) (x : ℕ) (b : Body) : Type 0 where
  pub lies : Lies M code at words (at x) b
  pub car : at x / car_words < car_count
  pub within : at x + size b ≤ car_words * (at x / car_words) + car_words

-- no word is of both: n words from a on, and m words from b on
pub record Disjoint (a n b m : ℕ) : Type 0 where
  pub apart : (k : ℕ) → a ≤ k → k < a + n → b ≤ k → k < b + m → ⊥

-- what a placement keeps at every moment: an identity lies once at most, objects have 2 to 64 words, and cars, of at most
-- 128 words, have numbers of their own below 64
pub record Seated (ts : Trains) : Type 0 where
  pub once : (x : ℕ) → times x (objects ts) ≤ 1
  pub sized : AllByRecursion Sized (objects ts)
  pub within : EachCar (λ c. words_of c.objects ≤ car_words) ts
  pub apart : CarsApart ts

-- where the next object comes to stand in a train: behind the last car's words if it fits there, else in the car of number n
abbrev pub next_address : (n : ℕ) → Obj → Train → ℕ
next_address n o [] = car_words * n
next_address n o (c ∷ []) = if fits c o then car_words * c.number + words_of c.objects else car_words * n
next_address n o (c ∷ d ∷ cs) = next_address n o (d ∷ cs)

-- in the train of a rank; behind the last train, in the car of number n
abbrev pub next_address_at : (rank n : ℕ) → Obj → Trains → ℕ
next_address_at k n o [] = car_words * n
next_address_at zero n o (t ∷ ts) = next_address n o t
next_address_at (suc k) n o (t ∷ ts) = next_address_at k n o ts
