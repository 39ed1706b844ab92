-- How the words of memory stand for objects.
use Rattle.std.specs.Prelude.{◌≡◌, ℕ, ◌+◌, ◌*◌, ◌/◌, ◌<◌, ◌≤◌, List, [], ◌∷◌, length, Some, None, Option, slice_index, slice_index_or, ⊤}
use Rattle.layout.specs.declared.Shape.{Shape}
use Rattle.layout.specs.ShapeTable.{Offsets, ShapeTable}
use Rattle.model.specs.Bodies.{Body, size}
use Rattle.model.specs.Trains.{Obj, Car, words_of, times, car_words, car_count}

-- the word of a reference or a root that holds no object: no address, and of no car
abbrev pub nothing : ℕ
nothing = 8192

-- the word of a reference or a root, where at tells the address of each object
abbrev pub word_of : (at : ℕ → ℕ) → Option ℕ → ℕ
word_of at None = nothing
word_of at (Some x) = at x

-- an object with this inside stands at the address a
pub record Lies (M : ShapeTable) (code : Shape → ℕ) (at : ℕ → ℕ) (words : List ℕ) (a : ℕ) (b : Body) : Type 0 where
  pub offsets : Offsets
  pub admitted : M.offsets b.shape ≡ Some offsets
  pub ref_count : length b.refs ≡ offsets.refs
  pub word_count : length b.values ≡ offsets.words
  pub header : slice_index words a ≡ code b.shape
  pub refs : (i : ℕ) → i < offsets.refs → slice_index words (a + offsets.ref_at i) ≡ word_of at (slice_index_or b.refs i None)
  pub values : (j : ℕ) → j < offsets.words → slice_index words (a + offsets.word_at j) ≡ slice_index b.values j

-- objects stand one behind the other from the address a on
abbrev pub LieFrom : ShapeTable → (Shape → ℕ) → (at : ℕ → ℕ) → List ℕ → (a : ℕ) → List Obj → Type 0
LieFrom M code at words a [] = ⊤
LieFrom M code at words a (o ∷ os) = Lies M code at words a o.body × LieFrom M code at words (a + size o.body) os

-- a car's objects stand in it, from its first word on
abbrev pub CarLies : ShapeTable → (Shape → ℕ) → (at : ℕ → ℕ) → List ℕ → Car → Type 0
CarLies M code at words c = LieFrom M code at words (car_words * c.number) c.objects

-- where at says that objects are, the first of which stands at a
abbrev pub ArePlaced : (at : ℕ → ℕ) → (a : ℕ) → List Obj → Type 0
ArePlaced at a [] = ⊤
ArePlaced at a (o ∷ os) = (at o.id ≡ a) × ArePlaced at (a + size o.body) os

-- a car of memory: its objects stand in it where at says, and it has no more than its 128 words
pub record CarStands (M : ShapeTable) (code : Shape → ℕ) (at : ℕ → ℕ) (words : List ℕ) (c : Car) : Type 0 where
  pub lies : CarLies M code at words c
  pub placed : ArePlaced at (car_words * c.number) c.objects
  pub number : c.number < car_count
  pub within : words_of c.objects ≤ car_words

-- no address in the car is that of an object that does not lie in it
abbrev pub HoldsItsOwn : (at : ℕ → ℕ) → Car → Type 0
HoldsItsOwn at c = (x : ℕ) → at x / car_words ≡ c.number → 1 ≤ times x c.objects
