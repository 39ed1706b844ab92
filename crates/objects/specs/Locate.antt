-- Where objects lie, by the cars that they are in.
use Rattle.std.specs.Prelude.{ℕ, ◌+◌, ◌*◌, List, [], ◌∷◌, ◌==◌, if◌then◌else◌}
use Rattle.model.specs.Bodies.{size}
use Rattle.model.specs.Trains.{Obj, Train, Trains, car_words}
use Rattle.objects.specs.Lies.{nothing}

-- the address of the object x among these, the first of which stands at a; another number if it is not among them
abbrev pub address_from : (a : ℕ) → List Obj → (x other : ℕ) → ℕ
address_from a [] x other = other
address_from a (o ∷ os) x other = if x == o.id then a else address_from (a + size o.body) os x other

abbrev pub address_in : Train → (x other : ℕ) → ℕ
address_in [] x other = other
address_in (c ∷ cs) x other = address_from (car_words * c.number) c.objects x (address_in cs x other)

-- the address of an object; what lies in no car has none
abbrev pub locate : Trains → ℕ → ℕ
locate [] x = nothing
locate (t ∷ ts) x = address_in t x (locate ts x)
