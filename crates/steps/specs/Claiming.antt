-- What goes out of the first car: which slots lead into it, and what its claims are for.
use Rattle.std.specs.Prelude.{◌≡◌, ℕ, ◌/◌, List, [], ◌∷◌, length, flat_map}
use Rattle.layout.specs.declared.Shape.{Shape}
use Rattle.layout.specs.ShapeTable.{ShapeTable}
use Rattle.remembered.specs.Laws.{Keeps}
use Rattle.remembered.specs.Updates.{Pairs, no_pairs, still_noted}
use Rattle.model.specs.Calls.{History}
use Rattle.model.specs.Claims.{MoveRequest, ref_requests, claims}
use Rattle.model.specs.Notes.{Slot, train_slots, slots}
use Rattle.model.specs.Remembered.{slots_into}
use Rattle.model.specs.Space.{space_of, updates_of}
use Rattle.model.specs.Trains.{Car, Train, Trains, car_words}
use Rattle.claims.specs.declared.Claim.{Claim}
use Rattle.claims.specs.Claimed.{Claimed}
use Rattle.memory.specs.Heap.{Heap}
use Rattle.memory.specs.Stands.{Stands}

-- the memory stands for the space that a history leads to; its first train begins with the car f and goes on with the cars cs, and ts
-- are the other trains; the set has all that was noted and whose car was not forgotten since
pub record FirstCar (M : ShapeTable) (code : Shape → ℕ) (s : Heap) (P : Pairs) (h : History) (f : Car) (cs : Train) (ts : Trains) : Type 0 where
  pub stands : Stands M code (space_of M h) s
  pub trains : (space_of M h).trains ≡ (f ∷ cs) ∷ ts
  pub keeps : Keeps (still_noted no_pairs (updates_of M h)) P

-- some space has a car of that number there
pub record KnownCar (M : ShapeTable) (code : Shape → ℕ) (s : Heap) (P : Pairs) (number : ℕ) : Type 0 where
  pub history : History
  pub car : Car
  pub others : Train
  pub rest : Trains
  pub first : FirstCar M code s P history car others rest
  pub number_is : number ≡ car.number

-- the slots of the first train's other cars that hold an object of the first car, and those of other trains
abbrev pub inner_slots : ShapeTable → Car → Train → List Slot
inner_slots M f cs = slots_into f (train_slots M 1 cs)

abbrev pub outer_slots : ShapeTable → Car → Train → Trains → List Slot
outer_slots M f cs ts = slots_into f (slots M (length (f ∷ cs)) ts)

-- the objects that slots hold are to go to the trains that the slots lie in
abbrev pub slot_requests : (rank : ℕ → ℕ) → List Slot → List MoveRequest
slot_requests rank ss = flat_map (λ s. ref_requests (rank (s.address / car_words)) (s.target ∷ [])) ss

-- these are the claims that requests make, one after another
abbrev pub ClaimedFor : (at : ℕ → ℕ) → Car → List MoveRequest → List Claim → Type 0
ClaimedFor at f ws order = Claimed at f (claims ws f.objects).taken (claims ws f.objects).left order
