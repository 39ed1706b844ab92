-- No reference is overlooked: what a remembered set has at every halt, and which slots a step finds by it.
use Rattle.std.specs.Prelude.{◌≡◌, ℕ, ◌<◌, true, Some, List, [], ◌∷◌, ◌++◌, length, map, filter, nat_eq}
use Rattle.std.specs.List.{AllByRecursion, IsDistinct}
use Rattle.layout.specs.ShapeTable.{ShapeTable, Lawful}
use Rattle.remembered.specs.Laws.{Keeps}
use Rattle.remembered.specs.Updates.{Pairs, no_pairs, still_noted}
use Rattle.model.specs.Calls.{History}
use Rattle.model.specs.Trains.{Car, Trains}
use Rattle.model.specs.Notes.{CarPlace, car_place, Slot, train_slots, slots, target_among}
use Rattle.model.specs.Space.{space_of, updates_of}
use Rattle.model.specs.Laws.{CarsApart}

-- if the slot stands in a later car than its object, its address is paired with the object's car
abbrev pub RememberedIfLater : Pairs → Trains → Slot → Type 0
RememberedIfLater P ts s =
    (y : ℕ) (c : CarPlace) → s.target ≡ Some y → car_place 0 y ts ≡ Some c → c.order < s.order → P c.number s.address ≡ true

-- the object that a slot holds lies in a car
abbrev pub HoldsWhatLies : Trains → Slot → Type 0
HoldsWhatLies ts s = (y : ℕ) → s.target ≡ Some y → (c : CarPlace) × (car_place 0 y ts ≡ Some c)

-- the words of all cars
abbrev pub address_count : ℕ
address_count = 8192

-- the slots that hold an object of a car
abbrev pub slots_into : Car → List Slot → List Slot
slots_into c ss = filter (λ s. target_among c.objects s.target) ss

-- of some slots those whose address is paired with a car
abbrev pub paired : Pairs → Car → List Slot → List Slot
paired P c ss = filter (λ s. P c.number s.address) ss

-- of these slots a car's pairs find all that hold an object of the car, and in the same order; pairs that no slot stands behind
-- any more, or one that holds something else, are left out
abbrev pub FindsAll : Pairs → Car → List Slot → Type 0
FindsAll P c ss = slots_into c (paired P c ss) ≡ slots_into c ss

-- what a step learns from the pairs of the first train's cars: for the first car, which slots outside it hold an object of
-- it, and for each car of the train, which slots of other trains do
abbrev pub StepFinds : ShapeTable → Pairs → Trains → Type 0
StepFinds M P [] = Unit {0}
StepFinds M P ([] ∷ ts) = Unit {0}
StepFinds M P ((f ∷ cs) ∷ ts) =
    FindsAll P f (train_slots M 1 cs ++ slots M (length (f ∷ cs)) ts)
    × AllByRecursion (λ c. FindsAll P c (slots M (length (f ∷ cs)) ts)) (f ∷ cs)

pub record NothingOverlooked (M : ShapeTable) (P : Pairs) (ts : Trains) : Type 0 where
  pub apart : CarsApart ts
  pub addresses : AllByRecursion (λ s. s.address < address_count) (slots M 0 ts)
  -- an address is the address of one slot
  pub slots_differ : IsDistinct nat_eq (map (λ s. s.address) (slots M 0 ts))
  pub lies : AllByRecursion (HoldsWhatLies ts) (slots M 0 ts)
  pub remembered : AllByRecursion (RememberedIfLater P ts) (slots M 0 ts)
  pub found : StepFinds M P ts

-- at every halt, however the space got there, for all pairs that contain those noted whose car was not forgotten since
abbrev pub OverlooksNothing : ShapeTable → Type 0
OverlooksNothing M = (h : History) (P : Pairs) → Keeps (still_noted no_pairs (updates_of M h)) P → NothingOverlooked M P (space_of M h).trains

abbrev pub NoReferenceIsOverlooked : Type 0
NoReferenceIsOverlooked = (M : ShapeTable) → Lawful M → OverlooksNothing M
