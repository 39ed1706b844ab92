-- Slots with their addresses, and which of them the remembered set is told.
use Rattle.std.specs.Prelude.{ℕ, ◌+◌, ◌*◌, Bool, false, ◌&&◌, not, List, [], ◌∷◌, ◌++◌, length, Some, None, Option, ◌==◌, nat_lt, flat_map, filter, reverse, if◌then◌else◌}
use Rattle.std.specs.Option.{option_map_or}
use Rattle.layout.specs.ShapeTable.{ShapeTable}
use Rattle.layout.specs.declared.Shape.{Shape}
use Rattle.remembered.specs.declared.Update.{Update}
use Rattle.remembered.specs.declared.Update.TheVariants.{Note}
use Rattle.remembered.specs.Updates.{Updates}
use Rattle.model.specs.Bodies.{size}
use Rattle.model.specs.Trains.{Obj, Train, Trains, among, car_words}

-- a car's place among all cars, trains one after another, and its number
pub record CarPlace : Type 0 where
  pub order : ℕ
  pub number : ℕ

-- the place of the car that has the object x, where the first car of these has the place n
abbrev pub train_car_place : (n x : ℕ) → Train → Option CarPlace → Option CarPlace
train_car_place n x [] rest = rest
train_car_place n x (c ∷ cs) rest = if among x c.objects then Some (record { order = n; number = c.number }) else train_car_place (n + 1) x cs rest

abbrev pub car_place : (n x : ℕ) → Trains → Option CarPlace
car_place n x [] = None
car_place n x (t ∷ ts) = train_car_place n x t (car_place (n + length t) x ts)

-- reference number index of the holder, which lies in the car at the place order; it holds target
pub record Slot : Type 0 where
  pub order : ℕ
  pub address : ℕ
  pub holder : ℕ
  pub index : ℕ
  pub target : Option ℕ

-- how far behind the header the i-th reference of an object of a shape stands
abbrev pub ref_offset : ShapeTable → Shape → ℕ → ℕ
ref_offset M s i = option_map_or (λ o. o.ref_at i) (M.offsets s) 0

-- the references from number i on of the object x, whose header stands at a
abbrev pub ref_slots : ShapeTable → Shape → (n x a i : ℕ) → List (Option ℕ) → List Slot
ref_slots M s n x a i [] = []
ref_slots M s n x a i (h ∷ hs) =
    record { order = n; address = a + ref_offset M s i; holder = x; index = i; target = h } ∷ ref_slots M s n x a (i + 1) hs

abbrev pub object_slots : ShapeTable → (n a : ℕ) → List Obj → List Slot
object_slots M n a [] = []
object_slots M n a (o ∷ os) = ref_slots M o.body.shape n o.id a 0 o.body.refs ++ object_slots M n (a + size o.body) os

abbrev pub train_slots : ShapeTable → (n : ℕ) → Train → List Slot
train_slots M n [] = []
train_slots M n (c ∷ cs) = object_slots M n (car_words * c.number) c.objects ++ train_slots M (n + 1) cs

-- all slots: cars in train order, and the slots of a car by their addresses
abbrev pub slots : ShapeTable → (n : ℕ) → Trains → List Slot
slots M n [] = []
slots M n (t ∷ ts) = train_slots M n t ++ slots M (n + length t) ts

-- a slot is noted, for the car of its object, only where that car is an earlier one
abbrev pub note_by : Option CarPlace → Slot → List Update
note_by None s = []
note_by (Some c) s = if nat_lt c.order s.order then Note c.number s.address ∷ [] else []

abbrev pub note_of : Trains → Slot → Option ℕ → List Update
note_of ts s None = []
note_of ts s (Some y) = note_by (car_place 0 y ts) s

-- what is noted of the slots that pass a test, in their order
abbrev pub notes : Trains → (Slot → Bool) → List Slot → List Update
notes ts test ss = flat_map (λ s. note_of ts s s.target) (filter test ss)

abbrev pub target_among : List Obj → Option ℕ → Bool
target_among os None = false
target_among os (Some y) = among y os

-- a slot that holds a carried object, and lies in none: it was corrected
abbrev pub corrected : List Obj → Slot → Bool
corrected os s = target_among os s.target && not (among s.holder os)

abbrev pub is_slot_of : Obj → Slot → Bool
is_slot_of o s = s.holder == o.id

-- what is noted once objects were carried: the corrected slots, in the order of all slots, then the slots of each carried
-- object, one object after another in the order of carrying
abbrev pub notes_of_carried : Trains → List Obj → List Slot → List Update
notes_of_carried ts os ss = notes ts (corrected os) ss ++ flat_map (λ o. notes ts (is_slot_of o) ss) os

abbrev pub is_slot : (x i : ℕ) → Slot → Bool
is_slot x i s = x == s.holder && i == s.index

-- the updates of a set, the newest first, when more come in their order
abbrev pub tell : List Update → Updates → Updates
tell more us = reverse more ++ us
