-- How trains by fills follow the trains of the model.
use Rattle.std.specs.Prelude.{◌≡◌, ℕ, ◌≢◌, List, [], ◌∷◌, None, ◌++◌, length, Some, Option, map, nat_lt, nat_eq, option_to_list}
use Rattle.std.specs.List.{IsDistinct}
use Rattle.model.specs.Trains.{Obj, Car, Train, Trains, objects, obj_size, words_of, cars_in_use, numbers, lowest_free, place_at, arrival, times}
use Rattle.model.specs.Claims.{Claim}
use Rattle.model.specs.Step.{trim, placing}
use Rattle.model.specs.Notes.{CarPlace, car_place}
use Rattle.objects.specs.Locate.{locate}
use Rattle.trains.specs.Fills.{CarFill, TrainFill, Placement, placed, with_trains, first_taken, released, tail_fills, fill_numbers, numbers_of, free_car, place_fill, spot_at, arrival_of, cars_of, trim_fills}
use Rattle.trains.specs.Orders.{stands_later}

abbrev pub car_fill : Car → CarFill
car_fill c = record { number = c.number; filled = words_of c.objects }

abbrev pub train_fills : Train → TrainFill
train_fills t = map car_fill t

-- the trains by the numbers of their cars and how many words of each are filled
abbrev pub fills : Trains → List TrainFill
fills ts = map train_fills ts

-- what is asked of trains and done to them comes out the same by their fills
pub record FillsFollow : Type 0 where
  pub placed : (k n : ℕ) (o : Obj) (ts : Trains) → fills (place_at k n o ts) ≡ place_fill k n (obj_size o) (fills ts)
  pub trimmed : (ts : Trains) → fills (trim ts) ≡ trim_fills (fills ts)
  pub arrives : (ts : Trains) → arrival ts ≡ arrival_of (fills ts)
  pub counted : (ts : Trains) → length ts ≡ length (fills ts)
  pub cars : (ts : Trains) → cars_in_use ts ≡ cars_of (fills ts)
  pub numbered : (ts : Trains) → numbers ts ≡ numbers_of (fills ts)
  pub free : (busy : Option CarFill) (ts : Trains) → lowest_free (fill_numbers (option_to_list busy) ++ numbers ts) ≡ free_car (record { trains = fills ts; busy = busy })

-- which of two objects lies in the later car is told by the numbers of their cars
abbrev pub LaterByNumbers : Type 0
LaterByNumbers =
    (x y : ℕ) (ts : Trains) (a b : CarPlace) → IsDistinct nat_eq (numbers ts) → car_place 0 x ts ≡ Some a → car_place 0 y ts ≡ Some b
    → nat_lt b.order a.order ≡ stands_later a.number b.number (fills ts)

-- an object that is placed stands at the address of the room made for it, and all others stand where they stood
pub record StandsInItsRoom : Type 0 where
  pub new : (k n : ℕ) (o : Obj) (ts : Trains) → times o.id (objects ts) ≡ 0 → locate (place_at k n o ts) o.id ≡ spot_at k n (obj_size o) (fills ts)
  pub others : (k n x : ℕ) (o : Obj) (ts : Trains) → x ≢ o.id → locate (place_at k n o ts) x ≡ locate ts x

-- the trains of a space, where no car is being emptied
abbrev pub at_rest : Trains → Placement
at_rest ts = record { trains = fills ts; busy = None }

-- claimed objects are placed one after another, each by its words
abbrev pub place_claims : List Claim → Placement → Placement
place_claims [] p = p
place_claims (c ∷ row) p = place_claims row (placed c.rank (obj_size c.object) p)

-- what a call does to the trains of the model, by what it does to their fills
pub record CallsFollow : Type 0 where
  -- a new object is placed at the arrival rank
  pub made : (o : Obj) (ts : Trains) → placed (arrival_of (fills ts)) (obj_size o) (at_rest ts) ≡ at_rest (place_at (arrival ts) (lowest_free (numbers ts)) o ts)
  -- the first car is taken, what was claimed is placed, and the car is released
  pub car_freed : (f : Car) (cs : Train) (ts : Trains) (row : List Claim) → released (place_claims row (first_taken (at_rest ((f ∷ cs) ∷ ts)))) ≡ at_rest (trim (placing f row (cs ∷ ts)))
  pub train_freed : (t : Train) (ts : Trains) → with_trains (tail_fills (fills (t ∷ ts))) (at_rest (t ∷ ts)) ≡ at_rest ts
