-- How the table of cars stands for trains.
use Rattle.std.specs.Prelude.{◌≡◌, ℕ, zero, suc, ◌+◌, ◌-◌, ◌<◌, ◌≤◌, false, List, [], ◌∷◌, ◌++◌, length, Some, None, Option, slice_index_or, ◌==◌, nat_lt, flat_map, map, option_map, option_to_list, if◌then◌else◌, ⊤}
use Rattle.model.specs.Trains.{car_count, car_words, most_trains, one_of}
use Rattle.trains.specs.declared.car_record.CarRecord.{CarRecord}
use Rattle.trains.specs.Fills.{CarFill, TrainFill, Placement, numbers_of, used_numbers}
use Rattle.trains.specs.Orders.{rank_of, filled_of, order_in, cars_before}

-- the record of a car that is free
abbrev pub free_record : CarRecord
free_record = record { in_use = false; filled = 0; rank = most_trains; place = 0 }

-- a number that no car has is never in use
abbrev pub record_at : List CarRecord → ℕ → CarRecord
record_at T n = slice_index_or T n free_record

abbrev pub fill_of : List CarRecord → ℕ → CarFill
fill_of T n = record { number = n; filled = (record_at T n).filled }

abbrev pub train_fill : List CarRecord → List ℕ → TrainFill
train_fill T ns = map (fill_of T) ns

abbrev pub all_fills : List CarRecord → List (List ℕ) → List TrainFill
all_fills T trains = map (train_fill T) trains

-- what a table, the cars of each train and the car that is being emptied stand for
abbrev pub placement : List CarRecord → List (List ℕ) → Option ℕ → Placement
placement T trains busy = record { trains = all_fills T trains; busy = option_map (fill_of T) busy }

-- the cars of all trains
abbrev pub in_trains : List (List ℕ) → List ℕ
in_trains trains = flat_map (λ ns. ns) trains

-- the cars that are not free
abbrev pub in_use_by : List (List ℕ) → Option ℕ → List ℕ
in_use_by trains busy = option_to_list busy ++ in_trains trains

-- the cars of the train of rank r, of which the first has the place p, have their rank and place in the table
abbrev pub TrainStands : List CarRecord → (r p : ℕ) → List ℕ → Type 0
TrainStands T r p [] = ⊤
TrainStands T r p (n ∷ ns) = ((record_at T n).rank ≡ r) × ((record_at T n).place ≡ p) × TrainStands T r (p + 1) ns

-- so do those of all trains, of which the first has the rank r
abbrev pub TrainsStand : List CarRecord → (r : ℕ) → List (List ℕ) → Type 0
TrainsStand T r [] = ⊤
TrainsStand T r (t ∷ ts) = TrainStands T r 0 t × TrainsStand T (r + 1) ts

-- a car that is being emptied is in no train
abbrev pub BusyStands : List CarRecord → List (List ℕ) → Option ℕ → Type 0
BusyStands T trains None = ⊤
BusyStands T trains (Some b) = (one_of b (in_trains trains) ≡ false) × ((record_at T b).rank ≡ most_trains) × ((record_at T b).place ≡ 0)

pub record Stands (T : List CarRecord) (trains : List (List ℕ)) (busy : Option ℕ) : Type 0 where
  pub wide : length T ≡ car_count
  pub few : length trains ≤ most_trains
  -- in use are the cars of trains and the one that is being emptied
  pub used : (n : ℕ) → (record_at T n).in_use ≡ one_of n (in_use_by trains busy)
  pub free : (n : ℕ) → one_of n (in_use_by trains busy) ≡ false → record_at T n ≡ free_record
  pub placed : TrainsStand T 0 trains
  pub busy_apart : BusyStands T trains busy
  pub within : (n : ℕ) → (record_at T n).filled ≤ car_words

-- what the record of a car says of where it is
pub record Known (n : ℕ) (r : CarRecord) (p : Placement) : Type 0 where
  pub used : r.in_use ≡ one_of n (used_numbers p)
  pub rank : r.rank ≡ rank_of n p.trains
  pub filled : r.filled ≡ filled_of n p
  pub low : r.rank ≤ most_trains
  -- it stands at its place behind the cars of the trains before
  pub order : order_in n (numbers_of p.trains) ≡ cars_before r.rank p.trains + r.place
  pub inside : r.rank < most_trains → order_in n (numbers_of p.trains) < cars_before (suc r.rank) p.trains

-- once the first car has left the first train, each other car of that train has a place less
abbrev pub car_gone : CarRecord → CarRecord
car_gone r =
    if r.rank == 0
    then (
    if r.place == 0
    then record { in_use = r.in_use; filled = r.filled; rank = most_trains; place = 0 }
    else record { in_use = r.in_use; filled = r.filled; rank = 0; place = r.place - 1 }
    )
    else r

-- once the first train has ended its cars are free, and each other train has a rank less
abbrev pub train_gone : CarRecord → CarRecord
train_gone r =
    if r.rank == 0
    then free_record
    else (
    if nat_lt r.rank most_trains
    then record { in_use = r.in_use; filled = r.filled; rank = r.rank - 1; place = r.place }
    else r
    )

-- a car joins the train of a rank at its end, or opens one behind the last train
abbrev pub add_car : (rank n : ℕ) → List (List ℕ) → List (List ℕ)
add_car k n [] = (n ∷ []) ∷ []
add_car zero n (t ∷ ts) = (t ++ n ∷ []) ∷ ts
add_car (suc k) n (t ∷ ts) = t ∷ add_car k n ts

-- the first car of the first train leaves
abbrev pub first_dropped : List (List ℕ) → List (List ℕ)
first_dropped [] = []
first_dropped ([] ∷ ts) = [] ∷ ts
first_dropped ((n ∷ ns) ∷ ts) = ns ∷ ts

abbrev pub last_of : List ℕ → Option ℕ
last_of [] = None
last_of (n ∷ []) = Some n
last_of (n ∷ m ∷ ns) = last_of (m ∷ ns)

-- the last car of the train of a rank
abbrev pub last_at : ℕ → List (List ℕ) → Option ℕ
last_at k [] = None
last_at zero (t ∷ ts) = last_of t
last_at (suc k) (t ∷ ts) = last_at k ts
