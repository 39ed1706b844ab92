-- Trains by the numbers of their cars and how many words of each are filled; placing in them.
use Rattle.std.specs.Prelude.{ℕ, zero, suc, pred, ◌+◌, ◌*◌, Bool, ◌&&◌, List, [], ◌∷◌, ◌++◌, length, Some, None, Option, nat_le, nat_lt, flat_map, map, option_map, option_to_list, sum_by, if◌then◌else◌}
use Rattle.model.specs.Trains.{car_words, most_trains, lowest_free}

pub record CarFill : Type 0 where
  pub number : ℕ
  pub filled : ℕ

abbrev pub TrainFill : Type 0
TrainFill = List CarFill

-- the trains, the first one at the head, and a car that is being emptied: it is in no train, and not free
pub record Placement : Type 0 where
  pub trains : List TrainFill
  pub busy : Option CarFill

abbrev pub fill_numbers : List CarFill → List ℕ
fill_numbers cs = map (λ c. c.number) cs

-- the cars of all trains, from early to late
abbrev pub numbers_of : List TrainFill → List ℕ
numbers_of ts = flat_map fill_numbers ts

abbrev pub busy_numbers : Placement → List ℕ
busy_numbers p = fill_numbers (option_to_list p.busy)

-- the cars that are not free
abbrev pub used_numbers : Placement → List ℕ
used_numbers p = busy_numbers p ++ numbers_of p.trains

-- the car that is taken next, or the number of cars if none is free
unfoldable pub free_car : Placement → ℕ
free_car p = lowest_free (used_numbers p)

abbrev pub fill_fits : ℕ → CarFill → Bool
fill_fits w c = nat_le (c.filled + w) car_words

abbrev pub more_filled : ℕ → CarFill → CarFill
more_filled w c = record { number = c.number; filled = c.filled + w }

-- at the end of the last car, provided that it has room for w words; if not, the car of number n is opened behind it
abbrev pub place_in : (n w : ℕ) → TrainFill → TrainFill
place_in n w [] = record { number = n; filled = w } ∷ []
place_in n w (c ∷ []) = if fill_fits w c then more_filled w c ∷ [] else c ∷ record { number = n; filled = w } ∷ []
place_in n w (c ∷ d ∷ cs) = c ∷ place_in n w (d ∷ cs)

-- in the train of a rank; behind the last train one more is opened
abbrev pub place_fill : (rank n w : ℕ) → List TrainFill → List TrainFill
place_fill k n w [] = place_in n w [] ∷ []
place_fill zero n w (t ∷ ts) = place_in n w t ∷ ts
place_fill (suc k) n w (t ∷ ts) = t ∷ place_fill k n w ts

-- where the w words then stand
abbrev pub spot_in : (n w : ℕ) → TrainFill → ℕ
spot_in n w [] = car_words * n
spot_in n w (c ∷ []) = if fill_fits w c then car_words * c.number + c.filled else car_words * n
spot_in n w (c ∷ d ∷ cs) = spot_in n w (d ∷ cs)

abbrev pub spot_at : (rank n w : ℕ) → List TrainFill → ℕ
spot_at k n w [] = spot_in n w []
spot_at zero n w (t ∷ ts) = spot_in n w t
spot_at (suc k) n w (t ∷ ts) = spot_at k n w ts

-- the last car, if it has room for w words
abbrev pub room_in : (w : ℕ) → TrainFill → Option CarFill
room_in w [] = None
room_in w (c ∷ []) = if fill_fits w c then Some c else None
room_in w (c ∷ d ∷ cs) = room_in w (d ∷ cs)

abbrev pub room_at : (rank w : ℕ) → List TrainFill → Option CarFill
room_at k w [] = None
room_at zero w (t ∷ ts) = room_in w t
room_at (suc k) w (t ∷ ts) = room_at k w ts

abbrev pub with_trains : List TrainFill → Placement → Placement
with_trains ts p = record { trains = ts; busy = p.busy }

-- w words are placed at a rank
abbrev pub placed : (rank w : ℕ) → Placement → Placement
placed k w p = with_trains (place_fill k (free_car p) w p.trains) p

abbrev pub last_fills : List TrainFill → ℕ
last_fills [] = 0
last_fills (t ∷ []) = length t
last_fills (t ∷ u ∷ ts) = last_fills (u ∷ ts)

-- the rank where what is new arrives
abbrev pub arrival_of : List TrainFill → ℕ
arrival_of [] = 0
arrival_of (t ∷ []) = 1
arrival_of (t ∷ u ∷ ts) =
    let n = length (t ∷ u ∷ ts) in if nat_lt n most_trains && nat_le 4 (last_fills (t ∷ u ∷ ts)) then n else pred n

abbrev pub cars_of : List TrainFill → ℕ
cars_of ts = sum_by length ts

-- the first car of the first train
abbrev pub first_of : List TrainFill → Option CarFill
first_of [] = None
first_of ([] ∷ ts) = None
first_of ((c ∷ cs) ∷ ts) = Some c

abbrev pub first_number : List TrainFill → Option ℕ
first_number ts = option_map (λ c. c.number) (first_of ts)

-- the trains without the first car
abbrev pub behind_first : List TrainFill → List TrainFill
behind_first [] = []
behind_first ([] ∷ ts) = [] ∷ ts
behind_first ((c ∷ cs) ∷ ts) = cs ∷ ts

-- a first train without cars ends
abbrev pub trim_fills : List TrainFill → List TrainFill
trim_fills [] = []
trim_fills ([] ∷ ts) = ts
trim_fills ((c ∷ cs) ∷ ts) = (c ∷ cs) ∷ ts

-- the first car leaves its train, and is the one that is being emptied
abbrev pub first_taken : Placement → Placement
first_taken p = record { trains = behind_first p.trains; busy = first_of p.trains }

-- the car that was emptied is free
abbrev pub released : Placement → Placement
released p = record { trains = trim_fills p.trains; busy = None }

abbrev pub tail_fills : List TrainFill → List TrainFill
tail_fills [] = []
tail_fills (t ∷ ts) = ts
