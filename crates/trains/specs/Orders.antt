-- What is known of a car by its number: its rank, how full it is, and which of two cars is the later one.
use Rattle.std.specs.Prelude.{ℕ, zero, suc, length, ◌+◌, Bool, List, [], ◌∷◌, ◌++◌, ◌==◌, nat_lt, flat_map, option_to_list, if◌then◌else◌}
use Rattle.model.specs.Trains.{one_of, most_trains}
use Rattle.trains.specs.Fills.{CarFill, TrainFill, Placement, fill_numbers, numbers_of}

-- the rank of the train that has the car, where the first of these has the rank r; 8 if none has it
abbrev pub rank_from : (r car : ℕ) → List TrainFill → ℕ
rank_from r n [] = most_trains
rank_from r n (t ∷ ts) = if one_of n (fill_numbers t) then r else rank_from (r + 1) n ts

abbrev pub rank_of : (car : ℕ) → List TrainFill → ℕ
rank_of n ts = rank_from 0 n ts

-- how many words are filled of the car of that number; 0 if there is none
abbrev pub filled_among : (car : ℕ) → List CarFill → ℕ
filled_among n [] = 0
filled_among n (c ∷ cs) = if n == c.number then c.filled else filled_among n cs

abbrev pub filled_of : (car : ℕ) → Placement → ℕ
filled_of n p = filled_among n (option_to_list p.busy ++ flat_map (λ t. t) p.trains)

-- how many numbers stand before n
abbrev pub order_in : (n : ℕ) → List ℕ → ℕ
order_in n [] = 0
order_in n (m ∷ ms) = if n == m then 0 else suc (order_in n ms)

-- how many cars stand in the trains of the ranks below k
abbrev pub cars_before : (k : ℕ) → List TrainFill → ℕ
cars_before k [] = 0
cars_before zero (t ∷ ts) = 0
cars_before (suc k) (t ∷ ts) = length t + cars_before k ts

-- whether a car stands behind another in the order of all cars; a car that is in no train counts as behind all that are
abbrev pub stands_later : (car than : ℕ) → List TrainFill → Bool
stands_later car than ts = nat_lt (order_in than (numbers_of ts)) (order_in car (numbers_of ts))
