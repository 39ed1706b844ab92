-- The cars behind the first train, by their numbers.
use Rattle.std.specs.Prelude.{ℕ, Bool, ◌&&◌, nat_lt, min}
use Rattle.model.specs.Trains.{car_words, most_trains}
use Rattle.trains.specs.Fills.{Placement}
use Rattle.trains.specs.Orders.{rank_of, filled_of, stands_later}

-- whether a car is in a train behind the first
abbrev pub is_other : Placement → ℕ → Bool
is_other p n = nat_lt 0 (rank_of n p.trains) && nat_lt (rank_of n p.trains) most_trains

-- how many words of a car are filled, and not more than it has
abbrev pub other_words : Placement → ℕ → ℕ
other_words p n = min (filled_of n p) car_words

abbrev pub is_later : Placement → ℕ → ℕ → Bool
is_later p car than = stands_later car than p.trains
