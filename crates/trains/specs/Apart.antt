-- What holds of every value of the trains: cars are apart, and no fuller than a car can be.
use Rattle.std.specs.Prelude.{◌≡◌, ℕ, ◌+◌, ◌*◌, ◌<◌, ◌≤◌, length, nat_eq}
use Rattle.std.specs.List.{AllByRecursion, IsDistinct}
use Rattle.model.specs.Trains.{car_words, car_count, most_trains}
use Rattle.trains.specs.Fills.{Placement, used_numbers}
use Rattle.trains.specs.Orders.{filled_of}

pub record CarsAreApart (p : Placement) : Type 0 where
  pub below : AllByRecursion (λ n. n < car_count) (used_numbers p)
  pub differ : IsDistinct nat_eq (used_numbers p)
  pub within : (n : ℕ) → filled_of n p ≤ car_words
  pub few : length p.trains ≤ most_trains

-- so many words from an address on are of one car
pub record InOneCar (address size : ℕ) : Type 0 where
  pub car : ℕ
  pub before : ℕ
  pub low : car < car_count
  pub at : address ≡ car_words * car + before
  pub room : before + size ≤ car_words
