-- What the slot set keeps of each car.
use Rattle.std.specs.Prelude.{◌≡◌, ℕ, ◌≤◌, Bool, false, List, [], length, take, slice_index_or}
use Rattle.std.specs.List.{sum_by}
use Rattle.remembered.specs.BitRow.{bit_in}
use Rattle.remembered.specs.Updates.{count}

-- a row with a bit for each address that is kept, and whether the car is overflown
pub record Car : Type 0 where
  pub kept : List ℕ
  pub overflown : Bool

-- the car of a number; behind the last there is one that has nothing
abbrev pub car_at : List Car → ℕ → Car
car_at cars c = slice_index_or cars c (record { kept = []; overflown = false })

-- how many addresses of a car are kept, by its row
unfoldable pub kept_count : List ℕ → ℕ
kept_count row = count (bit_in row) 8192

-- how many places are in use: the pairs kept of all 64 cars
unfoldable pub places : List Car → ℕ
places cars = sum_by (λ car. kept_count car.kept) (take 64 cars)

-- what holds of every slot set: a car of each number, and a tally of the places in use, of which there are 2,048
pub record IsTallied (cars : List Car) (used : ℕ) : Type 0 where
  pub full : length cars ≡ 64
  pub tallied : used ≡ places cars
  pub room : used ≤ 2048
