-- Which slots a set's pairs are to find, by their addresses.
use Rattle.std.specs.Prelude.{◌≡◌, ℕ, ◌/◌, ◌≤◌, ◌↔◌, true, List, Option, map, find, option_map}
use Rattle.std.specs.List.{AllByRecursion}
use Rattle.remembered.specs.Updates.{Pairs}
use Rattle.model.specs.Notes.{Slot, target_among}
use Rattle.model.specs.Trains.{Obj, Car, times, car_words}

abbrev pub addresses : List Slot → List ℕ
addresses ss = map (λ s. s.address) ss

-- the car in which an object's address lies tells whether it is one of these objects
abbrev pub AddressTells : (at : ℕ → ℕ) → Car → Type 0
AddressTells at c = (x : ℕ) → (at x / car_words ≡ c.number) ↔ (1 ≤ times x c.objects)

-- each of the slots that holds an object of the car is paired with the car
abbrev pub ArePaired : Pairs → Car → List Slot → Type 0
ArePaired P c ss = AllByRecursion (λ s. target_among c.objects s.target ≡ true → P c.number s.address ≡ true) ss

-- the address of the first of the slots that holds one of these objects
abbrev pub first_into : List Obj → List Slot → Option ℕ
first_into os ss = option_map (λ s. s.address) (find (λ s. target_among os s.target) ss)
