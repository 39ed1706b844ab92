-- Which slots are noted, by words.
use Rattle.std.specs.Prelude.{ℕ, ◌/◌, List, [], ◌∷◌, flat_map, slice_index, if◌then◌else◌}
use Rattle.remembered.specs.declared.Update.{Update}
use Rattle.remembered.specs.declared.Update.TheVariants.{Note}
use Rattle.model.specs.Trains.{car_words}
use Rattle.trains.specs.Fills.{TrainFill}
use Rattle.trains.specs.Orders.{stands_later}

-- the slot at an address is noted for the car of what it holds, if it stands in a later car
abbrev pub noted_at : List TrainFill → (words : List ℕ) → (address : ℕ) → List Update
noted_at ts words a =
    let car = slice_index words a / car_words in
    if stands_later (a / car_words) car ts then Note car a ∷ [] else []

abbrev pub noted_each : List TrainFill → (words addresses : List ℕ) → List Update
noted_each ts words slots = flat_map (noted_at ts words) slots
