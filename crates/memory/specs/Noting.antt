-- What a remembered set is told of a slot.
use Rattle.std.specs.Prelude.{ℕ, ◌/◌, List, [], ◌∷◌, if◌then◌else◌}
use Rattle.remembered.specs.declared.Update.{Update}
use Rattle.remembered.specs.declared.Update.TheVariants.{Note}
use Rattle.model.specs.Trains.{car_words}
use Rattle.trains.specs.Fills.{TrainFill}
use Rattle.trains.specs.Orders.{stands_later}

-- the slot of this address holds the object at target, perhaps none: it is noted if its car is later than the object's
abbrev pub noted_at : List TrainFill → (slot target : ℕ) → List Update
noted_at ts slot target = if stands_later (slot / car_words) (target / car_words) ts then Note (target / car_words) slot ∷ [] else []
