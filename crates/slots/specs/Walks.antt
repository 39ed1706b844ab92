-- Where a walk over a car stands.
use Rattle.std.specs.Prelude.{◌≡◌, ℕ, ◌+◌, ◌*◌, ◌≤◌, List, ◌++◌}
use Rattle.model.specs.Trains.{Obj, Car, words_of, car_words}
use Rattle.slots.specs.declared.walk.Walk.{Walk}

-- the walk stands at one of the car's objects, or behind the last; those before it were passed, and have no word from the
-- address on
pub record WalksIn (c : Car) (address : ℕ) (w : Walk) : Type 0 where
  pub passed : List Obj
  pub ahead : List Obj
  pub all : c.objects ≡ passed ++ ahead
  pub here : w.object ≡ car_words * c.number + words_of passed
  pub end : w.end ≡ car_words * c.number + words_of c.objects
  pub not_past : w.object ≤ address
