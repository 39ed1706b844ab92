use Rattle.std.proofs.Common.{◌≡◌, ℕ, ◌*◌, ◌/◌, ◌<◌, ◌≤◌, true, take}
use Rattle.std.specs.List.{AllByRecursion}
use Rattle.std.specs.Prelude.{IfSome, sum_by}
use Rattle.remembered.specs.Updates.{pairs_of}
use Rattle.model.specs.Notes.{slots}
use Rattle.model.specs.Trains.{Train, Trains, train_objects, car_numbers}
use Rattle.objects.specs.Lies.{CarStands}
use Rattle.slots.specs.Slots.{AddressTells, ArePaired, first_into}
use Rattle.slots.specs.Order.{cars_of, AreTold}
use Rattle.slots.proofs.survey.survey_train.Given as goal

abbrev pub invariant-loop-car : goal.invariant-loop-car
invariant-loop-car g l =
    let M = g.L.Layout.table in
    let C = g.C.Cars in
    let has = g.R.RememberedSet.has l.set in
    record {
      few : l.looked ≤ 8192 * l.car-index;
      looked : l.looked ≡ sum_by (pairs_of has) (take l.car-index l.train);
      outside : IfSome l.first (λ a. (a < 8192) × (C.outside l.cars (a / 128) ≡ true));
      first : (at : ℕ → ℕ) (t : Train) (n : ℕ) (ts : Trains) → car_numbers t ≡ l.train → AllByRecursion (AddressTells at) t
          → AllByRecursion (CarStands M g.L.Layout.code at l.words) (cars_of ts) → AreTold (C.outside l.cars) (C.filled_words l.cars) (C.later l.cars) (cars_of ts)
          → AllByRecursion (λ c. ArePaired has c (slots M n ts)) t
          → l.first ≡ first_into (train_objects (take l.car-index t)) (slots M n ts);
    }
