use Rattle.std.proofs.Common.{◌≡◌, ℕ, ◌+◌, ◌*◌, ◌≤◌, ◌++◌, length, take}
use Rattle.std.specs.List.{AllByRecursion}
use Rattle.model.specs.Notes.{train_slots}
use Rattle.model.specs.Remembered.{slots_into}
use Rattle.model.specs.Trains.{Car, Train, car_numbers, words_of}
use Rattle.objects.specs.Lies.{CarStands}
use Rattle.slots.specs.Slots.{addresses, AddressTells, ArePaired}
use Rattle.trains.specs.Orders.{filled_of}
use Rattle.steps.proofs.claiming.gather_cars.Given as goal

abbrev pub invariant-loop-car : goal.invariant-loop-car
invariant-loop-car g l =
    let M = g.L.Layout.table in
    record {
      few : length l.out.items ≤ length l.fn.out.items + 128 * l.car-index;
      slots : (at : ℕ → ℕ) (f : Car) (n : ℕ) (t : Train) → AddressTells at f → f.number ≡ l.emptied → car_numbers t ≡ l.cars
          → AllByRecursion (CarStands M g.L.Layout.code at l.words) t → AllByRecursion (λ c. filled_of c.number l.trains ≡ words_of c.objects) t
          → ArePaired (g.R.RememberedSet.has l.set) f (train_slots M n t)
          → l.out.items ≡ l.fn.out.items ++ addresses (slots_into f (train_slots M n (take l.car-index t)));
    }
