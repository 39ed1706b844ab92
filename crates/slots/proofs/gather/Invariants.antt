use Rattle.std.proofs.Common.{◌≡◌, ℕ, ◌+◌, ◌*◌, ◌-◌, ◌≤◌, ◌++◌, length}
use Rattle.model.specs.Notes.{object_slots}
use Rattle.model.specs.Remembered.{slots_into}
use Rattle.model.specs.Trains.{Car, car_words, words_of}
use Rattle.objects.specs.Lies.{CarStands}
use Rattle.slots.specs.Slots.{addresses, AddressTells, ArePaired}
use Rattle.slots.specs.Walks.{WalksIn}
use Rattle.slots.proofs.Below.{below}
use Rattle.slots.proofs.gather.Given as goal

abbrev pub invariant-loop-address : goal.invariant-loop-address
invariant-loop-address g l =
    let M = g.L.Layout.table in
    record {
      low : 128 * l.car ≤ l.from;
      high : l.from ≤ l.end;
      few : length l.out.items + 128 * l.car ≤ length l.fn.out.items + l.from;
      walks : (at : ℕ → ℕ) (d : Car) → d.number ≡ l.car → words_of d.objects ≡ l.filled → CarStands M g.L.Layout.code at l.words d → WalksIn d l.from l.walk;
      slots : (at : ℕ → ℕ) (f d : Car) (n : ℕ) → AddressTells at f → f.number ≡ l.emptied → d.number ≡ l.car → words_of d.objects ≡ l.filled
          → CarStands M g.L.Layout.code at l.words d → ArePaired (g.R.RememberedSet.has l.set) f (object_slots M n (car_words * d.number) d.objects)
          → l.out.items ≡ l.fn.out.items ++ below l.from (addresses (slots_into f (object_slots M n (car_words * d.number) d.objects)));
    }

abbrev pub decreases-loop-address : goal.decreases-loop-address
decreases-loop-address g l = l.end - l.from
