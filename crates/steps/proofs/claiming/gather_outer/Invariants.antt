use Rattle.std.proofs.Common.{◌≡◌, ℕ, ◌*◌, ◌-◌, ◌≤◌, ◌∷◌, ◌++◌, length, take}
use Rattle.model.specs.Notes.{slots}
use Rattle.model.specs.Remembered.{slots_into}
use Rattle.model.specs.Trains.{Car, Train, Trains, words_of}
use Rattle.objects.specs.Stand.{TrainsStand, EachCar}
use Rattle.slots.specs.Slots.{addresses, AddressTells, ArePaired}
use Rattle.trains.specs.Orders.{filled_of, cars_before}
use Rattle.memory.specs.Stands.{halted}
use Rattle.steps.proofs.claiming.gather_outer.Given as goal

abbrev pub invariant-loop-rank : goal.invariant-loop-rank
invariant-loop-rank g l =
    let M = g.L.Layout.table in
    record {
      above : 1 ≤ l.rank;
      few : length l.out.items ≤ 128 * cars_before l.rank l.trains.trains;
      slots : (at : ℕ → ℕ) (f : Car) (t : Train) (ts : Trains) → AddressTells at f → f.number ≡ l.emptied → l.trains ≡ halted (t ∷ ts)
          → TrainsStand M g.L.Layout.code at l.words ts → EachCar (λ c. filled_of c.number l.trains ≡ words_of c.objects) ts
          → ArePaired (g.R.RememberedSet.has l.set) f (slots M (length t) ts)
          → l.out.items ≡ l.fn.out.items ++ addresses (slots_into f (slots M (length t) (take (l.rank - 1) ts)));
    }
