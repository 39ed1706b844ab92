use Rattle.std.proofs.Common.{◌≡◌, ℕ, ◌/◌, ◌-◌, ◌<◌, ◌≤◌, true, ◌&&◌, ◌||◌, ltb}
use Rattle.std.specs.List.{AllByRecursion}
use Rattle.std.specs.Prelude.{IfSome, List}
use Rattle.remembered.specs.Updates.{count}
use Rattle.model.specs.Notes.{slots, target_among}
use Rattle.model.specs.Trains.{Obj, Car, Trains, words_of}
use Rattle.objects.specs.Lies.{CarStands}
use Rattle.slots.specs.Slots.{AddressTells, ArePaired, first_into}
use Rattle.slots.specs.Order.{outside_words, cars_of, AreTold}
use Rattle.slots.specs.Walks.{WalksIn}
use Rattle.slots.proofs.Ordered.{first_by}
use Rattle.slots.proofs.survey.survey.Given as goal

abbrev pub invariant-loop-address : goal.invariant-loop-address
invariant-loop-address g l =
    let M = g.L.Layout.table in
    let C = g.C.Cars in
    let has = g.R.RememberedSet.has l.set in
    record {
      high : l.from ≤ 8192;
      few : l.looked ≤ l.from;
      looked : l.looked ≡ count (has l.car) l.from;
      outside : IfSome l.first (λ a. (a < 8192) × (C.outside l.cars (a / 128) ≡ true));
      walks : (at : ℕ → ℕ) (d : Car) → d.number ≡ l.walked → words_of d.objects ≡ outside_words (C.outside l.cars) (C.filled_words l.cars) l.walked
          → CarStands M g.L.Layout.code at l.words d → WalksIn d l.from l.walk;
      first : (at : ℕ → ℕ) (c : Car) (seen : List Obj) (n : ℕ) (ts : Trains) → AddressTells at c → c.number ≡ l.car
          → AllByRecursion (CarStands M g.L.Layout.code at l.words) (cars_of ts) → AreTold (C.outside l.cars) (C.filled_words l.cars) (C.later l.cars) (cars_of ts)
          → ArePaired has c (slots M n ts) → l.fn.first ≡ first_into seen (slots M n ts)
          → l.first ≡ first_by (λ s. target_among seen s.target || (target_among c.objects s.target && ltb s.address l.from)) (slots M n ts);
    }

abbrev pub decreases-loop-address : goal.decreases-loop-address
decreases-loop-address g l = 8192 - l.from
