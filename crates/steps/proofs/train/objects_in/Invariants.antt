use Rattle.std.proofs.Common.{◌≡◌, ℕ, ◌+◌, ◌-◌, ◌*◌, ◌≤◌}
use Rattle.model.specs.Trains.{Car, words_of}
use Rattle.objects.specs.Lies.{CarStands}
use Rattle.steps.proofs.Counting.{Counts}
use Rattle.steps.proofs.train.objects_in.Given as goal

abbrev pub invariant-loop-address : goal.invariant-loop-address
invariant-loop-address g l = record {
  few : l.objects + 128 * l.car ≤ l.address;
  most : l.objects ≤ l.filled;
  counts : (at : ℕ → ℕ) (c : Car) → CarStands g.L.Layout.table g.L.Layout.code at l.words c → c.number ≡ l.car → words_of c.objects ≡ l.filled
      → Counts g.L.Layout.table g.L.Layout.code at l.words c l.address l.objects;
}

abbrev pub decreases-loop-address : goal.decreases-loop-address
decreases-loop-address g l = l.end - l.address
