use Rattle.std.proofs.Common.{◌≡◌, ℕ, ◌-◌, ◌≤◌}
use Rattle.model.specs.Trains.{Car}
use Rattle.objects.specs.Lies.{CarStands}
use Rattle.slots.specs.Walks.{WalksIn}
use Rattle.slots.proofs.walk.Walk.is_slot.Given as goal

abbrev pub invariant-loop-self : goal.invariant-loop-self
invariant-loop-self g l = record {
  walks : (at : ℕ → ℕ) (c : Car) (from : ℕ) → CarStands g.L.Layout.table g.L.Layout.code at l.words c → WalksIn c from l.fn.self → from ≤ l.address → WalksIn c l.address l.self;
  end : l.self.end ≡ l.fn.self.end;
}

abbrev pub decreases-loop-self : goal.decreases-loop-self
decreases-loop-self g l = l.self.end - l.self.object
