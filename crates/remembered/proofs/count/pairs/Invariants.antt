use Rattle.std.proofs.Common.{◌≡◌, ◌-◌, ◌≤◌}
use Rattle.remembered.specs.Updates.{count}
use Rattle.remembered.proofs.count.pairs.Given as goal

abbrev pub invariant-loop-address : goal.invariant-loop-address
invariant-loop-address g l = (l.from ≤ 8192) × (l.n ≤ l.from) × (l.n ≡ count (g.R.RememberedSet.has l.rset l.car) l.from)

abbrev pub decreases-loop-address : goal.decreases-loop-address
decreases-loop-address g l = 8192 - l.from
