use Rattle.std.proofs.Common.{reverse, take}
use Rattle.remembered.specs.Leads.{Leads}
use Rattle.remembered.proofs.laws.tell.Given as goal

-- the set was told the updates so far
abbrev pub invariant-loop-update : goal.invariant-loop-update
invariant-loop-update g l = Leads g.R.RememberedSet.has g.R.RememberedSet.says l.fn.set (reverse (take l.update-index l.updates)) l.set
