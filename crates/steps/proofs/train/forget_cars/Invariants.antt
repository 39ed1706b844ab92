use Rattle.std.proofs.Common.{map, reverse, take}
use Rattle.remembered.specs.declared.Update.TheVariants.{Forget}
use Rattle.remembered.specs.Leads.{Leads}
use Rattle.steps.proofs.train.forget_cars.Given as goal

abbrev pub invariant-loop-car : goal.invariant-loop-car
invariant-loop-car g l = Leads g.R.RememberedSet.has g.R.RememberedSet.says l.fn.set (reverse (take l.car-index (map Forget l.cars))) l.set
