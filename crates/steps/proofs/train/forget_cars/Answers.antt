use Rattle.std.proofs.Common.{◌≤◌, length, map, reverse, get_or, ap, subst, arith}
use Rattle.std.proofs.lemmas.List.{take_all}
use Rattle.remembered.specs.declared.Update.TheVariants.{Forget}
use Rattle.remembered.specs.Leads.{Leads}
use Rattle.remembered.specs.Leads.Leads.{untold}
use Rattle.remembered.specs.LeadsLaws.{leads_more}
use Rattle.steps.proofs.Forgetting.{length-forgets, forget_at}
use Rattle.steps.proofs.train.forget_cars.Goals as goal

pub loop-car-init : goal.loop-car-init
loop-car-init g c = untold c.args.set.now

pub loop-car-preserved : goal.loop-car-preserved
loop-car-preserved g c =
    let told = c.forget.ensures in
    leads_more g.R.RememberedSet.has g.R.RememberedSet.says c.args.set.now c.loop-car.set c.forget.new.self (map Forget c.args.cars.now) c.loop-car.car-index
    (Forget (get_or c.args.cars.now c.loop-car.car-index 0)) (Forget 0) (omega (arith, c.loop-car-test.true, length-forgets c.args.cars.now)) (forget_at c.args.cars.now c.loop-car.car-index)
    c.loop-car.invariant told.others told.besides

pub returns : goal.returns
returns g c =
    let updates = map Forget c.args.cars.now in
    let all : length updates ≤ c.loop-car.car-index = omega (arith, c.loop-car-test.false, length-forgets c.args.cars.now) in
    subst (λ us. Leads g.R.RememberedSet.has g.R.RememberedSet.says c.args.set.now us c.loop-car.set) (ap reverse (take_all c.loop-car.car-index updates all)) c.loop-car.invariant
