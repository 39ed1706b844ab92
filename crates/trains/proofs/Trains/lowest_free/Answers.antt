use Rattle.std.proofs.Common.{arith, ap, ◌∙◌}
use Rattle.trains.specs.declared.car_record.CarRecord.{CarRecord}
use Rattle.trains.specs.Table.{free_record}
use Rattle.trains.proofs.Known.{lowest_in, any_default}
use Rattle.trains.proofs.Trains.lowest_free.Goals as goal

pub returns-then-not-self-car : goal.returns-then-not-self-car
returns-then-not-self-car c =
    lowest_in c.self.inside.records c.self.inside.trains.items c.self.inside.busy c.args.self.now c.loop-car.car c.self.invariant c.self.view_is (omega arith) c.loop-car.invariant
    (λ h. ap (λ (r : CarRecord). r.in_use) (any_default c.self.inside.records c.loop-car.car free_record _ (omega (arith, c.self.invariant.wide))) ∙ c.if-not-self-car.true)

pub returns : goal.returns
returns c =
    lowest_in c.self.inside.records c.self.inside.trains.items c.self.inside.busy c.args.self.now 64 c.self.invariant c.self.view_is (omega arith)
    (λ k h. c.loop-car.invariant k (omega arith)) (λ h. absurd (omega (arith, h)))
