use Rattle.std.proofs.Common.{sym, ◌∙◌}
use Rattle.remembered.specs.SlotLaws.{over_all}
use Rattle.remembered.proofs.slot.SlotSet.is_overflown.Goals as goal

pub returns-then-is_car-clause-all : goal.returns-then-is_car-clause-all
returns-then-is_car-clause-all c =
    let is_car = sym c.is_car.ensures ∙ c.if-is_car.true in
    rw (← c.self.view_is) (over_all c.self.inside.cars c.self.inside.used c.args.car c.index-self-car.result c.is_overflown.result c.self.invariant is_car c.is_overflown.ensures)
