use Rattle.std.proofs.Common.{sym, ◌∙◌}
use Rattle.std.proofs.lemmas.Bool.{ltb-false}
use Rattle.remembered.specs.SlotLaws.{none_freed}
use Rattle.remembered.proofs.slot.SlotSetRememberedSet.forget.Goals as goal

pub returns-else-is_car-clause-besides : goal.returns-else-is_car-clause-besides
returns-else-is_car-clause-besides c = none_freed c.args.self.now c.args.car (ltb-false c.args.car 64 (sym c.is_car.ensures ∙ c.if-is_car.false))
