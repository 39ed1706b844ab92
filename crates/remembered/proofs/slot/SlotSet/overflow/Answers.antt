use Rattle.std.proofs.Common.{sym, ◌∙◌, length-set}
use Rattle.remembered.specs.SlotLaws.{overflows_car}
use Rattle.remembered.proofs.slot.SlotSet.overflow.Goals as goal

pub returns : goal.returns
returns c = rw (← c.self.view_is) (overflows_car c.self.inside.cars c.args.car c.index-self-car.result _ c.self.invariant.full c.requires c.overflow.ensures.kept c.overflow.ensures.over)

pub invariant_of-self : goal.invariant_of-self
invariant_of-self c =
    let was = c.self.invariant in
    let over = overflows_car c.self.inside.cars c.args.car c.index-self-car.result c.overflow.new.self was.full c.requires c.overflow.ensures.kept c.overflow.ensures.over in
    record {
      full = length-set c.self.inside.cars c.args.car _ ∙ was.full;
      tallied = was.tallied ∙ sym over.used_same;
      room = was.room;
    }
