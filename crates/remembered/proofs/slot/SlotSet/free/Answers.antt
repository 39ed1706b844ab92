use Rattle.std.proofs.Common.{◌∙◌, arith, length-set}
use Rattle.remembered.specs.SlotLaws.{frees_car, freed_count}
use Rattle.remembered.proofs.slot.SlotSet.free.Goals as goal

pub overflow_sub-self : goal.overflow_sub-self
overflow_sub-self c =
    let was = c.self.invariant in
    let count = freed_count c.self.inside.cars c.args.car c.index-self-car.result was.full c.requires in
    omega (arith, c.free.ensures.count, count.0, count.1, was.tallied)

pub returns : goal.returns
returns c = rw (← c.self.view_is) (frees_car c.self.inside.cars c.args.car _ c.self.invariant.full c.requires c.free.ensures.kept c.free.ensures.over)

pub invariant_of-self : goal.invariant_of-self
invariant_of-self c =
    let was = c.self.invariant in
    let count = freed_count c.self.inside.cars c.args.car c.index-self-car.result was.full c.requires in
    let freed = frees_car c.self.inside.cars c.args.car c.free.new.self was.full c.requires c.free.ensures.kept c.free.ensures.over in
    record {
      full = length-set c.self.inside.cars c.args.car _ ∙ was.full;
      tallied = omega (arith, freed.frees, c.free.ensures.count, count.0, was.tallied);
      room = omega (arith, was.room);
    }
