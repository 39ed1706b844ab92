use Rattle.std.proofs.Common.{◌≡◌, true, sym, ap, ◌∙◌, subst, arith, length-set}
use Rattle.remembered.specs.Laws.{new_in}
use Rattle.remembered.specs.SlotCars.{places}
use Rattle.remembered.specs.SlotLaws.{keeps_pair}
use Rattle.remembered.specs.Slots.{slot_pairs}
use Rattle.remembered.proofs.slot.SlotSet.keep.Goals as goal

pub returns : goal.returns
returns c =
    let new = subst (λ l. new_in (slot_pairs l) c.args.car c.args.address ≡ true) (sym c.self.view_is) c.requires.new in
    rw (← c.self.view_is) (keeps_pair c.self.inside.cars c.args.car c.args.address c.index-self-car.result _ c.self.invariant.full new c.keep.ensures.kept c.keep.ensures.over)

pub invariant_of-self : goal.invariant_of-self
invariant_of-self c =
    let was = c.self.invariant in
    let new = subst (λ l. new_in (slot_pairs l) c.args.car c.args.address ≡ true) (sym c.self.view_is) c.requires.new in
    let kept = keeps_pair c.self.inside.cars c.args.car c.args.address c.index-self-car.result c.keep.new.self was.full new c.keep.ensures.kept c.keep.ensures.over in
    record {
      full = length-set c.self.inside.cars c.args.car _ ∙ was.full;
      tallied = omega (arith, kept.used_more, was.tallied);
      room = omega (arith, ap places c.self.view_is, c.requires.room, was.tallied);
    }
