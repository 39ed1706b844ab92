use Rattle.std.proofs.Common.{arith, ◌∙◌, ap, sym}
use Rattle.moves.specs.Fixes.{fix_at}
use Rattle.moves.proofs.Turns.{fix_slots_turn}
use Rattle.moves.proofs.fixes.fix_slots.Goals as goal

pub loop-slot-preserved : goal.loop-slot-preserved
loop-slot-preserved c =
    c.fix_word.ensures ∙ ap (fix_at c.args.car c.args.forward.now _) c.loop-slot.invariant
    ∙ sym (fix_slots_turn c.args.car c.args.forward.now c.args.slots.now c.args.words.now c.loop-slot.slot-index (omega (arith, c.loop-slot-test.true)))
