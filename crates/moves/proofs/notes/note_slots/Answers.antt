use Rattle.remembered.specs.Leads.Leads.{untold}
use Rattle.moves.proofs.Turns.{note_slots_turn}
use Rattle.moves.proofs.notes.note_slots.Goals as goal

pub loop-slot-preserved : goal.loop-slot-preserved
loop-slot-preserved g c =
    note_slots_turn g.R.RememberedSet.has g.R.RememberedSet.says _ _ _ c.args.trains.now.trains c.args.words.now c.args.slots.now c.loop-slot.slot-index c.loop-slot-test.true c.loop-slot.invariant c.note_slot.ensures

pub loop-slot-init : goal.loop-slot-init
loop-slot-init g c = untold c.args.set.now
