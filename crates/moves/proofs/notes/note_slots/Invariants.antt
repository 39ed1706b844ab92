use Rattle.std.proofs.Common.{reverse, take}
use Rattle.remembered.specs.Leads.{Leads}
use Rattle.moves.specs.Noting.{noted_each}
use Rattle.moves.proofs.notes.note_slots.Given as goal

abbrev pub invariant-loop-slot : goal.invariant-loop-slot
invariant-loop-slot g l = Leads g.R.RememberedSet.has g.R.RememberedSet.says l.fn.set (reverse (noted_each l.trains.trains l.words (take l.slot-index l.slots))) l.set
