use Rattle.std.proofs.Common.{reverse, take}
use Rattle.remembered.specs.Leads.{Leads}
use Rattle.moves.specs.Fixes.{moved_references}
use Rattle.moves.specs.Noting.{noted_each}
use Rattle.moves.proofs.notes.note_moved.Given as goal

abbrev pub invariant-loop-claim : goal.invariant-loop-claim
invariant-loop-claim g l =
    Leads g.R.RememberedSet.has g.R.RememberedSet.says l.fn.set
    (reverse (noted_each l.trains.trains l.words (moved_references g.L.Layout.decoded l.words l.forward l.car (take l.claim-index l.claim-items)))) l.set
