use Rattle.std.proofs.Common.{reverse}
use Rattle.remembered.specs.Leads.{Leads}
use Rattle.moves.specs.Fixes.{references_from}
use Rattle.moves.specs.Noting.{noted_each}
use Rattle.moves.proofs.notes.note_object.Given as goal

abbrev pub invariant-loop-i : goal.invariant-loop-i
invariant-loop-i g l = Leads g.R.RememberedSet.has g.R.RememberedSet.says l.fn.set (reverse (noted_each l.trains.trains l.words (references_from (g.L.Layout.decoded l.header) l.object 0 l.i))) l.set
