use Rattle.std.proofs.Common.{◌≡◌}
use Rattle.moves.specs.Fixes.{fix_each, references_from}
use Rattle.moves.proofs.fixes.fix_object.Given as goal

abbrev pub invariant-loop-i : goal.invariant-loop-i
invariant-loop-i g l = l.words ≡ fix_each l.car l.forward (references_from (g.L.Layout.decoded l.header) l.object 0 l.i) l.fn.words
