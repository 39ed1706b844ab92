use Rattle.std.proofs.Common.{◌≡◌, take}
use Rattle.moves.specs.Fixes.{fix_each, moved_references}
use Rattle.moves.proofs.fixes.fix_moved.Given as goal

abbrev pub invariant-loop-claim : goal.invariant-loop-claim
invariant-loop-claim g l = l.words ≡ fix_each l.car l.forward (moved_references g.L.Layout.decoded l.fn.words l.forward l.car (take l.claim-index l.claim-items)) l.fn.words
