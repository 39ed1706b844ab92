use Rattle.std.proofs.Common.{◌≡◌, ◌++◌, take, drop, map}
use Rattle.moves.specs.Fixes.{fixed}
use Rattle.moves.proofs.fixes.fix_roots.Given as goal

abbrev pub invariant-loop-root : goal.invariant-loop-root
invariant-loop-root l = l.roots ≡ map (fixed l.car l.forward) (take l.root-index l.fn.roots) ++ drop l.root-index l.fn.roots
