use Rattle.std.proofs.Common.{take}
use Rattle.remembered.specs.Laws.{Least}
use Rattle.remembered.specs.Buffers.{with_held}
use Rattle.remembered.proofs.buffered.Buffered.nearest.Given as goal

-- the best is the least below and of the pairs so far
abbrev pub invariant-loop-pair : goal.invariant-loop-pair
invariant-loop-pair g l = Least (with_held (g.S.RememberedSet.has l.self.below) (take l.pair-index l.pair-items) l.car) l.from l.best
