use Rattle.std.proofs.Common.{take, arith}
use Rattle.remembered.specs.Buffers.{with_held}
use Rattle.remembered.specs.BufferLaws.{least_start, least_more}
use Rattle.remembered.proofs.buffered.Buffered.nearest.Goals as goal

pub loop-pair-init : goal.loop-pair-init
loop-pair-init g c = least_start (g.S.RememberedSet.has c.args.self.now.below) c.args.car c.args.from _ c.next-best.ensures

pub loop-pair-preserved : goal.loop-pair-preserved
loop-pair-preserved g c =
    let H = g.S.RememberedSet.has c.args.self.now.below in
    let pairs = c.as_slice-pair-items.result.now in
    let i = c.loop-pair.pair-index in
    least_more H pairs i _ c.args.car c.args.from _ (omega arith) (c.nearer-best.ensures (with_held H (take i pairs) c.args.car) c.loop-pair.invariant)
