use Rattle.std.proofs.Common.{arith}
use Rattle.remembered.specs.BufferLaws.{sends_more}
use Rattle.remembered.specs.Leads.Leads.{untold}
use Rattle.remembered.proofs.buffered.Buffered.send_down.Goals as goal

pub loop-pair-init : goal.loop-pair-init
loop-pair-init g c = untold c.args.self.now.below

pub loop-pair-preserved : goal.loop-pair-preserved
loop-pair-preserved g c =
    let H = g.S.RememberedSet.has in
    let R = g.S.RememberedSet.says in
    let told = c.note.ensures in
    sends_more H R c.args.self.now.below c.as_slice-pair-items.result.now c.loop-pair.pair-index _ c.loop-pair.below _ (omega arith) c.loop-pair.invariant told.keeps told.gains told.besides
