use Rattle.std.proofs.Common.{rules}
use Rattle.remembered.specs.BufferLaws.{buffer_keeps}
use Rattle.remembered.proofs.buffered.BufferedRememberedSet.note.Goals as goal

pub returns-then-lacks-clause-besides : goal.returns-then-lacks-clause-besides
returns-then-lacks-clause-besides g c = search rules

pub returns-then-lacks-clause-keeps : goal.returns-then-lacks-clause-keeps
returns-then-lacks-clause-keeps g c =
    let s = c.args.self.now in
    let t = c.hold.new.self in
    buffer_keeps g.S.RememberedSet.has g.S.RememberedSet.says s.below s.held.items c.args.car c.args.address t.below t.held.items s.near (returns-then-lacks-clause-besides g c)
