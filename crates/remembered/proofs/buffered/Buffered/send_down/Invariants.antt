use Rattle.std.proofs.Common.{[], take}
use Rattle.remembered.specs.Buffers.{sent}
use Rattle.remembered.specs.Leads.{Leads}
use Rattle.remembered.proofs.buffered.Buffered.send_down.Given as goal

-- the pairs so far were sent down
abbrev pub invariant-loop-pair : goal.invariant-loop-pair
invariant-loop-pair g l = Leads g.S.RememberedSet.has g.S.RememberedSet.says l.initial.below (sent (take l.pair-index l.pair-items) []) l.below
