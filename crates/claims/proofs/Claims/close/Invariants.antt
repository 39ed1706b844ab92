use Rattle.std.proofs.Common.{◌≡◌, ◌-◌}
use Rattle.claims.specs.Words.{closed}
use Rattle.claims.proofs.Claims.close.Given as goal

abbrev pub invariant-loop-next : goal.invariant-loop-next
invariant-loop-next g l =
    closed g.L.Layout.decoded l.words l.car l.rank (64 - l.next) l.next l.self ≡ closed g.L.Layout.decoded l.words l.car l.rank (64 - l.from) l.from l.initial.self

abbrev pub decreases-loop-next : goal.decreases-loop-next
decreases-loop-next g l = 64 - l.next
