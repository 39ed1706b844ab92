use Rattle.std.proofs.Common.{◌≡◌, ◌≤◌, ◌*◌, length}
use Rattle.moves.specs.Moves.{Carrying, Carries}
use Rattle.moves.proofs.Carried.{MovedSome}
use Rattle.moves.proofs.moves.move_claimed.Given as goal

abbrev pub invariant-loop-claim : goal.invariant-loop-claim
invariant-loop-claim g l = record {
  moved : (q : Carrying) → Carries g.L.Layout.table g.L.Layout.code l.fn.words l.fn.trains l.car l.claims q
      → MovedSome g.L.Layout.table g.L.Layout.code q l.claim-index l.words l.forward l.trains l.out l.back l.copied;
  few : l.out ≤ l.claim-index;
  fewer : l.back ≤ l.claim-index;
  long : length l.forward ≡ 128;
  little : l.copied ≤ 64 * l.claim-index;
}
