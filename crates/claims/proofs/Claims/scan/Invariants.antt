use Rattle.std.proofs.Common.{◌≡◌, ◌-◌, get_or}
use Rattle.claims.specs.Words.{scanned, ref_word}
use Rattle.claims.proofs.Claims.scan.Given as goal

abbrev pub invariant-loop-i : goal.invariant-loop-i
invariant-loop-i g l =
    let n = (g.L.Layout.decoded (get_or l.words l.at 0)).refs in
    scanned l.car l.rank (ref_word g.L.Layout.decoded l.words l.at) l.i (n - l.i) l.self
    ≡ scanned l.car l.rank (ref_word g.L.Layout.decoded l.words l.at) 0 n l.initial.self
