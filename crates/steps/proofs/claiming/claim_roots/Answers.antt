use Rattle.std.proofs.Common.{◌+◌, ◌<◌, [], ◌∷◌, ◌++◌, length, take, get_or, None, ap, arith}
use Rattle.std.proofs.lemmas.List.{take_all}
use Rattle.model.specs.Claims.{ref_requests, claims}
use Rattle.claims.proofs.Claimed.{claimed_last}
use Rattle.steps.proofs.ClaimingRequests.{claimed_for, roots_asked}
use Rattle.steps.proofs.claiming.claim_roots.Goals as goal

pub loop-root-preserved : goal.loop-root-preserved
loop-root-preserved g c = λ at f hs ws stands own car len words before.
    let i = c.loop-root.root-index in
    let k = c.args.rank in
    let l : i < length hs = omega (arith, len, c.loop-root-test.true) in
    let so_far = ws ++ ref_requests k (take i hs) in
    let h = get_or hs i None in
    claimed_for (so_far ++ ref_requests k (h ∷ [])) (ws ++ ref_requests k (take (i + 1) hs)) (roots_asked k i hs ws l)
    (claimed_last so_far k h c.claim.new.self
    (c.claim.ensures f at h (claims so_far f.objects).taken (claims so_far f.objects).left stands own car (words i l)
    (c.loop-root.invariant at f hs ws stands own car len words before)))

pub returns : goal.returns
returns g c = λ at f hs ws stands own car len words before.
    let i = c.loop-root.root-index in
    let k = c.args.rank in
    claimed_for (ws ++ ref_requests k (take i hs)) (ws ++ ref_requests k hs) (ap (λ us. ws ++ ref_requests k us) (take_all i hs (omega (arith, len, c.loop-root-test.false))))
    (c.loop-root.invariant at f hs ws stands own car len words before)
