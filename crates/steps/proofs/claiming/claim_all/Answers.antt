use Rattle.std.proofs.Common.{◌≡◌, ◌++◌, ◌∙◌}
use Rattle.slots.specs.Slots.{addresses}
use Rattle.steps.specs.Claiming.{inner_slots, outer_slots}
use Rattle.steps.proofs.ClaimingFirst.{front_is, back_is}
use Rattle.steps.proofs.claiming.claim_all.Goals as goal

pub returns-clause-claims : goal.returns-clause-claims
returns-clause-claims g c = λ h f cs ts first car arrive.
    let M = g.L.Layout.table in
    let found = c.as_slice-found.result.now in
    let xs = addresses (inner_slots M f cs) in
    let ys = addresses (outer_slots M f cs ts) in
    let e : found ≡ xs ++ ys = c.as_slice-found.ensures.value ∙ c.gather_all-inner.ensures.slots h f cs ts first car in
    let n = c.gather_all-inner.ensures.inner h f cs ts first car in
    c.claim_requests.ensures (g.R.RememberedSet.has c.args.set.now) h f cs ts first car arrive c.requires.unclaimed
    (front_is found xs ys c.gather_all-inner.result e n) (back_is found xs ys c.gather_all-inner.result e n)
