use Rattle.std.proofs.Common.{ℕ, [], ◌++◌, sym, refl, ap, ◌∙◌, subst, arith}
use Rattle.model.specs.Claims.{ref_requests, claims}
use Rattle.model.specs.Space.{space_of}
use Rattle.model.specs.Step.{mark_requests}
use Rattle.objects.specs.Locate.{locate}
use Rattle.trains.specs.Orders.{rank_of}
use Rattle.claims.proofs.Claimed.{claimed_none, claimed_same}
use Rattle.claims.specs.Claimed.{Claimed}
use Rattle.steps.specs.Claiming.{FirstCar, inner_slots, outer_slots, slot_requests}
use Rattle.steps.proofs.ClaimingFirst.{first_known, first_asked}
use Rattle.steps.proofs.claiming.claim_requests.Goals as goal

pub returns : goal.returns
returns g c = λ P h f cs ts given car arrive none inner outer.
    let L = g.L.Layout in
    let M = L.table in
    let m = space_of M h in
    let at = locate m.trains in
    let first = subst (λ s. FirstCar M L.code s P h f cs ts) (sym c.memory.view_is) given in
    let known = first_known M L.code g.met.L.Layout.lawful _ P h f cs ts first in
    let asked = first_asked M L.code g.met.L.Layout.lawful _ P h f cs ts first in
    let st = first.stands in
    let rank : ℕ → ℕ = λ n. rank_of n c.memory.inside.trains.trains in
    let R = ref_requests c.args.arrival m.roots in
    let K = mark_requests m.mark in
    let A = slot_requests rank (outer_slots M f cs ts) in
    let B = slot_requests rank (inner_slots M f cs) in
    let start : Claimed at f [] f.objects c.args.claims.now = subst (λ o. Claimed at f [] f.objects o) (sym none) (claimed_none at f) in
    let roots = c.claim_roots.ensures at f m.roots [] known.stands known.own car (omega (arith, st.root_count, st.root_word_count)) (λ r l. st.roots r (omega (arith, l, st.root_count))) start in
    let mark = c.claim_mark.ensures at f m.mark R known.stands known.own car st.mark roots in
    let others = c.claim_slots.ensures at f (outer_slots M f cs ts) (R ++ K) known.stands known.own car (sym outer) asked.outer_words mark in
    let all = c.claim_slots-2.ensures at f (inner_slots M f cs) ((R ++ K) ++ A) known.stands known.own car (sym inner) asked.inner_words others in
    let e = ap (λ (k : ℕ). claims (((ref_requests k m.roots ++ K) ++ A) ++ B) f.objects) arrive ∙ asked.asked in
    claimed_same all (ap (λ t. t.taken) e) (ap (λ t. t.left) e) refl
