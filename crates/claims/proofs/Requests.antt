-- Requests one after another, and requests that claim nothing.
use Rattle.std.proofs.Common.{◌≡◌, ℕ, zero, suc, Bool, true, false, cond, List, [], ◌∷◌, ◌++◌, length, Some, None, Option, sym, refl, ap, ◌∙◌, arith, append-nil, append_assoc, filter}
use Rattle.std.proofs.lemmas.Bool.{ltb-false}
use Rattle.std.specs.List.{AllByRecursion}
use Rattle.model.specs.Trains.{Obj, times, among}
use Rattle.model.specs.Claims.{MoveRequest, request, ref_requests, Taken, cheney, claim, Claim, all_to, claims}
use Rattle.model.proofs.Totals.{claim-total, is}
use Rattle.model.proofs.Alls.{all_map}
use Rattle.claims.specs.Claimed.{claim_held}
use Rattle.claims.proofs.Outcomes.{stays_out}

-- some claims in front of others
abbrev pub then_claims : Taken Claim → Taken Claim → Taken Claim
then_claims t u = record { taken = t.taken ++ u.taken; left = u.left }

record_same : {xs ys : List Claim} {os ps : List Obj} → xs ≡ ys → os ≡ ps → ◌≡◌ {A = Taken Claim} (record { taken = xs; left = os }) (record { taken = ys; left = ps })
record_same p q = grind (arith, p, q)

-- some requests, and then others for what is left
pub claims-append : (ws vs : List MoveRequest) (left : List Obj) → claims (ws ++ vs) left ≡ then_claims (claims ws left) (claims vs (claims ws left).left)
claims-append [] vs left = refl
claims-append (w ∷ ws) vs left =
    let t = claim w.who left in
    let q = claims-append ws vs t.left in
    record_same (ap (λ c. all_to w.rank t.taken ++ c.taken) q ∙ sym (append_assoc (all_to w.rank t.taken) (claims ws t.left).taken (claims vs (claims ws t.left).left).taken)) (ap (λ c. c.left) q)

-- one more, of a reference that holds an object or none
pub claims_held_last : (ws : List MoveRequest) (k : ℕ) (h : Option ℕ) (left : List Obj)
    → claims (ws ++ ref_requests k (h ∷ [])) left
    ≡ then_claims (claims ws left) (record { taken = all_to k (claim_held h (claims ws left).left).taken; left = (claim_held h (claims ws left).left).left })
claims_held_last ws k None left = claims-append ws [] left
claims_held_last ws k (Some x) left =
    claims-append ws (request k x ∷ []) left ∙ record_same (ap (λ cs. (claims ws left).taken ++ cs) (append-nil (all_to k (claim x (claims ws left).left).taken))) refl

cheney_none : (n : ℕ) (left : List Obj) → cheney n [] left ≡ record { taken = []; left = left }
cheney_none zero left = refl
cheney_none (suc n) left = refl

-- what is not left claims nothing
pub claim_absent : (x : ℕ) (left : List Obj) → times x left ≡ 0 → claim x left ≡ record { taken = []; left = left }
claim_absent x left z = let s = stays_out x left z in grind (arith, s.none, s.all, cheney_none (length left) left)

abbrev pub MayGo : (MoveRequest → Bool) → List Obj → MoveRequest → Type 0
MayGo keep left w = keep w ≡ false → times w.who left ≡ 0

-- requests for what is not left may be dropped
pub claims-filter : (keep : MoveRequest → Bool) (ws : List MoveRequest) (left : List Obj) → AllByRecursion (MayGo keep left) ws → claims (filter keep ws) left ≡ claims ws left
claims-filter keep [] left a = refl
claims-filter keep (w ∷ ws) left a = go (claims-filter keep ws) (keep w) refl
  where
    go : ((os : List Obj) → AllByRecursion (MayGo keep os) ws → claims (filter keep ws) os ≡ claims ws os)
        → (b : Bool) → keep w ≡ b → claims (cond b (w ∷ filter keep ws) (filter keep ws)) left ≡ claims (w ∷ ws) left
    go more true e =
        let t = claim w.who left in
        let less : (v : MoveRequest) → MayGo keep left v → MayGo keep t.left v = λ v f z. omega (arith, f z, claim-total (is v.who) v.who left, claim-total (is v.who) w.who left) in
        let q = more t.left (all_map (MayGo keep left) (MayGo keep t.left) less ws a.1) in
        record_same (ap (λ c. all_to w.rank t.taken ++ c.taken) q) (ap (λ c. c.left) q)
    go more false e =
        let q = claim_absent w.who left (a.0 e) in
        more left a.1 ∙ sym (record_same (ap (λ t. all_to w.rank t.taken ++ (claims ws t.left).taken) q) (ap (λ t. (claims ws t.left).left) q))

all_may_go : (left : List Obj) (ws : List MoveRequest) → AllByRecursion (MayGo (λ w. among w.who left) left) ws
all_may_go left [] = tt
all_may_go left (w ∷ ws) = ((λ e. let h = ltb-false 0 (times w.who left) e in omega arith), all_may_go left ws)

-- only requests for the objects themselves count
pub claims-among : (ws : List MoveRequest) (left : List Obj) → claims (filter (λ w. among w.who left) ws) left ≡ claims ws left
claims-among ws left = claims-filter (λ w. among w.who left) ws left (all_may_go left ws)
