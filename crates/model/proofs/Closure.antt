-- Carrying is closed: what a claimed object or a request holds is not left in the car.
use Rattle.std.proofs.Common.{◌==◌, ◌≡◌, ℕ, zero, suc, ◌+◌, ◌≤◌, Bool, true, false, cond, eqb, ◌⊎◌, List, [], ◌∷◌, ◌++◌, length, get_or, Some, None, Option, sym, refl, ap, subst, inl, inr, arith, length-append, not, sum_by}
use Rattle.std.proofs.lemmas.Bool.{ne_eqb, eq-eqb}
use Rattle.std.specs.List.{AllByRecursion}
use Rattle.model.specs.Trains.{Obj, Train, Trains, train_objects, objects, times}
use Rattle.model.specs.Claims.{take_out, scan, cheney, claim, MoveRequest, all_to, claims, ref_requests, object_requests, train_requests, trains_requests}
use Rattle.model.specs.Step.{claimed, out_of}
use Rattle.model.proofs.Totals.{take_out-total, scan-total, cheney-total, claim-total, claims-total, is, one_if, sums, claimed_row}
use Rattle.model.specs.Sound.{Points}
use Rattle.model.proofs.Alls.{all_++, all_left, all_right}

pub length-total : (os : List Obj) → sum_by (λ o. 1) os ≡ length os
length-total [] = refl
length-total (o ∷ os) = omega (arith, sums, length-total os)

pub is_self : (x : ℕ) (o : Obj) → x ≡ o.id → is x o ≡ 1
is_self x o e = ap one_if (eq-eqb x o.id e)

-- nothing of the identity taken out is left
pub take_out_none : (x : ℕ) (os : List Obj) → times x (take_out x os).left ≡ 0
take_out_none x [] = refl
take_out_none x (o ∷ os) = go (take_out_none x os) (eqb x o.id) refl
  where
    go : times x (take_out x os).left ≡ 0 → (b : Bool) → eqb x o.id ≡ b → times x (cond (not b) (o ∷ (take_out x os).left) (take_out x os).left) ≡ 0
    go h true e = h
    go h false e = let z : is x o ≡ 0 = ap one_if e in omega (arith, sums, z, h)

scan_less : (rs : List (Option ℕ)) (left : List Obj) (y : ℕ) → times y (scan rs left).left ≤ times y left
scan_less rs left y = omega (arith, scan-total (is y) rs left)

cheney_less : (n : ℕ) (q left : List Obj) (y : ℕ) → times y (cheney n q left).left ≤ times y left
cheney_less n q left y = omega (arith, cheney-total (is y) n q left)

pub claims_less : (ws : List MoveRequest) (left : List Obj) (y : ℕ) → times y (claims ws left).left ≤ times y left
claims_less ws left y = omega (arith, claims-total (is y) ws left)

-- none of what the references hold is left
pub scan_none : (rs : List (Option ℕ)) (left : List Obj) (i y : ℕ) → get_or rs i None ≡ Some y → times y (scan rs left).left ≡ 0
scan_none [] left i y e = let z : ◌≡◌ {A = ℕ} 0 1 = cc in absurd (omega arith)
scan_none (None ∷ rs) left zero y e = let z : ◌≡◌ {A = ℕ} 0 1 = cc in absurd (omega arith)
scan_none (None ∷ rs) left (suc i) y e = scan_none rs left i y e
scan_none (Some x ∷ rs) left zero y e =
    let q : x ≡ y = cc in
    let n : times y (take_out x left).left ≡ 0 = subst (λ v. times v (take_out x left).left ≡ 0) q (take_out_none x left) in
    omega (arith, n, scan_less rs (take_out x left).left y)
scan_none (Some x ∷ rs) left (suc i) y e = scan_none rs (take_out x left).left i y e

abbrev pub Done : List Obj → Obj → Type 0
Done left o = Points (λ y. times y left ≡ 0) o

pub done_less : (left less : List Obj) → ((y : ℕ) → times y less ≤ times y left) → (os : List Obj) → AllByRecursion (Done left) os → AllByRecursion (Done less) os
done_less left less h [] d = tt
done_less left less h (o ∷ os) d = ((λ i y e. omega (arith, h y, d.0 i y e)), done_less left less h os d.1)

pub cheney_done : (n : ℕ) (q left : List Obj) → length q + length left ≤ n
    → AllByRecursion (Done (cheney n q left).left) q × AllByRecursion (Done (cheney n q left).left) (cheney n q left).taken
cheney_done zero [] left h = (tt, tt)
cheney_done zero (o ∷ q) left h = absurd (omega (arith, h))
cheney_done (suc n) [] left h = (tt, tt)
cheney_done (suc n) (o ∷ q) left h =
    let t = scan o.body.refs left in
    let c = cheney n (q ++ t.taken) t.left in
    let fewer : length (q ++ t.taken) + length t.left ≤ n =
    simp length-append (omega (arith, h, scan-total (λ o. 1) o.body.refs left, length-total t.taken, length-total t.left, length-total left)) in
    let rest = cheney_done n (q ++ t.taken) t.left fewer in
    let here : Done c.left o = λ i y e. omega (arith, scan_none o.body.refs left i y e, cheney_less n (q ++ t.taken) t.left y) in
    ((here, all_left _ q t.taken rest.0), all_++ _ t.taken c.taken (all_right _ q t.taken rest.0) rest.1)

pub claim_none : (x : ℕ) (left : List Obj) → times x (claim x left).left ≡ 0
claim_none x left =
    let t = take_out x left in
    omega (arith, take_out_none x left, cheney_less (length left) t.taken t.left x)

pub claim_done : (x : ℕ) (left : List Obj) → AllByRecursion (Done (claim x left).left) (claim x left).taken
claim_done x left =
    let t = take_out x left in
    let h : length t.taken + length t.left ≤ length left =
    omega (arith, take_out-total (λ o. 1) x left, length-total t.taken, length-total t.left, length-total left) in
    let d = cheney_done (length left) t.taken t.left h in
    all_++ _ t.taken (cheney (length left) t.taken t.left).taken d.0 d.1

pub claims_done : (ws : List MoveRequest) (left : List Obj) → AllByRecursion (Done (claims ws left).left) (claimed (claims ws left).taken)
claims_done [] left = tt
claims_done (w ∷ ws) left =
    let t = claim w.who left in
    let c = claims ws t.left in
    subst (AllByRecursion (Done c.left)) (sym (claimed_row w.rank t.taken c.taken))
    (all_++ _ t.taken (claimed c.taken) (done_less t.left c.left (claims_less ws t.left) t.taken (claim_done w.who left)) (claims_done ws t.left))

-- no object that was asked for is left
pub claims_none : (ws : List MoveRequest) (left : List Obj) → AllByRecursion (λ w. times w.who (claims ws left).left ≡ 0) ws
claims_none [] left = tt
claims_none (w ∷ ws) left =
    let t = claim w.who left in
    (omega (arith, claim_none w.who left, claims_less ws t.left w.who), claims_none ws t.left)

-- from request back to the references that they stand for
pub ref_each : (P : MoveRequest → Type 0) (k : ℕ) (rs : List (Option ℕ)) → AllByRecursion P (ref_requests k rs) → (i x : ℕ) → get_or rs i None ≡ Some x → P (record { who = x; rank = k })
ref_each P k [] a i x e = let z : ◌≡◌ {A = ℕ} 0 1 = cc in absurd (omega arith)
ref_each P k (None ∷ rs) a zero x e = let z : ◌≡◌ {A = ℕ} 0 1 = cc in absurd (omega arith)
ref_each P k (None ∷ rs) a (suc i) x e = ref_each P k rs a i x e
ref_each P k (Some y ∷ rs) a zero x e = let q : y ≡ x = cc in subst (λ v. P (record { who = v; rank = k })) q a.0
ref_each P k (Some y ∷ rs) a (suc i) x e = ref_each P k rs a.1 i x e

pub object_each : (Q : ℕ → Type 0) (k : ℕ) (os : List Obj) → AllByRecursion (λ w. Q w.who) (object_requests k os) → AllByRecursion (Points Q) os
object_each Q k [] a = tt
object_each Q k (o ∷ os) a =
    let P : MoveRequest → Type 0 = λ w. Q w.who in
    (ref_each P k o.body.refs (all_left P (ref_requests k o.body.refs) (object_requests k os) a), object_each Q k os (all_right P (ref_requests k o.body.refs) (object_requests k os) a))

pub train_each : (Q : ℕ → Type 0) (k : ℕ) (t : Train) → AllByRecursion (λ w. Q w.who) (train_requests k t) → AllByRecursion (Points Q) (train_objects t)
train_each Q k [] a = tt
train_each Q k (c ∷ cs) a =
    let P : MoveRequest → Type 0 = λ w. Q w.who in
    all_++ (Points Q) c.objects (train_objects cs) (object_each Q k c.objects (all_left P (object_requests k c.objects) (train_requests k cs) a))
    (train_each Q k cs (all_right P (object_requests k c.objects) (train_requests k cs) a))

pub trains_each : (Q : ℕ → Type 0) (k : ℕ) (ts : Trains) → AllByRecursion (λ w. Q w.who) (trains_requests k ts) → AllByRecursion (Points Q) (objects ts)
trains_each Q k [] a = tt
trains_each Q k (t ∷ ts) a =
    let P : MoveRequest → Type 0 = λ w. Q w.who in
    all_++ (Points Q) (train_objects t) (objects ts) (train_each Q k t (all_left P (train_requests k t) (trains_requests (k + 1) ts) a))
    (trains_each Q (k + 1) ts (all_right P (train_requests k t) (trains_requests (k + 1) ts) a))

-- some request is for x
abbrev pub Requested : ℕ → List MoveRequest → Type 0
Requested x [] = ⊥
Requested x (w ∷ ws) = (w.who ≡ x) ⊎ Requested x ws

pub requested_left : (x : ℕ) (vs ws : List MoveRequest) → Requested x vs → Requested x (vs ++ ws)
requested_left x [] ws h = absurd h
requested_left x (v ∷ vs) ws (inl e) = inl e
requested_left x (v ∷ vs) ws (inr h) = inr (requested_left x vs ws h)

pub requested_right : (x : ℕ) (vs ws : List MoveRequest) → Requested x ws → Requested x (vs ++ ws)
requested_right x [] ws h = h
requested_right x (v ∷ vs) ws h = inr (requested_right x vs ws h)

pub above_counts : (k : ℕ) → 1 ≤ k → ◌≡◌ {A = ℕ} (cond (not (k == 0)) 1 0) 1
above_counts k h = ap (λ b. cond (not b) 1 0) (ne_eqb k 0 (λ e. omega arith))

-- a request of a rank above 0 for an object of the car has something leave the first train
pub out_some : (vs ws : List MoveRequest) (left : List Obj) (x : ℕ) → AllByRecursion (λ w. 1 ≤ w.rank) vs → Requested x vs → 1 ≤ times x left → 1 ≤ out_of (claims (vs ++ ws) left).taken
out_some [] ws left x a h l = absurd h
out_some (v ∷ vs) ws left x a h l = go (out_some vs ws (claim v.who left).left x a.1) (claim v.who left).taken refl
  where
    go : (Requested x vs → 1 ≤ times x (claim v.who left).left → 1 ≤ out_of (claims (vs ++ ws) (claim v.who left).left).taken) → (os : List Obj) → (claim v.who left).taken ≡ os → 1 ≤ out_of (all_to v.rank (claim v.who left).taken ++ (claims (vs ++ ws) (claim v.who left).left).taken)
    go more (o ∷ os) e =
        let r = (claims (vs ++ ws) (claim v.who left).left).taken in
        subst (λ (ps : List Obj). 1 ≤ out_of (all_to v.rank ps ++ r)) (sym e)
        (omega (arith, sums, above_counts v.rank a.0))
    go more [] e =
        let r = (claims (vs ++ ws) (claim v.who left).left).taken in
        let none : sum_by (is x) (claim v.who left).taken ≡ 0 = ap (sum_by (is x)) e in
        let same : 1 ≤ times x (claim v.who left).left = omega (arith, l, none, claim-total (is x) v.who left) in
        let later : Requested x vs = elim h [
          | inl q ↦ absurd (let z : times x (claim v.who left).left ≡ 0 = subst (λ y. times y (claim v.who left).left ≡ 0) q (claim_none v.who left) in omega arith)
          | inr k ↦ k
        ] in
        subst (λ (ps : List Obj). 1 ≤ out_of (all_to v.rank ps ++ r)) (sym e) (more later same)
