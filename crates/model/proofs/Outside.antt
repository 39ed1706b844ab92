-- The references from outside the first train, and the trains that request send to.
use Rattle.std.proofs.Common.{◌≡◌, ℕ, ◌+◌, ◌<◌, ◌≤◌, Bool, true, false, List, [], ◌∷◌, ◌++◌, length, Some, None, Option, sym, refl, ap, ◌∙◌, subst, inl, inr, append_assoc, arith, cond}
use Rattle.std.proofs.lemmas.Bool.{ltb-true, ltb-false}
use Rattle.std.specs.List.{AllByRecursion}
use Rattle.model.specs.Bodies.{Roots}
use Rattle.model.specs.Trains.{Obj, Car, Train, Trains, times, among, arrival, most_trains}
use Rattle.model.specs.Claims.{MoveRequest, Claim, ref_requests, object_requests, train_requests, trains_requests, claim, all_to, claims}
use Rattle.model.specs.Step.{first_to, outside, mark_requests, requests}
use Rattle.model.specs.Sound.{Marked}
use Rattle.model.proofs.Closure.{Requested, requested_right}
use Rattle.model.proofs.Cars.{RanksBelow, arrival_below}
use Rattle.model.proofs.Alls.{all_++, all_left, all_right, all_map}

-- with no first reference, none of the request is for one of the objects
pub first_none : (os : List Obj) (ws : List MoveRequest) → first_to os ws ≡ None → AllByRecursion (λ w. times w.who os ≡ 0) ws
first_none os [] e = tt
first_none os (w ∷ ws) e = go (first_none os ws) (among w.who os) refl e
  where
    go : (first_to os ws ≡ None → AllByRecursion (λ w. times w.who os ≡ 0) ws) → (b : Bool) → among w.who os ≡ b
        → ◌≡◌ {A = Option MoveRequest} (cond b (Some w) (first_to os ws)) None → AllByRecursion (λ w. times w.who os ≡ 0) (w ∷ ws)
    go more true q n = let z : ◌≡◌ {A = ℕ} 0 1 = cc in absurd (omega arith)
    go more false q n = (omega (arith, ltb-false 0 (times w.who os) q), more n)

-- the first reference is a request for one of the objects, and has what each request has
pub first_some : (P : MoveRequest → Type 0) (os : List Obj) (ws : List MoveRequest) (w : MoveRequest) → first_to os ws ≡ Some w → AllByRecursion P ws
    → (1 ≤ times w.who os) × Requested w.who ws × P w
first_some P os [] w e a = let z : ◌≡◌ {A = ℕ} 0 1 = cc in absurd (omega arith)
first_some P os (v ∷ ws) w e a = go (λ n. first_some P os ws w n a.1) (among v.who os) refl e
  where
    go : (first_to os ws ≡ Some w → (1 ≤ times w.who os) × Requested w.who ws × P w) → (b : Bool) → among v.who os ≡ b
        → ◌≡◌ {A = Option MoveRequest} (cond b (Some v) (first_to os ws)) (Some w) → (1 ≤ times w.who os) × Requested w.who (v ∷ ws) × P w
    go more true q n =
        let same : v ≡ w = cc in
        subst (λ u. (1 ≤ times u.who os) × Requested u.who (v ∷ ws) × P u) same (ltb-true 0 (times v.who os) q, inl refl, a.0)
    go more false q n = let f = more n in (f.0, inr f.1, f.2)

-- ranks of request
abbrev pub Ranks : (ℕ → Type 0) → List MoveRequest → Type 0
Ranks R ws = AllByRecursion (λ w. R w.rank) ws

pub ref_ranks : (R : ℕ → Type 0) (k : ℕ) → R k → (rs : List (Option ℕ)) → Ranks R (ref_requests k rs)
ref_ranks R k h [] = tt
ref_ranks R k h (None ∷ rs) = ref_ranks R k h rs
ref_ranks R k h (Some x ∷ rs) = (h, ref_ranks R k h rs)

object_ranks : (R : ℕ → Type 0) (k : ℕ) → R k → (os : List Obj) → Ranks R (object_requests k os)
object_ranks R k h [] = tt
object_ranks R k h (o ∷ os) = all_++ (λ w. R w.rank) (ref_requests k o.body.refs) (object_requests k os) (ref_ranks R k h o.body.refs) (object_ranks R k h os)

pub train_ranks : (R : ℕ → Type 0) (k : ℕ) → R k → (t : Train) → Ranks R (train_requests k t)
train_ranks R k h [] = tt
train_ranks R k h (c ∷ cs) = all_++ (λ w. R w.rank) (object_requests k c.objects) (train_requests k cs) (object_ranks R k h c.objects) (train_ranks R k h cs)

pub trains_ranks : (R : ℕ → Type 0) (k : ℕ) (ts : Trains) → ((j : ℕ) → k ≤ j → j < k + length ts → R j) → Ranks R (trains_requests k ts)
trains_ranks R k [] h = tt
trains_ranks R k (t ∷ ts) h =
    all_++ (λ w. R w.rank) (train_requests k t) (trains_requests (k + 1) ts) (train_ranks R k (h k (omega arith) (omega arith)) t)
    (trains_ranks R (k + 1) ts (λ j a b. h j (omega arith) (omega arith)))

-- a rank that a request from outside or a mark may have
abbrev pub Sends : Trains → ℕ → Type 0
Sends ts k = (1 ≤ k) × (k ≤ length ts) × (k < most_trains)

pub outside_ranks : (rs : Roots) (t : Train) (ts : Trains) → length (t ∷ ts) ≤ most_trains → Ranks (Sends (t ∷ ts)) (outside rs (t ∷ ts) ts)
outside_ranks rs t ts h =
    let a = arrival_below (t ∷ ts) h in
    all_++ (λ w. Sends (t ∷ ts) w.rank) (ref_requests (arrival (t ∷ ts)) rs) (trains_requests 1 ts)
    (ref_ranks (Sends (t ∷ ts)) (arrival (t ∷ ts)) (a.2 (omega arith), a.1, a.0) rs)
    (trains_ranks (Sends (t ∷ ts)) 1 ts (λ j p q. (p, omega arith, omega arith)))

pub mark_ranks : (ts : Trains) (mk : Option MoveRequest) → ((w : MoveRequest) → mk ≡ Some w → Marked w ts) → Ranks (Sends ts) (mark_requests mk)
mark_ranks ts None h = tt
mark_ranks ts (Some m) h = let k = h m refl in ((k.above, k.within, k.below), tt)

-- the request that send to another train come before those of the first train's own slots
abbrev pub away : Roots → Option MoveRequest → Car → Train → Trains → List MoveRequest
away rs mk f cs ts = ref_requests (arrival ((f ∷ cs) ∷ ts)) rs ++ (mark_requests mk ++ trains_requests 1 ts)

pub requests_split : (rs : Roots) (mk : Option MoveRequest) (f : Car) (cs : Train) (ts : Trains) → requests rs mk f cs ts ≡ away rs mk f cs ts ++ train_requests 0 cs
requests_split rs mk f cs ts =
    let A = ref_requests (arrival ((f ∷ cs) ∷ ts)) rs in
    let B = mark_requests mk in
    let C = trains_requests 1 ts in
    let D = train_requests 0 cs in
    ap (λ ws. A ++ ws) (sym (append_assoc B C D)) ∙ sym (append_assoc A (B ++ C) D)

pub away_ranks : (rs : Roots) (mk : Option MoveRequest) (f : Car) (cs : Train) (ts : Trains) → length ((f ∷ cs) ∷ ts) ≤ most_trains
    → ((w : MoveRequest) → mk ≡ Some w → Marked w ((f ∷ cs) ∷ ts)) → Ranks (Sends ((f ∷ cs) ∷ ts)) (away rs mk f cs ts)
away_ranks rs mk f cs ts h mks =
    let P : MoveRequest → Type 0 = λ w. Sends ((f ∷ cs) ∷ ts) w.rank in
    let A = ref_requests (arrival ((f ∷ cs) ∷ ts)) rs in
    let o = outside_ranks rs (f ∷ cs) ts h in
    all_++ P A (mark_requests mk ++ trains_requests 1 ts) (all_left P A (trains_requests 1 ts) o)
    (all_++ P (mark_requests mk) (trains_requests 1 ts) (mark_ranks ((f ∷ cs) ∷ ts) mk mks) (all_right P A (trains_requests 1 ts) o))

pub requests_above : (ts : Trains) (ws : List MoveRequest) → Ranks (Sends ts) ws → AllByRecursion (λ w. 1 ≤ w.rank) ws
requests_above ts = all_map _ _ (λ w s. s.0)

-- what is asked for from outside is asked for among those sent away
pub outside-away : (rs : Roots) (mk : Option MoveRequest) (f : Car) (cs : Train) (ts : Trains) (x : ℕ)
    → Requested x (outside rs ((f ∷ cs) ∷ ts) ts) → Requested x (away rs mk f cs ts)
outside-away rs mk f cs ts x h = go (ref_requests (arrival ((f ∷ cs) ∷ ts)) rs) h
  where
    go : (A : List MoveRequest) → Requested x (A ++ trains_requests 1 ts) → Requested x (A ++ (mark_requests mk ++ trains_requests 1 ts))
    go [] k = requested_right x (mark_requests mk) (trains_requests 1 ts) k
    go (v ∷ A) (inl e) = inl e
    go (v ∷ A) (inr k) = inr (go A k)

pub mark_away : (rs : Roots) (m : MoveRequest) (f : Car) (cs : Train) (ts : Trains) → Requested m.who (away rs (Some m) f cs ts)
mark_away rs m f cs ts = requested_right m.who (ref_requests (arrival ((f ∷ cs) ∷ ts)) rs) _ (inl refl)

-- a claim goes where its request sends it
all_to_below : (k : ℕ) (os : List Obj) (row : List Claim) → k < most_trains → RanksBelow row → RanksBelow (all_to k os ++ row)
all_to_below k [] row h r = r
all_to_below k (o ∷ os) row h r = (h, all_to_below k os row h r)

pub claims_below : (ws : List MoveRequest) (left : List Obj) → Ranks (λ k. k < most_trains) ws → RanksBelow (claims ws left).taken
claims_below [] left h = tt
claims_below (w ∷ ws) left h =
    let t = claim w.who left in
    all_to_below w.rank t.taken (claims ws t.left).taken h.0 (claims_below ws t.left h.1)

pub requests_below : (rs : Roots) (mk : Option MoveRequest) (f : Car) (cs : Train) (ts : Trains) → length ((f ∷ cs) ∷ ts) ≤ most_trains
    → ((w : MoveRequest) → mk ≡ Some w → Marked w ((f ∷ cs) ∷ ts)) → Ranks (λ k. k < most_trains) (requests rs mk f cs ts)
requests_below rs mk f cs ts h mks =
    subst (λ ws. Ranks (λ k. k < most_trains) ws) (sym (requests_split rs mk f cs ts))
    (all_++ (λ w. w.rank < most_trains) (away rs mk f cs ts) (train_requests 0 cs)
    (all_map _ _ (λ w s. s.2) (away rs mk f cs ts) (away_ranks rs mk f cs ts h mks))
    (train_ranks (λ k. k < most_trains) 0 (omega arith) cs))
