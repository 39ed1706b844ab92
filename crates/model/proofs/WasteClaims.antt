-- What claims bring along: what holds of a request, and goes from each object to all that it points at, holds of each claim.
use Rattle.std.proofs.Common.{◌≡◌, ℕ, zero, suc, Bool, true, false, eqb, List, [], ◌∷◌, ◌++◌, length, get_or, Some, None, Option, refl, subst, cond}
use Rattle.std.proofs.lemmas.Bool.{eqb-true}
use Rattle.std.specs.List.{AllByRecursion}
use Rattle.model.specs.Trains.{Obj, Train, train_objects}
use Rattle.model.specs.Claims.{take_out, scan, cheney, claim, MoveRequest, ref_requests, object_requests, train_requests, Claim, all_to, claims}
use Rattle.model.specs.Sound.{Points}
use Rattle.model.proofs.Alls.{all_++, all_left, all_right, take_out_all, scan_all, claim_all, all_map}

module _ (Q : ℕ → Type 0) where
  abbrev pub Of : Obj → Type 0
  Of o = Q o.id

  abbrev pub Leads : Obj → Type 0
  Leads o = Q o.id → Points Q o

  take_out_of : (x : ℕ) (os : List Obj) → Q x → AllByRecursion Of (take_out x os).taken
  take_out_of x [] q = tt
  take_out_of x (o ∷ os) q = go (take_out_of x os q) (eqb x o.id) refl
    where
      go : AllByRecursion Of (take_out x os).taken → (b : Bool) → eqb x o.id ≡ b → AllByRecursion Of (cond b (o ∷ (take_out x os).taken) (take_out x os).taken)
      go more true e = (subst Q (eqb-true x o.id e) q, more)
      go more false e = more

  scan_of : (rs : List (Option ℕ)) (left : List Obj) → ((i y : ℕ) → get_or rs i None ≡ Some y → Q y) → AllByRecursion Of (scan rs left).taken
  scan_of [] left h = tt
  scan_of (None ∷ rs) left h = scan_of rs left (λ i y e. h (suc i) y e)
  scan_of (Some x ∷ rs) left h =
      let t = take_out x left in
      all_++ Of t.taken (scan rs t.left).taken (take_out_of x left (h 0 x refl)) (scan_of rs t.left (λ i y e. h (suc i) y e))

  cheney_of : (n : ℕ) (q left : List Obj) → AllByRecursion Of q → AllByRecursion Leads q → AllByRecursion Leads left → AllByRecursion Of (cheney n q left).taken
  cheney_of zero q left a l h = tt
  cheney_of (suc n) [] left a l h = tt
  cheney_of (suc n) (o ∷ q) left a l h =
      let t = scan o.body.refs left in
      let v = scan_of o.body.refs left (l.0 a.0) in
      let k = scan_all Leads o.body.refs left h in
      all_++ Of t.taken (cheney n (q ++ t.taken) t.left).taken v
      (cheney_of n (q ++ t.taken) t.left (all_++ Of q t.taken a.1 v) (all_++ Leads q t.taken l.1 k.0) k.1)

  claim_of : (x : ℕ) (left : List Obj) → Q x → AllByRecursion Leads left → AllByRecursion Of (claim x left).taken
  claim_of x left q h =
      let t = take_out x left in
      let a = take_out_of x left q in
      let k = take_out_all Leads x left h in
      all_++ Of t.taken (cheney (length left) t.taken t.left).taken a (cheney_of (length left) t.taken t.left a k.0 k.1)

-- the same for each rank by itself
module _ (R : ℕ → ℕ → Type 0) where
  abbrev pub Sent : MoveRequest → Type 0
  Sent w = R w.rank w.who

  abbrev pub Goes : Claim → Type 0
  Goes c = R c.rank c.object.id

  all_to_of : (k : ℕ) (os : List Obj) → AllByRecursion (λ o. R k o.id) os → AllByRecursion Goes (all_to k os)
  all_to_of k [] h = tt
  all_to_of k (o ∷ os) h = (h.0, all_to_of k os h.1)

  pub claims_of : (ws : List MoveRequest) (left : List Obj) → AllByRecursion Sent ws → AllByRecursion (λ o. (k : ℕ) → Leads (R k) o) left → AllByRecursion Goes (claims ws left).taken
  claims_of [] left g h = tt
  claims_of (w ∷ ws) left g h =
      let t = claim w.who left in
      let here = all_map (λ o. (k : ℕ) → Leads (R k) o) (Leads (R w.rank)) (λ o f. f w.rank) left h in
      all_++ Goes (all_to w.rank t.taken) (claims ws t.left).taken
      (all_to_of w.rank t.taken (claim_of (R w.rank) w.who left g.0 here))
      (claims_of ws t.left g.1 (claim_all (λ o. (k : ℕ) → Leads (R k) o) w.who left h).1)

  pub ref_sent : (k : ℕ) (rs : List (Option ℕ)) → ((i y : ℕ) → get_or rs i None ≡ Some y → R k y) → AllByRecursion Sent (ref_requests k rs)
  ref_sent k [] h = tt
  ref_sent k (None ∷ rs) h = ref_sent k rs (λ i y e. h (suc i) y e)
  ref_sent k (Some x ∷ rs) h = (h 0 x refl, ref_sent k rs (λ i y e. h (suc i) y e))

  object_sent : (k : ℕ) (os : List Obj) → AllByRecursion (Points (R k)) os → AllByRecursion Sent (object_requests k os)
  object_sent k [] h = tt
  object_sent k (o ∷ os) h =
      all_++ Sent (ref_requests k o.body.refs) (object_requests k os) (ref_sent k o.body.refs h.0) (object_sent k os h.1)

  pub train_sent : (k : ℕ) (t : Train) → AllByRecursion (Points (R k)) (train_objects t) → AllByRecursion Sent (train_requests k t)
  train_sent k [] h = tt
  train_sent k (c ∷ cs) h =
      all_++ Sent (object_requests k c.objects) (train_requests k cs) (object_sent k c.objects (all_left (Points (R k)) c.objects (train_objects cs) h))
      (train_sent k cs (all_right (Points (R k)) c.objects (train_objects cs) h))
