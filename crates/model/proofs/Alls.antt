-- What holds of each object still does when objects are taken, claimed and placed.
use Rattle.std.proofs.Common.{ℕ, zero, suc, Bool, true, false, eqb, List, [], ◌∷◌, ◌++◌, length, take, Some, None, Option, cond, not, filter, sym, subst}
use Rattle.std.specs.List.{AllByRecursion}
use Rattle.std.proofs.lemmas.Bool.{cond_both}
use Rattle.std.proofs.lemmas.List.{map-append, take-map}
use Rattle.model.specs.Trains.{Obj, Train, Trains, train_objects, objects, place, place_at, fits, with_object, opened, numbers, lowest_free}
use Rattle.model.specs.Claims.{Taken, take_out, in_front, scan, cheney, claim, MoveRequest, Claim, all_to, claims}
use Rattle.model.specs.Step.{claimed, place_all}
use Rattle.model.proofs.Totals.{claimed-all_to}

-- what holds of each element of lists joined, cut or mapped
module _ {X : Type 0} (P : X → Type 0) where
  pub all_++ : (xs ys : List X) → AllByRecursion P xs → AllByRecursion P ys → AllByRecursion P (xs ++ ys)
  all_++ [] ys p q = q
  all_++ (x ∷ xs) ys p q = (p.0, all_++ xs ys p.1 q)

  pub all_left : (xs ys : List X) → AllByRecursion P (xs ++ ys) → AllByRecursion P xs
  all_left [] ys p = tt
  all_left (x ∷ xs) ys p = (p.0, all_left xs ys p.1)

  pub all_right : (xs ys : List X) → AllByRecursion P (xs ++ ys) → AllByRecursion P ys
  all_right [] ys p = p
  all_right (x ∷ xs) ys p = all_right xs ys p.1

  pub all_take : (n : ℕ) (xs : List X) → AllByRecursion P xs → AllByRecursion P (take n xs)
  all_take zero xs p = tt
  all_take (suc n) [] p = tt
  all_take (suc n) (x ∷ xs) p = (p.0, all_take n xs p.1)

  pub all_filter : (test : X → Bool) (xs : List X) → AllByRecursion P xs → AllByRecursion P (filter test xs)
  all_filter test [] p = tt
  all_filter test (x ∷ xs) p =
      let rest = all_filter test xs p.1 in
      cond_both (test x) (x ∷ filter test xs) (filter test xs) (AllByRecursion P) (λ e. (p.0, rest)) (λ e. rest)

module _ {X : Type 0} where
  pub all_map : (P Q : X → Type 0) → ((x : X) → P x → Q x) → (xs : List X) → AllByRecursion P xs → AllByRecursion Q xs
  all_map P Q h [] p = tt
  all_map P Q h (x ∷ xs) p = (h x p.0, all_map P Q h xs p.1)

  pub all_with : (P Q R : X → Type 0) → ((x : X) → P x → Q x → R x) → (xs : List X) → AllByRecursion P xs → AllByRecursion Q xs → AllByRecursion R xs
  all_with P Q R h [] p q = tt
  all_with P Q R h (x ∷ xs) p q = (h x p.0 q.0, all_with P Q R h xs p.1 q.1)

module _ (P : Obj → Type 0) where
  -- of what was taken and of what is left
  abbrev pub Both : Taken Obj → Type 0
  Both t = AllByRecursion P t.taken × AllByRecursion P t.left

  pub take_out_all : (x : ℕ) (os : List Obj) → AllByRecursion P os → Both (take_out x os)
  take_out_all x os p = (all_filter P (λ o. eqb x o.id) os p, all_filter P (λ o. not (eqb x o.id)) os p)

  then_all : (os : List Obj) (t : Taken Obj) → AllByRecursion P os → Both t → Both (in_front os t)
  then_all os t p q = (all_++ P os t.taken p q.0, q.1)

  pub scan_all : (rs : List (Option ℕ)) (left : List Obj) → AllByRecursion P left → Both (scan rs left)
  scan_all [] left p = (tt, p)
  scan_all (None ∷ rs) left p = scan_all rs left p
  scan_all (Some x ∷ rs) left p =
      let t = take_out x left in
      let q = take_out_all x left p in
      then_all t.taken (scan rs t.left) q.0 (scan_all rs t.left q.1)

  pub cheney_all : (n : ℕ) (q left : List Obj) → AllByRecursion P left → Both (cheney n q left)
  cheney_all zero q left p = (tt, p)
  cheney_all (suc n) [] left p = (tt, p)
  cheney_all (suc n) (o ∷ q) left p =
      let t = scan o.body.refs left in
      let b = scan_all o.body.refs left p in
      then_all t.taken (cheney n (q ++ t.taken) t.left) b.0 (cheney_all n (q ++ t.taken) t.left b.1)

  pub claim_all : (x : ℕ) (left : List Obj) → AllByRecursion P left → Both (claim x left)
  claim_all x left p =
      let t = take_out x left in
      let b = take_out_all x left p in
      then_all t.taken (cheney (length left) t.taken t.left) b.0 (cheney_all (length left) t.taken t.left b.1)

  pub claimed_all_++ : (xs ys : List Claim) → AllByRecursion P (claimed xs) → AllByRecursion P (claimed ys) → AllByRecursion P (claimed (xs ++ ys))
  claimed_all_++ xs ys p q = subst (AllByRecursion P) (sym (map-append (λ (c : Claim). c.object) xs ys)) (all_++ P (claimed xs) (claimed ys) p q)

  pub all_to_all : (k : ℕ) (os : List Obj) → AllByRecursion P os → AllByRecursion P (claimed (all_to k os))
  all_to_all k os p = subst (AllByRecursion P) (sym (claimed-all_to k os)) p

  -- the objects carried out of a car, and those lost, are of that car
  pub claims_all : (ws : List MoveRequest) (left : List Obj) → AllByRecursion P left → AllByRecursion P (claimed (claims ws left).taken) × AllByRecursion P (claims ws left).left
  claims_all [] left p = (tt, p)
  claims_all (w ∷ ws) left p =
      let t = claim w.who left in
      let c = claims ws t.left in
      let q = claim_all w.who left p in
      let r = claims_all ws t.left q.1 in
      (claimed_all_++ (all_to w.rank t.taken) c.taken (all_to_all w.rank t.taken q.0) r.0, r.1)

  pub claimed_all_take : (n : ℕ) (row : List Claim) → AllByRecursion P (claimed row) → AllByRecursion P (claimed (take n row))
  claimed_all_take n row p = subst (AllByRecursion P) (take-map (λ (c : Claim). c.object) n row) (all_take P n (claimed row) p)

  pub place_train_all : (n : ℕ) (o : Obj) (t : Train) → AllByRecursion P (train_objects t) → P o → AllByRecursion P (train_objects (place n o t))
  place_train_all n o [] p q = (q, tt)
  place_train_all n o (c ∷ []) p q = go (fits c o)
    where
      go : (b : Bool) → AllByRecursion P (train_objects (cond b (with_object o c ∷ []) (c ∷ opened n o ∷ [])))
      go true = all_++ P (c.objects ++ (o ∷ [])) [] (all_++ P c.objects (o ∷ []) (all_left P c.objects [] p) (q, tt)) tt
      go false = all_++ P c.objects (o ∷ []) (all_left P c.objects [] p) (q, tt)
  place_train_all n o (c ∷ d ∷ cs) p q =
      all_++ P c.objects (train_objects (place n o (d ∷ cs)))
      (all_left P c.objects (train_objects (d ∷ cs)) p)
      (place_train_all n o (d ∷ cs) (all_right P c.objects (train_objects (d ∷ cs)) p) q)

  pub place_at_all : (k n : ℕ) (o : Obj) (ts : Trains) → AllByRecursion P (objects ts) → P o → AllByRecursion P (objects (place_at k n o ts))
  place_at_all k n o [] p q = (q, tt)
  place_at_all zero n o (t ∷ ts) p q =
      all_++ P (train_objects (place n o t)) (objects ts)
      (place_train_all n o t (all_left P (train_objects t) (objects ts) p) q)
      (all_right P (train_objects t) (objects ts) p)
  place_at_all (suc k) n o (t ∷ ts) p q =
      all_++ P (train_objects t) (objects (place_at k n o ts))
      (all_left P (train_objects t) (objects ts) p)
      (place_at_all k n o ts (all_right P (train_objects t) (objects ts) p) q)

  pub place_all_all : (busy : List ℕ) (row : List Claim) (ts : Trains) → AllByRecursion P (objects ts) → AllByRecursion P (claimed row) → AllByRecursion P (objects (place_all busy row ts))
  place_all_all busy [] ts p q = p
  place_all_all busy (c ∷ row) ts p q =
      let n = lowest_free (busy ++ numbers ts) in
      place_all_all busy row (place_at c.rank n c.object ts) (place_at_all c.rank n c.object ts p q.0) q.1
