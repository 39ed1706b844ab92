-- Numbers added up over objects: carrying and placing lose nothing and make nothing.
use Rattle.std.proofs.Common.{◌∙◌, ◌≡◌, ℕ, zero, suc, ◌+◌, Bool, true, false, eqb, List, [], ◌∷◌, ◌++◌, length, Some, None, Option, refl, arith, cond, not, sum_by, ap}
use Rattle.std.proofs.lemmas.List.Sums.{sum_by-append, sum_by-cons}
use Rattle.std.proofs.lemmas.List.{map-append}
use Rattle.model.specs.Trains.{Obj, Train, Trains, train_objects, objects, place, place_at, fits, with_object, opened, numbers, lowest_free}
use Rattle.model.specs.Claims.{Taken, take_out, in_front, scan, cheney, claim, MoveRequest, Claim, all_to, claims}
use Rattle.model.specs.Step.{claimed, place_all, trim}

-- a sum over a list made of others
pub ruleset sums = (sum_by-cons, sum_by-append)

abbrev pub one_if : Bool → ℕ
one_if b = cond b 1 0

-- what `times` counts of an object
abbrev pub is : ℕ → Obj → ℕ
is x o = one_if (eqb x o.id)

pub claimed-all_to : (k : ℕ) (os : List Obj) → claimed (all_to k os) ≡ os
claimed-all_to k [] = refl
claimed-all_to k (o ∷ os) = ap (λ ps. o ∷ ps) (claimed-all_to k os)

-- the objects claimed for one request, then those for the others
pub claimed_row : (k : ℕ) (os : List Obj) (row : List Claim) → claimed (all_to k os ++ row) ≡ os ++ claimed row
claimed_row k os row = map-append (λ (c : Claim). c.object) (all_to k os) row ∙ ap (λ ps. ps ++ claimed row) (claimed-all_to k os)

module _ (f : Obj → ℕ) where
  -- what was taken and what is left
  abbrev pub both : Taken Obj → ℕ
  both t = sum_by f t.taken + sum_by f t.left

  pub take_out-total : (x : ℕ) (os : List Obj) → both (take_out x os) ≡ sum_by f os
  take_out-total x [] = refl
  take_out-total x (o ∷ os) = go (eqb x o.id) (take_out-total x os)
    where
      go : (b : Bool) → both (take_out x os) ≡ sum_by f os
          → sum_by f (cond b (o ∷ (take_out x os).taken) (take_out x os).taken) + sum_by f (cond (not b) (o ∷ (take_out x os).left) (take_out x os).left) ≡ sum_by f (o ∷ os)
      go true h = omega (arith, sums, h)
      go false h = omega (arith, sums, h)

  then_total : (os : List Obj) (t : Taken Obj) → both (in_front os t) ≡ sum_by f os + both t
  then_total os t = omega (arith, sums)

  pub scan-total : (rs : List (Option ℕ)) (left : List Obj) → both (scan rs left) ≡ sum_by f left
  scan-total [] left = omega arith
  scan-total (None ∷ rs) left = scan-total rs left
  scan-total (Some x ∷ rs) left =
      let t = take_out x left in
      omega (arith, then_total t.taken (scan rs t.left), scan-total rs t.left, take_out-total x left)

  pub cheney-total : (n : ℕ) (q left : List Obj) → both (cheney n q left) ≡ sum_by f left
  cheney-total zero q left = omega arith
  cheney-total (suc n) [] left = omega arith
  cheney-total (suc n) (o ∷ q) left =
      let t = scan o.body.refs left in
      omega (arith, then_total t.taken (cheney n (q ++ t.taken) t.left), cheney-total n (q ++ t.taken) t.left, scan-total o.body.refs left)

  pub claim-total : (x : ℕ) (left : List Obj) → both (claim x left) ≡ sum_by f left
  claim-total x left =
      let t = take_out x left in
      omega (arith, then_total t.taken (cheney (length left) t.taken t.left), cheney-total (length left) t.taken t.left, take_out-total x left)

  pub claimed-++ : (xs ys : List Claim) → sum_by f (claimed (xs ++ ys)) ≡ sum_by f (claimed xs) + sum_by f (claimed ys)
  claimed-++ xs ys = ap (sum_by f) (map-append (λ (c : Claim). c.object) xs ys) ∙ sum_by-append f (claimed xs) (claimed ys)

  pub all_to-total : (k : ℕ) (os : List Obj) → sum_by f (claimed (all_to k os)) ≡ sum_by f os
  all_to-total k os = ap (sum_by f) (claimed-all_to k os)

  -- each object of the car is claimed or left
  pub claims-total : (ws : List MoveRequest) (left : List Obj) → sum_by f (claimed (claims ws left).taken) + sum_by f (claims ws left).left ≡ sum_by f left
  claims-total [] left = omega arith
  claims-total (w ∷ ws) left =
      let t = claim w.who left in
      let c = claims ws t.left in
      omega (arith, claimed-++ (all_to w.rank t.taken) c.taken, all_to-total w.rank t.taken, claims-total ws t.left, claim-total w.who left)

  pub place-total : (n : ℕ) (o : Obj) (t : Train) → sum_by f (train_objects (place n o t)) ≡ sum_by f (train_objects t) + f o
  place-total n o [] = omega arith
  place-total n o (c ∷ []) = go (fits c o)
    where
      go : (b : Bool) → sum_by f (train_objects (cond b (with_object o c ∷ []) (c ∷ opened n o ∷ []))) ≡ sum_by f (train_objects (c ∷ [])) + f o
      go true = omega (arith, sums)
      go false = omega (arith, sums)
  place-total n o (c ∷ d ∷ cs) =
      omega (arith, sums, place-total n o (d ∷ cs))

  pub place_at-total : (k n : ℕ) (o : Obj) (ts : Trains) → sum_by f (objects (place_at k n o ts)) ≡ sum_by f (objects ts) + f o
  place_at-total k n o [] = omega arith
  place_at-total zero n o (t ∷ ts) = omega (arith, sums, place-total n o t)
  place_at-total (suc k) n o (t ∷ ts) = omega (arith, sums, place_at-total k n o ts)

  pub place_all-total : (busy : List ℕ) (row : List Claim) (ts : Trains) → sum_by f (objects (place_all busy row ts)) ≡ sum_by f (objects ts) + sum_by f (claimed row)
  place_all-total busy [] ts = omega arith
  place_all-total busy (c ∷ row) ts =
      let n = lowest_free (busy ++ numbers ts) in
      omega (arith, sums, place_all-total busy row (place_at c.rank n c.object ts), place_at-total c.rank n c.object ts)

pub trim-objects : (ts : Trains) → objects (trim ts) ≡ objects ts
trim-objects [] = refl
trim-objects ([] ∷ ts) = refl
trim-objects ((c ∷ cs) ∷ ts) = refl
