-- What the roots claim of all objects is what they reach, each object once.
use Rattle.std.proofs.Common.{◌≡◌, ℕ, zero, suc, ◌+◌, ◌≤◌, Bool, true, false, cond, eqb, List, [], ◌∷◌, ◌++◌, length, get_or, Some, None, Option, refl, sym, ap, ◌∙◌, subst, arith, inl, inr}
use Rattle.std.proofs.lemmas.Bool.{eqb-true, eq-eqb, ne_eqb, or_left, or_right, or_cases, both_ways, false_from_ne_true}
use Rattle.std.specs.List.{AllByRecursion, IsDistinct}
use Rattle.std.specs.Prelude.{map}
use Rattle.layout.specs.ShapeTable.{ShapeTable, Lawful}
use Rattle.model.specs.Calls.{History}
use Rattle.model.specs.Bodies.{Body}
use Rattle.model.specs.Trains.{Obj, times, one_of, inside}
use Rattle.model.specs.Claims.{Taken, take_out, scan, cheney, claim, MoveRequest, Claim, claims, ref_requests}
use Rattle.model.specs.Step.{claimed}
use Rattle.model.specs.Space.{Model, all_objects, space_of}
use Rattle.model.specs.Sound.{Points, Sound}
use Rattle.model.specs.Reach.{by_root, by_ref, SpaceReaches}
use Rattle.model.specs.Laws.{ListsReachable}
use Rattle.model.proofs.Totals.{is, one_if, sums, claims-total, claimed_row}
use Rattle.model.proofs.Alls.{all_++, all_with, scan_all, take_out_all, claim_all, claims_all}
use Rattle.model.proofs.Distinct.{distinct_nil, distinct_cons}
use Rattle.model.proofs.Closure.{claims_none, claims_done, ref_each, Done}
use Rattle.model.proofs.Keeps.{inside_body, sound_of}

-- What is claimed was asked for by a request or by what is claimed.
module _ (R : ℕ → Type 0) where
  abbrev IsOf : Obj → Type 0
  IsOf o = R o.id

  -- if the object is of R, so is what its references hold
  abbrev Passes : Obj → Type 0
  Passes o = R o.id → Points R o

  take_out_of : (x : ℕ) → R x → (os : List Obj) → AllByRecursion IsOf (take_out x os).taken
  take_out_of x r [] = tt
  take_out_of x r (o ∷ os) = go (eqb x o.id) refl (take_out_of x r os)
    where
      go : (b : Bool) → eqb x o.id ≡ b → AllByRecursion IsOf (take_out x os).taken → AllByRecursion IsOf (cond b (o ∷ (take_out x os).taken) (take_out x os).taken)
      go true e more = (subst R (eqb-true x o.id e) r, more)
      go false e more = more

  scan_of : (rs : List (Option ℕ)) (left : List Obj) → ((i y : ℕ) → get_or rs i None ≡ Some y → R y) → AllByRecursion IsOf (scan rs left).taken
  scan_of [] left h = tt
  scan_of (None ∷ rs) left h = scan_of rs left (λ i. h (suc i))
  scan_of (Some x ∷ rs) left h =
      let t = take_out x left in
      all_++ IsOf t.taken (scan rs t.left).taken (take_out_of x (h 0 x refl) left) (scan_of rs t.left (λ i. h (suc i)))

  cheney_of : (n : ℕ) (q left : List Obj) → AllByRecursion IsOf q → AllByRecursion Passes q → AllByRecursion Passes left → AllByRecursion IsOf (cheney n q left).taken
  cheney_of zero q left a p l = tt
  cheney_of (suc n) [] left a p l = tt
  cheney_of (suc n) (o ∷ q) left a p l =
      let t = scan o.body.refs left in
      let b = scan_all Passes o.body.refs left l in
      let here = scan_of o.body.refs left (p.0 a.0) in
      all_++ IsOf t.taken (cheney n (q ++ t.taken) t.left).taken here
      (cheney_of n (q ++ t.taken) t.left (all_++ IsOf q t.taken a.1 here) (all_++ Passes q t.taken p.1 b.0) b.1)

  claim_of : (x : ℕ) → R x → (left : List Obj) → AllByRecursion Passes left → AllByRecursion IsOf (claim x left).taken
  claim_of x r left l =
      let t = take_out x left in
      let b = take_out_all Passes x left l in
      let here = take_out_of x r left in
      all_++ IsOf t.taken (cheney (length left) t.taken t.left).taken here (cheney_of (length left) t.taken t.left here b.0 b.1)

  claims_of : (ws : List MoveRequest) (left : List Obj) → AllByRecursion (λ w. R w.who) ws → AllByRecursion Passes left → AllByRecursion IsOf (claimed (claims ws left).taken)
  claims_of [] left a l = tt
  claims_of (w ∷ ws) left a l =
      let t = claim w.who left in
      subst (AllByRecursion IsOf) (sym (claimed_row w.rank t.taken (claims ws t.left).taken))
      (all_++ IsOf t.taken (claimed (claims ws t.left).taken) (claim_of w.who a.0 left l) (claims_of ws t.left a.1 (claim_all Passes w.who left l).1))

  requests_of : (k : ℕ) (rs : List (Option ℕ)) → ((i y : ℕ) → get_or rs i None ≡ Some y → R y) → AllByRecursion (λ w. R w.who) (ref_requests k rs)
  requests_of k [] h = tt
  requests_of k (None ∷ rs) h = requests_of k rs (λ i. h (suc i))
  requests_of k (Some x ∷ rs) h = (h 0 x refl, requests_of k rs (λ i. h (suc i)))

-- Identities of objects.

abbrev ids : List Obj → List ℕ
ids os = map (λ o. o.id) os

listed : (x : ℕ) (os : List Obj) → 1 ≤ times x os → one_of x (ids os) ≡ true
listed x [] h = absurd (omega (arith, h))
listed x (o ∷ os) h = go (eqb x o.id) refl (listed x os)
  where
    go : (b : Bool) → eqb x o.id ≡ b → (1 ≤ times x os → one_of x (ids os) ≡ true) → one_of x (ids (o ∷ os)) ≡ true
    go true e more = or_left (eqb x o.id) (one_of x (ids os)) e
    go false e more = let z : is x o ≡ 0 = ap one_if e in or_right (eqb x o.id) (one_of x (ids os)) (more (omega (arith, sums, h, z)))

-- an identity listed is an object's, of which holds what holds of each
listed_of : (P : Obj → Type 0) (x : ℕ) (os : List Obj) → one_of x (ids os) ≡ true → AllByRecursion P os → (o : Obj) × (o.id ≡ x) × P o
listed_of P x [] e a = absurd (both_ways false refl e)
listed_of P x (o ∷ os) e a = elim (or_cases (eqb x o.id) (one_of x (ids os)) e) [
  | inl q ↦ (o, sym (eqb-true x o.id q), a.0)
  | inr q ↦ listed_of P x os q a.1
]

listed_times : (x : ℕ) (os : List Obj) → one_of x (ids os) ≡ true → 1 ≤ times x os
listed_times x [] e = absurd (both_ways false refl e)
listed_times x (o ∷ os) e = elim (or_cases (eqb x o.id) (one_of x (ids os)) e) [
  | inl q ↦ (let z : is x o ≡ 1 = ap one_if q in omega (arith, sums, z))
  | inr q ↦ omega (arith, sums, listed_times x os q)
]

distinct_ids : (os : List Obj) → ((x : ℕ) → times x os ≤ 1) → IsDistinct eqb (ids os)
distinct_ids [] h = distinct_nil
distinct_ids (o ∷ os) h =
    let self : is o.id o ≡ 1 = ap one_if (eq-eqb o.id o.id refl) in
    distinct_cons o.id (ids os)
    (false_from_ne_true (one_of o.id (ids os)) (λ e. omega (arith, sums, listed_times o.id os e, h o.id, self)))
    (distinct_ids os (λ x. omega (arith, sums, h x)))

-- where no identity comes twice, each object is the one that is found by its identity
abbrev Found : List Obj → Obj → Type 0
Found os o = inside os o.id ≡ Some o.body

found_behind : (o : Obj) (os ps : List Obj) → times o.id os ≡ 0 → AllByRecursion (Found os) ps → AllByRecursion (λ p. (p.id ≡ o.id → ⊥)) ps → AllByRecursion (Found (o ∷ os)) ps
found_behind o os [] z a n = tt
found_behind o os (p ∷ ps) z a n = (
  rw (ne_eqb p.id o.id n.0) a.0,
  found_behind o os ps z a.1 n.1,
)

others : (x : ℕ) (os : List Obj) → times x os ≡ 0 → AllByRecursion (λ o. (o.id ≡ x → ⊥)) os
others x [] z = tt
others x (o ∷ os) z = ((λ e. let s : is x o ≡ 1 = ap one_if (eq-eqb x o.id (sym e)) in omega (arith, sums, s, z)), others x os (omega (arith, sums, z)))

found_each : (os : List Obj) → ((x : ℕ) → times x os ≤ 1) → AllByRecursion (Found os) os
found_each [] h = tt
found_each (o ∷ os) h =
    let self : is o.id o ≡ 1 = ap one_if (eq-eqb o.id o.id refl) in
    let z : times o.id os ≡ 0 = omega (arith, sums, h o.id, self) in
    (rw (eq-eqb o.id o.id refl) refl, found_behind o os os z (found_each os (λ x. omega (arith, sums, h x))) (others o.id os z))

some_same : {A : Type 0} {a b : A} → Some a ≡ Some b → a ≡ b
some_same e = cc

module _ (m : Model) (s : Sound m) where
  -- what the roots claim of all objects
  abbrev from_roots : Taken Claim
  from_roots = claims (ref_requests 0 m.roots) (all_objects m)

  whole : (x : ℕ) → times x (claimed from_roots.taken) + times x from_roots.left ≡ times x (all_objects m)
  whole x = claims-total (is x) (ref_requests 0 m.roots) (all_objects m)

  found : AllByRecursion (Found (all_objects m)) (claimed from_roots.taken)
  found = (claims_all (Found (all_objects m)) (ref_requests 0 m.roots) (all_objects m) (found_each (all_objects m) s.once)).0

  claimed_if_reached : (x : ℕ) → SpaceReaches m x → 1 ≤ times x (claimed from_roots.taken)
  claimed_if_reached x (by_root r e) =
      omega (arith, whole x, s.roots r x e, ref_each (λ w. times w.who from_roots.left ≡ 0) 0 m.roots (claims_none (ref_requests 0 m.roots) (all_objects m)) r x e)
  claimed_if_reached x (by_ref {x = y} i b p f e) =
      let both = all_with (Found (all_objects m)) (Done from_roots.left) (λ o. Found (all_objects m) o × Done from_roots.left o) (λ o a c. (a, c)) (claimed from_roots.taken)
      found (claims_done (ref_requests 0 m.roots) (all_objects m)) in
      let o = listed_of (λ o. Found (all_objects m) o × Done from_roots.left o) y (claimed from_roots.taken) (listed y (claimed from_roots.taken) (claimed_if_reached y p)) both in
      let same : o.0.body ≡ b = some_same (sym (subst (λ z. inside (all_objects m) z ≡ Some o.0.body) o.1 o.2.0) ∙ f) in
      let none : times x from_roots.left ≡ 0 = o.2.1 i x (ap (λ (c : Body). get_or c.refs i None) same ∙ e) in
      let there : 1 ≤ times x (all_objects m) = inside_body (λ c. (i y : ℕ) → get_or c.refs i None ≡ Some y → 1 ≤ times y (all_objects m)) (all_objects m) y b s.refs f i x e in
      omega (arith, whole x, none, there)

  passes_each : (os : List Obj) → AllByRecursion (Found (all_objects m)) os → AllByRecursion (Passes (SpaceReaches m)) os
  passes_each [] a = tt
  passes_each (o ∷ os) a = ((λ r i y e. by_ref i o.body r a.0 e), passes_each os a.1)

  reached_if_claimed : AllByRecursion (IsOf (SpaceReaches m)) (claimed from_roots.taken)
  reached_if_claimed =
      claims_of (SpaceReaches m) (ref_requests 0 m.roots) (all_objects m) (requests_of (SpaceReaches m) 0 m.roots (λ r x e. by_root r e))
      (passes_each (all_objects m) (found_each (all_objects m) s.once))

  listed_reachable : ListsReachable m (ids (claimed from_roots.taken))
  listed_reachable = record {
    once = distinct_ids (claimed from_roots.taken) (λ x. omega (arith, whole x, s.once x));
    all = λ x r. listed x (claimed from_roots.taken) (claimed_if_reached x r);
    only = λ x e.
        let o = listed_of (IsOf (SpaceReaches m)) x (claimed from_roots.taken) e reached_if_claimed in
        subst (SpaceReaches m) o.1 o.2;
  }

-- at every halt there is a list of the reachable objects, each once
pub reachable_listed : (M : ShapeTable) → Lawful M → (h : History) → (xs : List ℕ) × ListsReachable (space_of M h) xs
reachable_listed M law h =
    let m = space_of M h in
    let s = sound_of M law h in
    (ids (claimed (claims (ref_requests 0 m.roots) (all_objects m)).taken), listed_reachable m s)
