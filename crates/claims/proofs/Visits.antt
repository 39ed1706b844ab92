-- One word that holds an object or none: what it claims, by words and by identities.
use Rattle.std.proofs.Common.{◌≡◌, ℕ, ◌+◌, ◌*◌, ◌/◌, ◌%◌, ◌<◌, ◌≤◌, true, false, not, eqb, List, [], ◌∷◌, ◌++◌, length, Some, None, Option, sym, refl, subst, ap, ◌∙◌, arith, append-nil, sum_by, lt-ltb}
use Rattle.std.proofs.lemmas.Bool.{ne_eqb, eq-eqb}
use Rattle.std.proofs.lemmas.List.{map-append}
use Rattle.std.proofs.lemmas.List.Sums.{count_by-le-length}
use native.Mathlib.Decide.{ℕ_discrete}
use Rattle.std.specs.List.{AllByRecursion, Contains}
use Rattle.layout.specs.declared.Shape.{Shape}
use Rattle.layout.specs.ShapeTable.{ShapeTable, Lawful}
use Rattle.model.specs.Trains.{Obj, Car, times, among}
use Rattle.model.specs.Claims.{Claim as ObjectClaim, Taken, take_out, all_to}
use Rattle.model.specs.Step.{claimed}
use Rattle.model.proofs.Totals.{take_out-total, is, sums}
use Rattle.model.proofs.Alls.{all_++}
use Rattle.objects.specs.Lies.{CarStands, HoldsItsOwn, word_of}
use Rattle.claims.specs.declared.Claim.{Claim}
use Rattle.claims.specs.Words.{to_train, is_claimed, visited}
use Rattle.claims.specs.Claimed.{place_of, Claimed}
use Rattle.claims.proofs.Standing.{few_objects, once_from}
use Rattle.claims.proofs.Outcomes.{stays_out, stays, goes, outcome, contains_filter, left_less}
use Rattle.claims.proofs.Places.{is_claimed_if, is_claimed_not, spot}
use Rattle.claims.proofs.Claimed.{claimed_same, count_all}

-- a word of another car, or one whose place is claimed, claims nothing
far : (car k w : ℕ) (order : List Claim) → (w / 128 ≡ car → ⊥) → visited car k w order ≡ order
far car k w order ne = let b = ne_eqb (w / 128) car ne in grind (arith, b)

old : (car k w : ℕ) (order : List Claim) → is_claimed (w % 128) order ≡ true → visited car k w order ≡ order
old car k w order h = grind (arith, h)

new : (car k w p : ℕ) (order : List Claim) → w / 128 ≡ car → w % 128 ≡ p → is_claimed p order ≡ false → length order < 64
    → visited car k w order ≡ order ++ (to_train k p ∷ [])
new car k w p order e r h lt = let b = eq-eqb (w / 128) car e in let l = lt-ltb (length order) 64 lt in grind (arith, b, h, l, r)

-- what a word that holds an object or none takes out of the objects left, without what follows
abbrev pub take_held : Option ℕ → List Obj → Taken Obj
take_held None left = record { taken = []; left = left }
take_held (Some x) left = take_out x left

claimed_snoc : (taken : List ObjectClaim) (c : ObjectClaim) → claimed (taken ++ (c ∷ [])) ≡ claimed taken ++ c.object ∷ []
claimed_snoc taken c = map-append (λ (d : ObjectClaim). d.object) taken (c ∷ [])

abbrev pub object_claim : (rank : ℕ) → Obj → ObjectClaim
object_claim k o = record { object = o; rank = k }

-- an object left is claimed
add : {at : ℕ → ℕ} {f : Car} (k : ℕ) (taken : List ObjectClaim) (left : List Obj) (order : List Claim) (x : ℕ) (o : Obj) → Claimed at f taken left order
    → x ≡ o.id → Contains f.objects o → (take_out x left).taken ≡ o ∷ []
    → Claimed at f (taken ++ object_claim k o ∷ []) (take_out x left).left (order ++ (to_train k (place_of at f o) ∷ []))
add {at} {f} k taken left order x o c e i t =
    let q = claimed_snoc taken (object_claim k o) in
    record {
      order_is = grind (arith, c.order_is, map-append);
      left_is = grind (arith, c.left_is, q, left_less x (claimed taken) o e f.objects);
      of_car = subst (AllByRecursion (λ p. Contains f.objects p)) (sym q) (all_++ (λ p. Contains f.objects p) (claimed taken) (o ∷ []) c.of_car (i, tt));
      sums = λ g. omega (arith, c.sums g, take_out-total g x left, ap (sum_by g) q, ap (sum_by g) t, sums);
    }

module _ (M : ShapeTable) (code : Shape → ℕ) (at : ℕ → ℕ) (words : List ℕ) (f : Car) (s : CarStands M code at words f)
    (own : HoldsItsOwn at f) (lawful : Lawful M) (k : ℕ) where
  -- an object that is not left is claimed already, or lies in another car
  gone : (taken : List ObjectClaim) (left : List Obj) (order : List Claim) → Claimed at f taken left order → (x : ℕ) → times x left ≡ 0
      → visited f.number k (at x) order ≡ order
  gone taken left order c x z = elim (ℕ_discrete (at x / 128) f.number) [
    | yes e ↦
        let n : 1 ≤ times x (claimed taken) = omega (arith, own x e, c.sums (is x), z) in
        old f.number k (at x) order (subst (λ os. is_claimed (at x % 128) os ≡ true) (sym c.order_is) (is_claimed_if at f x e taken n))
    | no ne ↦ far f.number k (at x) order ne
  ]

  pub visit : (taken : List ObjectClaim) (left : List Obj) (order : List Claim) → Claimed at f taken left order → (h : Option ℕ)
      → Claimed at f (taken ++ all_to k (take_held h left).taken) (take_held h left).left (visited f.number k (word_of at h) order)
  visit taken left order c None =
      claimed_same c (sym (append-nil taken)) refl (sym (far f.number k 8192 order (λ e. omega (arith, e, s.number))))
  visit taken left order c (Some x) =
      let once : times x (claimed taken) + times x left ≤ 1 = omega (arith, c.sums (is x), once_from at (128 * f.number) x f.objects s.placed) in
      elim (outcome x left (omega (arith, once))) [
        | stays z ↦
            let t = stays_out x left z in
            claimed_same c (sym (append-nil taken) ∙ ap (λ os. taken ++ all_to k os) (sym t.none)) (sym t.all) (sym (gone taken left order c x z))
        | goes o e i n t ↦
            let in_car : Contains f.objects o = contains_filter (λ p. not (among p.id (claimed taken))) f.objects o (subst (λ os. Contains os o) c.left_is i) in
            let p = spot M code at words f s o in_car in
            let a : at x ≡ at o.id = ap at e in
            let free : times o.id (claimed taken) ≡ 0 = omega (arith, once, n, ap (λ y. times y (claimed taken)) e) in
            let unclaimed : is_claimed (place_of at f o) order ≡ false =
            subst (λ os. is_claimed (place_of at f o) os ≡ false) (sym c.order_is) (is_claimed_not M code at words f s o in_car taken c.of_car free) in
            let some : 1 ≤ length left = omega (arith, n, count_by-le-length (λ p. eqb x p.id) left) in
            claimed_same (add k taken left order x o c e in_car t) (ap (λ os. taken ++ all_to k os) (sym t)) refl
            (sym (new f.number k (at x) (place_of at f o) order (omega (arith, a, p.0, p.1)) (omega (arith, a, p.0, p.1)) unclaimed
            (omega (arith, count_all c, few_objects M code at words lawful f s, some))))
      ]
