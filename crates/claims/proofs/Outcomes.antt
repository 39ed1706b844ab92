-- Taking one identity out of objects, where it lies at most once.
use Rattle.std.proofs.Common.{◌≡◌, ℕ, zero, suc, ◌<◌, ◌≤◌, Bool, true, false, not, ◌||◌, ◌==◌, eqb, ltb, cond, List, [], ◌∷◌, ◌++◌, sym, refl, subst, ap, ◌∙◌, arith, lt-ltb}
use Rattle.std.proofs.lemmas.Bool.{ne_eqb, eq-eqb}
use native.Mathlib.Decide.{ℕ_discrete}
use Rattle.std.specs.List.{Contains, filter}
use Rattle.model.specs.Trains.{Obj, times, among}
use Rattle.model.specs.Claims.{take_out}
use Rattle.model.proofs.Totals.{sums}
use Rattle.model.proofs.Closure.{is_self}
use Rattle.model.proofs.Keeps.{is_other}

-- an identity that lies in none of the objects takes out nothing
pub record Stays (x : ℕ) (left : List Obj) : Type 0 where
  pub none : (take_out x left).taken ≡ []
  pub all : (take_out x left).left ≡ left

pub stays_out : (x : ℕ) (os : List Obj) → times x os ≡ 0 → Stays x os
stays_out x [] z = record { none = refl; all = refl }
stays_out x (o ∷ os) z =
    let ne : x ≡ o.id → ⊥ = λ e. omega (arith, sums, z, is_self x o e) in
    let s = stays_out x os (omega (arith, sums, z)) in
    let b = ne_eqb x o.id ne in
    record { none = grind (arith, b, s.none); all = grind (arith, b, s.all) }

-- taking out an identity that lies there at most once
pub data Outcome (x : ℕ) (left : List Obj) : Type 0 where
  stays : times x left ≡ 0 → Outcome x left
  goes : (o : Obj) → x ≡ o.id → Contains left o → 1 ≤ times x left → (take_out x left).taken ≡ o ∷ [] → Outcome x left

later : {X : Type 0} (x y : X) (xs : List X) → Contains xs x → Contains (y ∷ xs) x
later x y xs (k, lt, e) = (suc k, omega arith, e)

pub outcome : (x : ℕ) (left : List Obj) → times x left ≤ 1 → Outcome x left
outcome x [] h = stays refl
outcome x (o ∷ os) h = elim (ℕ_discrete x o.id) [
  | yes e ↦
      let b = eq-eqb x o.id e in
      let s = stays_out x os (omega (arith, sums, h, is_self x o e)) in
      goes o e (0, omega arith, refl) (omega (arith, sums, is_self x o e)) (grind (arith, b, s.none))
  | no ne ↦
      let b = ne_eqb x o.id ne in
      let z = is_other x o ne in
      elim (outcome x os (omega (arith, sums, h))) [
        | stays n ↦ stays (omega (arith, sums, n, z))
        | goes p e c n t ↦ goes p e (later p o os c) (omega (arith, sums, n)) (grind (arith, b, t))
      ]
]

-- what passes a test is one of them
pub contains_filter : (test : Obj → Bool) (os : List Obj) (o : Obj) → Contains (filter test os) o → Contains os o
contains_filter test [] o c = c
contains_filter test (p ∷ os) o c = go (contains_filter test os o) (test p) refl c
  where
    go : (Contains (filter test os) o → Contains os o) → (b : Bool) → test p ≡ b → Contains (cond (test p) (p ∷ filter test os) (filter test os)) o → Contains (p ∷ os) o
    go h true e c' = head h (subst (λ v. Contains (cond v (p ∷ filter test os) (filter test os)) o) e c')
      where
        head : (Contains (filter test os) o → Contains os o) → Contains (p ∷ filter test os) o → Contains (p ∷ os) o
        head g (zero, lt, q) = (0, omega arith, q)
        head g (suc j, lt, q) = later o p os (g (j, omega arith, q))
    go h false e c' = later o p os (h (subst (λ v. Contains (cond v (p ∷ filter test os) (filter test os)) o) e c'))

turned_test : (x y z : ℕ) → x ≡ z → eqb x y ≡ eqb y z
turned_test x y z e = elim (ℕ_discrete y z) [
  | yes q ↦ eq-eqb x y (e ∙ sym q) ∙ sym (eq-eqb y z q)
  | no q ↦ ne_eqb x y (λ r. q (sym r ∙ e)) ∙ sym (ne_eqb y z q)
]

pub among_snoc : (y : ℕ) (ts : List Obj) (o : Obj) → among y (ts ++ o ∷ []) ≡ (among y ts || eqb y o.id)
among_snoc y ts o = elim (ℕ_discrete y o.id) [
  | yes e ↦
      let n : 0 < times y (ts ++ o ∷ []) = omega (arith, sums, is_self y o e) in
      let b = eq-eqb y o.id e in grind (arith, lt-ltb 0 (times y (ts ++ o ∷ [])) n, b)
  | no ne ↦
      let n : times y (ts ++ o ∷ []) ≡ times y ts = omega (arith, sums, is_other y o ne) in
      let b = ne_eqb y o.id ne in grind (arith, ap (ltb 0) n, b)
]

-- what is not claimed yet, with one more claimed
pub left_less : (x : ℕ) (ts : List Obj) (o : Obj) → x ≡ o.id → (os : List Obj)
    → filter (λ p. not (x == p.id)) (filter (λ p. not (among p.id ts)) os) ≡ filter (λ p. not (among p.id (ts ++ o ∷ []))) os
left_less x ts o e [] = refl
left_less x ts o e (p ∷ os) =
    go (filter (λ q. not (among q.id ts)) os) (filter (λ q. not (among q.id (ts ++ o ∷ []))) os) (left_less x ts o e os) (among p.id ts) refl (eqb p.id o.id) refl
  where
    go : (F R : List Obj) → filter (λ q. not (x == q.id)) F ≡ R → (b : Bool) → among p.id ts ≡ b → (c : Bool) → eqb p.id o.id ≡ c
        → filter (λ q. not (x == q.id)) (cond (not (among p.id ts)) (p ∷ F) F) ≡ cond (not (among p.id (ts ++ o ∷ []))) (p ∷ R) R
    go F R h b u c v = grind (arith, h, u, v, among_snoc p.id ts o, turned_test x p.id o.id e)
