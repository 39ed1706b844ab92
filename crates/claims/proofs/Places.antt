-- Whether the place of an object is claimed.
use Rattle.std.proofs.Common.{◌≡◌, ℕ, zero, suc, ◌+◌, ◌-◌, ◌*◌, ◌/◌, ◌%◌, ◌<◌, ◌≤◌, true, false, List, [], ◌∷◌, map, sym, refl, subst, ap, arith, lt-ltb}
use Rattle.std.proofs.lemmas.Bool.{ne_eqb, eq-eqb}
use native.Mathlib.Decide.{ℕ_discrete}
use Rattle.std.specs.List.{AllByRecursion, Contains}
use Rattle.layout.specs.declared.Shape.{Shape}
use Rattle.layout.specs.ShapeTable.{ShapeTable}
use Rattle.model.specs.Trains.{Obj, Car, times, among}
use Rattle.model.specs.Claims.{Claim as ObjectClaim}
use Rattle.model.specs.Step.{claimed}
use Rattle.model.proofs.Totals.{sums}
use Rattle.model.proofs.Closure.{is_self}
use Rattle.model.proofs.Keeps.{is_other}
use Rattle.objects.specs.Lies.{CarStands}
use Rattle.claims.specs.declared.Claim.{Claim}
use Rattle.claims.specs.Words.{is_claimed}
use Rattle.claims.specs.Claimed.{place_of, claim_of, Claimed}
use Rattle.claims.proofs.Standing.{standing, apart}

-- an address in the car whose identity is among those claimed
pub is_claimed_if : (at : ℕ → ℕ) (f : Car) (x : ℕ) → at x / 128 ≡ f.number → (taken : List ObjectClaim) → 1 ≤ times x (claimed taken)
    → is_claimed (at x % 128) (map (claim_of at f) taken) ≡ true
is_claimed_if at f x q [] h = absurd (omega (arith, h))
is_claimed_if at f x q (c ∷ cs) h = elim (ℕ_discrete x c.object.id) [
  | yes e ↦
      let a : at x ≡ at c.object.id = ap at e in
      let p : at x % 128 ≡ at c.object.id - 128 * f.number = omega (arith, a, q) in
      let b = eq-eqb _ _ p in grind (arith, b)
  | no ne ↦ grind (arith, is_claimed_if at f x q cs (omega (arith, sums, h, is_other x c.object ne)))
]

module _ (M : ShapeTable) (code : Shape → ℕ) (at : ℕ → ℕ) (words : List ℕ) (f : Car) (s : CarStands M code at words f) where
  pub is_claimed_not : (o : Obj) → Contains f.objects o → (taken : List ObjectClaim) → AllByRecursion (λ p. Contains f.objects p) (claimed taken)
      → times o.id (claimed taken) ≡ 0 → is_claimed (place_of at f o) (map (claim_of at f) taken) ≡ false
  is_claimed_not o i [] a z = refl
  is_claimed_not o i (c ∷ cs) a z =
      let ne : place_of at f o ≡ place_of at f c.object → ⊥ = λ e.
      let q : at o.id ≡ at c.object.id = omega (arith, e, (standing M code at words f s o i).low, (standing M code at words f s c.object a.0).low) in
      omega (arith, sums, z, is_self o.id c.object (apart M code at words f s o c.object i a.0 q)) in
      let b = ne_eqb _ _ ne in
      grind (arith, b, is_claimed_not o i cs a.1 (omega (arith, sums, z)))

  -- its address, by the car and the place
  pub spot : (o : Obj) → Contains f.objects o → (place_of at f o < 128) × (at o.id ≡ 128 * f.number + place_of at f o)
  spot o i =
      let t = standing M code at words f s o i in
      (omega (arith, t.low, t.high, s.within), omega (arith, t.low))

  -- the place of an object of the car is claimed where the object is
  pub is_claimed-among : (taken : List ObjectClaim) (left : List Obj) (order : List Claim) → Claimed at f taken left order
      → (o : Obj) → Contains f.objects o → is_claimed (place_of at f o) order ≡ among o.id (claimed taken)
  is_claimed-among taken left order c o i = subst (λ os. is_claimed (place_of at f o) os ≡ among o.id (claimed taken)) (sym c.order_is) (go (times o.id (claimed taken)) refl)
    where
      go : (n : ℕ) → times o.id (claimed taken) ≡ n → is_claimed (place_of at f o) (map (claim_of at f) taken) ≡ among o.id (claimed taken)
      go zero e = grind (arith, is_claimed_not o i taken c.of_car e, e)
      go (suc n) e =
          let p = spot o i in
          let q : at o.id / 128 ≡ f.number = omega (arith, p.0, p.1) in
          let r : at o.id % 128 ≡ place_of at f o = omega (arith, p.0, p.1) in
          let l : 0 < times o.id (claimed taken) = omega (arith, e) in
          grind (arith, is_claimed_if at f o.id q taken (omega (arith, e)), r, lt-ltb 0 (times o.id (claimed taken)) l)
