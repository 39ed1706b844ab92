-- The slots of other trains stand in their order, and the first of them that passes a test is found in any order.
use Rattle.std.proofs.Common.{◌≡◌, ℕ, ◌+◌, ◌*◌, ◌/◌, ◌<◌, ◌≤◌, Bool, true, false, cond, ◌&&◌, ◌||◌, eqb, ltb, ◌⊎◌, List, [], ◌∷◌, ◌++◌, Some, None, Option, sym, refl, ap, ◌∙◌, subst, inl, inr, arith, filter}
use Rattle.std.proofs.lemmas.Bool.{both_ways, eq-eqb, eqb-true, ne_eqb, or_cases, or_left, or_right, lt-ltb, le-ltb}
use Rattle.std.specs.List.{AllByRecursion}
use Rattle.std.specs.Prelude.{find, option_map, IfSome}
use Rattle.model.specs.Notes.{Slot}
use Rattle.model.specs.Trains.{one_of}
use Rattle.model.proofs.Alls.{all_++, all_map}
use Rattle.model.proofs.Overlooked.{Rises, rises_within}
use Rattle.slots.specs.Order.{is_earlier, earliest}
use Rattle.slots.specs.Slots.{addresses}

-- the address of the first of the slots that passes a test
abbrev pub first_by : (Slot → Bool) → List Slot → Option ℕ
first_by p ss = option_map (λ s. s.address) (find p ss)

pub first_by-same : (p q : Slot → Bool) (ss : List Slot) → AllByRecursion (λ s. p s ≡ q s) ss → first_by p ss ≡ first_by q ss
first_by-same p q [] a = refl
first_by-same p q (s ∷ ss) a = go (q s) a.0 (first_by-same p q ss a.1)
  where
    go : (b : Bool) → p s ≡ b → first_by p ss ≡ first_by q ss
        → option_map (λ (s : Slot). s.address) (cond (p s) (Some s) (find p ss)) ≡ option_map (λ (s : Slot). s.address) (cond b (Some s) (find q ss))
    go true e more = ap (λ b. option_map (λ (s : Slot). s.address) (cond b (Some s) (find p ss))) e
    go false e more = ap (λ b. option_map (λ (s : Slot). s.address) (cond b (Some s) (find p ss))) e ∙ more

module _ (later : ℕ → ℕ → Bool) where
  -- the first comes before the second, and not the other way
  abbrev pub Before : (x y : ℕ) → Type 0
  Before x y = (is_earlier later x y ≡ true) × (is_earlier later y x ≡ false)

  -- each address comes before those behind it
  abbrev pub IsOrdered : List ℕ → Type 0
  IsOrdered [] = Unit {0}
  IsOrdered (x ∷ xs) = AllByRecursion (Before x) xs × IsOrdered xs

  pub first_found : (p : Slot → Bool) (ss : List Slot) (P : ℕ → Type 0) → AllByRecursion P (addresses ss) → IfSome (first_by p ss) P
  first_found p [] P a = tt
  first_found p (s ∷ ss) P a = go (p s) (first_found p ss P a.1)
    where
      go : (b : Bool) → IfSome (first_by p ss) P → IfSome (option_map (λ (s : Slot). s.address) (cond b (Some s) (find p ss))) P
      go true more = a.0
      go false more = more

  earliest_of : (o : Option ℕ) (a : ℕ) → IfSome o (Before a) → earliest later o a ≡ a
  earliest_of None a h = refl
  earliest_of (Some b) a h = ap (λ t. cond t a b) h.0

  same_not_earlier : (a : ℕ) → is_earlier later a a ≡ false
  same_not_earlier a = ap (λ t. cond t (ltb a a) (later (a / 128) (a / 128))) (eq-eqb (a / 128) (a / 128) refl) ∙ le-ltb a a (omega arith)

  at_one : (P : ℕ → Type 0) (x : ℕ) (xs : List ℕ) → AllByRecursion P xs → one_of x xs ≡ true → P x
  at_one P x [] a h = absurd (both_ways false refl h)
  at_one P x (y ∷ ys) a h = elim (or_cases (eqb x y) (one_of x ys) h) [
    | inl q ↦ subst P (sym (eqb-true x y q)) a.0
    | inr q ↦ at_one P x ys a.1 q
  ]

  picked_within : (q : Slot → Bool) (a : ℕ) (ss : List Slot) → one_of a (addresses (filter q ss)) ≡ true → one_of a (addresses ss) ≡ true
  picked_within q a [] h = h
  picked_within q a (s ∷ ss) h = go (λ k. picked_within q a ss k) (q s) h
    where
      go : (one_of a (addresses (filter q ss)) ≡ true → one_of a (addresses ss) ≡ true) → (b : Bool) → one_of a (addresses (cond b (s ∷ filter q ss) (filter q ss))) ≡ true
          → (eqb a s.address || one_of a (addresses ss)) ≡ true
      go more true k = elim (or_cases (eqb a s.address) (one_of a (addresses (filter q ss))) k) [
        | inl e ↦ or_left (eqb a s.address) (one_of a (addresses ss)) e
        | inr e ↦ or_right (eqb a s.address) (one_of a (addresses ss)) (more e)
      ]
      go more false k = or_right (eqb a s.address) (one_of a (addresses ss)) (more k)

  -- where an address more passes, the first is the earlier of it and the one before
  pub first_by-or : (p q : Slot → Bool) (a : ℕ) (ss : List Slot) → IsOrdered (addresses ss)
      → first_by (λ s. p s || (q s && eqb s.address a)) ss ≡ cond (one_of a (addresses (filter q ss))) (Some (earliest later (first_by p ss) a)) (first_by p ss)
  first_by-or p q a [] r = refl
  first_by-or p q a (s ∷ ss) r = go (p s) (q s) (eqb s.address a) refl (first_by-or p q a ss r.1)
    where
      both_same : (t : Bool) → a ≡ s.address → s.address ≡ cond t a s.address
      both_same true e = sym e
      both_same false e = refl

      within : (c : Bool) → one_of a (addresses (cond c (s ∷ filter q ss) (filter q ss))) ≡ true → (a ≡ s.address) ⊎ (one_of a (addresses ss) ≡ true)
      within true k = elim (or_cases (eqb a s.address) (one_of a (addresses (filter q ss))) k) [
        | inl e ↦ inl (eqb-true a s.address e)
        | inr e ↦ inr (picked_within q a ss e)
      ]
      within false k = inr (picked_within q a ss k)

      keep : (k : Bool) → (k ≡ true → (a ≡ s.address) ⊎ (is_earlier later a s.address ≡ false))
          → ◌≡◌ {A = Option ℕ} (Some s.address) (cond k (Some (cond (is_earlier later a s.address) a s.address)) (Some s.address))
      keep true f = elim (f refl) [
        | inl e ↦ ap (λ x. Some x) (both_same (is_earlier later a s.address) e)
        | inr e ↦ ap (λ t. Some (cond t a s.address)) (sym e)
      ]
      keep false f = refl

      go : (b c e : Bool) → eqb s.address a ≡ e
          → first_by (λ s. p s || (q s && eqb s.address a)) ss ≡ cond (one_of a (addresses (filter q ss))) (Some (earliest later (first_by p ss) a)) (first_by p ss)
          → option_map (λ (s : Slot). s.address) (cond (b || (c && e)) (Some s) (find (λ s. p s || (q s && eqb s.address a)) ss))
          ≡ cond (one_of a (addresses (cond c (s ∷ filter q ss) (filter q ss))))
          (Some (earliest later (option_map (λ (s : Slot). s.address) (cond b (Some s) (find p ss))) a)) (option_map (λ (s : Slot). s.address) (cond b (Some s) (find p ss)))
      go true c e i more = keep (one_of a (addresses (cond c (s ∷ filter q ss) (filter q ss)))) (λ k. elim (within c k) [
        | inl same ↦ inl same
        | inr rest ↦ inr (at_one (Before s.address) a (addresses ss) r.0 rest).1
      ])
      go false true true i more =
          let same : a ≡ s.address = sym (eqb-true s.address a i) in
          let before : IfSome (first_by p ss) (Before a) = subst (λ (x : ℕ). IfSome (first_by p ss) (Before x)) (sym same) (first_found p ss (Before s.address) r.0) in
          let here : (eqb a s.address || one_of a (addresses (filter q ss))) ≡ true = or_left (eqb a s.address) (one_of a (addresses (filter q ss))) (eq-eqb a s.address same) in
          ap (λ x. Some x) (sym same ∙ sym (earliest_of (first_by p ss) a before))
          ∙ ap (λ k. cond k (Some (earliest later (first_by p ss) a)) (first_by p ss)) (sym here)
      go false true false i more =
          let other : eqb a s.address ≡ false = ne_eqb a s.address (λ e. both_ways (eqb s.address a) i (eq-eqb s.address a (sym e))) in
          more ∙ ap (λ k. cond (k || one_of a (addresses (filter q ss))) (Some (earliest later (first_by p ss) a)) (first_by p ss)) (sym other)
      go false false e i more = more

-- The order of the slots of cars.

module _ (later : ℕ → ℕ → Bool) where
  earlier_within : (k x y : ℕ) → 128 * k ≤ x → x < y → y < 128 * k + 128 → Before later x y
  earlier_within k x y l m h =
      let e : x / 128 ≡ k = omega (arith, l, m, h) in
      let f : y / 128 ≡ k = omega (arith, l, m, h) in (
        ap (λ t. cond t (ltb x y) (later (y / 128) (x / 128))) (eq-eqb (x / 128) (y / 128) (e ∙ sym f)) ∙ lt-ltb x y m,
        ap (λ t. cond t (ltb y x) (later (x / 128) (y / 128))) (eq-eqb (y / 128) (x / 128) (f ∙ sym e)) ∙ le-ltb y x (omega (arith, m)),
      )

  pub earlier_across : (x y : ℕ) → later (y / 128) (x / 128) ≡ true → later (x / 128) (y / 128) ≡ false → Before later x y
  earlier_across x y up down =
      let differ : x / 128 ≡ y / 128 → ⊥ = λ e. both_ways (later (x / 128) (y / 128)) down (ap (λ m. later m (y / 128)) e ∙ (ap (λ m. later (y / 128) m) (sym e) ∙ up)) in (
        ap (λ t. cond t (ltb x y) (later (y / 128) (x / 128))) (ne_eqb (x / 128) (y / 128) differ) ∙ up,
        ap (λ t. cond t (ltb y x) (later (x / 128) (y / 128))) (ne_eqb (y / 128) (x / 128) (λ e. differ (sym e))) ∙ down,
      )

  pub rises_ordered : (k lo hi : ℕ) (xs : List ℕ) → 128 * k ≤ lo → hi ≤ 128 * k + 128 → Rises lo hi xs → IsOrdered later xs
  rises_ordered k lo hi [] l h r = tt
  rises_ordered k lo hi (x ∷ xs) l h r = (
    all_map (λ y. (x + 1 ≤ y) × (y < hi)) (Before later x) (λ y b. earlier_within k x y (omega (arith, l, r.0)) (omega (arith, b.0)) (omega (arith, b.1, h))) xs (rises_within (x + 1) hi xs r.1),
    rises_ordered k (x + 1) hi xs (omega (arith, l, r.0)) h r.1,
  )

  pub ordered-append : (xs ys : List ℕ) → IsOrdered later xs → IsOrdered later ys → AllByRecursion (λ x. AllByRecursion (Before later x) ys) xs → IsOrdered later (xs ++ ys)
  ordered-append [] ys p q a = q
  ordered-append (x ∷ xs) ys p q a = (all_++ (Before later x) xs ys p.0 a.0, ordered-append xs ys p.1 q a.1)
