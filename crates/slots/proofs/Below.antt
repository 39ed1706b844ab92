-- The part of rising addresses that lies below one of them.
use Rattle.std.proofs.Common.{◌≡◌, ℕ, ◌+◌, ◌<◌, ◌≤◌, Bool, true, false, cond, ltb, List, [], ◌∷◌, ◌++◌, filter, refl, ap, ◌∙◌, arith, inl, inr, sym}
use Rattle.std.proofs.lemmas.Bool.{cases_eq, cases_lt, both_ways, eq-eqb, ne_eqb, lt-ltb, le-ltb}
use Rattle.model.specs.Trains.{one_of}
use Rattle.model.proofs.Overlooked.{Rises}
use Rattle.slots.proofs.Walking.{rises_below}

abbrev pub below : ℕ → List ℕ → List ℕ
below limit xs = filter (λ a. ltb a limit) xs

pub below_none : (limit low high : ℕ) (xs : List ℕ) → limit ≤ low → Rises low high xs → below limit xs ≡ []
below_none limit low high [] le r = refl
below_none limit low high (x ∷ xs) le r = grind (arith, le-ltb x limit (omega (arith, r.0)), below_none limit (x + 1) high xs (omega (arith, r.0)) r.1)

-- none of the addresses is left
pub below_done : (from : ℕ) (xs : List ℕ) → ((x : ℕ) → from ≤ x → one_of x xs ≡ true → ⊥) → below from xs ≡ xs
below_done from [] none = refl
below_done from (y ∷ ys) none =
    let rest = below_done from ys (λ x l h. none x l (grind (arith, h))) in
    elim (cases_lt y from) [ inl lt ↦ grind (arith, rest, lt-ltb) | inr ge ↦ absurd (none y ge (grind (arith, eq-eqb y y refl))) ]

-- none of the addresses lies between
pub below_same : (from to : ℕ) (xs : List ℕ) → from ≤ to → ((x : ℕ) → from ≤ x → x < to → one_of x xs ≡ true → ⊥) → below to xs ≡ below from xs
below_same from to [] le none = refl
below_same from to (y ∷ ys) le none =
    let rest = below_same from to ys le (λ x l m h. none x l m (grind (arith, h))) in
    elim (cases_lt y from) [
      | inl lt ↦ grind (arith, rest, lt-ltb)
      | inr ge ↦ elim (cases_lt y to) [ inl lt ↦ absurd (none y ge lt (grind (arith, eq-eqb y y refl))) | inr far ↦ grind (arith, rest, le-ltb) ]
    ]

-- the address is one of them
below_next : (a low high : ℕ) (xs : List ℕ) → Rises low high xs → one_of a xs ≡ true → below (a + 1) xs ≡ below a xs ++ (a ∷ [])
below_next a low high [] r h = absurd (both_ways false refl h)
below_next a low high (x ∷ xs) r h = elim (cases_eq a x) [
  | inl e ↦
      let one : below (a + 1) xs ≡ [] = below_none (a + 1) (x + 1) high xs (omega arith) r.1 in
      let two : below a xs ≡ [] = below_none a (x + 1) high xs (omega arith) r.1 in
      let yes : ltb x (a + 1) ≡ true = lt-ltb x (a + 1) (omega arith) in
      let no : ltb x a ≡ false = le-ltb x a (omega arith) in
      grind (arith, one, two, yes, no)
  | inr ne ↦
      let later : one_of a xs ≡ true = grind (arith, h, ne_eqb a x ne) in
      let far : x + 1 ≤ a = elim (cases_lt a (x + 1)) [ inl lt ↦ absurd (both_ways (one_of a xs) (rises_below (x + 1) high a xs r.1 lt) later) | inr ge ↦ ge ] in
      let yes : ltb x (a + 1) ≡ true = lt-ltb x (a + 1) (omega (arith, far)) in
      let also : ltb x a ≡ true = lt-ltb x a (omega (arith, far)) in
      grind (arith, yes, also, below_next a (x + 1) high xs r.1 later)
]

-- none of the addresses lies between, and the next of them is one or is not
pub below_step : (from a low high : ℕ) (xs : List ℕ) (here : Bool) → Rises low high xs → from ≤ a → ((x : ℕ) → from ≤ x → x < a → one_of x xs ≡ true → ⊥)
    → here ≡ one_of a xs → below (a + 1) xs ≡ below from xs ++ cond here (a ∷ []) []
below_step from a low high xs true r le none e = below_next a low high xs r (sym e) ∙ ap (λ ys. ys ++ (a ∷ [])) (below_same from a xs le none)
below_step from a low high xs false r le none e =
    below_same from (a + 1) xs (omega (arith, le)) (λ x l m h. elim (cases_eq x a) [
      | inl q ↦ both_ways (one_of a xs) (sym e) (ap (λ z. one_of z xs) (sym q) ∙ h)
      | inr ne ↦ none x l (omega (arith, m, ne)) h
    ]) ∙ sym (nil (below from xs))
  where
    nil : (ys : List ℕ) → ys ++ [] ≡ ys
    nil [] = refl
    nil (y ∷ ys) = ap (λ zs. y ∷ zs) (nil ys)
