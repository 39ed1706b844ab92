-- Lists of numbers, each there once, and the lowest number that is not in a list.
use Rattle.std.proofs.Common.{◌≡◌, ℕ, zero, suc, ◌+◌, ◌-◌, ◌<◌, ◌≤◌, Bool, true, false, ◌||◌, eqb, ◌⊎◌, List, [], ◌∷◌, ◌++◌, length, sym, refl, ap, ◌∙◌, subst, inl, inr, arith, cond, get_or, sum_by}
use Rattle.std.proofs.lemmas.Bool.{both_ways, eqb-true, eqb-false, eq-eqb, ne_eqb, or_cases, or_from, or_left, or_right, cases_lt, or_parts}
use Rattle.std.specs.List.{range_with_len, prefix_len, AllByRecursion, IsDistinct}
use Rattle.std.proofs.lemmas.List.Sums.{prefix_len_stops, prefix_len_passes, sum_by-cons}
use Rattle.std.proofs.lemmas.List.FromFn.{length-range_with_len, get_or-range_with_len}
use Rattle.std.proofs.lemmas.Map.Keys.{IsDistinct-cons, IsDistinct-head, IsDistinct-tail}
use Rattle.std.proofs.lemmas.List.Folds.{list_any-append}
use Rattle.model.specs.Trains.{one_of, lowest_free}
use Rattle.model.proofs.Totals.{sums}

-- what holds of each number of a list holds of one of them
pub all_at : (P : ℕ → Type 0) (z : ℕ) (ns : List ℕ) → AllByRecursion P ns → one_of z ns ≡ true → P z
all_at P z [] p e = absurd (both_ways false refl e)
all_at P z (n ∷ ns) p e = elim (or_cases (eqb z n) (one_of z ns) e) [
  | inl q ↦ subst P (sym (eqb-true z n q)) p.0
  | inr q ↦ all_at P z ns p.1 q
]

differs : (n : ℕ) (ns : List ℕ) → one_of n ns ≡ false → AllByRecursion (λ m. eqb n m ≡ false) ns
differs n [] e = tt
differs n (m ∷ ns) e = let k = or_parts (eqb n m) (one_of n ns) e in (k.0, differs n ns k.1)

not_one_of : (n : ℕ) (ns : List ℕ) → AllByRecursion (λ m. eqb n m ≡ false) ns → one_of n ns ≡ false
not_one_of n [] p = refl
not_one_of n (m ∷ ns) p = or_from (eqb n m) (one_of n ns) p.0 (not_one_of n ns p.1)

pub distinct_nil : IsDistinct eqb []
unfolding IsDistinct
distinct_nil = tt

pub distinct_cons : (n : ℕ) (ns : List ℕ) → one_of n ns ≡ false → IsDistinct eqb ns → IsDistinct eqb (n ∷ ns)
distinct_cons n ns e d = IsDistinct-cons eqb n ns (differs n ns e) d

pub distinct_head : (n : ℕ) (ns : List ℕ) → IsDistinct eqb (n ∷ ns) → one_of n ns ≡ false
distinct_head n ns d = not_one_of n ns (IsDistinct-head eqb n ns d)

pub one_of_here : (x : ℕ) (xs : List ℕ) → one_of x (x ∷ xs) ≡ true
one_of_here x xs = or_left (eqb x x) (one_of x xs) (eq-eqb x x refl)

pub one_of_there : (x y : ℕ) (xs : List ℕ) → one_of x xs ≡ true → one_of x (y ∷ xs) ≡ true
one_of_there x y xs e = or_right (eqb x y) (one_of x xs) e

pub one_of_head : (x y : ℕ) (xs : List ℕ) → one_of x (y ∷ xs) ≡ true → (x ≡ y) ⊎ (one_of x xs ≡ true)
one_of_head x y xs e = elim (or_cases (eqb x y) (one_of x xs) e) [ inl p ↦ inl (eqb-true x y p) | inr p ↦ inr p ]

-- a number in the list and one that is not are different
pub one_of_apart : (x y : ℕ) (xs : List ℕ) → one_of x xs ≡ true → one_of y xs ≡ false → eqb x y ≡ false
one_of_apart x y xs p q = ne_eqb x y (λ e. both_ways (one_of y xs) q (subst (λ (z : ℕ). one_of z xs ≡ true) e p))

pub one_of_left : (x : ℕ) (xs ys : List ℕ) → one_of x xs ≡ true → one_of x (xs ++ ys) ≡ true
one_of_left x xs ys e = list_any-append (λ (m : ℕ). eqb x m) xs ys ∙ or_left (one_of x xs) (one_of x ys) e

pub one_of_right : (x : ℕ) (xs ys : List ℕ) → one_of x ys ≡ true → one_of x (xs ++ ys) ≡ true
one_of_right x xs ys e = list_any-append (λ (m : ℕ). eqb x m) xs ys ∙ or_right (one_of x xs) (one_of x ys) e

pub one_of_either : (x : ℕ) (xs ys : List ℕ) → one_of x (xs ++ ys) ≡ true → (one_of x xs ≡ true) ⊎ (one_of x ys ≡ true)
one_of_either x xs ys e = or_cases (one_of x xs) (one_of x ys) (sym (list_any-append (λ (m : ℕ). eqb x m) xs ys) ∙ e)

-- the list without the first x
abbrev pub without : ℕ → List ℕ → List ℕ
without x [] = []
without x (y ∷ ys) = cond (eqb x y) ys (y ∷ without x ys)

sum_without : (f : ℕ → ℕ) (x : ℕ) (ys : List ℕ) → one_of x ys ≡ true → sum_by f ys ≡ f x + sum_by f (without x ys)
sum_without f x [] e = absurd (both_ways false refl e)
sum_without f x (y ∷ ys) e = go (eqb x y) refl e (sum_without f x ys)
  where
    go : (b : Bool) → eqb x y ≡ b → (b || one_of x ys) ≡ true → (one_of x ys ≡ true → sum_by f ys ≡ f x + sum_by f (without x ys))
        → sum_by f (y ∷ ys) ≡ f x + sum_by f (cond b ys (y ∷ without x ys))
    go true p q more = sum_by-cons f y ys ∙ ap (λ (z : ℕ). f z + sum_by f ys) (sym (eqb-true x y p))
    go false p q more = omega (arith, sums, more q)

one_of-without : (z x : ℕ) (ys : List ℕ) → eqb z x ≡ false → one_of z ys ≡ true → one_of z (without x ys) ≡ true
one_of-without z x [] n e = e
one_of-without z x (y ∷ ys) n e = go (eqb x y) refl (one_of-without z x ys n)
  where
    go : (b : Bool) → eqb x y ≡ b → (one_of z ys ≡ true → one_of z (without x ys) ≡ true) → one_of z (cond b ys (y ∷ without x ys)) ≡ true
    go true p more =
        elim (or_cases (eqb z y) (one_of z ys) e) [
          | inl q ↦ absurd (eqb-false z x n (eqb-true z y q ∙ sym (eqb-true x y p)))
          | inr q ↦ q
        ]
    go false p more =
        elim (or_cases (eqb z y) (one_of z ys) e) [
          | inl q ↦ or_left (eqb z y) (one_of z (without x ys)) q
          | inr q ↦ or_right (eqb z y) (one_of z (without x ys)) (more q)
        ]

pub sum_within : (f : ℕ → ℕ) (xs ys : List ℕ) → IsDistinct eqb xs → ((x : ℕ) → one_of x xs ≡ true → one_of x ys ≡ true) → sum_by f xs ≤ sum_by f ys
sum_within f [] ys d h = omega arith
sum_within f (x ∷ xs) ys d h =
    let part = sum_within f xs (without x ys) (IsDistinct-tail eqb x xs d)
    (λ z e. one_of-without z x ys (one_of_apart z x xs e (distinct_head x xs d)) (h z (one_of_there z x xs e))) in
    omega (arith, sums, sum_without f x ys (h x (one_of_here x xs)), part)

abbrev one : ℕ → ℕ
one x = 1

sum_one : (xs : List ℕ) → sum_by one xs ≡ length xs
sum_one [] = refl
sum_one (x ∷ xs) = omega (arith, sums, sum_one xs)

-- distinct numbers of a list are no more than that list's
pub length-within : (xs ys : List ℕ) → IsDistinct eqb xs → ((x : ℕ) → one_of x xs ≡ true → one_of x ys ≡ true) → length xs ≤ length ys
length-within xs ys d h = omega (arith, sum_one xs, sum_one ys, sum_within one xs ys d h)

pub below_numbered : (x a n : ℕ) → x < a → one_of x (range_with_len a n) ≡ false
below_numbered x a zero h = refl
below_numbered x a (suc n) h = or_from (eqb x a) (one_of x (range_with_len (a + 1) n)) (ne_eqb x a (λ e. omega arith)) (below_numbered x (a + 1) n (omega arith))

pub distinct_numbered : (a n : ℕ) → IsDistinct eqb (range_with_len a n)
distinct_numbered a zero = distinct_nil
distinct_numbered a (suc n) = distinct_cons a (range_with_len (a + 1) n) (below_numbered a (a + 1) n (omega arith)) (distinct_numbered (a + 1) n)

pub in_numbered : (x a n : ℕ) → a ≤ x → x < a + n → one_of x (range_with_len a n) ≡ true
in_numbered x a zero p q = absurd (omega arith)
in_numbered x a (suc n) p q = go (eqb x a) refl (λ h. in_numbered x (a + 1) n h (omega arith))
  where
    go : (b : Bool) → eqb x a ≡ b → (a + 1 ≤ x → one_of x (range_with_len (a + 1) n) ≡ true) → (b || one_of x (range_with_len (a + 1) n)) ≡ true
    go true e more = refl
    go false e more = more (let k : x ≡ a → ⊥ = eqb-false x a e in omega arith)

pub numbered_bounds : (x a n : ℕ) → one_of x (range_with_len a n) ≡ true → (a ≤ x) × (x < a + n)
numbered_bounds x a zero e = absurd (both_ways false refl e)
numbered_bounds x a (suc n) e =
    elim (or_cases (eqb x a) (one_of x (range_with_len (a + 1) n)) e) [
      | inl p ↦ (omega (arith, eqb-true x a p), omega (arith, eqb-true x a p))
      | inr p ↦ (omega (arith, (numbered_bounds x (a + 1) n p).0), omega (arith, (numbered_bounds x (a + 1) n p).1))
    ]

-- a row of fewer numbers than k leaves one of the k numbers from n on out
pub lowest_within_from : (k n : ℕ) (used : List ℕ) → length used < k
    → (prefix_len (λ m. one_of m used) (range_with_len n k) < k) × (one_of (n + prefix_len (λ m. one_of m used) (range_with_len n k)) used ≡ false)
lowest_within_from k n used h =
    let p = λ (m : ℕ). one_of m used in
    let ns = range_with_len n k in
    let i = prefix_len p ns in
    let l : length ns ≡ k = length-range_with_len n k in
    elim (cases_lt i k) [
      | inl below ↦ (below, subst (λ (z : ℕ). one_of z used ≡ false) (get_or-range_with_len n k i 0 below) (prefix_len_stops p ns 0 (omega (arith, l, below))))
      | inr all ↦ absurd (
          let within = length-within ns used (distinct_numbered n k) (λ z e.
          let b = numbered_bounds z n k e in
          let j : z - n < k = omega (arith, b.0, b.1) in
          let at : get_or ns (z - n) 0 ≡ z = omega (arith, get_or-range_with_len n k (z - n) 0 j, b.0) in
          subst (λ (y : ℕ). one_of y used ≡ true) at (prefix_len_passes p ns (z - n) 0 (omega (arith, all, j)))) in
          omega (arith, within, l, h)
          )
    ]

pub lowest_within : (k : ℕ) (used : List ℕ) → length used < k
    → (prefix_len (λ n. one_of n used) (range_with_len 0 k) < k) × (one_of (prefix_len (λ n. one_of n used) (range_with_len 0 k)) used ≡ false)
lowest_within k used h =
    let from = lowest_within_from k 0 used h in
    let i = prefix_len (λ (n : ℕ). one_of n used) (range_with_len 0 k) in
    let e : 0 + i ≡ i = omega arith in
    (from.0, subst (λ (z : ℕ). one_of z used ≡ false) e from.1)

pub lowest_unused : (used : List ℕ) → length used < 64 → (lowest_free used < 64) × (one_of (lowest_free used) used ≡ false)
lowest_unused used h = lowest_within 64 used h
