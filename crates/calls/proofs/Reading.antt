-- Reading undoes writing: the bytes that a number in range is written with are read as it, and no other bytes are.
use Rattle.std.proofs.Common.{◌≡◌, ℕ, zero, suc, ◌+◌, ◌-◌, ◌*◌, ◌/◌, ◌%◌, ◌^◌, ◌<◌, ◌≤◌, Bool, true, false, cond, ◌&&◌, eqb, leb, List, [], ◌∷◌, ◌++◌, length, get_or, ℤ, pos, negsuc, Some, None, decimal, Option, sym, refl, ap, ◌∙◌, subst, inl, inr, arith, rules, ne_eqb}
use Rattle.std.proofs.lemmas.Fmt.{decimal_digit, decimal_by_steps, decimal_nonempty, first_decimal, decimal-digits_value}
use Rattle.std.proofs.lemmas.Str.Parse.{IsNumeralModel, numerals_by_fold}
use Rattle.std.proofs.lemmas.Bool.{le-leb, leb-true, eqb-true, eqb-false, and_parts, and_from, not-true, not_from_false, cases_Bool}
use Rattle.std.specs.Char.{is_ascii_digit}
use Rattle.std.specs.Fmt.{signed_decimal}
use Rattle.calls.specs.Numbers.{onward, no_leading_zero, natural_of, plus, minus, integer_of, FitsLift}

-- one more digit behind those that are read
onward_push : (n m d : ℕ) (bs : List ℕ) → onward n bs ≡ Some m → onward n (bs ++ d ∷ []) ≡ onward m (d ∷ [])
onward_push n m d [] e = let s : n ≡ m = cc in ap (λ k. onward k (d ∷ [])) s
onward_push n m d (c ∷ bs) e =
    elim (is_ascii_digit c && leb (n * 10 + (c - 48)) 4294967295) as (λ v. cond v (onward (n * 10 + (c - 48)) bs) None ≡ Some m → cond v (onward (n * 10 + (c - 48)) (bs ++ d ∷ [])) None ≡ onward m (d ∷ [])) [
      | true ↦ λ h. onward_push (n * 10 + (c - 48)) m d bs h
      | false ↦ λ h. let z : ◌≡◌ {A = ℕ} 0 1 = cc in absurd (omega arith)
    ] e

one_digit : (n d : ℕ) → d < 10 → n * 10 + d ≤ 4294967295 → onward n ((48 + d) ∷ []) ≡ Some (n * 10 + d)
one_digit n d small fits =
    let s : 48 + d - 48 ≡ d = omega arith in
    let t : (is_ascii_digit (48 + d) && leb (n * 10 + (48 + d - 48)) 4294967295) ≡ true = and_from _ _ (and_from _ _ (le-leb 48 (48 + d) (omega arith)) (le-leb (48 + d) 57 (omega arith))) (le-leb _ _ (omega arith)) in
    ap (λ v. cond v (Some (n * 10 + (48 + d - 48))) None) t ∙ ap (λ k. Some (n * 10 + k)) s

abbrev Reads : ℕ → List ℕ → Type 0
Reads n ds = n ≤ 4294967295 → onward 0 ds ≡ Some n

reads_one : (n : ℕ) → n < 10 → Reads n ((48 + n) ∷ [])
reads_one n small fits = let z : 0 * 10 + n ≡ n = omega arith in one_digit 0 n small (omega arith) ∙ ap Some z

reads_more : (n : ℕ) (ds : List ℕ) → 10 ≤ n → Reads (n / 10) ds → Reads n (ds ++ (48 + n % 10) ∷ [])
reads_more n ds ge h fits =
    let z : n / 10 * 10 + n % 10 ≡ n = omega arith in
    onward_push 0 (n / 10) (48 + n % 10) ds (h (omega arith)) ∙ one_digit (n / 10) (n % 10) (omega arith) (omega arith) ∙ ap Some z

pub starts_well : (bs : List ℕ) → 0 < length bs → (get_or bs 0 0 ≡ 48 → length bs ≤ 1) → no_leading_zero bs ≡ true
starts_well [] some h = absurd (omega arith)
starts_well (c ∷ []) some h = refl
starts_well (c ∷ d ∷ cs) some h = not_from_false _ (ne_eqb c 48 (λ e. let l : length (c ∷ d ∷ cs) ≤ 1 = h e in omega arith))

well_begun : (n : ℕ) → n < 2 ^ 64 → no_leading_zero (decimal n) ≡ true
well_begun zero h = ap no_leading_zero (decimal_digit 0 (omega arith))
well_begun (suc n) h = starts_well (decimal (suc n)) (decimal_nonempty (suc n) h) (λ e. let f : 48 < get_or (decimal (suc n)) 0 0 = first_decimal (suc n) (omega arith) h in absurd (omega arith))

pub natural_back : (n : ℕ) → n ≤ 4294967295 → natural_of (decimal n) ≡ Some n
natural_back n fits =
    let h : n < 2 ^ 64 = omega arith in
    ap (λ v. cond v (onward 0 (decimal n)) None) (well_begun n h) ∙ decimal_by_steps Reads reads_one reads_more n h fits

abbrev all_digits : List ℕ → Bool
all_digits [] = true
all_digits (c ∷ cs) = is_ascii_digit c && all_digits cs

abbrev read_on : ℕ → List ℕ → ℕ
read_on n [] = n
read_on n (c ∷ cs) = read_on (n * 10 + (c - 48)) cs

own : IsNumeralModel (λ ds. all_digits ds ≡ true) (read_on 0)
own = numerals_by_fold _ (search rules) read_on (search rules)

-- what bytes that are read are made of
onward_made : (n m : ℕ) (bs : List ℕ) → n ≤ 4294967295 → onward n bs ≡ Some m → (all_digits bs ≡ true) × (read_on n bs ≡ m) × (m ≤ 4294967295)
onward_made n m [] fits e = let s : n ≡ m = cc in (refl, s, omega arith)
onward_made n m (c ∷ cs) fits e =
    elim (cases_Bool (is_ascii_digit c && leb (n * 10 + (c - 48)) 4294967295)) [
      | inl t ↦
          let p = and_parts _ _ t in
          let h : onward (n * 10 + (c - 48)) cs ≡ Some m = sym (ap (λ v. cond v (onward (n * 10 + (c - 48)) cs) None) t) ∙ e in
          let r = onward_made (n * 10 + (c - 48)) m cs (leb-true _ _ p.1) h in
          (and_from _ _ p.0 r.0, r.1, r.2)
      | inr f ↦
          let h : ◌≡◌ {A = Option ℕ} None (Some m) = sym (ap (λ v. cond v (onward (n * 10 + (c - 48)) cs) None) f) ∙ e in
          let z : ◌≡◌ {A = ℕ} 0 1 = cc in absurd (omega arith)
    ]

begun_some : (bs : List ℕ) → no_leading_zero bs ≡ true → (0 < length bs) × (get_or bs 0 0 ≡ 48 → length bs ≡ 1)
begun_some [] e = let z : ◌≡◌ {A = ℕ} 0 1 = cc in absurd (omega arith)
begun_some (c ∷ []) e = (omega arith, λ h. refl)
begun_some (c ∷ d ∷ cs) e = (omega arith, λ h. absurd (eqb-false c 48 (not-true _ e) h))

pub natural_only : (bs : List ℕ) (n : ℕ) → natural_of bs ≡ Some n → (bs ≡ decimal n) × (n ≤ 4294967295)
natural_only bs n e =
    elim (cases_Bool (no_leading_zero bs)) [
      | inl t ↦
          let h : onward 0 bs ≡ Some n = sym (ap (λ v. cond v (onward 0 bs) None) t) ∙ e in
          let m = onward_made 0 n bs (omega arith) h in
          let b = begun_some bs t in
          let f : read_on 0 bs < 2 ^ 64 = omega (arith, m.1, m.2) in
          (sym (decimal-digits_value own bs m.0 b.0 b.1 f) ∙ ap decimal m.1, m.2)
      | inr f ↦
          let h : ◌≡◌ {A = Option ℕ} None (Some n) = sym (ap (λ v. cond v (onward 0 bs) None) f) ∙ e in
          let z : ◌≡◌ {A = ℕ} 0 1 = cc in absurd (omega arith)
    ]

first_digit : (n : ℕ) → n < 2 ^ 64 → (0 < length (decimal n)) × (48 ≤ get_or (decimal n) 0 0)
first_digit zero h = (omega (arith, decimal_nonempty 0 h), omega (arith, ap (λ l. get_or l 0 0) (decimal_digit 0 (omega arith))))
first_digit (suc n) h = (omega (arith, decimal_nonempty (suc n) h), omega (arith, first_decimal (suc n) (omega arith) h))

integer_plain : (bs : List ℕ) → 0 < length bs → (get_or bs 0 0 ≡ 45 → ⊥) → integer_of bs ≡ plus (natural_of bs)
integer_plain [] some ne = absurd (omega arith)
integer_plain (c ∷ cs) some ne = ap (λ v. cond v (minus (natural_of cs)) (plus (natural_of (c ∷ cs)))) (ne_eqb c 45 ne)

pub integer_back : (z : ℤ) → FitsLift z → integer_of (signed_decimal z) ≡ Some z
integer_back (pos n) fits =
    let f = first_digit n (omega arith) in
    integer_plain (decimal n) f.0 (λ e. omega (arith, e, f.1)) ∙ ap plus (natural_back n (omega arith)) ∙ ap (λ v. cond v (Some (pos n)) None) (le-leb n 2147483647 fits)
integer_back (negsuc n) fits = ap minus (natural_back (suc n) (omega arith)) ∙ ap (λ v. cond v (Some (negsuc n)) None) (le-leb n 2147483647 fits)

chosen : {X : Type 0} (v : Bool) (x y : X) → ◌≡◌ {A = Option X} (cond v (Some x) None) (Some y) → (v ≡ true) × (x ≡ y)
chosen true x y e = let s : x ≡ y = cc in (refl, s)
chosen false x y e = let z : ◌≡◌ {A = ℕ} 0 1 = cc in absurd (omega arith)

minus_made : (o : Option ℕ) (z : ℤ) → minus o ≡ Some z → (n : ℕ) × (o ≡ Some (suc n)) × (negsuc n ≡ z) × (n ≤ 2147483647)
minus_made None z e = let q : ◌≡◌ {A = ℕ} 0 1 = cc in absurd (omega arith)
minus_made (Some zero) z e = let q : ◌≡◌ {A = ℕ} 0 1 = cc in absurd (omega arith)
minus_made (Some (suc n)) z e = let r = chosen (leb n 2147483647) (negsuc n) z e in (n, refl, r.1, leb-true _ _ r.0)

plus_made : (o : Option ℕ) (z : ℤ) → plus o ≡ Some z → (n : ℕ) × (o ≡ Some n) × (pos n ≡ z) × (n ≤ 2147483647)
plus_made None z e = let q : ◌≡◌ {A = ℕ} 0 1 = cc in absurd (omega arith)
plus_made (Some n) z e = let r = chosen (leb n 2147483647) (pos n) z e in (n, refl, r.1, leb-true _ _ r.0)

abbrev WrittenSo : List ℕ → ℤ → Type 0
WrittenSo bs z = (bs ≡ signed_decimal z) × FitsLift z

pub integer_only : (bs : List ℕ) (z : ℤ) → integer_of bs ≡ Some z → (bs ≡ signed_decimal z) × FitsLift z
integer_only [] z e = let q : ◌≡◌ {A = ℕ} 0 1 = cc in absurd (omega arith)
integer_only (c ∷ cs) z e =
    elim (cases_Bool (eqb c 45)) [
      | inl t ↦
          let m = minus_made (natural_of cs) z (sym (ap (λ v. cond v (minus (natural_of cs)) (plus (natural_of (c ∷ cs)))) t) ∙ e) in
          let made : WrittenSo (c ∷ cs) (negsuc m.0) = ((λ i. eqb-true c 45 t i ∷ (natural_only cs (suc m.0) m.1).0 i), m.3) in
          subst (WrittenSo (c ∷ cs)) m.2 made
      | inr f ↦
          let m = plus_made (natural_of (c ∷ cs)) z (sym (ap (λ v. cond v (minus (natural_of cs)) (plus (natural_of (c ∷ cs)))) f) ∙ e) in
          let made : WrittenSo (c ∷ cs) (pos m.0) = ((natural_only (c ∷ cs) m.0 m.1).0, m.3) in
          subst (WrittenSo (c ∷ cs)) m.2 made
    ]
