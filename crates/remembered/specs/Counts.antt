-- Laws of counts.
use Rattle.std.specs.Prelude.{◌≡◌, ℕ, zero, suc, ◌+◌, ◌<◌, ◌≤◌, Bool, true, false, cond, ◌≢◌, refl}
use Rattle.std.proofs.Common.{ap, ◌∙◌, ⊎_elim, arith, add-one}
use Rattle.std.proofs.lemmas.Bool.{cases_eq, cases_lt}
use Rattle.remembered.specs.Updates.{count}

pub count_same : (P Q : ℕ → Bool) (n : ℕ) → ((k : ℕ) → k < n → P k ≡ Q k) → count P n ≡ count Q n
count_same P Q zero h = refl
count_same P Q (suc n) h = let more = count_same P Q n (λ k l. h k (omega arith)) in ap (λ b. cond b 1 0 + count P n) (h n (omega arith)) ∙ ap (λ m. cond (Q n) 1 0 + m) more

pub count_none : (P : ℕ → Bool) (n : ℕ) → ((k : ℕ) → k < n → P k ≡ false) → count P n ≡ 0
count_none P zero h = refl
count_none P (suc n) h = ap (λ b. cond b 1 0 + count P n) (h n (omega arith)) ∙ omega (arith, count_none P n (λ k l. h k (omega arith)))

pub count_all : (P : ℕ → Bool) (n : ℕ) → ((k : ℕ) → k < n → P k ≡ true) → count P n ≡ n
count_all P zero h = refl
count_all P (suc n) h = ap (λ b. cond b 1 0 + count P n) (h n (omega arith)) ∙ omega (arith, count_all P n (λ k l. h k (omega arith)))

pub count_le : (P : ℕ → Bool) (n : ℕ) → count P n ≤ n
count_le P zero = omega arith
count_le P (suc n) = one (P n) (count_le P n)
  where
    one : (b : Bool) → count P n ≤ n → cond b 1 0 + count P n ≤ suc n
    one true h = omega arith
    one false h = omega arith

-- one more number is in Q than in P
pub count_more : (P Q : ℕ → Bool) (x n : ℕ) → x < n → P x ≡ false → Q x ≡ true → ((k : ℕ) → (k ≢ x) → Q k ≡ P k) → count Q n ≡ count P n + 1
count_more P Q x zero h px qx same = absurd (omega arith)
count_more P Q x (suc n) h px qx same =
    ⊎_elim
    (λ (e : n ≡ x).
    let here : ◌≡◌ {A = ℕ} (cond (Q n) 1 0) (1) = ap (λ b. cond b 1 0) (ap Q e ∙ qx) in
    let there : ◌≡◌ {A = ℕ} (cond (P n) 1 0) (0) = ap (λ b. cond b 1 0) (ap P e ∙ px) in
    omega (arith, here, there, count_same Q P n (λ k l. same k (omega arith))))
    (λ (ne : n ≡ x → ⊥).
    let here : ◌≡◌ {A = ℕ} (cond (Q n) 1 0) (cond (P n) 1 0) = ap (λ b. cond b 1 0) (same n ne) in
    omega (arith, here, count_more P Q x n (omega (arith, ne)) px qx same))
    (cases_eq n x)

-- no number from one place up to another is in P
pub count_upto : (P : ℕ → Bool) (from n : ℕ) → from ≤ n → ((k : ℕ) → from ≤ k → k < n → P k ≡ false) → count P n ≡ count P from
count_upto P from zero h none = let e : 0 ≡ from = omega arith in ap (count P) e
count_upto P from (suc n) h none =
    ⊎_elim (λ lt. ap (λ b. cond b 1 0 + count P n) (none n (omega arith) (omega arith)) ∙ omega (arith, count_upto P from n (omega arith) (λ k a b. none k a (omega arith)))) (λ ge. let e : suc n ≡ from = omega arith in ap (count P) e) (cases_lt from (suc n))

pub count-one : (P : ℕ → Bool) (a : ℕ) → P a ≡ true → count P (a + 1) ≡ 1 + count P a
count-one P a e = rw add-one (ap (λ b. cond b 1 0 + count P a) e)
