-- The words of an object leave no gap: each place behind its header is that of a reference or of a data word.
use Rattle.std.specs.Prelude.{◌≡◌, ℕ, ◌+◌, ◌<◌, ◌≤◌, Some, ◌≢◌, zero, suc, refl}
use Rattle.std.proofs.Common.{arith}
use Rattle.std.proofs.Math.Decide.{ℕ_discrete}
use Rattle.layout.specs.ShapeTable.{ShapeTable, Offsets, Apart, Lawful}
use Rattle.layout.specs.declared.Shape.{Shape}

-- p numbers from 1 to n, in rising order
record Rising (n p : ℕ) (f : ℕ → ℕ) : Type 0 where
  inside : (i : ℕ) → i < p → (1 ≤ f i) × (f i ≤ n)
  rise : (i j : ℕ) → i < j → j < p → f i < f j

abbrev Differ : (p q : ℕ) (f g : ℕ → ℕ) → Type 0
Differ p q f g = (i j : ℕ) → i < p → j < q → f i ≢ g j

-- one of p numbers, or one of q others
pub data IsOneOf (p q : ℕ) (f g : ℕ → ℕ) (x : ℕ) : Type 0 where
  of_first : (i : ℕ) → i < p → f i ≡ x → IsOneOf p q f g x
  of_second : (j : ℕ) → j < q → g j ≡ x → IsOneOf p q f g x

-- the last of the p numbers is n, or all of them are below
data Last (n p : ℕ) (f : ℕ → ℕ) : Type 0 where
  is_last : (k : ℕ) → k + 1 ≡ p → f k ≡ n → Last n p f
  is_below : ((i : ℕ) → i < p → f i < n) → Last n p f

last : (n p : ℕ) (f : ℕ → ℕ) → Rising n p f → Last n p f
last n zero f r = is_below (λ i h. absurd (omega arith))
last n (suc p) f r = elim (ℕ_discrete (f p) n) [
  | yes e ↦ is_last p (omega arith) e
  | no e ↦ is_below (λ i h. grind (arith, r.inside p, r.rise i p))
]

-- the numbers are below n too, if the last is n and is left out, or if none is n
lower : (m p q : ℕ) (f : ℕ → ℕ) → Rising (suc m) p f → q ≤ p → ((i : ℕ) → i < q → f i < suc m) → Rising m q f
lower m p q f r few below = grind arith

before_last : (m p k : ℕ) (f : ℕ → ℕ) → Rising (suc m) p f → k + 1 ≡ p → f k ≡ suc m → Rising m k f
before_last m p k f r e last = grind arith

wider : (p q p' q' : ℕ) (f g : ℕ → ℕ) (x : ℕ) → p' ≤ p → q' ≤ q → IsOneOf p' q' f g x → IsOneOf p q f g x
wider p q p' q' f g x h k (of_first i b e) = of_first i (omega arith) e
wider p q p' q' f g x h k (of_second j b e) = of_second j (omega arith) e

none : (p : ℕ) (f : ℕ → ℕ) → Rising 0 p f → p ≡ 0
none p f r = grind (arith, r.inside 0)

-- there are at most n of them, and if there are n, each number from 1 to n is one of them
record Fills (n p q : ℕ) (f g : ℕ → ℕ) : Type 0 where
  at_most : p + q ≤ n
  each : p + q ≡ n → (x : ℕ) → 1 ≤ x → x ≤ n → IsOneOf p q f g x

fills : (n p q : ℕ) (f g : ℕ → ℕ) → Rising n p f → Rising n q g → Differ p q f g → Fills n p q f g
fills zero p q f g r s d = record {
  at_most = omega (arith, none p f r, none q g s);
  each = λ e x a b. absurd (omega arith);
}
fills (suc m) p q f g r s d = elim (last (suc m) p f r) [
  | is_last k e z ↦
      let h = fills m k q f g (before_last m p k f r e z) (lower m q q g s (omega arith)
      (λ j l. grind (arith, d k j, s.inside j l))) (λ i j l o. d i j (omega arith) o) in
      record {
        at_most = omega (arith, h.at_most);
        each = λ c x a b. elim (ℕ_discrete x (suc m)) [
          | yes y ↦ of_first k (omega arith) (cc)
          | no y ↦ wider p q k q f g x (omega arith) (omega arith) (h.each (omega arith) x a (omega arith))
        ];
      }
  | is_below b ↦ elim (last (suc m) q g s) [
    | is_last k e z ↦
        let h = fills m p k f g (lower m p p f r (omega arith) b) (before_last m q k g s e z)
        (λ i j l o. d i j l (omega arith)) in
        record {
          at_most = omega (arith, h.at_most);
          each = λ c x a b. elim (ℕ_discrete x (suc m)) [
            | yes y ↦ of_second k (omega arith) (cc)
            | no y ↦ wider p q p k f g x (omega arith) (omega arith) (h.each (omega arith) x a (omega arith))
          ];
        }
    | is_below c ↦
        let h = fills m p q f g (lower m p p f r (omega arith) b) (lower m q q g s (omega arith) c) d in
        record { at_most = omega (arith, h.at_most); each = λ e x a b. absurd (omega (arith, h.at_most)) }
  ]
]

-- each place behind the header is that of some word
pub every_place : (o : Offsets) → Apart o → (x : ℕ) → 1 ≤ x → x ≤ o.refs + o.words
    → IsOneOf o.refs o.words o.ref_at o.word_at x
every_place o a x h k =
    let f = fills (o.refs + o.words) o.refs o.words o.ref_at o.word_at
    (record { inside = a.ref_inside; rise = a.refs_rise })
    (record { inside = a.word_inside; rise = a.words_rise }) a.different in
    f.each refl x h k

-- the words of each admitted shape
pub record LeavesNoGap (M : ShapeTable) : Type 0 where
  pub each_place : (s : Shape) (o : Offsets) → M.offsets s ≡ Some o → (x : ℕ) → 1 ≤ x → x ≤ o.refs + o.words
      → IsOneOf o.refs o.words o.ref_at o.word_at x

pub leaves_no_gap : {M : ShapeTable} → Lawful M → LeavesNoGap M
leaves_no_gap l = record { each_place = λ s o e x h k. every_place o (l.apart s o e) x h k }
