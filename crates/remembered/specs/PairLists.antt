-- Laws of lists of pairs.
use Rattle.std.specs.Prelude.{◌≡◌, ℕ, ◌+◌, Bool, true, false, cond, not, ◌&&◌, ◌||◌, List, [], ◌∷◌, ◌++◌, length, ◌==◌, refl}
use Rattle.std.proofs.Common.{sym, ap, arith}
use Rattle.std.proofs.lemmas.Bool.{eq-eqb, eqb-true, and_from, and_parts}
use Rattle.std.proofs.lemmas.Grind.{common_steps}
use Rattle.std.proofs.lemmas.Map.Views.{any-filter_same}
use Rattle.remembered.specs.declared.Pair.{Pair}
use Rattle.remembered.specs.Pairs.{is_pair, within, without, number_of}

pub and_none : (b : Bool) → (b && false) ≡ false
and_none true = refl
and_none false = refl

pub or_none : (b : Bool) → (b || false) ≡ b
or_none true = refl
or_none false = refl

pub swap_and : (x y z : Bool) → (x && (y && z)) ≡ (y && (x && z))
swap_and true y z = refl
swap_and false y z = sym (and_none y)

-- two tests are one if each gives the other
pub bool_ext : (x y : Bool) → (x ≡ true → y ≡ true) → (y ≡ true → x ≡ true) → x ≡ y
bool_ext true y f g = sym (f refl)
bool_ext false true f g = g refl
bool_ext false false f g = refl

pub pair_parts : (p : Pair) (c a : ℕ) → is_pair p c a ≡ true → (p.car ≡ c) × (p.address ≡ a)
pair_parts p c a e = let q = and_parts (p.car == c) (p.address == a) e in (eqb-true p.car c q.0, eqb-true p.address a q.1)

pub pair_from : (p : Pair) (c a : ℕ) → p.car ≡ c → p.address ≡ a → is_pair p c a ≡ true
pair_from p c a e f = and_from (p.car == c) (p.address == a) (eq-eqb p.car c e) (eq-eqb p.address a f)

-- a list without a car has the pairs of the other cars
pub within-without : (c : ℕ) (ps : List Pair) (d a : ℕ) → within (without c ps) d a ≡ (not (d == c) && within ps d a)
within-without c ps d a = any-filter_same (λ p. is_pair p d a) (λ p. not (p.car == c)) (not (d == c)) (λ p is. ap (λ x. not (x == c)) (pair_parts p d a is).0) ps

-- how many pairs of each car are left without one car
pub number-without : (c : ℕ) (ps : List Pair) (d : ℕ) → number_of d (without c ps) ≡ cond (d == c) 0 (number_of d ps)
number-without c [] d = grind (arith, common_steps)
number-without c (p ∷ ps) d = grind (arith, common_steps, number-without c ps d)

pub length_without : (c : ℕ) (ps : List Pair) → length (without c ps) + number_of c ps ≡ length ps
length_without c [] = refl
length_without c (p ∷ ps) = grind (arith, common_steps, length_without c ps)

pub within_push : (ps : List Pair) (p : Pair) (c a : ℕ) → within (ps ++ (p ∷ [])) c a ≡ (within ps c a || is_pair p c a)
within_push ps p c a = grind (arith, common_steps)
