-- A lift in words.
use Rattle.std.proofs.Common.{◌≡◌, ℕ, ◌+◌, ◌-◌, ◌<◌, Option, Some, None, ℤ, pos, negsuc, refl, ap, inl, inr, arith, w32, ◌+ℤ◌, Result, Err}
use Rattle.std.specs.Option.{SomeIff, ok_or}
use Rattle.std.specs.Int.{FitsUnsigned}
use Rattle.std.specs.Int.RustNames.{unsigned_abs}
use Rattle.std.proofs.lemmas.Int.{ints}
use Rattle.std.proofs.lemmas.Bool.{cases_lt, le-leb, lt-leb, lt-ltb, le-ltb}
use Rattle.calls.specs.declared.answer.Refusal.{Refusal}
use Rattle.calls.specs.declared.answer.Refusal.TheVariants.{Range}
use Rattle.model.specs.Bodies.{lifted}

-- what a sum of a word and a signed number is as a word, if it is one
abbrev pub IsSum : ℕ → ℤ → Option ℕ → Type 0
IsSum v z o = SomeIff o (FitsUnsigned w32 (pos v +ℤ z)) (unsigned_abs (pos v +ℤ z))

pub lifted_is : (v : ℕ) (z : ℤ) (o : Option ℕ) → IsSum v z o → v < 4294967296 → lifted v z ≡ o
lifted_is v (pos n) None f l = elim (cases_lt 4294967295 (v + n)) [
  | inl h ↦ rw (lt-leb (v + n) 4294967295 h) refl
  | inr h ↦ absurd (f (omega (arith, ints, h), omega (arith, ints, h)))
]
lifted_is v (pos n) (Some x) f l = rw (le-leb (v + n) 4294967295 (omega (arith, ints, f.0.1))) (ap (λ (z : ℕ). Some z) (omega (arith, ints, f.1)))
lifted_is v (negsuc n) None f l = elim (cases_lt n v) [
  | inl h ↦ absurd (f (omega (arith, ints, h, l), omega (arith, ints, h, l)))
  | inr h ↦ rw (le-ltb n v h) refl
]
lifted_is v (negsuc n) (Some x) f l =
    let h : n < v = omega (arith, ints, f.0.0) in
    rw (lt-ltb n v h, le-leb (v - (n + 1)) 4294967295 (omega (arith, l))) (ap (λ (z : ℕ). Some z) (omega (arith, ints, h, f.1)))

-- a sum that is no word is refused as out of range
pub range_of : (o : Option ℕ) (e : Refusal) → o ≡ None → ◌≡◌ {A = Result ℕ Refusal} (Err e) (ok_or o Range) → Range ≡ e
range_of None e p q = cc
range_of (Some x) e p q = absurd (cc)
