-- The objects of a car that stands in memory.
use Rattle.std.proofs.Common.{◌≡◌, ℕ, zero, suc, ◌+◌, ◌*◌, ◌<◌, ◌≤◌, List, [], ◌∷◌, length, get_or, inl, inr, sym, subst, arith, ap}
use Rattle.std.proofs.lemmas.Bool.{ne_eqb, cases_lt}
use Rattle.std.proofs.lemmas.List.{get_or_default}
use native.Mathlib.Decide.{ℕ_discrete}
use Rattle.std.specs.List.{Contains}
use Rattle.layout.specs.declared.Shape.{Shape}
use Rattle.layout.specs.ShapeTable.{ShapeTable, Lawful}
use Rattle.model.specs.Bodies.{size}
use Rattle.model.specs.Trains.{Obj, Car, words_of, times, car_words}
use Rattle.objects.specs.Lies.{Lies, LieFrom, ArePlaced, CarStands}
use Rattle.model.proofs.Totals.{is, one_if, sums}
use Rattle.model.proofs.Keeps.{is_few}

-- one of some objects that stand one behind the other from the address a on
pub record Standing (M : ShapeTable) (code : Shape → ℕ) (at : ℕ → ℕ) (words : List ℕ) (a : ℕ) (os : List Obj) (o : Obj) : Type 0 where
  pub lies : Lies M code at words (at o.id) o.body
  pub low : a ≤ at o.id
  pub high : at o.id + size o.body ≤ a + words_of os

-- an object from the address b on stands behind what stands before it
pub low_from : (at : ℕ → ℕ) (a : ℕ) (os : List Obj) → ArePlaced at a os → (k : ℕ) (d : Obj) → k < length os → a ≤ at (get_or os k d).id
low_from at a [] p k d lt = absurd (omega arith)
low_from at a (o ∷ os) p zero d lt = omega (arith, p.0)
low_from at a (o ∷ os) p (suc k) d lt = omega (arith, low_from at (a + size o.body) os p.1 k d (omega arith))

pub rising : (at : ℕ → ℕ) (a : ℕ) (os : List Obj) → ArePlaced at a os → (k j : ℕ) (d e : Obj) → k < j → j < length os
    → at (get_or os k d).id < at (get_or os j e).id
rising at a [] p k j d e lt inside = absurd (omega arith)
rising at a (o ∷ os) p k zero d e lt inside = absurd (omega arith)
rising at a (o ∷ os) p zero (suc j) d e lt inside = omega (arith, p.0, low_from at (a + size o.body) os p.1 j e (omega arith))
rising at a (o ∷ os) p (suc k) (suc j) d e lt inside = rising at (a + size o.body) os p.1 k j d e (omega arith) (omega arith)

abbrev id_of : Obj → ℕ
id_of o = o.id

module _ (M : ShapeTable) (code : Shape → ℕ) (at : ℕ → ℕ) (words : List ℕ) where
  stands_at : (a : ℕ) (os : List Obj) → LieFrom M code at words a os → ArePlaced at a os → (k : ℕ) (d : Obj) → k < length os
      → Standing M code at words a os (get_or os k d)
  stands_at a [] l p k d lt = absurd (omega arith)
  stands_at a (o ∷ os) l p zero d lt = record {
    lies = subst (λ b. Lies M code at words b o.body) (sym p.0) l.0;
    low = omega (arith, p.0);
    high = omega (arith, p.0, sums);
  }
  stands_at a (o ∷ os) l p (suc k) d lt =
      let s = stands_at (a + size o.body) os l.1 p.1 k d (omega arith) in
      record { lies = s.lies; low = omega (arith, s.low); high = omega (arith, s.high, sums) }

  pub standing : (f : Car) → CarStands M code at words f → (o : Obj) → Contains f.objects o
      → Standing M code at words (car_words * f.number) f.objects o
  standing f s o (k, lt, e) = subst (Standing M code at words (car_words * f.number) f.objects) e (stands_at (car_words * f.number) f.objects s.lies s.placed k o lt)

  -- two objects at one address are one
  pub apart : (f : Car) → CarStands M code at words f → (o p : Obj) → Contains f.objects o → Contains f.objects p → at o.id ≡ at p.id → o.id ≡ p.id
  apart f s o p (k, lt, e) (j, inside, i) q = elim (cases_lt k j) [
    | inl b ↦ absurd (omega (arith, rising at (car_words * f.number) f.objects s.placed k j o p b inside, ap at (ap id_of e), ap at (ap id_of i), q))
    | inr b ↦ elim (ℕ_discrete k j) [
      | yes c ↦ grind (arith, get_or_default f.objects k o p lt)
      | no c ↦ absurd (omega (arith, rising at (car_words * f.number) f.objects s.placed j k p o (omega arith) lt, ap at (ap id_of e), ap at (ap id_of i), q))
    ]
  ]

  words_from : Lawful M → (a : ℕ) (os : List Obj) → LieFrom M code at words a os → 2 * length os ≤ words_of os
  words_from w a [] l = omega arith
  words_from w a (o ∷ os) l = omega (arith, sums, words_from w (a + size o.body) os l.1, l.0.ref_count, l.0.word_count, (w.apart o.body.shape l.0.offsets l.0.admitted).some)

  -- a car has at most 64 objects
  pub few_objects : Lawful M → (f : Car) → CarStands M code at words f → length f.objects ≤ 64
  few_objects w f s = omega (arith, words_from w (car_words * f.number) f.objects s.lies, s.within)

none_from : (at : ℕ → ℕ) (a x : ℕ) (os : List Obj) → ArePlaced at a os → at x < a → times x os ≡ 0
none_from at a x [] p lt = omega arith
none_from at a x (o ∷ os) p lt =
    let z : is x o ≡ 0 = ap one_if (ne_eqb x o.id (λ e. let q : at x ≡ at o.id = ap at e in omega (arith, p.0, q))) in
    omega (arith, sums, z, none_from at (a + size o.body) x os p.1 (omega arith))

-- no identity lies twice in a car
pub once_from : (at : ℕ → ℕ) (a x : ℕ) (os : List Obj) → ArePlaced at a os → times x os ≤ 1
once_from at a x [] p = omega arith
once_from at a x (o ∷ os) p = elim (ℕ_discrete x o.id) [
  | yes e ↦
      let q : at x ≡ at o.id = ap at e in
      let z = none_from at (a + size o.body) x os p.1 (omega (arith, p.0, q)) in
      omega (arith, sums, z, is_few x o)
  | no e ↦
      let z : is x o ≡ 0 = ap one_if (ne_eqb x o.id e) in
      omega (arith, sums, z, once_from at (a + size o.body) x os p.1)
]
