-- Which slots hold an object of a car: the words at their addresses tell.
use Rattle.std.proofs.Common.{◌≡◌, ℕ, suc, ◌+◌, ◌*◌, ◌/◌, ◌<◌, ◌≤◌, Bool, true, false, cond, ◌&&◌, ◌||◌, eqb, List, [], ◌∷◌, length, Some, None, Option, sym, refl, ap, ◌∙◌, subst, inl, inr, arith}
use Rattle.std.proofs.lemmas.Bool.{cases_eq, both_ways, eq-eqb, eqb-true, ne_eqb, or_cases, and_right, lt-ltb, ltb-true, false_from_ne_true}
use Rattle.std.specs.List.{AllByRecursion}
use Rattle.std.specs.Option.{option_map_or}
use Rattle.std.specs.Prelude.{slice_index, slice_index_or}
use Rattle.layout.specs.ShapeTable.{ShapeTable}
use Rattle.layout.specs.declared.Shape.{Shape}
use Rattle.remembered.specs.Updates.{Pairs}
use Rattle.model.specs.Bodies.{size}
use Rattle.model.specs.Notes.{Slot, ref_offset, ref_slots, object_slots, target_among}
use Rattle.model.specs.Remembered.{slots_into}
use Rattle.model.specs.Trains.{Obj, Car, words_of, car_words, one_of, times, among}
use Rattle.model.proofs.Alls.{all_++, all_with}
use Rattle.model.proofs.Overlooked.{Rises, rises_from}
use Rattle.model.proofs.Totals.{sums, is}
use Rattle.objects.specs.Lies.{CarStands, LieFrom, ArePlaced, HoldsItsOwn, word_of, nothing}
use Rattle.slots.specs.Slots.{addresses, AddressTells, ArePaired}

-- an object among these lies in their words
placed_within : (at : ℕ → ℕ) (x a : ℕ) (os : List Obj) → ArePlaced at a os → 1 ≤ times x os → (a ≤ at x) × (at x < a + words_of os)
placed_within at x a [] p h = absurd (omega arith)
placed_within at x a (o ∷ os) p h = elim (cases_eq x o.id) [
  | inl e ↦ let q : at x ≡ a = ap at e ∙ p.0 in (omega (arith, q), omega (arith, q, sums))
  | inr ne ↦
      let none : is x o ≡ 0 = ap (λ b. cond b 1 0) (ne_eqb x o.id ne) in
      let q = placed_within at x (a + size o.body) os p.1 (omega (arith, sums, h, none)) in
      (omega (arith, q.0), omega (arith, q.1, sums))
]

-- where a car's objects are placed, and no address in it is another's, addresses tell
pub address_tells : (at : ℕ → ℕ) (c : Car) → ArePlaced at (car_words * c.number) c.objects → words_of c.objects ≤ car_words → HoldsItsOwn at c → AddressTells at c
address_tells at c placed within own x =
    (own x, λ h. let q = placed_within at x (car_words * c.number) c.objects placed h in omega (arith, q.0, q.1, within))

module _ (M : ShapeTable) (code : Shape → ℕ) (at : ℕ → ℕ) (words : List ℕ) where
  -- of a car that stands in memory
  pub car_tells : (c : Car) → CarStands M code at words c → HoldsItsOwn at c → AddressTells at c
  car_tells c stands own = address_tells at c stands.placed stands.within own

  pub cars_tell : (cs : List Car) → AllByRecursion (CarStands M code at words) cs → AllByRecursion (HoldsItsOwn at) cs → AllByRecursion (AddressTells at) cs
  cars_tell cs stands own = all_with (CarStands M code at words) (HoldsItsOwn at) (AddressTells at) car_tells cs stands own

  -- the word at a slot's address is that of what it holds
  abbrev pub Stands : Slot → Type 0
  Stands s = slice_index words s.address ≡ word_of at s.target

  refs_stand : (s : Shape) (n x a i : ℕ) (hs : List (Option ℕ)) → ((k : ℕ) → k < length hs → slice_index words (a + ref_offset M s (i + k)) ≡ word_of at (slice_index_or hs k None))
      → AllByRecursion Stands (ref_slots M s n x a i hs)
  refs_stand s n x a i [] p = tt
  refs_stand s n x a i (h ∷ hs) p = (
    subst (λ (j : ℕ). slice_index words (a + ref_offset M s j) ≡ word_of at h) (omega arith) (p 0 (omega arith)),
    refs_stand s n x a (i + 1) hs (λ k l. subst (λ (j : ℕ). slice_index words (a + ref_offset M s j) ≡ word_of at (slice_index_or hs k None)) (omega arith) (p (suc k) (omega (arith, l)))),
  )

  pub slots_stand : (n a : ℕ) (os : List Obj) → LieFrom M code at words a os → AllByRecursion Stands (object_slots M n a os)
  slots_stand n a [] p = tt
  slots_stand n a (o ∷ os) p =
      all_++ Stands (ref_slots M o.body.shape n o.id a 0 o.body.refs) (object_slots M n (a + size o.body) os)
      (refs_stand o.body.shape n o.id a 0 o.body.refs (λ k l.
      let m : k < p.0.offsets.refs = omega (arith, l, p.0.ref_count) in
      let q : ref_offset M o.body.shape k ≡ p.0.offsets.ref_at k = ap (λ v. option_map_or (λ u. u.ref_at k) v 0) p.0.admitted in
      let e : 0 + k ≡ k = omega arith in
      ap (λ j. slice_index words (a + ref_offset M o.body.shape j)) e ∙ (ap (λ j. slice_index words (a + j)) q ∙ p.0.refs k m)))
      (slots_stand n (a + size o.body) os p.1)

  -- what a word tells of the car of the object that it stands for
  word_tells : (c : Car) → AddressTells at c → c.number < 64 → (h : Option ℕ) → target_among c.objects h ≡ eqb (word_of at h / 128) c.number
  word_tells c tells few None = sym (ne_eqb (nothing / 128) c.number (λ e. omega (arith, e, few)))
  word_tells c tells few (Some y) = elim (cases_eq (at y / 128) c.number) [
    | inl e ↦ lt-ltb 0 (times y c.objects) (omega (arith, (tells y).0 e)) ∙ sym (eq-eqb (at y / 128) c.number e)
    | inr ne ↦ false_from_ne_true (among y c.objects) (λ t. ne ((tells y).1 (omega (arith, ltb-true 0 (times y c.objects) t)))) ∙ sym (ne_eqb (at y / 128) c.number ne)
  ]

  into_head : (b t : Bool) (s : Slot) (ss : List Slot) → addresses (cond b (s ∷ ss) ss) ≡ cond b (s.address ∷ addresses ss) (addresses ss)
  into_head true t s ss = refl
  into_head false t s ss = refl

  -- an address is that of a slot that holds an object of the car, if it is that of a slot and its word tells so
  pub into_has : (c : Car) → AddressTells at c → c.number < 64 → (a : ℕ) (ss : List Slot) → AllByRecursion Stands ss
      → one_of a (addresses (slots_into c ss)) ≡ (eqb (slice_index words a / 128) c.number && one_of a (addresses ss))
  into_has c tells few a [] p = sym (and_right (eqb (slice_index words a / 128) c.number) false refl)
  into_has c tells few a (s ∷ ss) p = go (target_among c.objects s.target) refl (into_has c tells few a ss p.1)
    where
      same : target_among c.objects s.target ≡ eqb (slice_index words s.address / 128) c.number
      same = word_tells c tells few s.target ∙ ap (λ w. eqb (w / 128) c.number) (sym p.0)

      both : (v t r : Bool) → (a ≡ s.address → v ≡ t) → (eqb a s.address ≡ true → t ≡ true) → (eqb a s.address || (v && r)) ≡ (v && (eqb a s.address || r))
      both v t r f g = elim (cases_eq a s.address) [
        | inl e ↦ let k = eq-eqb a s.address e in grind (arith, k, f e, g k)
        | inr ne ↦ let k = ne_eqb a s.address ne in grind (arith, k)
      ]

      neither : (v r : Bool) → (a ≡ s.address → v ≡ false) → (v && r) ≡ (v && (eqb a s.address || r))
      neither v r f = elim (cases_eq a s.address) [
        | inl e ↦ grind (arith, f e)
        | inr ne ↦ let k = ne_eqb a s.address ne in grind (arith, k)
      ]

      go : (b : Bool) → target_among c.objects s.target ≡ b
          → one_of a (addresses (slots_into c ss)) ≡ (eqb (slice_index words a / 128) c.number && one_of a (addresses ss))
          → one_of a (addresses (cond b (s ∷ slots_into c ss) (slots_into c ss))) ≡ (eqb (slice_index words a / 128) c.number && (eqb a s.address || one_of a (addresses ss)))
      go true e more =
          ap (λ t. eqb a s.address || t) more
          ∙ both (eqb (slice_index words a / 128) c.number) true (one_of a (addresses ss)) (λ k. ap (λ z. eqb (slice_index words z / 128) c.number) k ∙ (sym same ∙ e)) (λ k. refl)
      go false e more =
          more ∙ neither (eqb (slice_index words a / 128) c.number) (one_of a (addresses ss)) (λ k. ap (λ z. eqb (slice_index words z / 128) c.number) k ∙ (sym same ∙ e))

  -- by the two answers of the test on the word
  pub into_true : (c : Car) (n a b : ℕ) (os : List Obj) → AddressTells at c → c.number < 64 → LieFrom M code at words b os → slice_index words a / 128 ≡ c.number
      → one_of a (addresses (object_slots M n b os)) ≡ one_of a (addresses (slots_into c (object_slots M n b os)))
  into_true c n a b os tells few lies e =
      sym (into_has c tells few a (object_slots M n b os) (slots_stand n b os lies)
      ∙ ap (λ t. t && one_of a (addresses (object_slots M n b os))) (eq-eqb (slice_index words a / 128) c.number e))

  pub into_false : (c : Car) (n a b : ℕ) (os : List Obj) → AddressTells at c → c.number < 64 → LieFrom M code at words b os → (slice_index words a / 128 ≡ c.number → ⊥)
      → false ≡ one_of a (addresses (slots_into c (object_slots M n b os)))
  into_false c n a b os tells few lies e =
      sym (into_has c tells few a (object_slots M n b os) (slots_stand n b os lies)
      ∙ ap (λ t. t && one_of a (addresses (object_slots M n b os))) (ne_eqb (slice_index words a / 128) c.number e))

-- what is paired
pub into_paired : (P : Pairs) (c : Car) (a : ℕ) (ss : List Slot) → ArePaired P c ss → one_of a (addresses (slots_into c ss)) ≡ true → P c.number a ≡ true
into_paired P c a [] p h = absurd (both_ways false refl h)
into_paired P c a (s ∷ ss) p h = go (λ k. into_paired P c a ss p.1 k) (target_among c.objects s.target) refl h
  where
    go : (one_of a (addresses (slots_into c ss)) ≡ true → P c.number a ≡ true) → (b : Bool) → target_among c.objects s.target ≡ b → one_of a (addresses (cond b (s ∷ slots_into c ss) (slots_into c ss))) ≡ true → P c.number a ≡ true
    go more true e k = elim (or_cases (eqb a s.address) (one_of a (addresses (slots_into c ss))) k) [
      | inl q ↦ ap (P c.number) (eqb-true a s.address q) ∙ p.0 e
      | inr q ↦ more q
    ]
    go more false e k = more k

-- slots picked from others whose addresses rise
pub into_rise : (c : Car) (lo hi : ℕ) (ss : List Slot) → Rises lo hi (addresses ss) → Rises lo hi (addresses (slots_into c ss))
into_rise c lo hi [] r = r
into_rise c lo hi (s ∷ ss) r = go (target_among c.objects s.target) (into_rise c (s.address + 1) hi ss r.1)
  where
    go : (b : Bool) → Rises (s.address + 1) hi (addresses (slots_into c ss)) → Rises lo hi (addresses (cond b (s ∷ slots_into c ss) (slots_into c ss)))
    go true more = (r.0, more)
    go false more = rises_from (s.address + 1) lo hi (addresses (slots_into c ss)) (omega (arith, r.0)) more
