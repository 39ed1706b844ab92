-- Where the slots of a car were fixed, and no other word, its objects stand with their references to the new addresses.
use Rattle.std.proofs.Common.{◌≡◌, ℕ, zero, suc, ◌+◌, ◌*◌, ◌/◌, ◌<◌, ◌≤◌, ◌≢◌, true, false, cond, eqb, List, [], ◌∷◌, ◌++◌, length, get_or, Option, Some, None, sym, refl, ap, ◌∙◌, subst, arith, inl, inr, ◌⊎◌}
use Rattle.std.proofs.lemmas.Bool.{cases_Bool, both_ways, eqb-true, or_cases}
use Rattle.std.proofs.lemmas.List.{map-append}
use Rattle.std.proofs.lemmas.List.Folds.{list_any-append}
use Rattle.std.proofs.lemmas.Map.Keys.{IsDistinct-tail}
use Rattle.std.specs.List.{AllByRecursion, IsDistinct}
use Rattle.std.specs.Option.{option_map_or}
use Rattle.layout.specs.ShapeTable.{ShapeTable, Lawful, Offsets}
use Rattle.layout.specs.declared.Shape.{Shape}
use Rattle.model.specs.Bodies.{Body, size}
use Rattle.model.specs.Notes.{Slot, ref_offset, ref_slots, object_slots, train_slots}
use Rattle.model.specs.Sound.{Points}
use Rattle.model.specs.Trains.{Obj, Train, train_objects, words_of, car_numbers, one_of, car_words}
use Rattle.model.proofs.Alls.{all_++, all_left, all_right, all_map}
use Rattle.model.proofs.Distinct.{one_of_here, one_of_there, distinct_head}
use Rattle.model.proofs.Totals.{sums}
use Rattle.objects.specs.Lies.{Lies, LieFrom, CarLies, word_of}
use Rattle.moves.specs.Fixes.{fixed, Corrected, addresses_of}

-- what holds of each number of a list holds of one of them
pub one_among : (P : ℕ → Type 0) (k : ℕ) (ss : List Slot) → AllByRecursion (λ s. P s.address) ss → one_of k (addresses_of ss) ≡ true → P k
one_among P k [] p e = absurd (both_ways false refl e)
one_among P k (s ∷ ss) p e = elim (or_cases (eqb k s.address) (one_of k (addresses_of ss)) e) [
  | inl q ↦ subst P (sym (eqb-true k s.address q)) p.0
  | inr q ↦ one_among P k ss p.1 q
]

none_among : (k : ℕ) (ss : List Slot) → AllByRecursion (λ s. s.address ≢ k) ss → one_of k (addresses_of ss) ≡ false
none_among k ss p = elim (cases_Bool (one_of k (addresses_of ss))) [
  | inl e ↦ absurd (one_among (λ a. a ≢ k) k ss p e refl)
  | inr e ↦ e
]

two_lists : (k : ℕ) (ss ts : List Slot) → one_of k (addresses_of (ss ++ ts)) ≡ true → (one_of k (addresses_of ss) ≡ true) ⊎ (one_of k (addresses_of ts) ≡ true)
two_lists k ss ts e =
    or_cases (one_of k (addresses_of ss)) (one_of k (addresses_of ts))
    (sym (list_any-append (λ (m : ℕ). eqb k m) (addresses_of ss) (addresses_of ts)) ∙ ap (one_of k) (sym (map-append (λ (s : Slot). s.address) ss ts)) ∙ e)

in_first : (k : ℕ) (ss ts : List Slot) → AllByRecursion (λ s. s.address ≢ k) ts → one_of k (addresses_of (ss ++ ts)) ≡ true → one_of k (addresses_of ss) ≡ true
in_first k ss ts p e = elim (two_lists k ss ts e) [ inl q ↦ q | inr q ↦ absurd (both_ways (one_of k (addresses_of ts)) (none_among k ts p) q) ]

in_second : (k : ℕ) (ss ts : List Slot) → AllByRecursion (λ s. s.address ≢ k) ss → one_of k (addresses_of (ss ++ ts)) ≡ true → one_of k (addresses_of ts) ≡ true
in_second k ss ts p e = elim (two_lists k ss ts e) [ inl q ↦ absurd (both_ways (one_of k (addresses_of ss)) (none_among k ss p) q) | inr q ↦ q ]

module _ (M : ShapeTable) where
  -- the slots of one object by their numbers
  pub refs_each : (P : Slot → Type 0) (s : Shape) (n x a i : ℕ) (hs : List (Option ℕ))
      → ((j : ℕ) → j < length hs → P (record { order = n; address = a + ref_offset M s (i + j); holder = x; index = i + j; target = get_or hs j None }))
      → AllByRecursion P (ref_slots M s n x a i hs)
  refs_each P s n x a i [] f = tt
  refs_each P s n x a i (h ∷ hs) f = (
    let e : i + 0 ≡ i = omega arith in subst (λ j. P (record { order = n; address = a + ref_offset M s j; holder = x; index = j; target = h })) e (f 0 (omega arith)),
    refs_each P s n x a (i + 1) hs (λ j lt.
        let e : i + suc j ≡ i + 1 + j = omega arith in
        subst (λ k. P (record { order = n; address = a + ref_offset M s k; holder = x; index = k; target = get_or hs j None })) e (f (suc j) (omega (arith, lt)))),
  )

  refs_nth : (P : Slot → Type 0) (s : Shape) (n x a i : ℕ) (hs : List (Option ℕ)) → AllByRecursion P (ref_slots M s n x a i hs)
      → (j : ℕ) → j < length hs → P (record { order = n; address = a + ref_offset M s (i + j); holder = x; index = i + j; target = get_or hs j None })
  refs_nth P s n x a i [] p j lt = absurd (omega (arith, lt))
  refs_nth P s n x a i (h ∷ hs) p zero lt =
      let e : i ≡ i + 0 = omega arith in subst (λ j. P (record { order = n; address = a + ref_offset M s j; holder = x; index = j; target = h })) e p.0
  refs_nth P s n x a i (h ∷ hs) p (suc j) lt =
      let e : i + 1 + j ≡ i + suc j = omega arith in
      subst (λ k. P (record { order = n; address = a + ref_offset M s k; holder = x; index = k; target = get_or hs j None })) e (refs_nth P s n x a (i + 1) hs p.1 j (omega (arith, lt)))

module _ (M : ShapeTable) (code : Shape → ℕ) (law : Lawful M) where
  pub offset-admitted : {at : ℕ → ℕ} {w : List ℕ} {a : ℕ} {b : Body} → (l : Lies M code at w a b) → (i : ℕ) → ref_offset M b.shape i ≡ l.offsets.ref_at i
  offset-admitted l i = ap (λ o. option_map_or (λ (p : Offsets). p.ref_at i) o 0) l.admitted

  -- an object's slots lie behind its header, within its words
  refs_inside : (at : ℕ → ℕ) (w : List ℕ) (n a : ℕ) (o : Obj) → Lies M code at w a o.body
      → AllByRecursion (λ s. (a < s.address) × (s.address < a + size o.body)) (ref_slots M o.body.shape n o.id a 0 o.body.refs)
  refs_inside at w n a o l = refs_each M _ o.body.shape n o.id a 0 o.body.refs (λ j lt.
      let i = (law.apart o.body.shape l.offsets l.admitted).ref_inside (0 + j) (omega (arith, lt, l.ref_count)) in
      (omega (arith, offset-admitted l (0 + j), i.0), omega (arith, offset-admitted l (0 + j), i.1, l.ref_count, l.word_count)))

  pub slots_inside : (at : ℕ → ℕ) (w : List ℕ) (n a : ℕ) (os : List Obj) → LieFrom M code at w a os
      → AllByRecursion (λ s. (a < s.address) × (s.address < a + words_of os)) (object_slots M n a os)
  slots_inside at w n a [] l = tt
  slots_inside at w n a (o ∷ os) l =
      all_++ _ (ref_slots M o.body.shape n o.id a 0 o.body.refs) (object_slots M n (a + size o.body) os)
      (all_map _ _ (λ s p. (p.0, omega (arith, sums, p.1))) (ref_slots M o.body.shape n o.id a 0 o.body.refs) (refs_inside at w n a o l.0))
      (all_map _ _ (λ s p. (omega (arith, p.0), omega (arith, sums, p.1))) (object_slots M n (a + size o.body) os) (slots_inside at w n (a + size o.body) os l.1))

  -- a slot lies in a car of the row
  pub cars_inside : (at : ℕ → ℕ) (w : List ℕ) (n : ℕ) (t : Train) → AllByRecursion (CarLies M code at w) t → AllByRecursion (λ c. words_of c.objects ≤ car_words) t
      → AllByRecursion (λ s. one_of (s.address / car_words) (car_numbers t) ≡ true) (train_slots M n t)
  cars_inside at w n [] l i = tt
  cars_inside at w n (c ∷ t) l i =
      all_++ _ (object_slots M n (car_words * c.number) c.objects) (train_slots M (n + 1) t)
      (all_map _ _ (λ s p.
      let e : c.number ≡ s.address / car_words = omega (arith, p.0, p.1, i.0) in
      subst (λ z. one_of z (car_numbers (c ∷ t)) ≡ true) e (one_of_here c.number (car_numbers t))) (object_slots M n (car_words * c.number) c.objects)
      (slots_inside at w n (car_words * c.number) c.objects l.0))
      (all_map _ _ (λ s p. one_of_there (s.address / car_words) c.number (car_numbers t) p) (train_slots M (n + 1) t) (cars_inside at w (n + 1) t l.1 i.1))

  -- the words of one object: the header and data words stay, and each reference holds the new address
  module _ (at to : ℕ → ℕ) (car : ℕ) (forward addresses v w : List ℕ) (fix : Corrected car forward addresses v w) (Known : ℕ → Type 0)
      (held : (h : Option ℕ) → ((y : ℕ) → h ≡ Some y → Known y) → fixed car forward (word_of at h) ≡ word_of to h) where
    -- a slot is among the addresses, or what it holds is where it was
    abbrev Fixes : Slot → Type 0
    Fixes s = (one_of s.address addresses ≡ true) ⊎ (fixed car forward (word_of at s.target) ≡ word_of at s.target)

    lies_fixed : (n a : ℕ) (o : Obj) → Lies M code at v a o.body → Points Known o
        → ((k : ℕ) → a ≤ k → k < a + size o.body → one_of k addresses ≡ true → one_of k (addresses_of (ref_slots M o.body.shape n o.id a 0 o.body.refs)) ≡ true)
        → AllByRecursion Fixes (ref_slots M o.body.shape n o.id a 0 o.body.refs) → Lies M code to w a o.body
    lies_fixed n a o l known only all =
        let p = law.apart o.body.shape l.offsets l.admitted in
        record {
          offsets = l.offsets;
          admitted = l.admitted;
          ref_count = l.ref_count;
          word_count = l.word_count;
          header = still a (omega arith) (omega arith) (refs_each M (λ s. s.address ≢ a) o.body.shape n o.id a 0 o.body.refs (λ j lt.
              λ e. omega (arith, e, offset-admitted l (0 + j), p.ref_inside (0 + j) (omega (arith, lt, l.ref_count))))) ∙ l.header;
          refs = λ i lt.
              let q = refs_nth M Fixes o.body.shape n o.id a 0 o.body.refs all i (omega (arith, lt, l.ref_count)) in
              let k : a + ref_offset M o.body.shape (0 + i) ≡ a + l.offsets.ref_at i = ap (λ j. a + ref_offset M o.body.shape j) (omega arith) ∙ ap (λ j. a + j) (offset-admitted l i) in
              corrected i (get_or o.body.refs i None) (l.refs i lt) (held (get_or o.body.refs i None) (known i)) k q;
          values = λ j lt.
              still (a + l.offsets.word_at j) (omega arith) (omega (arith, p.word_inside j lt, l.ref_count, l.word_count))
              (refs_each M (λ s. s.address ≢ a + l.offsets.word_at j) o.body.shape n o.id a 0 o.body.refs (λ i h.
              λ e. p.different (0 + i) j (omega (arith, h, l.ref_count)) lt (omega (arith, e, offset-admitted l (0 + i))))) ∙ l.values j lt;
        }
      where
        still : (k : ℕ) → a ≤ k → k < a + size o.body → AllByRecursion (λ s. s.address ≢ k) (ref_slots M o.body.shape n o.id a 0 o.body.refs) → get_or w k 0 ≡ get_or v k 0
        still k g h none = elim (cases_Bool (one_of k addresses)) [
          | inl e ↦ absurd (both_ways (one_of k (addresses_of (ref_slots M o.body.shape n o.id a 0 o.body.refs)))
              (none_among k (ref_slots M o.body.shape n o.id a 0 o.body.refs) none) (only k g h e))
          | inr e ↦ fix.words k ∙ ap (λ b. cond b (fixed car forward (get_or v k 0)) (get_or v k 0)) e
        ]

        corrected : (i : ℕ) (h : Option ℕ) → get_or v (a + l.offsets.ref_at i) 0 ≡ word_of at h → fixed car forward (word_of at h) ≡ word_of to h
            → a + ref_offset M o.body.shape (0 + i) ≡ a + l.offsets.ref_at i
            → (one_of (a + ref_offset M o.body.shape (0 + i)) addresses ≡ true) ⊎ (fixed car forward (word_of at h) ≡ word_of at h)
            → get_or w (a + l.offsets.ref_at i) 0 ≡ word_of to h
        corrected i h old new k q =
            let s = a + l.offsets.ref_at i in
            let f : fixed car forward (get_or v s 0) ≡ word_of to h = ap (fixed car forward) old ∙ new in
            elim (cases_Bool (one_of s addresses)) [
              | inl e ↦ fix.words s ∙ ap (λ b. cond b (fixed car forward (get_or v s 0)) (get_or v s 0)) e ∙ f
              | inr e ↦ elim q [
                | inl t ↦ absurd (both_ways (one_of s addresses) e (subst (λ z. one_of z addresses ≡ true) k t))
                | inr t ↦ fix.words s ∙ ap (λ b. cond b (fixed car forward (get_or v s 0)) (get_or v s 0)) e ∙ old ∙ sym t ∙ new
              ]
            ]

    lie_from_fixed : (n a : ℕ) (os : List Obj) → LieFrom M code at v a os → AllByRecursion (Points Known) os
        → ((k : ℕ) → a ≤ k → k < a + words_of os → one_of k addresses ≡ true → one_of k (addresses_of (object_slots M n a os)) ≡ true)
        → AllByRecursion Fixes (object_slots M n a os) → LieFrom M code to w a os
    lie_from_fixed n a [] l known only all = tt
    lie_from_fixed n a (o ∷ os) l known only all =
        let here = ref_slots M o.body.shape n o.id a 0 o.body.refs in
        let rest = object_slots M n (a + size o.body) os in (
          lies_fixed n a o l.0 known.0
              (λ k g h e. in_first k here rest (all_map _ (λ s. s.address ≢ k) (λ s p z. omega (arith, p.0, h, z)) rest (slots_inside at v n (a + size o.body) os l.1)) (only k g (omega (arith, sums, h)) e))
              (all_left Fixes here rest all),
          lie_from_fixed n (a + size o.body) os l.1 known.1
              (λ k g h e. in_second k here rest (all_map _ (λ s. s.address ≢ k) (λ s p z. omega (arith, p.1, g, z)) here (refs_inside at v n a o l.0)) (only k (omega (arith, g)) (omega (arith, sums, h)) e))
              (all_right Fixes here rest all),
        )

    pub cars_fixed : (n : ℕ) (t : Train) → AllByRecursion (CarLies M code at v) t → AllByRecursion (λ c. words_of c.objects ≤ car_words) t → IsDistinct eqb (car_numbers t)
        → AllByRecursion (Points Known) (train_objects t)
        → ((k : ℕ) → one_of (k / car_words) (car_numbers t) ≡ true → one_of k addresses ≡ true → one_of k (addresses_of (train_slots M n t)) ≡ true)
        → AllByRecursion Fixes (train_slots M n t) → AllByRecursion (CarLies M code to w) t
    cars_fixed n [] l i d known only all = tt
    cars_fixed n (c ∷ t) l i d known only all =
        let here = object_slots M n (car_words * c.number) c.objects in
        let rest = train_slots M (n + 1) t in
        let head = distinct_head c.number (car_numbers t) d in (
          lie_from_fixed n (car_words * c.number) c.objects l.0 (all_left _ c.objects (train_objects t) known)
              (λ k g h e.
              let in_car : c.number ≡ k / car_words = omega (arith, g, h, i.0) in
              in_first k here rest
              (all_map _ (λ s. s.address ≢ k) (λ s p z. both_ways (one_of c.number (car_numbers t)) head
              (subst (λ m. one_of m (car_numbers t) ≡ true) (ap (λ j. j / car_words) z ∙ sym in_car) p)) rest (cars_inside at v (n + 1) t l.1 i.1))
              (only k (subst (λ m. one_of m (car_numbers (c ∷ t)) ≡ true) in_car (one_of_here c.number (car_numbers t))) e))
              (all_left Fixes here rest all),
          cars_fixed (n + 1) t l.1 i.1 (IsDistinct-tail eqb c.number (car_numbers t) d) (all_right _ c.objects (train_objects t) known)
              (λ k m e. in_second k here rest
              (all_map _ (λ s. s.address ≢ k) (λ s p z.
              let in_car : k / car_words ≡ c.number = omega (arith, p.0, p.1, i.0, z) in
              both_ways (one_of c.number (car_numbers t)) head (subst (λ j. one_of j (car_numbers t) ≡ true) in_car m)) here (slots_inside at v n (car_words * c.number) c.objects l.0))
              (only k (one_of_there (k / car_words) c.number (car_numbers t) m) e))
              (all_right Fixes here rest all),
        )
