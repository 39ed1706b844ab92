-- Objects whose references were corrected: if each slot has the word of what it holds, by other addresses than before, and all other
-- words are as they were, the objects stand by those addresses.
use Rattle.std.proofs.Common.{◌≡◌, ℕ, zero, suc, ◌+◌, ◌*◌, ◌/◌, ◌<◌, ◌≤◌, ◌≢◌, true, false, eqb, ◌++◌, List, [], ◌∷◌, Option, None, get_or, length, refl, sym, ◌∙◌, ap, subst, arith}
use Rattle.std.specs.List.{AllByRecursion, IsDistinct}
use Rattle.std.proofs.lemmas.Map.Keys.{IsDistinct-tail}
use Rattle.std.specs.Prelude.{map}
use Rattle.std.proofs.lemmas.Bool.{ne_eqb, or_from, both_ways}
use Rattle.std.proofs.lemmas.List.{map-append}
use Rattle.std.proofs.lemmas.List.Folds.{list_any-append}
use Rattle.layout.specs.ShapeTable.{ShapeTable, Lawful}
use Rattle.layout.specs.declared.Shape.{Shape}
use Rattle.model.specs.Bodies.{Body, size}
use Rattle.model.specs.Notes.{Slot, ref_offset, ref_slots, object_slots, train_slots, slots}
use Rattle.model.specs.Trains.{Obj, Car, Train, Trains, words_of, car_numbers, numbers, one_of, car_words}
use Rattle.model.proofs.Alls.{all_++, all_left, all_right, all_map}
use Rattle.model.proofs.Distinct.{one_of_here, one_of_there, distinct_head}
use Rattle.model.proofs.RememberCars.{cars_in_row, row_numbers, row_slots}
use Rattle.model.proofs.Totals.{sums}
use Rattle.objects.specs.Stand.{EachCar}
use Rattle.objects.proofs.Places.{car_of, row_each, each_row}
use Rattle.objects.specs.Lies.{Lies, LieFrom, CarLies, word_of}
use Rattle.objects.specs.Words.{HasItsWord}
use Rattle.objects.proofs.Changes.{ref_offset_within, ref_offset-is}

abbrev pub address_of : Slot → ℕ
address_of s = s.address

-- a number that none of some slots has as its address
no_address : (k : ℕ) (ss : List Slot) → AllByRecursion (λ s. k ≢ s.address) ss → one_of k (map address_of ss) ≡ false
no_address k [] p = refl
no_address k (s ∷ ss) p = or_from (eqb k s.address) (one_of k (map address_of ss)) (ne_eqb k s.address p.0) (no_address k ss p.1)

no_address_joined : (k : ℕ) (ss rs : List Slot) → one_of k (map address_of ss) ≡ false → one_of k (map address_of rs) ≡ false → one_of k (map address_of (ss ++ rs)) ≡ false
no_address_joined k ss rs p q =
    ap (one_of k) (map-append address_of ss rs) ∙ list_any-append (λ (m : ℕ). eqb k m) (map address_of ss) (map address_of rs)
    ∙ or_from (one_of k (map address_of ss)) (one_of k (map address_of rs)) p q

module _ (M : ShapeTable) (code : Shape → ℕ) (law : Lawful M) where
  pub lies_corrected : (at to : ℕ → ℕ) (v w : List ℕ) (a : ℕ) (x : Body) → Lies M code at v a x
      → ((k : ℕ) → a ≤ k → k < a + size x → ((i : ℕ) → i < length x.refs → k ≢ a + ref_offset M x.shape i) → get_or w k 0 ≡ get_or v k 0)
      → ((i : ℕ) → i < length x.refs → get_or w (a + ref_offset M x.shape i) 0 ≡ word_of to (get_or x.refs i None)) → Lies M code to w a x
  lies_corrected at to v w a x l same set =
      let o = l.offsets in
      let p = law.apart x.shape o l.admitted in
      let off : (i : ℕ) → ref_offset M x.shape i ≡ o.ref_at i = ref_offset-is M code law at v a x l in
      record {
        offsets = o;
        admitted = l.admitted;
        ref_count = l.ref_count;
        word_count = l.word_count;
        header = same a (omega arith) (omega arith) (λ i h e. omega (arith, e, (ref_offset_within M code law at v a x l i h).0)) ∙ l.header;
        refs = λ i h. sym (ap (λ (q : ℕ). get_or w (a + q) 0) (off i)) ∙ set i (omega (arith, l.ref_count, h));
        values = λ j h. same (a + o.word_at j) (omega arith) (omega (arith, p.word_inside j h, l.ref_count, l.word_count))
            (λ i g e. p.different i j (omega (arith, l.ref_count, g)) h (omega (arith, off i, e))) ∙ l.values j h;
      }

  module _ (n : ℕ) where
    -- the slots of an object, and of objects behind one another, lie within their words
    refs_each : (P : Slot → Type 0) (s : Shape) (x a i : ℕ) (hs : List (Option ℕ))
        → ((k : ℕ) → k < length hs → P (record { order = n; address = a + ref_offset M s (i + k); holder = x; index = i + k; target = get_or hs k None }))
        → AllByRecursion P (ref_slots M s n x a i hs)
    refs_each P s x a i [] f = tt
    refs_each P s x a i (h ∷ hs) f = (
      subst (λ (j : ℕ). P (record { order = n; address = a + ref_offset M s j; holder = x; index = j; target = h })) (let e : i + 0 ≡ i = omega arith in e) (f zero (omega arith)),
      refs_each P s x a (i + 1) hs (λ k g. subst (λ (j : ℕ). P (record { order = n; address = a + ref_offset M s j; holder = x; index = j; target = get_or hs k None }))
          (let e : i + suc k ≡ i + 1 + k = omega arith in e) (f (suc k) (omega (arith, g)))),
    )

    refs_at : (P : Slot → Type 0) (s : Shape) (x a i : ℕ) (hs : List (Option ℕ)) → AllByRecursion P (ref_slots M s n x a i hs)
        → (k : ℕ) → k < length hs → P (record { order = n; address = a + ref_offset M s (i + k); holder = x; index = i + k; target = get_or hs k None })
    refs_at P s x a i [] p k h = absurd (omega (arith, h))
    refs_at P s x a i (g ∷ hs) p zero h =
        subst (λ (j : ℕ). P (record { order = n; address = a + ref_offset M s j; holder = x; index = j; target = g })) (let e : i ≡ i + 0 = omega arith in e) p.0
    refs_at P s x a i (g ∷ hs) p (suc k) h =
        subst (λ (j : ℕ). P (record { order = n; address = a + ref_offset M s j; holder = x; index = j; target = get_or hs k None })) (let e : i + 1 + k ≡ i + suc k = omega arith in e)
        (refs_at P s x a (i + 1) hs p.1 k (omega (arith, h)))

    own_slots_within : (at : ℕ → ℕ) (v : List ℕ) (a : ℕ) (o : Obj) → Lies M code at v a o.body
        → AllByRecursion (λ s. (a ≤ s.address) × (s.address < a + size o.body)) (ref_slots M o.body.shape n o.id a 0 o.body.refs)
    own_slots_within at v a o l =
        refs_each (λ s. (a ≤ s.address) × (s.address < a + size o.body)) o.body.shape o.id a 0 o.body.refs
        (λ k h. let e : 0 + k ≡ k = omega arith in subst (λ (j : ℕ). (a ≤ a + ref_offset M o.body.shape j) × (a + ref_offset M o.body.shape j < a + size o.body)) (sym e)
        (omega arith, omega (arith, (ref_offset_within M code law at v a o.body l k h).1)))

    pub slots_within : (at : ℕ → ℕ) (v : List ℕ) (a : ℕ) (os : List Obj) → LieFrom M code at v a os
        → AllByRecursion (λ s. (a ≤ s.address) × (s.address < a + words_of os)) (object_slots M n a os)
    slots_within at v a [] l = tt
    slots_within at v a (o ∷ os) l =
        all_++ (λ s. (a ≤ s.address) × (s.address < a + words_of (o ∷ os))) (ref_slots M o.body.shape n o.id a 0 o.body.refs) (object_slots M n (a + size o.body) os)
        (all_map (λ s. (a ≤ s.address) × (s.address < a + size o.body)) (λ s. (a ≤ s.address) × (s.address < a + words_of (o ∷ os)))
        (λ s p. (p.0, omega (arith, sums, p.1))) (ref_slots M o.body.shape n o.id a 0 o.body.refs) (own_slots_within at v a o l.0))
        (all_map (λ s. (a + size o.body ≤ s.address) × (s.address < a + size o.body + words_of os)) (λ s. (a ≤ s.address) × (s.address < a + words_of (o ∷ os)))
        (λ s p. (omega (arith, p.0), omega (arith, sums, p.1))) (object_slots M n (a + size o.body) os) (slots_within at v (a + size o.body) os l.1))

    -- objects behind one another, of which each slot has its word and all other words stayed
    pub lie_from_corrected : (at to : ℕ → ℕ) (v w : List ℕ) (a : ℕ) (os : List Obj) → LieFrom M code at v a os
        → ((k : ℕ) → a ≤ k → k < a + words_of os → one_of k (map address_of (object_slots M n a os)) ≡ false → get_or w k 0 ≡ get_or v k 0)
        → AllByRecursion (HasItsWord to w) (object_slots M n a os) → LieFrom M code to w a os
    lie_from_corrected at to v w a [] l same set = tt
    lie_from_corrected at to v w a (o ∷ os) l same set =
        let own = ref_slots M o.body.shape n o.id a 0 o.body.refs in
        let rest = object_slots M n (a + size o.body) os in (
          lies_corrected at to v w a o.body l.0
              (λ k p q f. same k p (omega (arith, sums, q)) (no_address_joined k own rest
              (no_address k own (refs_each (λ s. k ≢ s.address) o.body.shape o.id a 0 o.body.refs
              (λ i h. let e : i ≡ 0 + i = omega arith in subst (λ (j : ℕ). k ≢ a + ref_offset M o.body.shape j) e (f i h))))
              (no_address k rest (all_map (λ s. (a + size o.body ≤ s.address) × (s.address < a + size o.body + words_of os)) (λ s. k ≢ s.address)
              (λ s r e. omega (arith, q, r.0, e)) rest (slots_within at v (a + size o.body) os l.1)))))
              (λ i h. let e : 0 + i ≡ i = omega arith in
              subst (λ (j : ℕ). get_or w (a + ref_offset M o.body.shape j) 0 ≡ word_of to (get_or o.body.refs i None)) e
              (refs_at (HasItsWord to w) o.body.shape o.id a 0 o.body.refs (all_left (HasItsWord to w) own rest set) i h)),
          lie_from_corrected at to v w (a + size o.body) os l.1
              (λ k p q f. same k (omega (arith, p)) (omega (arith, sums, q)) (no_address_joined k own rest
              (no_address k own (all_map (λ s. (a ≤ s.address) × (s.address < a + size o.body)) (λ s. k ≢ s.address) (λ s r e. omega (arith, p, r.1, e)) own (own_slots_within at v a o l.0))) f))
              (all_right (HasItsWord to w) own rest set),
        )

    -- of a car
    pub car_lies_corrected : (at to : ℕ → ℕ) (v w : List ℕ) (c : Car) → CarLies M code at v c
        → ((k : ℕ) → car_words * c.number ≤ k → k < car_words * c.number + words_of c.objects
        → one_of k (map address_of (object_slots M n (car_words * c.number) c.objects)) ≡ false → get_or w k 0 ≡ get_or v k 0)
        → AllByRecursion (HasItsWord to w) (object_slots M n (car_words * c.number) c.objects) → CarLies M code to w c
    car_lies_corrected at to v w c l same set = lie_from_corrected at to v w (car_words * c.number) c.objects l same set

  -- The same for all cars: of the words of the cars, all that are no slots' stayed.

  -- a slot lies in the car of its number
  slots_number : (at : ℕ → ℕ) (v : List ℕ) (n : ℕ) (c : Car) → CarLies M code at v c → words_of c.objects ≤ car_words
      → AllByRecursion (λ s. s.address / car_words ≡ c.number) (object_slots M n (car_words * c.number) c.objects)
  slots_number at v n c l within =
      all_map (λ s. (car_words * c.number ≤ s.address) × (s.address < car_words * c.number + words_of c.objects)) (λ s. s.address / car_words ≡ c.number)
      (λ s p. car_of s.address c.number p.0 (omega (arith, p.1, within))) (object_slots M n (car_words * c.number) c.objects) (slots_within n at v (car_words * c.number) c.objects l)

  row_slots_number : (at : ℕ → ℕ) (v : List ℕ) (n : ℕ) (row : Train) → AllByRecursion (CarLies M code at v) row → AllByRecursion (λ c. words_of c.objects ≤ car_words) row
      → AllByRecursion (λ s. one_of (s.address / car_words) (car_numbers row) ≡ true) (train_slots M n row)
  row_slots_number at v n [] l within = tt
  row_slots_number at v n (c ∷ cs) l within =
      all_++ (λ s. one_of (s.address / car_words) (car_numbers (c ∷ cs)) ≡ true) (object_slots M n (car_words * c.number) c.objects) (train_slots M (n + 1) cs)
      (all_map (λ s. s.address / car_words ≡ c.number) (λ s. one_of (s.address / car_words) (car_numbers (c ∷ cs)) ≡ true)
      (λ s e. subst (λ (m : ℕ). one_of m (car_numbers (c ∷ cs)) ≡ true) (sym e) (one_of_here c.number (car_numbers cs))) (object_slots M n (car_words * c.number) c.objects) (slots_number at v n c l.0 within.0))
      (all_map (λ s. one_of (s.address / car_words) (car_numbers cs) ≡ true) (λ s. one_of (s.address / car_words) (car_numbers (c ∷ cs)) ≡ true)
      (λ s e. one_of_there (s.address / car_words) c.number (car_numbers cs) e) (train_slots M (n + 1) cs) (row_slots_number at v (n + 1) cs l.1 within.1))

  row_corrected : (at to : ℕ → ℕ) (v w : List ℕ) (n : ℕ) (row : Train) → AllByRecursion (CarLies M code at v) row → AllByRecursion (λ c. words_of c.objects ≤ car_words) row
      → IsDistinct eqb (car_numbers row)
      → ((k : ℕ) → one_of (k / car_words) (car_numbers row) ≡ true → one_of k (map address_of (train_slots M n row)) ≡ false → get_or w k 0 ≡ get_or v k 0)
      → AllByRecursion (HasItsWord to w) (train_slots M n row) → AllByRecursion (CarLies M code to w) row
  row_corrected at to v w n [] l within d same set = tt
  row_corrected at to v w n (c ∷ cs) l within d same set =
      let own = object_slots M n (car_words * c.number) c.objects in
      let rest = train_slots M (n + 1) cs in
      let other : one_of c.number (car_numbers cs) ≡ false = distinct_head c.number (car_numbers cs) d in (
        car_lies_corrected n at to v w c l.0
            (λ k p q f.
            let here : k / car_words ≡ c.number = car_of k c.number p (omega (arith, q, within.0)) in
            same k (subst (λ (m : ℕ). one_of m (car_numbers (c ∷ cs)) ≡ true) (sym here) (one_of_here c.number (car_numbers cs)))
            (no_address_joined k own rest f (no_address k rest
            (all_map (λ s. one_of (s.address / car_words) (car_numbers cs) ≡ true) (λ s. k ≢ s.address)
            (λ s r e. both_ways (one_of c.number (car_numbers cs)) other (subst (λ (m : ℕ). one_of m (car_numbers cs) ≡ true) (sym (ap (λ (j : ℕ). j / car_words) e) ∙ here) r))
            rest (row_slots_number at v (n + 1) cs l.1 within.1)))))
            (all_left (HasItsWord to w) own rest set),
        row_corrected at to v w (n + 1) cs l.1 within.1 (IsDistinct-tail eqb c.number (car_numbers cs) d)
            (λ k p f. same k (one_of_there (k / car_words) c.number (car_numbers cs) p) (no_address_joined k own rest (no_address k own
            (all_map (λ s. s.address / car_words ≡ c.number) (λ s. k ≢ s.address)
            (λ s r e. both_ways (one_of c.number (car_numbers cs)) other (subst (λ (m : ℕ). one_of m (car_numbers cs) ≡ true) (ap (λ (j : ℕ). j / car_words) e ∙ r) p))
            own (slots_number at v n c l.0 within.0))) f))
            (all_right (HasItsWord to w) own rest set),
      )

  -- a placement by other addresses, once each slot has the word of what it holds by them
  pub trains_corrected : (at to : ℕ → ℕ) (v w : List ℕ) (n : ℕ) (ts : Trains) → EachCar (CarLies M code at v) ts → EachCar (λ c. words_of c.objects ≤ car_words) ts
      → IsDistinct eqb (numbers ts)
      → ((k : ℕ) → one_of (k / car_words) (numbers ts) ≡ true → one_of k (map address_of (slots M n ts)) ≡ false → get_or w k 0 ≡ get_or v k 0)
      → AllByRecursion (HasItsWord to w) (slots M n ts) → EachCar (CarLies M code to w) ts
  trains_corrected at to v w n ts l within d same set =
      each_row (CarLies M code to w) ts
      (row_corrected at to v w n (cars_in_row ts) (row_each (CarLies M code at v) ts l) (row_each (λ c. words_of c.objects ≤ car_words) ts within)
      (subst (IsDistinct eqb) (sym (row_numbers ts)) d)
      (λ k p f. same k (subst (λ ns. one_of (k / car_words) ns ≡ true) (row_numbers ts) p) (subst (λ ss. one_of k (map address_of ss) ≡ false) (sym (row_slots M n ts)) f))
      (subst (AllByRecursion (HasItsWord to w)) (row_slots M n ts) set))
