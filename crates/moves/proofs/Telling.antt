-- The slots that are noted by words are those that the model notes.
use Rattle.std.proofs.Common.{◌≡◌, ℕ, suc, ◌+◌, ◌*◌, ◌/◌, ◌<◌, ◌≤◌, Bool, true, false, cond, eqb, ltb, List, [], ◌∷◌, ◌++◌, length, get_or, filter, flat_map, Option, Some, None, sym, refl, ap, ◌∙◌, subst, arith, inl, inr}
use Rattle.std.proofs.lemmas.Bool.{cases_Bool, eq-eqb, ne_eqb, ltb-false, ltb-true, or_parts, lt-ltb}
use Rattle.std.proofs.lemmas.List.{append-nil}
use Rattle.std.proofs.lemmas.List.Concat.{flat_map-append}
use Rattle.std.proofs.lemmas.List.Elements.{filter-append}
use Rattle.std.specs.List.{AllByRecursion, IsDistinct}
use Rattle.layout.specs.ShapeTable.{ShapeTable}
use Rattle.remembered.specs.declared.Update.TheVariants.{Note}
use Rattle.model.specs.Bodies.{size}
use Rattle.model.specs.Notes.{CarPlace, train_car_place, car_place, Slot, ref_slots, object_slots, train_slots, note_by, note_of, notes, notes_of_carried, corrected, is_slot_of}
use Rattle.model.specs.Trains.{Obj, Train, Trains, train_objects, times, among, numbers, one_of, car_words}
use Rattle.model.proofs.Alls.{all_++, all_map, all_with}
use Rattle.model.proofs.Distinct.{all_at}
use Rattle.model.proofs.Keeps.{times_self}
use Rattle.model.proofs.RememberCars.{car_place_lies}
use Rattle.model.proofs.Totals.{is, one_if, sums}
use Rattle.objects.specs.Lies.{ArePlaced, word_of}
use Rattle.objects.specs.Stand.{CarPlaced}
use Rattle.objects.proofs.Places.{number_in_car}
use Rattle.trains.specs.Fills.{numbers_of}
use Rattle.trains.specs.Orders.{order_in, stands_later}
use Rattle.trains.specs.Ties.{fills}
use Rattle.trains.proofs.Follow.{fills_follow, later_by_numbers}
use Rattle.moves.specs.Fixes.{addresses_of, own_references}
use Rattle.moves.specs.Noting.{noted_at, noted_each}
use Rattle.moves.proofs.Correcting.{refs_each}
use Rattle.moves.proofs.Gathered.{refs_addresses}

-- a number that no car has counts as behind all
order_out : (n : ℕ) (ns : List ℕ) → one_of n ns ≡ false → order_in n ns ≡ length ns
order_out n [] e = refl
order_out n (m ∷ ns) e = let k = or_parts (eqb n m) (one_of n ns) e in ap (λ b. cond b 0 (suc (order_in n ns))) k.0 ∙ ap suc (order_out n ns k.1)

order_most : (n : ℕ) (ns : List ℕ) → order_in n ns ≤ length ns
order_most n [] = omega arith
order_most n (m ∷ ns) = go (eqb n m) (order_most n ns)
  where
    go : (b : Bool) → order_in n ns ≤ length ns → cond b 0 (suc (order_in n ns)) ≤ suc (length ns)
    go true r = omega arith
    go false r = omega (arith, r)

none_later : (n than : ℕ) (ns : List ℕ) → one_of than ns ≡ false → ltb (order_in than ns) (order_in n ns) ≡ false
none_later n than ns e = elim (cases_Bool (ltb (order_in than ns) (order_in n ns))) [
  | inl q ↦ absurd (omega (arith, order_out than ns e, order_most n ns, ltb-true (order_in than ns) (order_in n ns) q))
  | inr q ↦ q
]

module _ (M : ShapeTable) where
  -- in which car a slot's holder lies
  object_facts : (n a : ℕ) (os : List Obj) → AllByRecursion (λ s. (s.order ≡ n) × (1 ≤ times s.holder os)) (object_slots M n a os)
  object_facts n a [] = tt
  object_facts n a (o ∷ os) =
      let one : is o.id o ≡ 1 = ap one_if (eq-eqb o.id o.id refl) in
      all_++ _ (ref_slots M o.body.shape n o.id a 0 o.body.refs) (object_slots M n (a + size o.body) os)
      (refs_each M (λ s. (s.order ≡ n) × (1 ≤ times s.holder (o ∷ os))) o.body.shape n o.id a 0 o.body.refs (λ j lt. (refl, omega (arith, sums, one))))
      (all_map _ _ (λ s p. (p.0, omega (arith, sums, p.1))) (object_slots M n (a + size o.body) os) (object_facts n (a + size o.body) os))

  -- slots of other objects
  refs_all : (o : Obj) (n a i : ℕ) (hs : List (Option ℕ)) → filter (is_slot_of o) (ref_slots M o.body.shape n o.id a i hs) ≡ ref_slots M o.body.shape n o.id a i hs
  refs_all o n a i [] = refl
  refs_all o n a i (h ∷ hs) =
      let s : Slot = record { order = n; address = a + _; holder = o.id; index = i; target = h } in
      ap (λ b. cond b (s ∷ filter (is_slot_of o) (ref_slots M o.body.shape n o.id a (i + 1) hs)) (filter (is_slot_of o) (ref_slots M o.body.shape n o.id a (i + 1) hs))) (eq-eqb o.id o.id refl)
      ∙ ap (λ ss. s ∷ ss) (refs_all o n a (i + 1) hs)

pub filter_out : (p : Slot → Bool) (ss : List Slot) → AllByRecursion (λ s. p s ≡ false) ss → filter p ss ≡ []
filter_out p [] f = refl
filter_out p (s ∷ ss) f = ap (λ b. cond b (s ∷ filter p ss) (filter p ss)) f.0 ∙ filter_out p ss f.1

-- noting some slots one after another
pub noted-slots : (ts : Trains) (w : List ℕ) (ss : List Slot) → AllByRecursion (λ s. noted_at (fills ts) w s.address ≡ note_of ts s s.target) ss
    → noted_each (fills ts) w (addresses_of ss) ≡ flat_map (λ s. note_of ts s s.target) ss
noted-slots ts w [] p = refl
noted-slots ts w (s ∷ ss) p = ap (λ us. us ++ noted_each (fills ts) w (addresses_of ss)) p.0 ∙ ap (λ us. note_of ts s s.target ++ us) (noted-slots ts w ss p.1)

-- one slot
pub noted-slot : (ts : Trains) (w : List ℕ) (to : ℕ → ℕ) (s : Slot) (a : CarPlace) → IsDistinct eqb (numbers ts) → AllByRecursion (λ n. n < 64) (numbers ts)
    → get_or w s.address 0 ≡ word_of to s.target → car_place 0 s.holder ts ≡ Some a → a.order ≡ s.order → a.number ≡ s.address / car_words
    → ((y : ℕ) → s.target ≡ Some y → (b : CarPlace) × (car_place 0 y ts ≡ Some b) × (to y / car_words ≡ b.number))
    → noted_at (fills ts) w s.address ≡ note_of ts s s.target
noted-slot ts w to s a distinct below word here order number there = go s.target refl
  where
    none64 : one_of 64 (numbers_of (fills ts)) ≡ false
    none64 = elim (cases_Bool (one_of 64 (numbers_of (fills ts)))) [
      | inl e ↦ absurd (let h = all_at (λ n. n < 64) 64 (numbers ts) below (subst (λ ns. one_of 64 ns ≡ true) (sym (fills_follow.numbered ts)) e) in omega (arith, h))
      | inr e ↦ e
    ]

    go : (h : Option ℕ) → s.target ≡ h → noted_at (fills ts) w s.address ≡ note_of ts s h
    go None e =
        let eight : get_or w s.address 0 / car_words ≡ 64 = ap (λ x. x / car_words) (word ∙ ap (word_of to) e) ∙ omega arith in
        ap (λ n. cond (stands_later (s.address / car_words) n (fills ts)) (Note n s.address ∷ []) []) eight
        ∙ ap (λ b. cond b (Note 64 s.address ∷ []) []) (none_later (s.address / car_words) 64 (numbers_of (fills ts)) none64)
    go (Some y) e =
        let t = there y e in
        let car : get_or w s.address 0 / car_words ≡ t.0.number = ap (λ x. x / car_words) (word ∙ ap (word_of to) e) ∙ t.2 in
        let later = later_by_numbers s.holder y ts a t.0 distinct here t.1 in
        ap (λ n. cond (stands_later (s.address / car_words) n (fills ts)) (Note n s.address ∷ []) []) car
        ∙ ap (λ n. cond (stands_later n t.0.number (fills ts)) (Note t.0.number s.address ∷ []) []) (sym number)
        ∙ ap (λ b. cond b (Note t.0.number s.address ∷ []) []) (sym later)
        ∙ ap (λ n. cond (ltb t.0.order n) (Note t.0.number s.address ∷ []) []) order
        ∙ ap (λ (c : Option CarPlace). note_by c s) (sym t.1)

-- for each object of a row: its references are those slots of the row that it holds
module _ (M : ShapeTable) (to : ℕ → ℕ) where
  none_held : (x : Obj) (n a : ℕ) (os : List Obj) → times x.id os ≡ 0 → AllByRecursion (λ s. is_slot_of x s ≡ false) (object_slots M n a os)
  none_held x n a os e =
      all_map (λ s. (s.order ≡ n) × (1 ≤ times s.holder os)) (λ s. is_slot_of x s ≡ false)
      (λ s p. ne_eqb s.holder x.id (λ z. let q : times s.holder os ≡ 0 = ap (λ y. times y os) z ∙ e in omega (arith, p.1, q))) (object_slots M n a os) (object_facts M n a os)

  none_held_row : (x : Obj) (n : ℕ) (t : Train) → times x.id (train_objects t) ≡ 0 → AllByRecursion (λ s. is_slot_of x s ≡ false) (train_slots M n t)
  none_held_row x n [] e = tt
  none_held_row x n (c ∷ t) e =
      all_++ _ (object_slots M n (car_words * c.number) c.objects) (train_slots M (n + 1) t) (none_held x n (car_words * c.number) c.objects (omega (arith, sums, e)))
      (none_held_row x (n + 1) t (omega (arith, sums, e)))

  -- in two lists of slots
  own_first : (o : Obj) (ss us : List Slot) → own_references M to o ≡ addresses_of (filter (is_slot_of o) ss) → AllByRecursion (λ s. is_slot_of o s ≡ false) us
      → own_references M to o ≡ addresses_of (filter (is_slot_of o) (ss ++ us))
  own_first o ss us e f =
      e ∙ ap addresses_of (sym (append-nil (filter (is_slot_of o) ss)) ∙ ap (λ (vs : List Slot). filter (is_slot_of o) ss ++ vs) (sym (filter_out (is_slot_of o) us f)) ∙ sym (filter-append (is_slot_of o) ss us))

  own_second : (o : Obj) (ss us : List Slot) → AllByRecursion (λ s. is_slot_of o s ≡ false) ss → own_references M to o ≡ addresses_of (filter (is_slot_of o) us)
      → own_references M to o ≡ addresses_of (filter (is_slot_of o) (ss ++ us))
  own_second o ss us f e =
      e ∙ ap addresses_of (ap (λ (vs : List Slot). vs ++ filter (is_slot_of o) us) (sym (filter_out (is_slot_of o) ss f)) ∙ sym (filter-append (is_slot_of o) ss us))

  own_objects : (n a : ℕ) (os : List Obj) → ArePlaced to a os → ((x : ℕ) → times x os ≤ 1)
      → AllByRecursion (λ o. own_references M to o ≡ addresses_of (filter (is_slot_of o) (object_slots M n a os))) os
  own_objects n a [] p once = tt
  own_objects n a (o ∷ os) p once =
      let here = ref_slots M o.body.shape n o.id a 0 o.body.refs in
      let rest = object_slots M n (a + size o.body) os in
      let one : is o.id o ≡ 1 = ap one_if (eq-eqb o.id o.id refl) in (
        own_first o here rest
            (refs_addresses M to o.body.shape 0 n o.id o.id (to o.id) 0 o.body.refs ∙ ap (λ b. addresses_of (ref_slots M o.body.shape n o.id b 0 o.body.refs)) p.0 ∙ ap addresses_of (sym (refs_all M o n a 0 o.body.refs)))
            (none_held o n (a + size o.body) os (omega (arith, sums, one, once o.id))),
        all_with (λ x. 1 ≤ times x.id os) (λ x. own_references M to x ≡ addresses_of (filter (is_slot_of x) rest)) _
            (λ x h e. own_second x here rest (refs_each M (λ s. is_slot_of x s ≡ false) o.body.shape n o.id a 0 o.body.refs
            (λ j lt. ne_eqb o.id x.id (λ z. let q : times o.id os ≡ times x.id os = ap (λ y. times y os) z in omega (arith, sums, one, once o.id, h, q)))) e) os (times_self os)
            (own_objects n (a + size o.body) os p.1 (λ x. omega (arith, sums, once x))),
      )

  pub own_row : (n : ℕ) (t : Train) → AllByRecursion (λ c. ArePlaced to (car_words * c.number) c.objects) t → ((x : ℕ) → times x (train_objects t) ≤ 1)
      → AllByRecursion (λ o. own_references M to o ≡ addresses_of (filter (is_slot_of o) (train_slots M n t))) (train_objects t)
  own_row n [] p once = tt
  own_row n (c ∷ t) p once =
      let here = object_slots M n (car_words * c.number) c.objects in
      let rest = train_slots M (n + 1) t in
      all_++ _ c.objects (train_objects t)
      (all_with (λ x. 1 ≤ times x.id c.objects) (λ x. own_references M to x ≡ addresses_of (filter (is_slot_of x) here)) _
      (λ x h e. own_first x here rest e (none_held_row x (n + 1) t (omega (arith, sums, once x.id, h)))) c.objects (times_self c.objects)
      (own_objects n (car_words * c.number) c.objects p.0 (λ x. omega (arith, sums, once x))))
      (all_with (λ x. 1 ≤ times x.id (train_objects t)) (λ x. own_references M to x ≡ addresses_of (filter (is_slot_of x) rest)) _
      (λ x h e. own_second x here rest (none_held x n (car_words * c.number) c.objects (omega (arith, sums, once x.id, h))) e) (train_objects t) (times_self (train_objects t))
      (own_row (n + 1) t p.1 (λ x. omega (arith, sums, once x))))

  -- where a slot's holder lies, and where what it holds does
  pub holder_row : (n : ℕ) (t : Train) → ((x : ℕ) → times x (train_objects t) ≤ 1)
      → AllByRecursion (λ c. (k : ℕ) → AllByRecursion (λ s. s.address / car_words ≡ c.number) (object_slots M k (car_words * c.number) c.objects)) t
      → AllByRecursion (λ s. train_car_place n s.holder t None ≡ Some (record { order = s.order; number = s.address / car_words })) (train_slots M n t)
  holder_row n [] once inside = tt
  holder_row n (c ∷ t) once inside =
      let here = object_slots M n (car_words * c.number) c.objects in
      all_++ _ here (train_slots M (n + 1) t)
      (all_with (λ s. (s.order ≡ n) × (1 ≤ times s.holder c.objects)) (λ s. s.address / car_words ≡ c.number) _
      (λ s p q. ap (λ b. cond b (Some (record { order = n; number = c.number })) (train_car_place (n + 1) s.holder t None)) (lt-ltb 0 (times s.holder c.objects) p.1)
      ∙ ap (λ k. Some (record { order = k; number = c.number })) (sym p.0) ∙ ap (λ k. Some (record { order = s.order; number = k })) (sym q)) here (object_facts M n (car_words * c.number) c.objects) (inside.0 n))
      (all_map _ _ (λ s p.
      let lies = car_place_lies s.holder _ (n + 1) t p in
      let out : among s.holder c.objects ≡ false = not_among s.holder c.objects (omega (arith, sums, once s.holder, lies)) in
      ap (λ b. cond b (Some (record { order = n; number = c.number })) (train_car_place (n + 1) s.holder t None)) out ∙ p) (train_slots M (n + 1) t)
      (holder_row (n + 1) t (λ x. omega (arith, sums, once x)) inside.1))
    where
      not_among : (x : ℕ) (os : List Obj) → times x os ≡ 0 → among x os ≡ false
      not_among x os e = ap (λ z. ltb 0 z) e

  pub target_row : (y n : ℕ) (t : Train) → AllByRecursion (CarPlaced to) t → 1 ≤ times y (train_objects t)
      → (b : CarPlace) × (train_car_place n y t None ≡ Some b) × (to y / car_words ≡ b.number)
  target_row y n [] p h = absurd (omega (arith, h))
  target_row y n (c ∷ t) p h = go (among y c.objects) refl (target_row y (n + 1) t p.1)
    where
      go : (d : Bool) → among y c.objects ≡ d → (1 ≤ times y (train_objects t) → (b : CarPlace) × (train_car_place (n + 1) y t None ≡ Some b) × (to y / car_words ≡ b.number))
          → (b : CarPlace) × (cond d (Some (record { order = n; number = c.number })) (train_car_place (n + 1) y t None) ≡ Some b) × (to y / car_words ≡ b.number)
      go true e r = (record { order = n; number = c.number }, refl, number_in_car to c p.0 y (ltb-true 0 (times y c.objects) e))
      go false e r = r (omega (arith, sums, h, ltb-false 0 (times y c.objects) e))

-- What a whole pass notes is what the model notes.
all_filter : (P : Slot → Type 0) (p : Slot → Bool) (ss : List Slot) → AllByRecursion P ss → AllByRecursion P (filter p ss)
all_filter P p [] f = tt
all_filter P p (s ∷ ss) f = go (p s) (all_filter P p ss f.1)
  where
    go : (b : Bool) → AllByRecursion P (filter p ss) → AllByRecursion P (cond b (s ∷ filter p ss) (filter p ss))
    go true r = (f.0, r)
    go false r = r

noted-owns : (M : ShapeTable) (to : ℕ → ℕ) (ts : Trains) (w : List ℕ) (ss : List Slot) → AllByRecursion (λ s. noted_at (fills ts) w s.address ≡ note_of ts s s.target) ss
    → (os : List Obj) → AllByRecursion (λ o. own_references M to o ≡ addresses_of (filter (is_slot_of o) ss)) os
    → noted_each (fills ts) w (flat_map (own_references M to) os) ≡ flat_map (λ o. notes ts (is_slot_of o) ss) os
noted-owns M to ts w ss good [] f = refl
noted-owns M to ts w ss good (o ∷ os) f =
    flat_map-append (noted_at (fills ts) w) (own_references M to o) (flat_map (own_references M to) os)
    ∙ ap (λ us. us ++ noted_each (fills ts) w (flat_map (own_references M to) os))
    (ap (noted_each (fills ts) w) f.0 ∙ noted-slots ts w (filter (is_slot_of o) ss) (all_filter _ (is_slot_of o) ss good))
    ∙ ap (λ us. notes ts (is_slot_of o) ss ++ us) (noted-owns M to ts w ss good os f.1)

pub noted-carried : (M : ShapeTable) (to : ℕ → ℕ) (ts : Trains) (w : List ℕ) (ss : List Slot) → AllByRecursion (λ s. noted_at (fills ts) w s.address ≡ note_of ts s s.target) ss
    → (os : List Obj) → AllByRecursion (λ o. own_references M to o ≡ addresses_of (filter (is_slot_of o) ss)) os
    → noted_each (fills ts) w (addresses_of (filter (corrected os) ss) ++ flat_map (own_references M to) os) ≡ notes_of_carried ts os ss
noted-carried M to ts w ss good os f =
    flat_map-append (noted_at (fills ts) w) (addresses_of (filter (corrected os) ss)) (flat_map (own_references M to) os)
    ∙ ap (λ us. us ++ noted_each (fills ts) w (flat_map (own_references M to) os)) (noted-slots ts w (filter (corrected os) ss) (all_filter _ (corrected os) ss good))
    ∙ ap (λ us. notes ts (corrected os) ss ++ us) (noted-owns M to ts w ss good os f)
