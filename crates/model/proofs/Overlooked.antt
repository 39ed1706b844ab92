-- No reference is overlooked: slots have addresses of their own, and those that a step has to look at are found by the pairs.
use Rattle.std.proofs.Common.{◌≡◌, ℕ, ◌+◌, ◌*◌, ◌/◌, ◌<◌, ◌≤◌, Bool, true, false, cond, eqb, ltb, List, [], ◌∷◌, ◌++◌, length, Some, None, Option, sym, refl, ap, ◌∙◌, subst, arith}
use Rattle.std.proofs.lemmas.Bool.{both_ways, ne_eqb, ltb-true}
use Rattle.std.proofs.lemmas.List.{map-append}
use Rattle.std.proofs.lemmas.Map.Keys.{IsDistinct-cons, IsDistinct-head, IsDistinct-tail}
use Rattle.std.specs.List.{AllByRecursion, IsDistinct}
use Rattle.std.specs.Option.{option_map_or}
use Rattle.std.specs.Prelude.{map, filter}
use Rattle.layout.specs.declared.Shape.{Shape}
use Rattle.layout.specs.ShapeTable.{ShapeTable, Offsets, Lawful}
use Rattle.remembered.specs.Updates.{Pairs}
use Rattle.model.specs.Bodies.{size}
use Rattle.model.specs.Trains.{Obj, Car, Train, Trains, train_objects, objects, words_of, times, among, car_numbers, one_of, car_words}
use Rattle.model.specs.Notes.{CarPlace, train_car_place, car_place, Slot, ref_offset, ref_slots, object_slots, train_slots, slots, target_among}
use Rattle.model.specs.Space.{space_of}
use Rattle.model.specs.Remembered.{RememberedIfLater, FindsAll, StepFinds, NoReferenceIsOverlooked}
use Rattle.model.proofs.Totals.{is, sums}
use Rattle.std.proofs.lemmas.List.Sums.{sum_by-append}
use Rattle.model.proofs.Alls.{all_left, all_right, all_map, all_++}
use Rattle.model.proofs.Distinct.{distinct_nil, distinct_head, one_of_here, one_of_there}
use Rattle.model.proofs.Keeps.{sound_of}
use Rattle.model.proofs.RememberCars.{cars_in_row, row_objects, row_numbers, row_slots}
use Rattle.model.proofs.RememberSlots.{train_order}
use Rattle.model.proofs.Remember.{Shaped, Within, all_within, numbered_at, shaped_at, slot_addresses, slots_hold, slots_remembered}

-- Addresses that rise, from lo on and below hi.
abbrev pub Rises : (lo hi : ℕ) → List ℕ → Type 0
Rises lo hi [] = lo ≤ hi
Rises lo hi (x ∷ xs) = (lo ≤ x) × Rises (x + 1) hi xs

pub rises_from : (lo low hi : ℕ) (xs : List ℕ) → low ≤ lo → Rises lo hi xs → Rises low hi xs
rises_from lo low hi [] l r = omega (arith, r)
rises_from lo low hi (x ∷ xs) l r = (omega (arith, r.0), r.1)

pub rises_bound : (lo hi : ℕ) (xs : List ℕ) → Rises lo hi xs → lo ≤ hi
rises_bound lo hi [] r = r
rises_bound lo hi (x ∷ xs) r = omega (arith, r.0, rises_bound (x + 1) hi xs r.1)

pub rises-append : (lo mid hi : ℕ) (xs ys : List ℕ) → Rises lo mid xs → Rises mid hi ys → Rises lo hi (xs ++ ys)
rises-append lo mid hi [] ys r q = rises_from mid lo hi ys r q
rises-append lo mid hi (x ∷ xs) ys r q = (r.0, rises-append (x + 1) mid hi xs ys r.1 q)

pub rises_within : (lo hi : ℕ) (xs : List ℕ) → Rises lo hi xs → AllByRecursion (λ x. (lo ≤ x) × (x < hi)) xs
rises_within lo hi [] r = tt
rises_within lo hi (x ∷ xs) r =
    let b = rises_bound (x + 1) hi xs r.1 in
    ((omega (arith, r.0), omega (arith, b)), all_map _ _ (λ y p. (omega (arith, r.0, p.0), p.1)) xs (rises_within (x + 1) hi xs r.1))

rises_apart : (lo hi : ℕ) (xs : List ℕ) → Rises lo hi xs → IsDistinct eqb xs
rises_apart lo hi [] r = distinct_nil
rises_apart lo hi (x ∷ xs) r =
    IsDistinct-cons eqb x xs (all_map _ _ (λ y p. ne_eqb x y (λ e. omega (arith, e, p.0))) xs (rises_within (x + 1) hi xs r.1)) (rises_apart (x + 1) hi xs r.1)

distinct-append : (xs ys : List ℕ) → IsDistinct eqb xs → IsDistinct eqb ys → AllByRecursion (λ x. AllByRecursion (λ y. eqb x y ≡ false) ys) xs → IsDistinct eqb (xs ++ ys)
distinct-append [] ys p q a = q
distinct-append (x ∷ xs) ys p q a =
    IsDistinct-cons eqb x (xs ++ ys) (all_++ (λ y. eqb x y ≡ false) xs ys (IsDistinct-head eqb x xs p) a.0) (distinct-append xs ys (IsDistinct-tail eqb x xs p) q a.1)

abbrev pub address_of : Slot → ℕ
address_of s = s.address

module _ (M : ShapeTable) (law : Lawful M) where
  refs_rise : (s : Shape) (o : Offsets) → M.offsets s ≡ Some o → (n x a j : ℕ) (hs : List (Option ℕ)) (lo : ℕ)
      → j + length hs ≤ o.refs → lo ≤ a + (1 + (o.refs + o.words)) → (1 ≤ length hs → lo ≤ a + o.ref_at j)
      → Rises lo (a + (1 + (o.refs + o.words))) (map address_of (ref_slots M s n x a j hs))
  refs_rise s o ok n x a j [] lo l hi at = hi
  refs_rise s o ok n x a j (h ∷ hs) lo l hi at =
      let q : ref_offset M s j ≡ o.ref_at j = ap (λ v. option_map_or (λ u. u.ref_at j) v 0) ok in
      let p = (law.apart s o ok).ref_inside j (omega (arith, l)) in (
        omega (arith, q, at (omega arith)),
        refs_rise s o ok n x a (j + 1) hs (a + ref_offset M s j + 1) (omega (arith, l)) (omega (arith, q, p.1))
            (λ some. omega (arith, q, (law.apart s o ok).refs_rise j (j + 1) (omega arith) (omega (arith, l, some)))),
      )

  pub objects_rise : (n a : ℕ) (os : List Obj) → AllByRecursion (λ o. Shaped M o.body) os → Rises a (a + words_of os) (map address_of (object_slots M n a os))
  objects_rise n a [] p = omega arith
  objects_rise n a (o ∷ os) p =
      let q = p.0 in
      let here = refs_rise o.body.shape q.offsets q.admitted n o.id a 0 o.body.refs a (omega (arith, q.refs)) (omega arith) (λ some. omega arith) in
      let there = objects_rise n (a + size o.body) os p.1 in
      let e : a + (1 + (q.offsets.refs + q.offsets.words)) ≡ a + size o.body = omega (arith, q.refs, q.values) in
      let i : a + size o.body + words_of os ≡ a + words_of (o ∷ os) = omega (arith, sums) in
      subst (λ (xs : List ℕ). Rises a (a + words_of (o ∷ os)) xs) (sym (map-append address_of (ref_slots M o.body.shape n o.id a 0 o.body.refs) (object_slots M n (a + size o.body) os)))
      (rises-append a (a + size o.body) (a + words_of (o ∷ os)) (map address_of (ref_slots M o.body.shape n o.id a 0 o.body.refs)) (map address_of (object_slots M n (a + size o.body) os))
      (subst (λ (k : ℕ). Rises a k (map address_of (ref_slots M o.body.shape n o.id a 0 o.body.refs))) e here)
      (subst (λ (k : ℕ). Rises (a + size o.body) k (map address_of (object_slots M n (a + size o.body) os))) i there))

  -- the addresses of a car's slots lie in the car
  car_slots : (n : ℕ) (c : Car) → words_of c.objects ≤ 128 → AllByRecursion (λ o. Shaped M o.body) c.objects
      → Rises (128 * c.number) (128 * c.number + 128) (map address_of (object_slots M n (car_words * c.number) c.objects))
  car_slots n c w p = rises_more (128 * c.number) (128 * c.number + words_of c.objects) (128 * c.number + 128) _ (omega (arith, w)) (objects_rise n (128 * c.number) c.objects p)
    where
      rises_more : (lo hi high : ℕ) (xs : List ℕ) → hi ≤ high → Rises lo hi xs → Rises lo high xs
      rises_more lo hi high [] l r = omega (arith, r)
      rises_more lo hi high (x ∷ xs) l r = (r.0, rises_more (x + 1) hi high xs l r.1)

  cars_lie : (n : ℕ) (t : Train) → Within t → AllByRecursion (λ o. Shaped M o.body) (train_objects t)
      → AllByRecursion (λ x. one_of (x / 128) (car_numbers t) ≡ true) (map address_of (train_slots M n t))
  cars_lie n [] w p = tt
  cars_lie n (c ∷ cs) w p =
      let here = car_slots n c w.0 (all_left _ c.objects (train_objects cs) p) in
      let there = cars_lie (n + 1) cs w.1 (all_right _ c.objects (train_objects cs) p) in
      subst (λ (xs : List ℕ). AllByRecursion (λ x. one_of (x / 128) (car_numbers (c ∷ cs)) ≡ true) xs)
      (sym (map-append address_of (object_slots M n (car_words * c.number) c.objects) (train_slots M (n + 1) cs)))
      (all_++ _ (map address_of (object_slots M n (car_words * c.number) c.objects)) (map address_of (train_slots M (n + 1) cs))
      (all_map _ _ (λ x b. let e : x / 128 ≡ c.number = omega (arith, b.0, b.1) in subst (λ (z : ℕ). one_of z (car_numbers (c ∷ cs)) ≡ true) (sym e) (one_of_here c.number (car_numbers cs)))
      (map address_of (object_slots M n (car_words * c.number) c.objects)) (rises_within (128 * c.number) (128 * c.number + 128) _ here))
      (all_map _ _ (λ x b. one_of_there (x / 128) c.number (car_numbers cs) b) (map address_of (train_slots M (n + 1) cs)) there))

  cars_apart : (n : ℕ) (t : Train) → Within t → IsDistinct eqb (car_numbers t) → AllByRecursion (λ o. Shaped M o.body) (train_objects t)
      → IsDistinct eqb (map address_of (train_slots M n t))
  cars_apart n [] w d p = distinct_nil
  cars_apart n (c ∷ cs) w d p =
      let xs = map address_of (object_slots M n (car_words * c.number) c.objects) in
      let ys = map address_of (train_slots M (n + 1) cs) in
      let here = car_slots n c w.0 (all_left _ c.objects (train_objects cs) p) in
      let rest = all_right _ c.objects (train_objects cs) p in
      let there = cars_lie (n + 1) cs w.1 rest in
      subst (λ (zs : List ℕ). IsDistinct eqb zs) (sym (map-append address_of (object_slots M n (car_words * c.number) c.objects) (train_slots M (n + 1) cs)))
      (distinct-append xs ys (rises_apart (128 * c.number) (128 * c.number + 128) xs here) (cars_apart (n + 1) cs w.1 (IsDistinct-tail eqb c.number (car_numbers cs) d) rest)
      (all_map _ _ (λ x b. all_map _ _ (λ y in_rest. ne_eqb x y (λ e.
      let i : y / 128 ≡ c.number = omega (arith, e, b.0, b.1) in
      clash (one_of (y / 128) (car_numbers cs)) in_rest (subst (λ (z : ℕ). one_of z (car_numbers cs) ≡ false) (sym i) (distinct_head c.number (car_numbers cs) d)))) ys there) xs
      (rises_within (128 * c.number) (128 * c.number + 128) xs here)))
    where
      clash : (b : Bool) → b ≡ true → b ≡ false → ⊥
      clash b p q = let z : true ≡ false = sym p ∙ q in let w : ◌≡◌ {A = ℕ} 0 1 = cc in omega arith

-- Which slots the pairs find.

-- a test that holds where another does takes nothing from what the other picks
filter_implied : (p q : Slot → Bool) (ss : List Slot) → AllByRecursion (λ s. q s ≡ true → p s ≡ true) ss → filter q (filter p ss) ≡ filter q ss
filter_implied p q [] a = refl
filter_implied p q (s ∷ ss) a = go (filter_implied p q ss a.1) (p s) (q s) refl refl
  where
    go : filter q (filter p ss) ≡ filter q ss → (b c : Bool) → p s ≡ b → q s ≡ c → filter q (cond b (s ∷ filter p ss) (filter p ss)) ≡ cond c (s ∷ filter q ss) (filter q ss)
    go more true c e i = rw i (ap (λ zs. cond c (s ∷ zs) zs) more)
    go more false true e i = absurd (both_ways (p s) e (a.0 i))
    go more false false e i = more

module _ (P : Pairs) where
  -- slots of later cars that hold an object of a car whose place is known are found
  finds : (c : Car) (ts : Trains) (n : ℕ) (ss : List Slot) → AllByRecursion (λ s. n ≤ s.order) ss → AllByRecursion (RememberedIfLater P ts) ss
      → ((y : ℕ) → among y c.objects ≡ true → (d : CarPlace) × (car_place 0 y ts ≡ Some d) × (d.number ≡ c.number) × (d.order < n)) → FindsAll P c ss
  finds c ts n ss later known at = filter_implied (λ s. P c.number s.address) (λ s. target_among c.objects s.target) ss (each ss later known)
    where
      one : (s : Slot) → n ≤ s.order → RememberedIfLater P ts s → (h : Option ℕ) → s.target ≡ h → target_among c.objects h ≡ true → P c.number s.address ≡ true
      one s l k None e a = absurd (let z : ◌≡◌ {A = ℕ} 0 1 = cc in omega arith)
      one s l k (Some y) e a = let d = at y a in subst (λ (z : ℕ). P z s.address ≡ true) d.2 (k y d.0 e d.1 (omega (arith, l, d.3)))

      each : (ss : List Slot) → AllByRecursion (λ s. n ≤ s.order) ss → AllByRecursion (RememberedIfLater P ts) ss
          → AllByRecursion (λ s. target_among c.objects s.target ≡ true → P c.number s.address ≡ true) ss
      each [] l k = tt
      each (s ∷ ss) l k = ((λ a. one s l.0 k.0 s.target refl a), each ss l.1 k.1)

-- where each car's objects are found
car_places : (n : ℕ) (t : Train) (rest : ℕ → Option CarPlace) → ((y : ℕ) → times y (train_objects t) ≤ 1)
    → AllByRecursion (λ c. (y : ℕ) → among y c.objects ≡ true
    → (d : CarPlace) × (train_car_place n y t (rest y) ≡ Some d) × (d.number ≡ c.number) × (d.order < n + length t) × (1 ≤ times y (train_objects t))) t
car_places n [] rest once = tt
car_places n (c ∷ cs) rest once = (
  (λ y a. (
    record { order = n; number = c.number },
    ap (λ b. cond b (Some (record { order = n; number = c.number })) (train_car_place (n + 1) y cs (rest y))) a,
    refl,
    omega arith,
    omega (arith, sums, ltb-true 0 (times y c.objects) a),
  )),
  all_map _ _ (λ d p y a.
      let q = p y a in
      let none : among y c.objects ≡ false = gone y (times y c.objects) refl (omega (arith, sums, once y, q.4)) in
      (q.0, ap (λ b. cond b (Some (record { order = n; number = c.number })) (train_car_place (n + 1) y cs (rest y))) none ∙ q.1, q.2, omega (arith, q.3), omega (arith, sums, q.4)))
      cs (car_places (n + 1) cs rest (λ y. omega (arith, sums, once y))),
)
  where
    gone : (y k : ℕ) → times y c.objects ≡ k → k ≡ 0 → among y c.objects ≡ false
    gone y k e z = ap (λ m. ltb 0 m) (e ∙ z)

module _ (M : ShapeTable) (P : Pairs) where
  slots_order : (n : ℕ) (ts : Trains) → AllByRecursion (λ s. n ≤ s.order) (slots M n ts)
  slots_order n ts = subst (λ (ss : List Slot). AllByRecursion (λ s. n ≤ s.order) ss) (sym (row_slots M n ts)) (train_order M n (cars_in_row ts))

  step_finds : (ts : Trains) → ((y : ℕ) → times y (objects ts) ≤ 1) → AllByRecursion (RememberedIfLater P ts) (slots M 0 ts) → StepFinds M P ts
  step_finds [] once k = tt
  step_finds ([] ∷ ts) once k = tt
  step_finds ((f ∷ cs) ∷ ts) once known =
      let t = f ∷ cs in
      let n = length t in
      let own = object_slots M 0 (car_words * f.number) f.objects in
      let inner = train_slots M 1 cs in
      let outer = slots M n ts in
      let k : AllByRecursion (RememberedIfLater P (t ∷ ts)) ((own ++ inner) ++ outer) =
      subst (λ (j : ℕ). AllByRecursion (RememberedIfLater P (t ∷ ts)) ((own ++ inner) ++ slots M j ts)) (omega arith) known in
      let in_train = all_left (RememberedIfLater P (t ∷ ts)) (own ++ inner) outer k in
      let later = all_right (RememberedIfLater P (t ∷ ts)) (own ++ inner) outer k in
      let outer_order = slots_order n ts in (
        finds P f (t ∷ ts) 1 (inner ++ outer)
            (all_++ (λ s. 1 ≤ s.order) inner outer (train_order M 1 cs) (all_map (λ s. n ≤ s.order) (λ s. 1 ≤ s.order) (λ s l. omega (arith, l)) outer outer_order))
            (all_++ (RememberedIfLater P (t ∷ ts)) inner outer (all_right (RememberedIfLater P (t ∷ ts)) own inner in_train) later)
            (λ y a. (record { order = 0; number = f.number }, ap (λ b. cond b (Some (record { order = 0; number = f.number })) (train_car_place 1 y cs (car_place (0 + n) y ts))) a, refl, omega arith)),
        all_map _ _ (λ c p. finds P c (t ∷ ts) n outer outer_order later (λ y a. let d = p y a in (d.0, d.1, d.2, omega (arith, d.3)))) t
            (car_places 0 t (λ y. car_place (0 + n) y ts) (λ y. omega (arith, sum_by-append (is y) (train_objects t) (objects ts), once y))),
      )

pub overlooked_law : NoReferenceIsOverlooked
overlooked_law M law h P more =
    let m = space_of M h in
    let ts = m.trains in
    let t = cars_in_row ts in
    let s = sound_of M law h in
    let num = numbered_at M law h in
    let known = slots_remembered M law h P more in
    record {
      apart = record {
        below = subst (AllByRecursion (λ n. n < 64)) (row_numbers ts) num.0;
        differ = subst (IsDistinct eqb) (row_numbers ts) num.1;
      };
      addresses = slot_addresses M law h;
      slots_differ = subst (λ (ss : List Slot). IsDistinct eqb (map address_of ss)) (sym (row_slots M 0 ts))
          (cars_apart M law 0 t (all_within ts s.filled) num.1 (subst (λ (os : List Obj). AllByRecursion (λ o. Shaped M o.body) os) (sym (row_objects ts)) (shaped_at M law h)));
      lies = slots_hold M law h;
      remembered = known;
      found = step_finds M P ts s.once known;
    }
