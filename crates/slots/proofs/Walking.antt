-- What a walk finds at the headers of a car's objects.
use Rattle.std.proofs.Common.{◌≡◌, ℕ, ◌+◌, ◌-◌, ◌*◌, ◌<◌, ◌≤◌, Bool, true, false, ◌||◌, eqb, List, [], ◌∷◌, ◌++◌, length, Some, None, Option, sym, refl, ap, ◌∙◌, subst, inl, inr, arith, append_assoc}
use Rattle.std.proofs.lemmas.Bool.{cases_eq, eq-eqb, ne_eqb, or_from, or_left, or_right}
use Rattle.std.proofs.lemmas.List.{map-append}
use Rattle.std.proofs.lemmas.List.Folds.{list_any-append}
use Rattle.std.specs.List.{AllByRecursion}
use Rattle.std.specs.Option.{option_map_or, is_some}
use Rattle.std.specs.Prelude.{slice_index, min}
use Rattle.layout.specs.Admitted.{admitted_header}
use Rattle.layout.specs.Coding.{Coded, size_of, Which}
use Rattle.layout.specs.ShapeTable.{ShapeTable, Offsets, Lawful}
use Rattle.layout.specs.declared.Shape.{Shape}
use Rattle.model.specs.Bodies.{size}
use Rattle.model.specs.Notes.{Slot, ref_offset, ref_slots, object_slots}
use Rattle.model.specs.Trains.{Obj, Car, words_of, car_words, one_of}
use Rattle.model.proofs.Overlooked.{Rises, rises_within, objects_rise}
use Rattle.model.proofs.Remember.{Shaped}
use Rattle.model.proofs.Totals.{sums}
use Rattle.objects.specs.Lies.{Lies, LieFrom, CarStands}
use Rattle.slots.specs.Slots.{addresses}
use Rattle.slots.specs.Walks.{WalksIn}
use Rattle.slots.specs.declared.walk.Walk.{Walk}

-- Rising addresses.

pub rises_below : (lo hi a : ℕ) (xs : List ℕ) → Rises lo hi xs → a < lo → one_of a xs ≡ false
rises_below lo hi a [] r l = refl
rises_below lo hi a (x ∷ xs) r l = or_from (eqb a x) (one_of a xs) (ne_eqb a x (λ e. omega (arith, r.0))) (rises_below (x + 1) hi a xs r.1 (omega (arith, r.0)))

pub rises_above : (lo hi a : ℕ) (xs : List ℕ) → Rises lo hi xs → hi ≤ a → one_of a xs ≡ false
rises_above lo hi a [] r l = refl
rises_above lo hi a (x ∷ xs) r l =
    or_from (eqb a x) (one_of a xs) (ne_eqb a x (λ e. omega (arith, (rises_within lo hi (x ∷ xs) r).0))) (rises_above (x + 1) hi a xs r.1 l)

pub one_of-append : (a : ℕ) (xs ys : List ℕ) → one_of a (xs ++ ys) ≡ (one_of a xs || one_of a ys)
one_of-append a xs ys = list_any-append (λ (m : ℕ). eqb a m) xs ys

pub addresses-append : (ss ts : List Slot) → addresses (ss ++ ts) ≡ addresses ss ++ addresses ts
addresses-append ss ts = map-append (λ (s : Slot). s.address) ss ts

module _ (M : ShapeTable) (code : Shape → ℕ) (at : ℕ → ℕ) (words : List ℕ) where
  shaped : (a : ℕ) (os : List Obj) → LieFrom M code at words a os → AllByRecursion (λ o. Shaped M o.body) os
  shaped a [] p = tt
  shaped a (o ∷ os) p =
      (record { offsets = p.0.offsets; admitted = p.0.admitted; refs = p.0.ref_count; values = p.0.word_count }, shaped (a + size o.body) os p.1)

  pub lie_right : (a : ℕ) (os more : List Obj) → LieFrom M code at words a (os ++ more) → LieFrom M code at words (a + words_of os) more
  lie_right a [] more p = subst (λ (k : ℕ). LieFrom M code at words k more) (omega arith) p
  lie_right a (o ∷ os) more p = subst (λ (k : ℕ). LieFrom M code at words k more) (omega (arith, sums)) (lie_right (a + size o.body) os more p.1)

  pub lie_left : (a : ℕ) (os more : List Obj) → LieFrom M code at words a (os ++ more) → LieFrom M code at words a os
  lie_left a [] more p = tt
  lie_left a (o ∷ os) more p = (p.0, lie_left (a + size o.body) os more p.1)

  pub object_slots-append : (n a : ℕ) (os more : List Obj) → object_slots M n a (os ++ more) ≡ object_slots M n a os ++ object_slots M n (a + words_of os) more
  object_slots-append n a [] more = let e : a ≡ a + 0 = omega arith in ap (λ k. object_slots M n k more) e
  object_slots-append n a (o ∷ os) more =
      let e : a + size o.body + words_of os ≡ a + words_of (o ∷ os) = omega (arith, sums) in
      let A = ref_slots M o.body.shape n o.id a 0 o.body.refs in
      ap (λ ss. A ++ ss) (object_slots-append n (a + size o.body) os more ∙ ap (λ k. object_slots M n (a + size o.body) os ++ object_slots M n k more) e)
      ∙ sym (append_assoc A (object_slots M n (a + size o.body) os) (object_slots M n (a + words_of (o ∷ os)) more))

  pub slots_rise : Lawful M → (n a : ℕ) (os : List Obj) → LieFrom M code at words a os → Rises a (a + words_of os) (addresses (object_slots M n a os))
  slots_rise law n a os p = objects_rise M law n a os (shaped a os p)

  -- no reference of these stands at an address
  refs_none : (s : Shape) (n x a i y : ℕ) (hs : List (Option ℕ)) → ((j : ℕ) → i ≤ j → j < i + length hs → a + ref_offset M s j ≡ y → ⊥)
      → one_of y (addresses (ref_slots M s n x a i hs)) ≡ false
  refs_none s n x a i y [] none = refl
  refs_none s n x a i y (h ∷ hs) none =
      or_from (eqb y (a + ref_offset M s i)) (one_of y (addresses (ref_slots M s n x a (i + 1) hs))) (ne_eqb y (a + ref_offset M s i) (λ e. none i (omega arith) (omega arith) (sym e)))
      (refs_none s n x a (i + 1) y hs (λ j l k. none j (omega arith) (omega arith)))

  -- one does
  refs_some : (s : Shape) (n x a i y j : ℕ) (hs : List (Option ℕ)) → i ≤ j → j < i + length hs → a + ref_offset M s j ≡ y
      → one_of y (addresses (ref_slots M s n x a i hs)) ≡ true
  refs_some s n x a i y j [] l k e = absurd (omega arith)
  refs_some s n x a i y j (h ∷ hs) l k e = elim (cases_eq i j) [
    | inl q ↦ or_left (eqb y (a + ref_offset M s i)) (one_of y (addresses (ref_slots M s n x a (i + 1) hs))) (eq-eqb y (a + ref_offset M s i) (sym e ∙ ap (λ k. a + ref_offset M s k) (sym q)))
    | inr ne ↦ or_right (eqb y (a + ref_offset M s i)) (one_of y (addresses (ref_slots M s n x a (i + 1) hs))) (refs_some s n x a (i + 1) y j hs (omega (arith, ne)) (omega arith) e)
  ]

module _ (M : ShapeTable) (law : Lawful M) (code : Shape → ℕ) (decoded : ℕ → Offsets) (coded : Coded M code decoded) (at : ℕ → ℕ) (words : List ℕ) where
  -- what an object's header tells of it
  header_size : (a : ℕ) (o : Obj) → Lies M code at words a o.body → size_of (decoded (slice_index words a)) ≡ size o.body
  header_size a o p = let t = admitted_header law coded o.body.shape p.offsets p.admitted in
      rw p.header (omega (arith, t.size, p.ref_count, p.word_count))

  offset_at : (a : ℕ) (o : Obj) → (p : Lies M code at words a o.body) → (j : ℕ) → j < p.offsets.refs
      → (ref_offset M o.body.shape j ≡ (decoded (slice_index words a)).ref_at j)
  offset_at a o p j l =
      let t = admitted_header law coded o.body.shape p.offsets p.admitted in
      ap (λ v. option_map_or (λ u. u.ref_at j) v 0) p.admitted ∙ sym (rw p.header (t.same.ref_at j l))

  -- a reference stands somewhere in an object if its header says so
  object_here : (n a x : ℕ) (o : Obj) (r : Option ℕ) → Lies M code at words a o.body → a ≤ x
      → Which (decoded (slice_index words a)).refs (decoded (slice_index words a)).ref_at (x - a) r
      → is_some r ≡ one_of x (addresses (ref_slots M o.body.shape n o.id a 0 o.body.refs))
  object_here n a x o None p l w =
      let t = admitted_header law coded o.body.shape p.offsets p.admitted in
      let count : (decoded (slice_index words a)).refs ≡ p.offsets.refs = rw p.header t.same.refs in
      sym (refs_none M code at words o.body.shape n o.id a 0 x o.body.refs
      (λ j i k e. let m : j < p.offsets.refs = omega (arith, k, p.ref_count) in w j (omega (arith, count, m)) (omega (arith, offset_at a o p j m, e))))
  object_here n a x o (Some j) p l w =
      let t = admitted_header law coded o.body.shape p.offsets p.admitted in
      let count : (decoded (slice_index words a)).refs ≡ p.offsets.refs = rw p.header t.same.refs in
      let m : j < p.offsets.refs = omega (arith, count, w.0) in
      sym (refs_some M code at words o.body.shape n o.id a 0 x j o.body.refs (omega arith) (omega (arith, m, p.ref_count)) (omega (arith, offset_at a o p j m, w.1, l)))

  -- behind the objects that were passed, only the object at hand has references there
  slots_around : (n a x : ℕ) (passed : List Obj) (o : Obj) (os : List Obj) → LieFrom M code at words a (passed ++ (o ∷ os))
      → a + words_of passed ≤ x → x < a + words_of passed + size o.body
      → one_of x (addresses (object_slots M n a (passed ++ (o ∷ os)))) ≡ one_of x (addresses (ref_slots M o.body.shape n o.id (a + words_of passed) 0 o.body.refs))
  slots_around n a x passed o os p l k =
      let b = a + words_of passed in
      let here = ref_slots M o.body.shape n o.id b 0 o.body.refs in
      let behind = object_slots M n (b + size o.body) os in
      let ahead = lie_right M code at words a passed (o ∷ os) p in
      let e : addresses (object_slots M n a (passed ++ (o ∷ os))) ≡ addresses (object_slots M n a passed) ++ (addresses here ++ addresses behind) =
      ap addresses (object_slots-append M code at words n a passed (o ∷ os))
      ∙ addresses-append (object_slots M n a passed) (here ++ behind)
      ∙ ap (λ xs. addresses (object_slots M n a passed) ++ xs) (addresses-append here behind) in
      let none : one_of x (addresses (object_slots M n a passed)) ≡ false =
      rises_above a b x _ (slots_rise M code at words law n a passed (lie_left M code at words a passed (o ∷ os) p)) l in
      let later : one_of x (addresses behind) ≡ false =
      rises_below (b + size o.body) (b + size o.body + words_of os) x _ (slots_rise M code at words law n (b + size o.body) os ahead.1) k in
      ap (one_of x) e
      ∙ (one_of-append x (addresses (object_slots M n a passed)) (addresses here ++ addresses behind)
      ∙ (ap (λ t. t || one_of x (addresses here ++ addresses behind)) none
      ∙ (one_of-append x (addresses here) (addresses behind) ∙ or_right_false (one_of x (addresses here)) (one_of x (addresses behind)) later)))
    where
      or_right_false : (s t : Bool) → t ≡ false → (s || t) ≡ s
      or_right_false true t e = refl
      or_right_false false t e = e

  -- no reference stands at a header
  header_no_slot : (n a x : ℕ) (o : Obj) → Lies M code at words a o.body → x ≡ a → one_of x (addresses (ref_slots M o.body.shape n o.id a 0 o.body.refs)) ≡ false
  header_no_slot n a x o p e =
      refs_none M code at words o.body.shape n o.id a 0 x o.body.refs
      (λ j i k f. let m : j < p.offsets.refs = omega (arith, k, p.ref_count) in
      let q : ref_offset M o.body.shape j ≡ p.offsets.ref_at j = ap (λ v. option_map_or (λ u. u.ref_at j) v 0) p.admitted in
      omega (arith, e, f, q, (law.apart o.body.shape p.offsets p.admitted).ref_inside j m))

  -- a walk that is done with the car, or has come to the address at a header: no reference stands at the address
  pub walk_none : (n a : ℕ) (c : Car) (w : Walk) → CarStands M code at words c → WalksIn c a w → min w.end a ≤ w.object
      → false ≡ one_of a (addresses (object_slots M n (car_words * c.number) c.objects))
  walk_none n a c w stands walk done = go walk.ahead walk.all
    where
      go : (ahead : List Obj) → c.objects ≡ walk.passed ++ ahead → false ≡ one_of a (addresses (object_slots M n (car_words * c.number) c.objects))
      go [] e =
          sym (rises_above (car_words * c.number) (car_words * c.number + words_of c.objects) a _ (slots_rise M code at words law n (car_words * c.number) c.objects stands.lies)
          (omega (arith, sums, ap words_of e, walk.here, walk.not_past)))
      go (o ∷ os) e =
          let p = subst (λ (v : List Obj). LieFrom M code at words (car_words * c.number) v) e stands.lies in
          let q = lie_right M code at words (car_words * c.number) walk.passed (o ∷ os) p in
          let l : w.object < w.end = omega (arith, sums, ap words_of e, walk.here, walk.end) in
          let same : a ≡ car_words * c.number + words_of walk.passed = omega (arith, walk.here, walk.not_past, done, l) in
          sym (ap (λ v. one_of a (addresses (object_slots M n (car_words * c.number) v))) e
          ∙ (slots_around n (car_words * c.number) a walk.passed o os p (omega (arith, same)) (omega (arith, same))
          ∙ header_no_slot n (car_words * c.number + words_of walk.passed) a o q.0 same))

  -- the address is one of the object at hand: its header tells
  pub walk_here : (n a : ℕ) (c : Car) (w : Walk) (r : Option ℕ) → CarStands M code at words c → WalksIn c a w → w.object < min w.end a
      → a - w.object < size_of (decoded (slice_index words w.object))
      → Which (decoded (slice_index words w.object)).refs (decoded (slice_index words w.object)).ref_at (a - w.object) r
      → is_some r ≡ one_of a (addresses (object_slots M n (car_words * c.number) c.objects))
  walk_here n a c w r stands walk more near which = go walk.ahead walk.all
    where
      go : (ahead : List Obj) → c.objects ≡ walk.passed ++ ahead → is_some r ≡ one_of a (addresses (object_slots M n (car_words * c.number) c.objects))
      go [] e = absurd (omega (arith, sums, ap words_of e, walk.here, walk.end, more))
      go (o ∷ os) e =
          let p = subst (λ (v : List Obj). LieFrom M code at words (car_words * c.number) v) e stands.lies in
          let b = car_words * c.number + words_of walk.passed in
          let q = lie_right M code at words (car_words * c.number) walk.passed (o ∷ os) p in
          let which_b = subst (λ (k : ℕ). Which (decoded (slice_index words k)).refs (decoded (slice_index words k)).ref_at (a - k) r) walk.here which in
          let near_b = subst (λ (k : ℕ). a - k < size_of (decoded (slice_index words k))) walk.here near in
          sym (ap (λ v. one_of a (addresses (object_slots M n (car_words * c.number) v))) e
          ∙ (slots_around n (car_words * c.number) a walk.passed o os p (omega (arith, walk.here, walk.not_past)) (omega (arith, near_b, header_size b o q.0))
          ∙ sym (object_here n b a o r q.0 (omega (arith, walk.here, walk.not_past)) which_b)))

  -- the address lies behind the object at hand
  pub walk_more : (a : ℕ) (c : Car) (w v : Walk) → CarStands M code at words c → WalksIn c a w → w.object < min w.end a
      → size_of (decoded (slice_index words w.object)) ≤ a - w.object → v.object ≡ w.object + size_of (decoded (slice_index words w.object)) → v.end ≡ w.end
      → WalksIn c a v
  walk_more a c w v stands walk more far object end = go walk.ahead walk.all
    where
      go : (ahead : List Obj) → c.objects ≡ walk.passed ++ ahead → WalksIn c a v
      go [] e = absurd (omega (arith, sums, ap words_of e, walk.here, walk.end, more))
      go (o ∷ os) e =
          let p = subst (λ (v : List Obj). LieFrom M code at words (car_words * c.number) v) e stands.lies in
          let b = car_words * c.number + words_of walk.passed in
          let q = lie_right M code at words (car_words * c.number) walk.passed (o ∷ os) p in
          let size : size_of (decoded (slice_index words w.object)) ≡ size o.body = ap (λ k. size_of (decoded (slice_index words k))) walk.here ∙ header_size b o q.0 in
          record {
            passed = walk.passed ++ (o ∷ []);
            ahead = os;
            all = e ∙ sym (append_assoc walk.passed (o ∷ []) os);
            here = omega (arith, sums, object, size, walk.here);
            end = omega (arith, end, walk.end);
            not_past = omega (arith, far, object, more);
          }
