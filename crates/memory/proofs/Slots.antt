-- The one slot of an object's reference, and what is noted of it.
use Rattle.std.proofs.Common.{◌≡◌, ℕ, zero, suc, ◌+◌, ◌*◌, ◌/◌, ◌<◌, ◌≤◌, Bool, true, false, cond, eqb, ◌++◌, List, [], ◌∷◌, length, get_or, Option, Some, None, refl, sym, ap, ap₂, ◌∙◌, subst, arith}
use Rattle.std.specs.List.{AllByRecursion, filter}
use Rattle.std.proofs.lemmas.Bool.{eq-eqb, ne_eqb, eqb-true, ltb-true, ltb-false}
use Rattle.std.proofs.lemmas.List.Elements.{filter-append}
use Rattle.layout.specs.ShapeTable.{ShapeTable}
use Rattle.layout.specs.declared.Shape.{Shape}
use Rattle.model.specs.Bodies.{Body, size}
use Rattle.model.specs.Notes.{CarPlace, train_car_place, car_place, Slot, ref_offset, ref_slots, object_slots, train_slots, slots, is_slot}
use Rattle.model.specs.Trains.{Obj, Train, Trains, train_objects, objects, times, among, car_words}
use Rattle.model.proofs.Alls.{all_left, all_right}
use Rattle.model.proofs.Refuses.{inside_of}
use Rattle.model.proofs.RememberCars.{cars_in_row, row_objects, row_slots, row_car_place, car_place_found}
use Rattle.model.proofs.Totals.{is, one_if, sums}
use Rattle.objects.specs.Lies.{nothing}
use Rattle.objects.specs.Locate.{address_from, address_in, locate}
use Rattle.objects.specs.Stand.{Seated, CarPlaced}
use Rattle.objects.proofs.Locates.{locate-row, others, address_from-out, seated_placed}
use Rattle.objects.proofs.Places.{address_in_car, row_each}
use Rattle.trains.specs.Orders.{order_in}

module _ (M : ShapeTable) (x i : ℕ) where
  -- the slot of that reference, where the object's header stands at a, in the car of the place n
  abbrev pub slot_at : (n a : ℕ) → Body → Slot
  slot_at n a b = record { order = n; address = a + ref_offset M b.shape i; holder = x; index = i; target = get_or b.refs i None }

  other_refs : (s : Shape) (n z a j : ℕ) (hs : List (Option ℕ)) → eqb x z ≡ false → filter (is_slot x i) (ref_slots M s n z a j hs) ≡ []
  other_refs s n z a j [] e = refl
  other_refs s n z a j (h ∷ hs) e = rw e (other_refs s n z a (j + 1) hs e)

  past_refs : (s : Shape) (n a j : ℕ) (hs : List (Option ℕ)) → i < j → filter (is_slot x i) (ref_slots M s n x a j hs) ≡ []
  past_refs s n a j [] e = refl
  past_refs s n a j (h ∷ hs) e = rw (eq-eqb x x refl, ne_eqb i j (λ f. omega (arith, e, f))) (past_refs s n a (j + 1) hs (omega arith))

  one_ref : (s : Shape) (n a k j : ℕ) (hs : List (Option ℕ)) → j + k ≡ i → k < length hs
      → filter (is_slot x i) (ref_slots M s n x a j hs) ≡ record { order = n; address = a + ref_offset M s i; holder = x; index = i; target = get_or hs k None } ∷ []
  one_ref s n a k j [] e l = absurd (omega (arith, l))
  one_ref s n a zero j (h ∷ hs) e l =
      let f : j ≡ i = omega (arith, e) in
      rw (eq-eqb x x refl, eq-eqb i j (sym f)) (ap₂ (λ (z : ℕ) (ss : List Slot). record { order = n; address = a + ref_offset M s z; holder = x; index = z; target = h } ∷ ss) f
      (past_refs s n a (j + 1) hs (omega (arith, f))))
  one_ref s n a (suc k) j (h ∷ hs) e l = rw (eq-eqb x x refl, ne_eqb i j (λ f. omega (arith, e, f))) (one_ref s n a k (j + 1) hs (omega (arith, e)) (omega (arith, l)))

  no_slots : (n a : ℕ) (os : List Obj) → AllByRecursion (λ o. eqb x o.id ≡ false) os → filter (is_slot x i) (object_slots M n a os) ≡ []
  no_slots n a [] p = refl
  no_slots n a (o ∷ os) p =
      filter-append (is_slot x i) (ref_slots M o.body.shape n o.id a 0 o.body.refs) (object_slots M n (a + size o.body) os)
      ∙ ap₂ (λ (r q : List Slot). r ++ q) (other_refs o.body.shape n o.id a 0 o.body.refs p.0) (no_slots n (a + size o.body) os p.1)

  no_train_slots : (n : ℕ) (t : Train) → times x (train_objects t) ≡ 0 → filter (is_slot x i) (train_slots M n t) ≡ []
  no_train_slots n [] e = refl
  no_train_slots n (c ∷ cs) e =
      filter-append (is_slot x i) (object_slots M n (car_words * c.number) c.objects) (train_slots M (n + 1) cs)
      ∙ ap₂ (λ (r q : List Slot). r ++ q) (no_slots n (car_words * c.number) c.objects (others x c.objects (omega (arith, sums, e)))) (no_train_slots (n + 1) cs (omega (arith, sums, e)))

  module _ (b : Body) (there : i < length b.refs) where
    -- each of these objects that is x has b inside
    abbrev Is : Obj → Type 0
    Is o = eqb x o.id ≡ true → o.body ≡ b

    one_slot : (n a other : ℕ) (os : List Obj) → AllByRecursion Is os → times x os ≡ 1
        → filter (is_slot x i) (object_slots M n a os) ≡ slot_at n (address_from a os x other) b ∷ []
    one_slot n a other [] p e = absurd (omega (arith, e))
    one_slot n a other (o ∷ os) p e =
        filter-append (is_slot x i) (ref_slots M o.body.shape n o.id a 0 o.body.refs) (object_slots M n (a + size o.body) os)
        ∙ go (eqb x o.id) refl (one_slot n (a + size o.body) other os p.1)
      where
        go : (t : Bool) → eqb x o.id ≡ t
            → (times x os ≡ 1 → filter (is_slot x i) (object_slots M n (a + size o.body) os) ≡ slot_at n (address_from (a + size o.body) os x other) b ∷ [])
            → filter (is_slot x i) (ref_slots M o.body.shape n o.id a 0 o.body.refs) ++ filter (is_slot x i) (object_slots M n (a + size o.body) os)
            ≡ slot_at n (cond t a (address_from (a + size o.body) os x other)) b ∷ []
        go true q more =
            let one : is x o ≡ 1 = ap one_if q in
            let here : filter (is_slot x i) (ref_slots M o.body.shape n o.id a 0 o.body.refs) ≡ slot_at n a b ∷ [] =
            subst (λ (z : ℕ). filter (is_slot x i) (ref_slots M o.body.shape n z a 0 o.body.refs) ≡ slot_at n a b ∷ []) (eqb-true x o.id q)
            (subst (λ (d : Body). filter (is_slot x i) (ref_slots M d.shape n x a 0 d.refs) ≡ slot_at n a b ∷ []) (sym (p.0 q)) (one_ref b.shape n a i 0 b.refs (omega arith) there)) in
            ap₂ (λ (r s : List Slot). r ++ s) here (no_slots n (a + size o.body) os (others x os (omega (arith, sums, e, one))))
        go false q more =
            let none : is x o ≡ 0 = ap one_if q in
            ap₂ (λ (r s : List Slot). r ++ s) (other_refs o.body.shape n o.id a 0 o.body.refs q) (more (omega (arith, sums, e, none)))

    one_train_slot : (n other : ℕ) (t : Train) (d : CarPlace) → train_car_place n x t None ≡ Some d → AllByRecursion Is (train_objects t) → times x (train_objects t) ≡ 1
        → filter (is_slot x i) (train_slots M n t) ≡ slot_at d.order (address_in t x other) b ∷ []
    one_train_slot n other [] d f p e = absurd (omega (arith, e))
    one_train_slot n other (c ∷ cs) d f p e =
        filter-append (is_slot x i) (object_slots M n (car_words * c.number) c.objects) (train_slots M (n + 1) cs)
        ∙ go (among x c.objects) refl f (λ g. one_train_slot (n + 1) other cs d g (all_right Is c.objects (train_objects cs) p))
      where
        go : (t : Bool) → among x c.objects ≡ t
            → ◌≡◌ {A = Option CarPlace} (cond t (Some (record { order = n; number = c.number })) (train_car_place (n + 1) x cs None)) (Some d)
            → (train_car_place (n + 1) x cs None ≡ Some d → times x (train_objects cs) ≡ 1 → filter (is_slot x i) (train_slots M (n + 1) cs) ≡ slot_at d.order (address_in cs x other) b ∷ [])
            → filter (is_slot x i) (object_slots M n (car_words * c.number) c.objects) ++ filter (is_slot x i) (train_slots M (n + 1) cs) ≡ slot_at d.order (address_in (c ∷ cs) x other) b ∷ []
        go true q f more =
            let h = ltb-true 0 (times x c.objects) q in
            let same : record { order = n; number = c.number } ≡ d = cc in
            let o : n ≡ d.order = ap (λ (v : CarPlace). v.order) same in
            let here = one_slot n (car_words * c.number) (address_in cs x other) c.objects (all_left Is c.objects (train_objects cs) p) (omega (arith, sums, e, h)) in
            subst (λ (k : ℕ). filter (is_slot x i) (object_slots M n (car_words * c.number) c.objects) ++ filter (is_slot x i) (train_slots M (n + 1) cs) ≡ slot_at k (address_in (c ∷ cs) x other) b ∷ []) o
            (ap₂ (λ (r s : List Slot). r ++ s) here (no_train_slots (n + 1) cs (omega (arith, sums, e, h))))
        go false q f more =
            let h = ltb-false 0 (times x c.objects) q in
            let z : times x c.objects ≡ 0 = omega (arith, h) in
            ap₂ (λ (r s : List Slot). r ++ s) (no_slots n (car_words * c.number) c.objects (others x c.objects z))
            (more f (omega (arith, sums, e, z))
            ∙ ap (λ (a : ℕ). slot_at d.order a b ∷ []) (sym (address_from-out (car_words * c.number) c.objects x (address_in cs x other) z)))

-- The car of an object's address is that of its place.

module _ (y : ℕ) (d : CarPlace) where
  place_number : (at : ℕ → ℕ) (n : ℕ) (t : Train) → AllByRecursion (CarPlaced at) t → train_car_place n y t None ≡ Some d → at y / car_words ≡ d.number
  place_number at n [] p e = let z : ◌≡◌ {A = ℕ} 0 1 = cc in absurd (omega arith)
  place_number at n (c ∷ cs) p e = go (among y c.objects) refl e (place_number at (n + 1) cs p.1)
    where
      go : (t : Bool) → among y c.objects ≡ t → ◌≡◌ {A = Option CarPlace} (cond t (Some (record { order = n; number = c.number })) (train_car_place (n + 1) y cs None)) (Some d)
          → (train_car_place (n + 1) y cs None ≡ Some d → at y / car_words ≡ d.number) → at y / car_words ≡ d.number
      go true q e more =
          let same : record { order = n; number = c.number } ≡ d = cc in
          let b = inside_of c.objects y (ltb-true 0 (times y c.objects) q) in
          (address_in_car at c p.0 y b.0 b.1).2 ∙ ap (λ (v : CarPlace). v.number) same
      go false q e more = more e

-- where an object's car stands
pub record PlacedAt (y : ℕ) (ts : Trains) : Type 0 where
  pub place : CarPlace
  pub found : car_place 0 y ts ≡ Some place
  pub number : locate ts y / car_words ≡ place.number

pub placed_at : (ts : Trains) → Seated ts → (y : ℕ) → 1 ≤ times y (objects ts) → PlacedAt y ts
placed_at ts s y h =
    let t = cars_in_row ts in
    let f = car_place_found 0 y t (subst (λ (os : List Obj). 1 ≤ times y os) (sym (row_objects ts)) h) in
    record {
      place = f.0;
      found = row_car_place 0 y ts ∙ f.1;
      number = place_number y f.0 (locate ts) 0 t (row_each (CarPlaced (locate ts)) ts (seated_placed ts s)) f.1;
    }

-- where an object of a placement has one of its references, there is just one slot
pub one_slot_of : (M : ShapeTable) (ts : Trains) (s : Seated ts) (x i : ℕ) (b : Body) → i < length b.refs → AllByRecursion (λ o. eqb x o.id ≡ true → o.body ≡ b) (objects ts)
    → (h : 1 ≤ times x (objects ts)) → filter (is_slot x i) (slots M 0 ts) ≡ slot_at M x i (placed_at ts s x h).place.order (locate ts x) b ∷ []
one_slot_of M ts s x i b there is_b h =
    let p = placed_at ts s x h in
    let t = cars_in_row ts in
    let once = s.once x in
    ap (filter (is_slot x i)) (row_slots M 0 ts)
    ∙ one_train_slot M x i b there 0 nothing t p.place (sym (row_car_place 0 x ts) ∙ p.found)
    (subst (AllByRecursion (λ o. eqb x o.id ≡ true → o.body ≡ b)) (sym (row_objects ts)) is_b)
    (ap (times x) (row_objects ts) ∙ omega (arith, once, h))
    ∙ ap (λ (a : ℕ). slot_at M x i p.place.order a b ∷ []) (sym (locate-row ts x))

-- a car that is in no train has the last place
pub order_most : (n : ℕ) (ns : List ℕ) → order_in n ns ≤ length ns
order_most n [] = omega arith
order_most n (m ∷ ns) = go (eqb n m) (order_most n ns)
  where
    go : (t : Bool) → order_in n ns ≤ length ns → cond t 0 (suc (order_in n ns)) ≤ suc (length ns)
    go true l = omega arith
    go false l = omega (arith, l)

pub order_high : (n : ℕ) (ns : List ℕ) → AllByRecursion (λ z. z < n) ns → order_in n ns ≡ length ns
order_high n [] p = refl
order_high n (m ∷ ns) p = rw (ne_eqb n m (λ e. omega (arith, p.0, e))) (ap suc (order_high n ns p.1))
