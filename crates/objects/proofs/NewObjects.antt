-- A new object written where the placement puts it: all others stay, and the new one stands behind them or in a car of its own.
use Rattle.std.proofs.Common.{◌≡◌, ℕ, zero, suc, ◌+◌, ◌*◌, ◌<◌, ◌≤◌, ◌≢◌, Bool, true, false, cond, eqb, ◌++◌, List, [], ◌∷◌, Option, Some, None, refl, sym, ◌∙◌, ap, subst, inl, inr, ◌⊎◌, arith}
use Rattle.std.specs.List.{AllByRecursion, IsDistinct}
use Rattle.std.proofs.lemmas.Bool.{eq-eqb, eqb-true, eqb-false, ne_eqb, both_ways, or_parts, leb-true, cases_Bool}
use Rattle.std.proofs.lemmas.List.{length-replicate}
use Rattle.std.proofs.lemmas.Map.Keys.{IsDistinct-tail}
use Rattle.layout.specs.Admitted.{admitted_header}
use Rattle.layout.specs.Coding.{Coded, size_of}
use Rattle.layout.specs.ShapeTable.{ShapeTable, Offsets, Lawful}
use Rattle.layout.specs.declared.Shape.{Shape}
use Rattle.model.specs.Bodies.{size, fresh}
use Rattle.model.specs.Sound.{Sized, Points}
use Rattle.model.specs.Trains.{Obj, Car, Train, Trains, train_objects, objects, words_of, times, car_numbers, numbers, one_of, fits, with_object, opened, place, place_at, car_words, car_count}
use Rattle.model.proofs.Alls.{all_map, place_at_all}
use Rattle.model.proofs.Cars.{fresh_sized}
use Rattle.model.proofs.Distinct.{all_at, one_of_here, one_of_there, distinct_head}
use Rattle.model.proofs.RememberCars.{Numbered, cars_in_row, row_numbers, place_at-placed, placed-numbered}
use Rattle.model.proofs.Totals.{is, one_if, sums, place_at-total}
use Rattle.objects.specs.Lies.{Lies, LieFrom, CarLies, ArePlaced, CarStands, word_of}
use Rattle.objects.specs.Locate.{address_from, address_in, locate}
use Rattle.objects.specs.Words.{SameOutside}
use Rattle.objects.specs.Stand.{EachCar, TrainsStand, CarPlaced, Disjoint, Seated, next_address, next_address_at}
use Rattle.objects.proofs.Frames.{trains_stand_at, car_lies_frame, each_map, each_with}
use Rattle.objects.proofs.Locates.{address_from-out, address_in-out, others}
use Rattle.objects.proofs.Places.{row_each, each_row, same_apart, disjoint_before, disjoint_swap, cars_disjoint, cars_placed}

-- The addresses that the placement gives.

module _ (o : Obj) (y : ℕ) (other : eqb y o.id ≡ false) where
  from_behind : (a : ℕ) (os : List Obj) (z : ℕ) → address_from a (os ++ o ∷ []) y z ≡ address_from a os y z
  from_behind a [] z = ap (λ (b : Bool). cond b a z) other
  from_behind a (p ∷ os) z = ap (λ (u : ℕ). cond (eqb y p.id) a u) (from_behind (a + size p.body) os z)

  in_place : (n : ℕ) (t : Train) (z : ℕ) → address_in (place n o t) y z ≡ address_in t y z
  in_place n [] z = ap (λ (b : Bool). cond b (car_words * n) z) other
  in_place n (c ∷ []) z = go (fits c o)
    where
      go : (b : Bool) → address_in (cond b (with_object o c ∷ []) (c ∷ opened n o ∷ [])) y z ≡ address_in (c ∷ []) y z
      go true = from_behind (car_words * c.number) c.objects z
      go false = ap (address_from (car_words * c.number) c.objects y) (ap (λ (b : Bool). cond b (car_words * n) z) other)
  in_place n (c ∷ d ∷ cs) z = ap (address_from (car_words * c.number) c.objects y) (in_place n (d ∷ cs) z)

  -- every other object keeps its address
  pub locate-place_at : (k n : ℕ) (ts : Trains) → locate (place_at k n o ts) y ≡ locate ts y
  locate-place_at k n [] = ap (λ (b : Bool). cond b (car_words * n) 8192) other
  locate-place_at zero n (t ∷ ts) = in_place n t (locate ts y)
  locate-place_at (suc k) n (t ∷ ts) = ap (address_in t y) (locate-place_at k n ts)

module _ (o : Obj) where
  new_behind : (a : ℕ) (os : List Obj) (z : ℕ) → times o.id os ≡ 0 → address_from a (os ++ o ∷ []) o.id z ≡ a + words_of os
  new_behind a [] z e = ap (λ (b : Bool). cond b a z) (eq-eqb o.id o.id refl) ∙ (let q : a ≡ a + 0 = omega arith in q)
  new_behind a (p ∷ os) z e =
      let n = others o.id (p ∷ os) e in
      ap (λ (b : Bool). cond b a (address_from (a + size p.body) (os ++ o ∷ []) o.id z)) n.0
      ∙ new_behind (a + size p.body) os z (omega (arith, sums, e))
      ∙ (let q : a + size p.body + words_of os ≡ a + words_of (p ∷ os) = omega (arith, sums) in q)

  new_opened : (n z : ℕ) → address_in (opened n o ∷ []) o.id z ≡ car_words * n
  new_opened n z = ap (λ (b : Bool). cond b (car_words * n) z) (eq-eqb o.id o.id refl)

  new_in : (n : ℕ) (t : Train) (z : ℕ) → times o.id (train_objects t) ≡ 0 → address_in (place n o t) o.id z ≡ next_address n o t
  new_in n [] z e = new_opened n z
  new_in n (c ∷ []) z e = go (fits c o)
    where
      none : times o.id c.objects ≡ 0
      none = omega (arith, sums, e)

      go : (b : Bool) → address_in (cond b (with_object o c ∷ []) (c ∷ opened n o ∷ [])) o.id z ≡ cond b (car_words * c.number + words_of c.objects) (car_words * n)
      go true = new_behind (car_words * c.number) c.objects z none
      go false = address_from-out (car_words * c.number) c.objects o.id (address_in (opened n o ∷ []) o.id z) none ∙ new_opened n z
  new_in n (c ∷ d ∷ cs) z e =
      address_from-out (car_words * c.number) c.objects o.id (address_in (place n o (d ∷ cs)) o.id z) (omega (arith, sums, e))
      ∙ new_in n (d ∷ cs) z (omega (arith, sums, e))

  -- the new object has the next address
  pub locate-new : (k n : ℕ) (ts : Trains) → times o.id (objects ts) ≡ 0 → locate (place_at k n o ts) o.id ≡ next_address_at k n o ts
  locate-new k n [] e = new_opened n 8192
  locate-new zero n (t ∷ ts) e = new_in n t (locate ts o.id) (omega (arith, sums, e))
  locate-new (suc k) n (t ∷ ts) e =
      address_in-out t o.id (locate (place_at k n o ts) o.id) (omega (arith, sums, e)) ∙ locate-new k n ts (omega (arith, sums, e))

-- Where the next address is: in a car of number n, or behind a car's words.

data NextAt (n : ℕ) (o : Obj) (a : ℕ) : Train → Type 0 where
  opens : (t : Train) → a ≡ car_words * n → NextAt n o a t
  joins : (c : Car) (t : Train) → fits c o ≡ true → a ≡ car_words * c.number + words_of c.objects → NextAt n o a (c ∷ t)
  behind : (c : Car) (t : Train) → NextAt n o a t → NextAt n o a (c ∷ t)

next_of : (n : ℕ) (o : Obj) (t rest : Train) → NextAt n o (next_address n o t) (t ++ rest)
next_of n o [] rest = opens rest refl
next_of n o (c ∷ []) rest = go (fits c o) refl
  where
    go : (b : Bool) → fits c o ≡ b → NextAt n o (cond b (car_words * c.number + words_of c.objects) (car_words * n)) (c ∷ rest)
    go true e = joins c rest e refl
    go false e = opens (c ∷ rest) refl
next_of n o (c ∷ d ∷ cs) rest = behind c ((d ∷ cs) ++ rest) (next_of n o (d ∷ cs) rest)

next_later : (n : ℕ) (o : Obj) (a : ℕ) (t rest : Train) → NextAt n o a rest → NextAt n o a (t ++ rest)
next_later n o a [] rest p = p
next_later n o a (c ∷ t) rest p = behind c (t ++ rest) (next_later n o a t rest p)

next_in_row : (k n : ℕ) (o : Obj) (ts : Trains) → NextAt n o (next_address_at k n o ts) (cars_in_row ts)
next_in_row k n o [] = opens [] refl
next_in_row zero n o (t ∷ ts) = next_of n o t (cars_in_row ts)
next_in_row (suc k) n o (t ∷ ts) = next_later n o (next_address_at k n o ts) t (cars_in_row ts) (next_in_row k n o ts)

-- the words of a new object lie within one car, which is a new one or one of these
abbrev WithinOne : (n : ℕ) → Obj → (a : ℕ) → List ℕ → Type 0
WithinOne n o a ns = (m : ℕ) × ((m ≡ n) ⊎ (one_of m ns ≡ true)) × (car_words * m ≤ a) × (a + size o.body ≤ car_words * m + car_words)

next_within : (n : ℕ) (o : Obj) (a : ℕ) (row : Train) → Sized o → NextAt n o a row → WithinOne n o a (car_numbers row)
next_within n o a row s (opens t e) = (n, inl refl, omega (arith, e), omega (arith, e, s.1))
next_within n o a row s (joins c t f e) =
    (c.number, inr (one_of_here c.number (car_numbers t)), omega (arith, e), omega (arith, e, leb-true (words_of c.objects + size o.body) car_words f))
next_within n o a row s (behind c t p) =
    let w = next_within n o a t s p in
    (w.0, elim w.1 [ inl e ↦ inl e | inr e ↦ inr (one_of_there w.0 c.number (car_numbers t) e) ], w.2, w.3)

-- a car has no word in common with words of a car of another number
car_clear : (a k m : ℕ) (c : Car) → m ≢ c.number → car_words * m ≤ a → a + k ≤ car_words * m + car_words → words_of c.objects ≤ car_words
    → Disjoint a k (car_words * c.number) (words_of c.objects)
car_clear a k m c ne p q w = cars_disjoint m c.number a k (car_words * c.number) (words_of c.objects) ne p q (omega arith) (omega (arith, w))

cars_clear : (a k m : ℕ) (row : Train) → one_of m (car_numbers row) ≡ false → car_words * m ≤ a → a + k ≤ car_words * m + car_words
    → AllByRecursion (λ c. words_of c.objects ≤ car_words) row → AllByRecursion (λ c. Disjoint a k (car_words * c.number) (words_of c.objects)) row
cars_clear a k m [] f p q w = tt
cars_clear a k m (c ∷ cs) f p q w =
    let g = or_parts (eqb m c.number) (one_of m (car_numbers cs)) f in
    (car_clear a k m c (eqb-false m c.number g.0) p q w.0, cars_clear a k m cs g.1 p q w.1)

next_clear : (n : ℕ) (o : Obj) (a : ℕ) (row : Train) → Sized o → NextAt n o a row → one_of n (car_numbers row) ≡ false → IsDistinct eqb (car_numbers row)
    → AllByRecursion (λ c. words_of c.objects ≤ car_words) row → AllByRecursion (λ c. Disjoint a (size o.body) (car_words * c.number) (words_of c.objects)) row
next_clear n o a row s (opens t e) f d w = cars_clear a (size o.body) n t f (omega (arith, e)) (omega (arith, e, s.1)) w
next_clear n o a row s (joins c t g e) f d w = (
  disjoint_swap (car_words * c.number) (words_of c.objects) a (size o.body) (disjoint_before (car_words * c.number) (words_of c.objects) a (size o.body) (omega (arith, e))),
  cars_clear a (size o.body) c.number t (distinct_head c.number (car_numbers t) d) (omega (arith, e)) (omega (arith, e, leb-true (words_of c.objects + size o.body) car_words g)) w.1,
)
next_clear n o a row s (behind c t p) f d w =
    let g = or_parts (eqb n c.number) (one_of n (car_numbers t)) f in
    let m = next_within n o a t s p in
    let ne : m.0 ≢ c.number = λ e. elim m.1 [
      | inl q ↦ eqb-false n c.number g.0 (sym q ∙ e)
      | inr q ↦ both_ways (one_of c.number (car_numbers t)) (distinct_head c.number (car_numbers t) d) (subst (λ (z : ℕ). one_of z (car_numbers t) ≡ true) e q)
    ] in
    (car_clear a (size o.body) m.0 c ne m.2 m.3 w.0, next_clear n o a t s p g.1 (IsDistinct-tail eqb c.number (car_numbers t) d) w.1)

-- The placement with the new object.

module _ (k n : ℕ) (o : Obj) (ts : Trains) (sized : Sized o) (number : n < car_count) (free : one_of n (numbers ts) ≡ false) (seated : Seated ts) where
  row_free : one_of n (car_numbers (cars_in_row ts)) ≡ false
  row_free = subst (λ ns. one_of n ns ≡ false) (sym (row_numbers ts)) free

  numbered : Numbered (cars_in_row ts)
  numbered = subst (λ ns. AllByRecursion (λ z. z < 64) ns × IsDistinct eqb ns) (sym (row_numbers ts)) (seated.apart.below, seated.apart.differ)

  -- no word of the new object is of a car as it was
  pub next_apart : EachCar (λ c. Disjoint (next_address_at k n o ts) (size o.body) (car_words * c.number) (words_of c.objects)) ts
  next_apart =
      each_row (λ c. Disjoint (next_address_at k n o ts) (size o.body) (car_words * c.number) (words_of c.objects)) ts
      (next_clear n o (next_address_at k n o ts) (cars_in_row ts) sized (next_in_row k n o ts) row_free numbered.1 (row_each (λ c. words_of c.objects ≤ car_words) ts seated.within))

  -- and it ends within memory
  pub next_ends : next_address_at k n o ts + size o.body ≤ 8192
  next_ends =
      let m = next_within n o (next_address_at k n o ts) (cars_in_row ts) sized (next_in_row k n o ts) in
      let low : m.0 < 64 = elim m.1 [
        | inl e ↦ omega (arith, e, number)
        | inr e ↦ all_at (λ z. z < 64) m.0 (car_numbers (cars_in_row ts)) numbered.0 e
      ] in
      omega (arith, low, m.3)

  within_train : (t : Train) → AllByRecursion (λ c. words_of c.objects ≤ car_words) t → AllByRecursion (λ c. words_of c.objects ≤ car_words) (place n o t)
  within_train [] w = (omega (arith, sums, sized.1), tt)
  within_train (c ∷ []) w = go (fits c o) refl
    where
      go : (b : Bool) → fits c o ≡ b → AllByRecursion (λ d. words_of d.objects ≤ car_words) (cond b (with_object o c ∷ []) (c ∷ opened n o ∷ []))
      go true e = (omega (arith, sums, leb-true (words_of c.objects + size o.body) car_words e), tt)
      go false e = (w.0, (omega (arith, sums, sized.1), tt))
  within_train (c ∷ d ∷ cs) w = (w.0, within_train (d ∷ cs) w.1)

  within_trains : (j : ℕ) (us : Trains) → EachCar (λ c. words_of c.objects ≤ car_words) us → EachCar (λ c. words_of c.objects ≤ car_words) (place_at j n o us)
  within_trains j [] w = (within_train [] tt, tt)
  within_trains zero (t ∷ us) w = (within_train t w.0, w.1)
  within_trains (suc j) (t ∷ us) w = (w.0, within_trains j us w.1)

  -- the placement stays as it should, if the identity is a new one
  pub seated_place_at : times o.id (objects ts) ≡ 0 → Seated (place_at k n o ts)
  seated_place_at new = record {
    once = λ x. omega (arith, place_at-total (is x) k n o ts, seated.once x, once_new x);
    sized = place_at_all Sized k n o ts seated.sized sized;
    within = within_trains k ts seated.within;
    apart =
        let p = subst (λ ns. AllByRecursion (λ z. z < 64) ns × IsDistinct eqb ns) (row_numbers (place_at k n o ts))
        (placed-numbered n o (cars_in_row ts) (cars_in_row (place_at k n o ts)) (place_at-placed k n o ts) number row_free numbered) in
        record { below = p.0; differ = p.1 };
  }
    where
      once_new : (x : ℕ) → times x (objects ts) + is x o ≤ 1
      once_new x = elim (cases_Bool (eqb x o.id)) [
        | inl e ↦ (let i : is x o ≡ 1 = ap one_if e in let z : times x (objects ts) ≡ 0 = subst (λ y. times y (objects ts) ≡ 0) (sym (eqb-true x o.id e)) new in omega (arith, i, z))
        | inr e ↦ (let i : is x o ≡ 0 = ap one_if e in omega (arith, i, seated.once x))
      ]

-- Words that stand for a placement, and those of a new object at the next address.

module _ (M : ShapeTable) (code : Shape → ℕ) (at : ℕ → ℕ) (w : List ℕ) (n : ℕ) (o : Obj) where
  lie_behind : (a : ℕ) (os : List Obj) → LieFrom M code at w a os → Lies M code at w (a + words_of os) o.body → LieFrom M code at w a (os ++ o ∷ [])
  lie_behind a [] l q = (subst (λ (z : ℕ). Lies M code at w z o.body) (let e : a + 0 ≡ a = omega arith in e) q, tt)
  lie_behind a (p ∷ os) l q = (
    l.0,
    lie_behind (a + size p.body) os l.1 (subst (λ (z : ℕ). Lies M code at w z o.body) (let e : a + words_of (p ∷ os) ≡ a + size p.body + words_of os = omega (arith, sums) in e) q),
  )

  train_lies_joined : (t : Train) → AllByRecursion (CarLies M code at w) t → Lies M code at w (next_address n o t) o.body → AllByRecursion (CarLies M code at w) (place n o t)
  train_lies_joined [] s l = ((l, tt), tt)
  train_lies_joined (c ∷ []) s l = go (fits c o) l
    where
      go : (b : Bool) → Lies M code at w (cond b (car_words * c.number + words_of c.objects) (car_words * n)) o.body
          → AllByRecursion (CarLies M code at w) (cond b (with_object o c ∷ []) (c ∷ opened n o ∷ []))
      go true l = (lie_behind (car_words * c.number) c.objects s.0 l, tt)
      go false l = (s.0, ((l, tt), tt))
  train_lies_joined (c ∷ d ∷ cs) s l = (s.0, train_lies_joined (d ∷ cs) s.1 l)

  -- the words of both
  pub trains_lies_joined : (k : ℕ) (ts : Trains) → EachCar (CarLies M code at w) ts → Lies M code at w (next_address_at k n o ts) o.body → EachCar (CarLies M code at w) (place_at k n o ts)
  trains_lies_joined k [] s l = (((l, tt), tt), tt)
  trains_lies_joined zero (t ∷ ts) s l = (train_lies_joined t s.0 l, s.1)
  trains_lies_joined (suc k) (t ∷ ts) s l = (s.0, trains_lies_joined k ts s.1 l)

module _ (at : ℕ → ℕ) (n : ℕ) (o : Obj) (sized : Sized o) (number : n < car_count) where
  placed_behind : (a : ℕ) (os : List Obj) → ArePlaced at a os → at o.id ≡ a + words_of os → ArePlaced at a (os ++ o ∷ [])
  placed_behind a [] l q = (omega (arith, q), tt)
  placed_behind a (p ∷ os) l q = (l.0, placed_behind (a + size p.body) os l.1 (omega (arith, sums, q)))

  opened_placed : at o.id ≡ car_words * n → CarPlaced at (opened n o)
  opened_placed e = record { placed = (e, tt); number = number; within = omega (arith, sums, sized.1) }

  joined_placed : (c : Car) → fits c o ≡ true → CarPlaced at c → at o.id ≡ car_words * c.number + words_of c.objects → CarPlaced at (with_object o c)
  joined_placed c f s e = record {
    placed = placed_behind (car_words * c.number) c.objects s.placed e;
    number = s.number;
    within = omega (arith, sums, leb-true (words_of c.objects + size o.body) car_words f);
  }

  train_placed_joined : (t : Train) → AllByRecursion (CarPlaced at) t → at o.id ≡ next_address n o t → AllByRecursion (CarPlaced at) (place n o t)
  train_placed_joined [] s e = (opened_placed e, tt)
  train_placed_joined (c ∷ []) s e = go (fits c o) refl e
    where
      go : (b : Bool) → fits c o ≡ b → at o.id ≡ cond b (car_words * c.number + words_of c.objects) (car_words * n)
          → AllByRecursion (CarPlaced at) (cond b (with_object o c ∷ []) (c ∷ opened n o ∷ []))
      go true f e = (joined_placed c f s.0 e, tt)
      go false f e = (s.0, (opened_placed e, tt))
  train_placed_joined (c ∷ d ∷ cs) s e = (s.0, train_placed_joined (d ∷ cs) s.1 e)

  -- the addresses of both
  pub trains_placed_joined : (k : ℕ) (ts : Trains) → EachCar (CarPlaced at) ts → at o.id ≡ next_address_at k n o ts → EachCar (CarPlaced at) (place_at k n o ts)
  trains_placed_joined k [] s e = ((opened_placed e, tt), tt)
  trains_placed_joined zero (t ∷ ts) s e = (train_placed_joined t s.0 e, s.1)
  trains_placed_joined (suc k) (t ∷ ts) s e = (s.0, trains_placed_joined k ts s.1 e)

-- the words of a placement stay beside an object written at the next address, whatever addresses the references stand for
pub lies_beside : (M : ShapeTable) (code : Shape → ℕ) → Lawful M → (at : ℕ → ℕ) (v w : List ℕ) (k n : ℕ) (o : Obj) (ts : Trains) → Sized o → n < car_count → one_of n (numbers ts) ≡ false
    → Seated ts → EachCar (CarLies M code at v) ts → SameOutside v w (next_address_at k n o ts) (size o.body) → Lies M code at w (next_address_at k n o ts) o.body
    → EachCar (CarLies M code at w) (place_at k n o ts)
lies_beside M code law at v w k n o ts sized number free seated lie outside new =
    let a = next_address_at k n o ts in
    trains_lies_joined M code at w n o k ts
    (each_with (CarLies M code at v) (λ c. Disjoint a (size o.body) (car_words * c.number) (words_of c.objects)) (CarLies M code at w)
    (λ c l d. car_lies_frame M code law at v w c l (same_apart v w a (size o.body) (car_words * c.number) (words_of c.objects) outside d)) ts lie (next_apart k n o ts sized number free seated)) new

-- each car stands if its words stand and its objects are placed
pub stand_of : (M : ShapeTable) (code : Shape → ℕ) (at : ℕ → ℕ) (w : List ℕ) (ts : Trains) → EachCar (CarLies M code at w) ts → EachCar (CarPlaced at) ts → TrainsStand M code at w ts
stand_of M code at w ts l p =
    each_with (CarLies M code at w) (CarPlaced at) (CarStands M code at w) (λ c q r. record { lies = q; placed = r.placed; number = r.number; within = r.within }) ts l p

-- an object written at the next address, beside a placement that stands
pub stand_beside : (M : ShapeTable) (code : Shape → ℕ) → Lawful M → (at : ℕ → ℕ) (v w : List ℕ) (k n : ℕ) (o : Obj) (ts : Trains) → Sized o → n < car_count → one_of n (numbers ts) ≡ false
    → Seated ts → TrainsStand M code at v ts → SameOutside v w (next_address_at k n o ts) (size o.body) → Lies M code at w (next_address_at k n o ts) o.body
    → at o.id ≡ next_address_at k n o ts → TrainsStand M code at w (place_at k n o ts)
stand_beside M code law at v w k n o ts sized number free seated stand outside lies is_there =
    stand_of M code at w (place_at k n o ts)
    (lies_beside M code law at v w k n o ts sized number free seated (each_map (CarStands M code at v) (CarLies M code at v) (λ c s. s.lies) ts stand) outside lies)
    (trains_placed_joined at n o sized number k ts (cars_placed M code at v ts stand) is_there)

-- if words stand for a placement, and a new object, which nothing refers to yet, is written at the next address, the new words
-- stand for the placement with it, at the addresses that this one gives
pub stand_placed : (M : ShapeTable) (code : Shape → ℕ) → Lawful M → (v w : List ℕ) (k n : ℕ) (o : Obj) (ts : Trains) → Sized o → n < car_count → one_of n (numbers ts) ≡ false
    → Seated ts → times o.id (objects ts) ≡ 0 → AllByRecursion (Points (λ y. y ≢ o.id)) (objects ts) → TrainsStand M code (locate ts) v ts
    → SameOutside v w (next_address_at k n o ts) (size o.body) → Lies M code (locate (place_at k n o ts)) w (next_address_at k n o ts) o.body
    → TrainsStand M code (locate (place_at k n o ts)) w (place_at k n o ts)
stand_placed M code law v w k n o ts sized number free seated new unheld stand outside lies =
    let to = locate (place_at k n o ts) in
    let kept : (y : ℕ) → y ≢ o.id → locate ts y ≡ to y = λ y ne. sym (locate-place_at o y (ne_eqb y o.id ne) k n ts) in
    let moved : TrainsStand M code to v ts = trains_stand_at M code (locate ts) to v ts stand
    (all_map (Points (λ y. y ≢ o.id)) (Points (λ y. locate ts y ≡ to y)) (λ p h i y e. kept y (h i y e)) (objects ts) unheld)
    (all_map (λ p. eqb o.id p.id ≡ false) (λ p. locate ts p.id ≡ to p.id) (λ p e. kept p.id (λ f. eqb-false o.id p.id e (sym f))) (objects ts) (others o.id (objects ts) new)) in
    stand_beside M code law to v w k n o ts sized number free seated moved outside lies (locate-new o k n ts new)

-- nothing refers to an identity that lies nowhere, where references hold what lies in a car
pub unheld : (x : ℕ) (ts : Trains) → times x (objects ts) ≡ 0 → AllByRecursion (Points (λ y. 1 ≤ times y (objects ts))) (objects ts) → AllByRecursion (Points (λ y. y ≢ x)) (objects ts)
unheld x ts new refs = all_map (Points (λ y. 1 ≤ times y (objects ts))) (Points (λ y. y ≢ x)) (λ o p i y e f. not_new y (p i y e) f) (objects ts) refs
  where
    not_new : (y : ℕ) → 1 ≤ times y (objects ts) → y ≢ x
    not_new y h f = let z : times y (objects ts) ≡ 0 = subst (λ u. times u (objects ts) ≡ 0) (sym f) new in omega (arith, h, z)

-- the words that a header tells of are those of a new object of its shape
pub size-fresh : (M : ShapeTable) (code : Shape → ℕ) (decoded : ℕ → Offsets) → Lawful M → Coded M code decoded → (s : Shape) (o : Offsets) → M.offsets s ≡ Some o
    → size_of (decoded (code s)) ≡ size (fresh s o)
size-fresh M code decoded law coded s o e =
    omega (arith, (admitted_header law coded s o e).size, length-replicate {A = Option ℕ} o.refs None, length-replicate {A = ℕ} o.words 0)

-- the words of a reference or a root that does not hold the new object stay
pub word_of-place_at : (k n : ℕ) (o : Obj) (ts : Trains) (h : Option ℕ) → ((y : ℕ) → h ≡ Some y → y ≢ o.id) → word_of (locate (place_at k n o ts)) h ≡ word_of (locate ts) h
word_of-place_at k n o ts None f = refl
word_of-place_at k n o ts (Some y) f = locate-place_at o y (ne_eqb y o.id (f y refl)) k n ts

-- what the writing of a new object of a shape leaves stands for the placement with it
pub stand_made : (M : ShapeTable) (code : Shape → ℕ) (decoded : ℕ → Offsets) → Lawful M → Coded M code decoded → (v w : List ℕ) (k n x : ℕ) (s : Shape) (f : Offsets) (ts : Trains)
    → M.offsets s ≡ Some f → n < car_count → one_of n (numbers ts) ≡ false → Seated ts → times x (objects ts) ≡ 0 → AllByRecursion (Points (λ y. 1 ≤ times y (objects ts))) (objects ts)
    → TrainsStand M code (locate ts) v ts
    → (a : ℕ) → a ≡ next_address_at k n (record { id = x; body = fresh s f }) ts → SameOutside v w a (size_of (decoded (code s))) → ((at : ℕ → ℕ) → Lies M code at w a (fresh s f))
    → TrainsStand M code (locate (place_at k n (record { id = x; body = fresh s f }) ts)) w (place_at k n (record { id = x; body = fresh s f }) ts)
stand_made M code decoded law coded v w k n x s f ts admitted number free seated new refs stand a e outside lies =
    let o : Obj = record { id = x; body = fresh s f } in
    let same : SameOutside v w (next_address_at k n o ts) (size (fresh s f)) =
    subst (λ (m : ℕ). SameOutside v w (next_address_at k n o ts) m) (size-fresh M code decoded law coded s f admitted) (subst (λ (z : ℕ). SameOutside v w z (size_of (decoded (code s)))) e outside) in
    stand_placed M code law v w k n o ts (fresh_sized M law s f admitted) number free seated new (unheld x ts new refs) stand same
    (subst (λ (z : ℕ). Lies M code (locate (place_at k n o ts)) w z (fresh s f)) e (lies (locate (place_at k n o ts))))
