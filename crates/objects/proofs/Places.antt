-- Where the objects of a placement stand: each within its car, and no two in one place.
use Rattle.std.proofs.Common.{◌≡◌, ℕ, ◌+◌, ◌*◌, ◌/◌, ◌<◌, ◌≤◌, ◌≢◌, Bool, true, false, eqb, ◌++◌, List, [], ◌∷◌, Some, inl, inr, ◌⊎◌, refl, sym, ap, subst, arith}
use Rattle.std.specs.List.{AllByRecursion, IsDistinct}
use Rattle.std.proofs.lemmas.Bool.{both_ways, eqb-true, or_parts, cases_lt}
use Rattle.std.proofs.lemmas.Map.Keys.{IsDistinct-tail}
use Rattle.layout.specs.ShapeTable.{ShapeTable}
use Rattle.layout.specs.declared.Shape.{Shape}
use Rattle.model.specs.Bodies.{Body, size}
use Rattle.model.specs.Trains.{Obj, Car, Train, Trains, train_objects, objects, words_of, times, inside, car_numbers, numbers, one_of, car_words}
use Rattle.model.proofs.Alls.{all_++, all_left, all_right, all_map, all_with}
use Rattle.model.proofs.Distinct.{one_of_here, one_of_there, distinct_head}
use Rattle.model.proofs.Keeps.{inside_all}
use Rattle.model.proofs.RememberCars.{cars_in_row, row_objects, row_numbers}
use Rattle.model.proofs.Totals.{is, one_if, sums}
use Rattle.objects.specs.Lies.{Lies, LieFrom, ArePlaced, CarStands, HoldsItsOwn}
use Rattle.objects.specs.Words.{SameWithin, SameOutside}
use Rattle.objects.specs.Stand.{EachCar, TrainsStand, Disjoint, CarPlaced, ObjectStands}
use Rattle.objects.proofs.Frames.{each_map}

-- Two ranges of words.

pub disjoint_swap : (a n b m : ℕ) → Disjoint a n b m → Disjoint b m a n
disjoint_swap a n b m d = record { apart = λ k p q r s. d.apart k r s p q }

pub disjoint_before : (a n b m : ℕ) → a + n ≤ b → Disjoint a n b m
disjoint_before a n b m h = record { apart = λ k p q r s. omega (arith, h) }

-- one of two ranges that are not empty lies before the other
pub disjoint_either : (a n b m : ℕ) → 1 ≤ n → 1 ≤ m → Disjoint a n b m → (a + n ≤ b) ⊎ (b + m ≤ a)
disjoint_either a n b m p q d = elim (cases_lt a b) [
  | inl h ↦ elim (cases_lt b (a + n)) [ inl g ↦ absurd (d.apart b (omega arith) g (omega arith) (omega arith)) | inr g ↦ inl g ]
  | inr h ↦ elim (cases_lt a (b + m)) [ inl g ↦ absurd (d.apart a (omega arith) (omega arith) h g) | inr g ↦ inr g ]
]

-- what changes in one range leaves the other as it is
pub same_apart : (v w : List ℕ) (a n b m : ℕ) → SameOutside v w a n → Disjoint a n b m → SameWithin v w b m
same_apart v w a n b m s d = record {
  same = λ k p q. elim (cases_lt k a) [
    | inl h ↦ s.before k h
    | inr h ↦ elim (cases_lt k (a + n)) [ inl g ↦ absurd (d.apart k h g p q) | inr g ↦ s.behind k g ]
  ];
}

-- What holds of each object by its identity.

-- what holds of the identity of each object holds of any that is among them
pub of_times : (P : ℕ → Type 0) (x : ℕ) (os : List Obj) → AllByRecursion (λ o. P o.id) os → 1 ≤ times x os → P x
of_times P x [] p h = absurd (omega (arith, h))
of_times P x (o ∷ os) p h = go (eqb x o.id) refl (of_times P x os p.1)
  where
    go : (b : Bool) → eqb x o.id ≡ b → (1 ≤ times x os → P x) → P x
    go true e more = subst P (sym (eqb-true x o.id e)) p.0
    go false e more = more (let z : is x o ≡ 0 = ap one_if e in omega (arith, sums, h, z))

-- the cars of all trains in one row
pub row_each : (P : Car → Type 0) (ts : Trains) → EachCar P ts → AllByRecursion P (cars_in_row ts)
row_each P [] p = tt
row_each P (t ∷ ts) p = all_++ P t (cars_in_row ts) p.0 (row_each P ts p.1)

pub each_row : (P : Car → Type 0) (ts : Trains) → AllByRecursion P (cars_in_row ts) → EachCar P ts
each_row P [] p = tt
each_row P (t ∷ ts) p = (all_left P t (cars_in_row ts) p, each_row P ts (all_right P t (cars_in_row ts) p))

-- Objects behind one another from an address on.

placed_within : (at : ℕ → ℕ) (a : ℕ) (os : List Obj) → ArePlaced at a os → AllByRecursion (λ o. (a ≤ at o.id) × (at o.id + size o.body ≤ a + words_of os)) os
placed_within at a [] p = tt
placed_within at a (o ∷ os) p = (
  (omega (arith, p.0), omega (arith, sums, p.0)),
  all_map (λ x. (a + size o.body ≤ at x.id) × (at x.id + size x.body ≤ a + size o.body + words_of os)) (λ x. (a ≤ at x.id) × (at x.id + size x.body ≤ a + words_of (o ∷ os)))
      (λ x q. (omega (arith, q.0), omega (arith, sums, q.1))) os (placed_within at (a + size o.body) os p.1),
)

-- each of some objects is apart from another one
abbrev ApartFrom : (at : ℕ → ℕ) → List Obj → Obj → Type 0
ApartFrom at os o = AllByRecursion (λ p. o.id ≢ p.id → Disjoint (at o.id) (size o.body) (at p.id) (size p.body)) os

apart_swap : (at : ℕ → ℕ) (os ps : List Obj) → AllByRecursion (ApartFrom at ps) os → AllByRecursion (ApartFrom at os) ps
apart_swap at [] ps f = all_of ps
  where
    all_of : (qs : List Obj) → AllByRecursion (ApartFrom at []) qs
    all_of [] = tt
    all_of (q ∷ qs) = (tt, all_of qs)
apart_swap at (o ∷ os) ps f =
    all_with (λ p. o.id ≢ p.id → Disjoint (at o.id) (size o.body) (at p.id) (size p.body)) (ApartFrom at os) (ApartFrom at (o ∷ os))
    (λ p d r. ((λ ne. disjoint_swap (at o.id) (size o.body) (at p.id) (size p.body) (d (λ e. ne (sym e)))), r)) ps f.0 (apart_swap at os ps f.1)

-- objects apart from one another, joined
apart_joined : (at : ℕ → ℕ) (os ps : List Obj) → AllByRecursion (ApartFrom at os) os → AllByRecursion (ApartFrom at ps) os → AllByRecursion (ApartFrom at ps) ps
    → AllByRecursion (ApartFrom at (os ++ ps)) (os ++ ps)
apart_joined at os ps f g h =
    all_++ (ApartFrom at (os ++ ps)) os ps
    (all_with (ApartFrom at os) (ApartFrom at ps) (ApartFrom at (os ++ ps)) (λ o p q. all_++ _ os ps p q) os f g)
    (all_with (ApartFrom at os) (ApartFrom at ps) (ApartFrom at (os ++ ps)) (λ o p q. all_++ _ os ps p q) ps (apart_swap at os ps g) h)

placed_apart : (at : ℕ → ℕ) (a : ℕ) (os : List Obj) → ArePlaced at a os → AllByRecursion (ApartFrom at os) os
placed_apart at a [] p = tt
placed_apart at a (o ∷ os) p =
    apart_joined at (o ∷ []) os
    (((λ ne. absurd (ne refl)), tt), tt) (
      all_map (λ x. (a + size o.body ≤ at x.id) × (at x.id + size x.body ≤ a + size o.body + words_of os)) (λ x. o.id ≢ x.id → Disjoint (at o.id) (size o.body) (at x.id) (size x.body))
          (λ x q ne. disjoint_before (at o.id) (size o.body) (at x.id) (size x.body) (omega (arith, p.0, q.0))) os (placed_within at (a + size o.body) os p.1),
      tt,
    )
    (placed_apart at (a + size o.body) os p.1)

-- Cars in a row.

pub car_of : (a n : ℕ) → car_words * n ≤ a → a < car_words * n + car_words → a / car_words ≡ n
car_of a n p q = omega (arith, p, q)

-- an object lies in the words of its car
abbrev InCar : (at : ℕ → ℕ) → ℕ → Obj → Type 0
InCar at n o = (car_words * n ≤ at o.id) × (at o.id + size o.body ≤ car_words * n + car_words)

car_within : (at : ℕ → ℕ) (c : Car) → CarPlaced at c → AllByRecursion (InCar at c.number) c.objects
car_within at c p =
    all_map (λ x. (car_words * c.number ≤ at x.id) × (at x.id + size x.body ≤ car_words * c.number + words_of c.objects)) (InCar at c.number)
    (λ x q. (q.0, omega (arith, q.1, p.within))) c.objects (placed_within at (car_words * c.number) c.objects p.placed)

-- an object lies in a car with one of these numbers
abbrev InOneOf : (at : ℕ → ℕ) → List ℕ → Obj → Type 0
InOneOf at ns o = (n : ℕ) × (one_of n ns ≡ true) × InCar at n o

row_within : (at : ℕ → ℕ) (row : Train) → AllByRecursion (CarPlaced at) row → AllByRecursion (InOneOf at (car_numbers row)) (train_objects row)
row_within at [] p = tt
row_within at (c ∷ cs) p =
    all_++ (InOneOf at (car_numbers (c ∷ cs))) c.objects (train_objects cs)
    (all_map (InCar at c.number) (InOneOf at (car_numbers (c ∷ cs))) (λ o q. (c.number, one_of_here c.number (car_numbers cs), q)) c.objects (car_within at c p.0))
    (all_map (InOneOf at (car_numbers cs)) (InOneOf at (car_numbers (c ∷ cs))) (λ o q. (q.0, one_of_there q.0 c.number (car_numbers cs) q.1, q.2)) (train_objects cs) (row_within at cs p.1))

-- words of two cars
pub cars_disjoint : (n m a k b l : ℕ) → n ≢ m → car_words * n ≤ a → a + k ≤ car_words * n + car_words → car_words * m ≤ b → b + l ≤ car_words * m + car_words → Disjoint a k b l
cars_disjoint n m a k b l ne p q r s = record { apart = λ j e f g h. omega (arith, ne, p, q, r, s, e, f, g, h) }

row_apart : (at : ℕ → ℕ) (row : Train) → AllByRecursion (CarPlaced at) row → IsDistinct eqb (car_numbers row) → AllByRecursion (ApartFrom at (train_objects row)) (train_objects row)
row_apart at [] p d = tt
row_apart at (c ∷ cs) p d =
    apart_joined at c.objects (train_objects cs)
    (placed_apart at (car_words * c.number) c.objects p.0.placed)
    (all_map (InCar at c.number) (ApartFrom at (train_objects cs)) (λ o q.
    all_map (InOneOf at (car_numbers cs)) (λ x. o.id ≢ x.id → Disjoint (at o.id) (size o.body) (at x.id) (size x.body))
    (λ x r ne. cars_disjoint c.number r.0 (at o.id) (size o.body) (at x.id) (size x.body)
    (λ e. both_ways (one_of c.number (car_numbers cs)) (distinct_head c.number (car_numbers cs) d) (subst (λ (z : ℕ). one_of z (car_numbers cs) ≡ true) (sym e) r.1))
    q.0 q.1 r.2.0 r.2.1)
    (train_objects cs) (row_within at cs p.1)) c.objects (car_within at c p.0))
    (row_apart at cs p.1 (IsDistinct-tail eqb c.number (car_numbers cs) d))

-- the number of the car of an object's address is that of a car in the row
row_number : (at : ℕ → ℕ) (row : Train) → AllByRecursion (CarPlaced at) row → (x : ℕ) → 1 ≤ times x (train_objects row) → one_of (at x / car_words) (car_numbers row) ≡ true
row_number at row p x h =
    of_times (λ y. one_of (at y / car_words) (car_numbers row) ≡ true) x (train_objects row)
    (all_map (InOneOf at (car_numbers row)) (λ o. one_of (at o.id / car_words) (car_numbers row) ≡ true)
    (λ o q. subst (λ (n : ℕ). one_of n (car_numbers row) ≡ true) (sym (car_of (at o.id) q.0 q.2.0 (omega (arith, q.2.1)))) q.1) (train_objects row) (row_within at row p)) h

-- an address that is of one of these cars is that of an object in it, if what lies in none has an address in none
row_own : (at : ℕ → ℕ) (row : Train) → AllByRecursion (CarPlaced at) row → IsDistinct eqb (car_numbers row)
    → ((x : ℕ) → times x (train_objects row) ≡ 0 → one_of (at x / car_words) (car_numbers row) ≡ false) → AllByRecursion (HoldsItsOwn at) row
row_own at [] p d none = tt
row_own at (c ∷ cs) p d none = (own, row_own at cs p.1 (IsDistinct-tail eqb c.number (car_numbers cs) d) rest)
  where
    fresh_number : one_of c.number (car_numbers cs) ≡ false
    fresh_number = distinct_head c.number (car_numbers cs) d

    of_car : (x : ℕ) → 1 ≤ times x c.objects → at x / car_words ≡ c.number
    of_car x h = of_times (λ y. at y / car_words ≡ c.number) x c.objects
        (all_map (InCar at c.number) (λ o. at o.id / car_words ≡ c.number) (λ o q. car_of (at o.id) c.number q.0 (omega (arith, q.1))) c.objects (car_within at c p.0)) h

    own : HoldsItsOwn at c
    own x e = elim (cases_lt 0 (times x c.objects)) [
      | inl h ↦ h
      | inr h ↦ elim (cases_lt 0 (times x (train_objects cs))) [
        | inl g ↦ absurd (both_ways (one_of c.number (car_numbers cs)) fresh_number (subst (λ (n : ℕ). one_of n (car_numbers cs) ≡ true) e (row_number at cs p.1 x g)))
        | inr g ↦ absurd (both_ways (one_of c.number (c.number ∷ car_numbers cs))
            (subst (λ (n : ℕ). one_of n (c.number ∷ car_numbers cs) ≡ false) e (none x (omega (arith, sums, h, g)))) (one_of_here c.number (car_numbers cs)))
      ]
    ]

    rest : (x : ℕ) → times x (train_objects cs) ≡ 0 → one_of (at x / car_words) (car_numbers cs) ≡ false
    rest x e = elim (cases_lt 0 (times x c.objects)) [
      | inl h ↦ subst (λ (n : ℕ). one_of n (car_numbers cs) ≡ false) (sym (of_car x h)) fresh_number
      | inr h ↦ (or_parts (eqb (at x / car_words) c.number) (one_of (at x / car_words) (car_numbers cs)) (none x (omega (arith, sums, h, e)))).1
    ]

-- The same for a whole placement.

module _ (at : ℕ → ℕ) (ts : Trains) (placed : EachCar (CarPlaced at) ts) (differ : IsDistinct eqb (numbers ts)) where
  row_differ : IsDistinct eqb (car_numbers (cars_in_row ts))
  row_differ = subst (IsDistinct eqb) (sym (row_numbers ts)) differ

  -- two different objects have no word in common
  pub objects_disjoint : (x y : ℕ) (b c : Body) → inside (objects ts) x ≡ Some b → inside (objects ts) y ≡ Some c → x ≢ y → Disjoint (at x) (size b) (at y) (size c)
  objects_disjoint x y b c e f ne =
      let all : AllByRecursion (ApartFrom at (objects ts)) (objects ts) = subst (λ os. AllByRecursion (ApartFrom at os) os) (row_objects ts) (row_apart at (cars_in_row ts) (row_each (CarPlaced at) ts placed) row_differ) in
      let one = inside_all (ApartFrom at (objects ts)) (objects ts) x b e all in
      inside_all (λ p. x ≢ p.id → Disjoint (at x) (size b) (at p.id) (size p.body)) (objects ts) y c f one ne

  pub addresses_differ : (x y : ℕ) (b c : Body) → inside (objects ts) x ≡ Some b → inside (objects ts) y ≡ Some c → x ≢ y → at x ≢ at y
  addresses_differ x y b c e f ne same =
      let d = objects_disjoint x y b c e f ne in
      d.apart (at x) (omega arith) (omega arith) (omega (arith, same)) (omega (arith, same))

  -- the car of an object's address is a car of the placement
  pub address_number : (x : ℕ) → 1 ≤ times x (objects ts) → one_of (at x / car_words) (numbers ts) ≡ true
  address_number x h =
      let l : 1 ≤ times x (train_objects (cars_in_row ts)) = subst (λ os. 1 ≤ times x os) (sym (row_objects ts)) h in
      subst (λ ns. one_of (at x / car_words) ns ≡ true) (row_numbers ts) (row_number at (cars_in_row ts) (row_each (CarPlaced at) ts placed) x l)

  pub cars_hold_their_own : ((x : ℕ) → times x (objects ts) ≡ 0 → one_of (at x / car_words) (numbers ts) ≡ false) → EachCar (HoldsItsOwn at) ts
  cars_hold_their_own none =
      each_row (HoldsItsOwn at) ts (row_own at (cars_in_row ts) (row_each (CarPlaced at) ts placed) row_differ
      (λ x e. subst (λ ns. one_of (at x / car_words) ns ≡ false) (sym (row_numbers ts)) (none x (subst (λ os. times x os ≡ 0) (row_objects ts) e))))

-- an object of a car has an address of this car
pub address_in_car : (at : ℕ → ℕ) (c : Car) → CarPlaced at c → (x : ℕ) (b : Body) → inside c.objects x ≡ Some b
    → (car_words * c.number ≤ at x) × (at x + size b ≤ car_words * c.number + words_of c.objects) × (at x / car_words ≡ c.number)
address_in_car at c p x b e =
    let w = inside_all (λ o. (car_words * c.number ≤ at o.id) × (at o.id + size o.body ≤ car_words * c.number + words_of c.objects)) c.objects x b e (placed_within at (car_words * c.number) c.objects p.placed) in
    (w.0, w.1, car_of (at x) c.number w.0 (omega (arith, w.1, p.within)))

-- what lies in a car has an address of this car
pub number_in_car : (at : ℕ → ℕ) (c : Car) → CarPlaced at c → (x : ℕ) → 1 ≤ times x c.objects → at x / car_words ≡ c.number
number_in_car at c p x h = of_times (λ y. at y / car_words ≡ c.number) x c.objects
    (all_map (InCar at c.number) (λ o. at o.id / car_words ≡ c.number) (λ o q. car_of (at o.id) c.number q.0 (omega (arith, q.1))) c.objects (car_within at c p)) h

module _ (M : ShapeTable) (code : Shape → ℕ) (at : ℕ → ℕ) (w : List ℕ) where
  pub car_placed : (c : Car) → CarStands M code at w c → CarPlaced at c
  car_placed c s = record { placed = s.placed; number = s.number; within = s.within }

  pub cars_placed : (ts : Trains) → TrainsStand M code at w ts → EachCar (CarPlaced at) ts
  cars_placed ts s = each_map (CarStands M code at w) (CarPlaced at) car_placed ts s

  lies_each : (a : ℕ) (os : List Obj) → LieFrom M code at w a os → ArePlaced at a os → AllByRecursion (λ o. Lies M code at w (at o.id) o.body) os
  lies_each a [] l p = tt
  lies_each a (o ∷ os) l p = (subst (λ (z : ℕ). Lies M code at w z o.body) (sym p.0) l.0, lies_each (a + size o.body) os l.1 p.1)

  car_objects_stand : (c : Car) → CarStands M code at w c → AllByRecursion (λ o. ObjectStands M code at w o.id o.body) c.objects
  car_objects_stand c s =
      all_with (λ o. Lies M code at w (at o.id) o.body) (InCar at c.number) (λ o. ObjectStands M code at w o.id o.body)
      (λ o l q.
      let n = car_of (at o.id) c.number q.0 (omega (arith, q.1)) in
      record { lies = l; car = omega (arith, n, s.number); within = omega (arith, n, q.1) })
      c.objects (lies_each (car_words * c.number) c.objects s.lies s.placed) (car_within at c (car_placed c s))

  row_objects_stand : (row : Train) → AllByRecursion (CarStands M code at w) row → AllByRecursion (λ o. ObjectStands M code at w o.id o.body) (train_objects row)
  row_objects_stand [] s = tt
  row_objects_stand (c ∷ cs) s = all_++ (λ o. ObjectStands M code at w o.id o.body) c.objects (train_objects cs) (car_objects_stand c s.0) (row_objects_stand cs s.1)

  -- each object of a placement stands at its address
  pub objects_stand : (ts : Trains) → TrainsStand M code at w ts → AllByRecursion (λ o. ObjectStands M code at w o.id o.body) (objects ts)
  objects_stand ts s =
      subst (AllByRecursion (λ o. ObjectStands M code at w o.id o.body)) (row_objects ts) (row_objects_stand (cars_in_row ts) (row_each (CarStands M code at w) ts s))

  pub object_stands : (ts : Trains) → TrainsStand M code at w ts → (x : ℕ) (b : Body) → inside (objects ts) x ≡ Some b → ObjectStands M code at w x b
  object_stands ts s x b e = inside_all (λ o. ObjectStands M code at w o.id o.body) (objects ts) x b e (objects_stand ts s)

  -- it ends within memory
  pub object_ends : (x : ℕ) (b : Body) → ObjectStands M code at w x b → at x + size b ≤ 8192
  object_ends x b s = omega (arith, s.car, s.within)
