-- What holds of each reference in a row of cars, and that it still does when objects are placed or changed.
use Rattle.std.proofs.Common.{◌≡◌, ℕ, zero, suc, ◌+◌, ◌*◌, ◌<◌, ◌≤◌, Bool, true, false, cond, ◌&&◌, eqb, List, [], ◌∷◌, ◌++◌, get_or, set, Some, None, Option, refl, ap, ◌∙◌, subst, inl, inr, arith}
use Rattle.std.proofs.lemmas.Bool.{both_ways, eqb-true, eq-eqb, and_from, lt-ltb, ltb-true, cases_lt}
use Rattle.std.specs.List.{AllByRecursion}
use Rattle.std.specs.Prelude.{map}
use Rattle.layout.specs.ShapeTable.{ShapeTable}
use Rattle.remembered.specs.Updates.{Pairs, Updates}
use Rattle.layout.specs.declared.Shape.{Shape}
use Rattle.model.specs.Bodies.{Body, size, with_ref, with_value}
use Rattle.model.specs.Trains.{Obj, Car, Train, train_objects, times, among, car_numbers, one_of, with_object, opened, alter_object, alter_train, car_words}
use Rattle.model.specs.Notes.{CarPlace, train_car_place, Slot, ref_offset, ref_slots, object_slots, train_slots}
use Rattle.model.proofs.Alls.{all_left, all_right, all_++, all_with}
use Rattle.model.proofs.Alters.{alter-times, alter-size}
use Rattle.model.proofs.Distinct.{one_of_here, one_of_there}
use Rattle.model.proofs.RememberCars.{Placed, opens, joins, later, car_place_order, car_place_lies}
use Rattle.model.proofs.Totals.{is, one_if}
use Rattle.model.proofs.Totals.{sums}

-- Q of each reference, by its address, its holder, its number and what it holds
abbrev pub InRefs : ShapeTable → (ℕ → ℕ → ℕ → Option ℕ → Type 0) → Shape → (x a i : ℕ) → List (Option ℕ) → Type 0
InRefs M Q s x a i [] = Unit {0}
InRefs M Q s x a i (h ∷ hs) = Q (a + ref_offset M s i) x i h × InRefs M Q s x a (i + 1) hs

abbrev pub InObject : ShapeTable → (ℕ → ℕ → ℕ → Option ℕ → Type 0) → ℕ → Obj → Type 0
InObject M Q a o = InRefs M Q o.body.shape o.id a 0 o.body.refs

abbrev pub InObjects : ShapeTable → (ℕ → ℕ → ℕ → Option ℕ → Type 0) → ℕ → List Obj → Type 0
InObjects M Q a [] = Unit {0}
InObjects M Q a (o ∷ os) = InObject M Q a o × InObjects M Q (a + size o.body) os

abbrev pub InCars : ShapeTable → (ℕ → ℕ → ℕ → Option ℕ → Type 0) → Train → Type 0
InCars M Q [] = Unit {0}
InCars M Q (c ∷ cs) = InObjects M Q (car_words * c.number) c.objects × InCars M Q cs

module _ (M : ShapeTable) (P Q R : ℕ → ℕ → ℕ → Option ℕ → Type 0) (f : (a x i : ℕ) (h : Option ℕ) → P a x i h → Q a x i h → R a x i h) where
  pub refs_with : (s : Shape) (x a i : ℕ) (hs : List (Option ℕ)) → InRefs M P s x a i hs → InRefs M Q s x a i hs → InRefs M R s x a i hs
  refs_with s x a i [] p q = tt
  refs_with s x a i (h ∷ hs) p q = (f (a + ref_offset M s i) x i h p.0 q.0, refs_with s x a (i + 1) hs p.1 q.1)

  objects_with : (a : ℕ) (os : List Obj) → InObjects M P a os → InObjects M Q a os → InObjects M R a os
  objects_with a [] p q = tt
  objects_with a (o ∷ os) p q = (refs_with o.body.shape o.id a 0 o.body.refs p.0 q.0, objects_with (a + size o.body) os p.1 q.1)

  pub cars_with : (t : Train) → InCars M P t → InCars M Q t → InCars M R t
  cars_with [] p q = tt
  cars_with (c ∷ cs) p q = (objects_with (car_words * c.number) c.objects p.0 q.0, cars_with cs p.1 q.1)

module _ (M : ShapeTable) (Q : ℕ → ℕ → ℕ → Option ℕ → Type 0) where
  -- from what holds of each of an object's references, wherever they stand
  pub refs_from : (s : Shape) (x a j : ℕ) (hs : List (Option ℕ)) → ((i b k : ℕ) → Q b x k (get_or hs i None)) → InRefs M Q s x a j hs
  refs_from s x a j [] f = tt
  refs_from s x a j (h ∷ hs) f = (f zero (a + ref_offset M s j) j, refs_from s x a (j + 1) hs (λ i. f (suc i)))

  objects_from : (a : ℕ) (os : List Obj) → AllByRecursion (λ o. (i b k : ℕ) → Q b o.id k (get_or o.body.refs i None)) os → InObjects M Q a os
  objects_from a [] p = tt
  objects_from a (o ∷ os) p = (refs_from o.body.shape o.id a 0 o.body.refs p.0, objects_from (a + size o.body) os p.1)

  pub cars_from : (t : Train) → AllByRecursion (λ o. (i b k : ℕ) → Q b o.id k (get_or o.body.refs i None)) (train_objects t) → InCars M Q t
  cars_from [] p = tt
  cars_from (c ∷ cs) p =
      (objects_from (car_words * c.number) c.objects (all_left _ c.objects (train_objects cs) p), cars_from cs (all_right _ c.objects (train_objects cs) p))

  module _ (f : (a x i : ℕ) (h : Option ℕ) → Q a x i h) where
    each_of : (os : List Obj) → AllByRecursion (λ o. (i b k : ℕ) → Q b o.id k (get_or o.body.refs i None)) os
    each_of [] = tt
    each_of (o ∷ os) = ((λ i b k. f b o.id k (get_or o.body.refs i None)), each_of os)

    pub cars_all : (t : Train) → InCars M Q t
    cars_all t = cars_from t (each_of (train_objects t))

  module _ (n : ℕ) (o : Obj) (own : (a : ℕ) → InObject M Q a o) where
    objects-behind : (a : ℕ) (os : List Obj) → InObjects M Q a os → InObjects M Q a (os ++ (o ∷ []))
    objects-behind a [] p = (own a, tt)
    objects-behind a (x ∷ os) p = (p.0, objects-behind (a + size x.body) os p.1)

    pub cars_placed : {t u : Train} → Placed n o t u → InCars M Q t → InCars M Q u
    cars_placed (opens t) p = ((own (car_words * n), tt), p)
    cars_placed (joins c t) p = (objects-behind (car_words * c.number) c.objects p.0, p.1)
    cars_placed (later c t u q) p = (p.0, cars_placed q p.1)

-- The slots in order.

abbrev pub By : (ℕ → ℕ → ℕ → Option ℕ → Type 0) → Slot → Type 0
By Q s = Q s.address s.holder s.index s.target

module _ (M : ShapeTable) (Q : ℕ → ℕ → ℕ → Option ℕ → Type 0) where
  refs_slots : (s : Shape) (n x a i : ℕ) (hs : List (Option ℕ)) → InRefs M Q s x a i hs → AllByRecursion (By Q) (ref_slots M s n x a i hs)
  refs_slots s n x a i [] p = tt
  refs_slots s n x a i (h ∷ hs) p = (p.0, refs_slots s n x a (i + 1) hs p.1)

  objects-slots : (n a : ℕ) (os : List Obj) → InObjects M Q a os → AllByRecursion (By Q) (object_slots M n a os)
  objects-slots n a [] p = tt
  objects-slots n a (o ∷ os) p =
      all_++ (By Q) (ref_slots M o.body.shape n o.id a 0 o.body.refs) (object_slots M n (a + size o.body) os)
      (refs_slots o.body.shape n o.id a 0 o.body.refs p.0) (objects-slots n (a + size o.body) os p.1)

  pub cars_slots : (n : ℕ) (t : Train) → InCars M Q t → AllByRecursion (By Q) (train_slots M n t)
  cars_slots n [] p = tt
  cars_slots n (c ∷ cs) p =
      all_++ (By Q) (object_slots M n (car_words * c.number) c.objects) (train_slots M (n + 1) cs)
      (objects-slots n (car_words * c.number) c.objects p.0) (cars_slots (n + 1) cs p.1)

  slots_refs : (s : Shape) (n x a i : ℕ) (hs : List (Option ℕ)) → AllByRecursion (By Q) (ref_slots M s n x a i hs) → InRefs M Q s x a i hs
  slots_refs s n x a i [] p = tt
  slots_refs s n x a i (h ∷ hs) p = (p.0, slots_refs s n x a (i + 1) hs p.1)

  slots-objects : (n a : ℕ) (os : List Obj) → AllByRecursion (By Q) (object_slots M n a os) → InObjects M Q a os
  slots-objects n a [] p = tt
  slots-objects n a (o ∷ os) p =
      let A = ref_slots M o.body.shape n o.id a 0 o.body.refs in
      let B = object_slots M n (a + size o.body) os in
      (slots_refs o.body.shape n o.id a 0 o.body.refs (all_left (By Q) A B p), slots-objects n (a + size o.body) os (all_right (By Q) A B p))

  pub slots_cars : (n : ℕ) (t : Train) → AllByRecursion (By Q) (train_slots M n t) → InCars M Q t
  slots_cars n [] p = tt
  slots_cars n (c ∷ cs) p =
      let A = object_slots M n (car_words * c.number) c.objects in
      let B = train_slots M (n + 1) cs in
      (slots-objects n (car_words * c.number) c.objects (all_left (By Q) A B p), slots_cars (n + 1) cs (all_right (By Q) A B p))

module _ (M : ShapeTable) where
  module _ (P : Slot → Type 0) (n : ℕ) (f : (s : Slot) → s.order ≡ n → P s) where
    refs_order : (s : Shape) (x a i : ℕ) (hs : List (Option ℕ)) → AllByRecursion P (ref_slots M s n x a i hs)
    refs_order s x a i [] = tt
    refs_order s x a i (h ∷ hs) = (f _ refl, refs_order s x a (i + 1) hs)

    -- the slots of a car have its place
    pub objects_order : (a : ℕ) (os : List Obj) → AllByRecursion P (object_slots M n a os)
    objects_order a [] = tt
    objects_order a (o ∷ os) =
        all_++ P (ref_slots M o.body.shape n o.id a 0 o.body.refs) (object_slots M n (a + size o.body) os)
        (refs_order o.body.shape o.id a 0 o.body.refs) (objects_order (a + size o.body) os)

  pub train_order : (n : ℕ) (t : Train) → AllByRecursion (λ s. n ≤ s.order) (train_slots M n t)
  train_order n [] = tt
  train_order n (c ∷ cs) =
      let more = train_order (n + 1) cs in
      all_++ (λ s. n ≤ s.order) (object_slots M n (car_words * c.number) c.objects) (train_slots M (n + 1) cs)
      (objects_order (λ s. n ≤ s.order) n (λ s e. omega (arith, e)) (car_words * c.number) c.objects)
      (all_with (λ s. n + 1 ≤ s.order) (λ s. n + 1 ≤ s.order) (λ s. n ≤ s.order) (λ s p q. omega (arith, p)) (train_slots M (n + 1) cs) more more)

-- What the set has of the references of E: those in a later car that hold an object of an earlier car c.

abbrev pub ToldOf : (Updates → Pairs) → Updates → (ℕ → ℕ → ℕ → Type 0) → Car → ℕ → ℕ → ℕ → Option ℕ → Type 0
ToldOf has r E c a x i h = (y : ℕ) → h ≡ Some y → 1 ≤ times y c.objects → E x i y → has r c.number a ≡ true

abbrev pub Noted : ShapeTable → (Updates → Pairs) → Updates → (ℕ → ℕ → ℕ → Type 0) → Train → Type 0
Noted M has r E [] = Unit {0}
Noted M has r E (c ∷ cs) = InCars M (ToldOf has r E c) cs × Noted M has r E cs

-- all references
abbrev pub Always : ℕ → ℕ → ℕ → Type 0
Always x i y = Unit {0}

pub noted_right : (M : ShapeTable) (has : Updates → Pairs) (r : Updates) (E : ℕ → ℕ → ℕ → Type 0) (t u : Train) → Noted M has r E (t ++ u) → Noted M has r E u
noted_right M has r E [] u p = p
noted_right M has r E (c ∷ t) u p = noted_right M has r E t u p.1

pub noted_with : (M : ShapeTable) (has : Updates → Pairs) (r q : Updates) (E F : ℕ → ℕ → ℕ → Type 0) (t : Train) → Noted M has r E t
    → InCars M (λ a x i h. (y : ℕ) → h ≡ Some y → F x i y → E x i y) t
    → ((n a : ℕ) → one_of n (car_numbers t) ≡ true → has r n a ≡ true → has q n a ≡ true) → Noted M has q F t
noted_with M has r q E F [] p e k = tt
noted_with M has r q E F (c ∷ cs) p e k = (
  cars_with M (ToldOf has r E c) (λ a x i h. (y : ℕ) → h ≡ Some y → F x i y → E x i y) (ToldOf has q F c)
      (λ a x i h u v y w l m. k c.number a (one_of_here c.number (car_numbers cs)) (u y w l (v y w m))) cs p.0 e.1,
  noted_with M has r q E F cs p.1 e.1 (λ n a o. k n a (one_of_there n c.number (car_numbers cs) o)),
)

pub is_id : (y : ℕ) (o : Obj) → 1 ≤ is y o → y ≡ o.id
is_id y o h = go (eqb y o.id) refl h
  where
    go : (b : Bool) → eqb y o.id ≡ b → 1 ≤ one_if b → y ≡ o.id
    go true e l = eqb-true y o.id e
    go false e l = absurd (omega arith)

-- E leaves out the references of the object that is placed, and those that hold it
module _ (M : ShapeTable) (has : Updates → Pairs) (r : Updates) (E : ℕ → ℕ → ℕ → Type 0) (n : ℕ) (o : Obj)
    (own : (i j y : ℕ) → get_or o.body.refs i None ≡ Some y → E o.id j y → ⊥) (of : (x i : ℕ) → E x i o.id → ⊥) where
  not-held : (x i y : ℕ) → 1 ≤ is y o → E x i y → ⊥
  not-held x i y h e = of x i (subst (λ (z : ℕ). E x i z) (is_id y o h) e)

  pub noted_placed : {t u : Train} → Placed n o t u → Noted M has r E t → Noted M has r E u
  noted_placed (opens t) p =
      (cars_all M (ToldOf has r E (opened n o)) (λ a x i h y e l k. absurd (not-held x i y (omega (arith, l)) k)) t, p)
  noted_placed (joins c t) p = (
    cars_with M (ToldOf has r E c) (ToldOf has r E c) (ToldOf has r E (with_object o c))
        (λ a x i h u v y e l k. elim (cases_lt 0 (times y c.objects)) [
          | inl m ↦ u y e (omega (arith, m)) k
          | inr m ↦ absurd (not-held x i y (omega (arith, sums, m, l)) k)
        ]) t p.0 p.0,
    p.1,
  )
  noted_placed (later c t u q) p = (
    cars_placed M (ToldOf has r E c) n o
        (λ a. refs_from M (ToldOf has r E c) o.body.shape o.id a 0 o.body.refs (λ i b k y e l m. absurd (own i k y e m))) q p.0,
    noted_placed q p.1,
  )

-- Changed references and data words.

module _ (M : ShapeTable) (x : ℕ) (g : Body → Body) (keeps : (b : Body) → size (g b) ≡ size b) where
  module _ (Q R : ℕ → ℕ → ℕ → Option ℕ → Type 0) (own : (o : Obj) (a : ℕ) → InObject M Q a o → InObject M R a (alter_object x g o)) where
    objects_altered : (a : ℕ) (os : List Obj) → InObjects M Q a os → InObjects M R a (map (alter_object x g) os)
    objects_altered a [] p = tt
    objects_altered a (o ∷ os) p =
        let e : a + size o.body ≡ a + size (alter_object x g o).body = omega (arith, alter-size x g keeps o) in
        (own o a p.0, subst (λ (b : ℕ). InObjects M R b (map (alter_object x g) os)) e (objects_altered (a + size o.body) os p.1))

    pub cars_altered : (t : Train) → InCars M Q t → InCars M R (alter_train x g t)
    cars_altered [] p = tt
    cars_altered (c ∷ cs) p = (objects_altered (car_words * c.number) c.objects p.0, cars_altered cs p.1)

  module _ (has : Updates → Pairs) (r : Updates) (E F : ℕ → ℕ → ℕ → Type 0)
      (own : (c : Car) (o : Obj) (a : ℕ) → InObject M (ToldOf has r E c) a o → InObject M (ToldOf has r F c) a (alter_object x g o)) where
    pub noted_altered : (t : Train) → Noted M has r E t → Noted M has r F (alter_train x g t)
    noted_altered [] p = tt
    noted_altered (c ∷ cs) p =
        let d : Car = record { number = c.number; objects = map (alter_object x g) c.objects } in
        let q = cars_altered (ToldOf has r E c) (ToldOf has r F c) (own c) cs p.0 in (
          cars_with M (ToldOf has r F c) (ToldOf has r F c) (ToldOf has r F d)
              (λ a z i h u v y e l k. u y e (omega (arith, l, alter-times x g y c.objects)) k) (alter_train x g cs) q q,
          noted_altered cs p.1,
        )

pub store_noted : (M : ShapeTable) (has : Updates → Pairs) (r : Updates) (x w v : ℕ) (keeps : (b : Body) → size (with_value w v b) ≡ size b)
    → (t : Train) → Noted M has r Always t → Noted M has r Always (alter_train x (with_value w v) t)
store_noted M has r x w v keeps = noted_altered M x (with_value w v) keeps has r Always Always (λ c o a p. go c o a p (eqb x o.id))
  where
    go : (c : Car) (o : Obj) (a : ℕ) → InObject M (ToldOf has r Always c) a o → (b : Bool)
        → InRefs M (ToldOf has r Always c) (cond b (with_value w v o.body) o.body).shape o.id a 0 (cond b (with_value w v o.body) o.body).refs
    go c o a p true = p
    go c o a p false = p

module _ (M : ShapeTable) (Q R : ℕ → ℕ → ℕ → Option ℕ → Type 0) (x : ℕ) (v : Option ℕ) (f : (a i : ℕ) (h : Option ℕ) → Q a x i h → R a x i h) where
  refs_same : (s : Shape) (a j : ℕ) (hs : List (Option ℕ)) → InRefs M Q s x a j hs → InRefs M R s x a j hs
  refs_same s a j [] p = tt
  refs_same s a j (h ∷ hs) p = (f (a + ref_offset M s j) j h p.0, refs_same s a (j + 1) hs p.1)

  refs_set : (s : Shape) (a j k : ℕ) (hs : List (Option ℕ)) → ((l b : ℕ) → l ≡ j + k → R b x l v) → InRefs M Q s x a j hs → InRefs M R s x a j (set hs k v)
  refs_set s a j k [] g p = tt
  refs_set s a j zero (h ∷ hs) g p = (g j (a + ref_offset M s j) (omega arith), refs_same s a (j + 1) hs p.1)
  refs_set s a j (suc k) (h ∷ hs) g p =
      (f (a + ref_offset M s j) j h p.0, refs_set s a (j + 1) k hs (λ l b e. g l b (omega arith)) p.1)

-- all references but that of number i of x
abbrev pub But : (x i : ℕ) → ℕ → ℕ → ℕ → Type 0
But x i z j y = (eqb x z && eqb i j) ≡ false

pub point_noted : (M : ShapeTable) (has : Updates → Pairs) (r : Updates) (x i : ℕ) (v : Option ℕ) (keeps : (b : Body) → size (with_ref i v b) ≡ size b)
    → (t : Train) → Noted M has r Always t → Noted M has r (But x i) (alter_train x (with_ref i v) t)
point_noted M has r x i v keeps = noted_altered M x (with_ref i v) keeps has r Always (But x i) (λ c o a p. go c o a p (eqb x o.id) refl)
  where
    less : (c : Car) (z a j : ℕ) (h : Option ℕ) → ToldOf has r Always c a z j h → ToldOf has r (But x i) c a z j h
    less c z a j h u y e l k = u y e l tt

    go : (c : Car) (o : Obj) (a : ℕ) → InObject M (ToldOf has r Always c) a o → (b : Bool) → eqb x o.id ≡ b
        → InRefs M (ToldOf has r (But x i) c) (cond b (with_ref i v o.body) o.body).shape o.id a 0 (cond b (with_ref i v o.body) o.body).refs
    go c o a p true e =
        refs_set M (ToldOf has r Always c) (ToldOf has r (But x i) c) o.id v (less c o.id) o.body.shape a 0 i o.body.refs
        (λ l b q y w m k. absurd (both_ways (eqb x o.id && eqb i l) k (and_from (eqb x o.id) (eqb i l) e (eq-eqb i l (omega (arith, q)))))) p
    go c o a p false e =
        refs_same M (ToldOf has r Always c) (ToldOf has r (But x i) c) o.id v (less c o.id) o.body.shape a 0 o.body.refs p

-- The same by the places of cars.

abbrev pub ToldSlot : (Updates → Pairs) → Updates → (ℕ → ℕ → ℕ → Type 0) → (n : ℕ) → Train → Slot → Type 0
ToldSlot has r E n t s =
    (y : ℕ) (d : CarPlace) → s.target ≡ Some y → train_car_place n y t None ≡ Some d → d.order < s.order → E s.holder s.index y → has r d.number s.address ≡ true

module _ (M : ShapeTable) (has : Updates → Pairs) (r : Updates) (E : ℕ → ℕ → ℕ → Type 0) where
  pub noted_slots : (n : ℕ) (t : Train) → Noted M has r E t → AllByRecursion (ToldSlot has r E n t) (train_slots M n t)
  noted_slots n [] p = tt
  noted_slots n (c ∷ cs) p =
      all_++ (ToldSlot has r E n (c ∷ cs)) (object_slots M n (car_words * c.number) c.objects) (train_slots M (n + 1) cs)
      (objects_order M (ToldSlot has r E n (c ∷ cs)) n
      (λ s e y d q w l k. absurd (omega (arith, e, l, car_place_order y d n (c ∷ cs) w))) (car_words * c.number) c.objects)
      (all_with (ToldSlot has r E (n + 1) cs) (By (ToldOf has r E c)) (ToldSlot has r E n (c ∷ cs)) join (train_slots M (n + 1) cs)
      (noted_slots (n + 1) cs p.1) (cars_slots M (ToldOf has r E c) (n + 1) cs p.0))
    where
      join : (s : Slot) → ToldSlot has r E (n + 1) cs s → By (ToldOf has r E c) s → ToldSlot has r E n (c ∷ cs) s
      join s u v y d q w l k = go (among y c.objects) refl w
        where
          go : (b : Bool) → among y c.objects ≡ b
              → ◌≡◌ {A = Option CarPlace} (cond b (Some (record { order = n; number = c.number })) (train_car_place (n + 1) y cs None)) (Some d)
              → has r d.number s.address ≡ true
          go true a z =
              let same : record { order = n; number = c.number } ≡ d = cc in
              subst (λ (e : CarPlace). has r e.number s.address ≡ true) same (v y q (omega (arith, ltb-true 0 (times y c.objects) a)) k)
          go false a z = u y d q z l k

  -- where each object lies in one car
  pub slots_noted : (n : ℕ) (t : Train) → ((y : ℕ) → times y (train_objects t) ≤ 1) → AllByRecursion (ToldSlot has r E n t) (train_slots M n t) → Noted M has r E t
  slots_noted n [] once p = tt
  slots_noted n (c ∷ cs) once p =
      let rest = all_right (ToldSlot has r E n (c ∷ cs)) (object_slots M n (car_words * c.number) c.objects) (train_slots M (n + 1) cs) p in (
        slots_cars M (ToldOf has r E c) (n + 1) cs
            (all_with (ToldSlot has r E n (c ∷ cs)) (λ s. n + 1 ≤ s.order) (By (ToldOf has r E c)) here (train_slots M (n + 1) cs) rest (train_order M (n + 1) cs)),
        slots_noted (n + 1) cs (λ y. omega (arith, sums, once y))
            (all_with (ToldSlot has r E n (c ∷ cs)) (ToldSlot has r E n (c ∷ cs)) (ToldSlot has r E (n + 1) cs) there (train_slots M (n + 1) cs) rest rest),
      )
    where
      car_place_here : (y : ℕ) → among y c.objects ≡ true → train_car_place n y (c ∷ cs) None ≡ Some (record { order = n; number = c.number })
      car_place_here y e = ap (λ (b : Bool). cond b (Some (record { order = n; number = c.number })) (train_car_place (n + 1) y cs None)) e

      car_place_there : (y : ℕ) → among y c.objects ≡ false → train_car_place n y (c ∷ cs) None ≡ train_car_place (n + 1) y cs None
      car_place_there y e = ap (λ (b : Bool). cond b (Some (record { order = n; number = c.number })) (train_car_place (n + 1) y cs None)) e

      here : (s : Slot) → ToldSlot has r E n (c ∷ cs) s → n + 1 ≤ s.order → By (ToldOf has r E c) s
      here s u h y e l k = u y (record { order = n; number = c.number }) e (car_place_here y (lt-ltb 0 (times y c.objects) (omega (arith, l)))) (omega (arith, h)) k

      there : (s : Slot) → ToldSlot has r E n (c ∷ cs) s → ToldSlot has r E n (c ∷ cs) s → ToldSlot has r E (n + 1) cs s
      there s u v y d e w l k = go (among y c.objects) refl
        where
          go : (b : Bool) → among y c.objects ≡ b → has r d.number s.address ≡ true
          go true a =
              absurd (omega (arith, sums, once y, ltb-true 0 (times y c.objects) a, car_place_lies y d (n + 1) cs w))
          go false a = u y d e (car_place_there y a ∙ w) l k
