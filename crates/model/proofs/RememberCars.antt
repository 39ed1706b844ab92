-- All cars in one list: the places of cars, slots and numbers go by it, and placing an object changes it at one place.
use Rattle.std.proofs.Common.{◌≡◌, ℕ, zero, suc, ◌+◌, ◌*◌, ◌<◌, ◌≤◌, Bool, true, false, eqb, ◌⊎◌, List, [], ◌∷◌, ◌++◌, length, Some, None, Option, sym, refl, ap, ◌∙◌, subst, inl, inr, append_assoc, arith, cond, flat_map}
use Rattle.std.proofs.lemmas.Bool.{both_ways, cases_Bool, eqb-false, ltb-true, ltb-false, or_parts, or_from}
use Rattle.std.specs.List.{IsDistinct, AllByRecursion}
use Rattle.std.proofs.lemmas.Map.Keys.{IsDistinct-tail}
use Rattle.std.proofs.lemmas.List.{map-append}
use Rattle.std.proofs.lemmas.List.Concat.{flat_map-append}
use Rattle.layout.specs.ShapeTable.{ShapeTable}
use Rattle.model.specs.Bodies.{Body}
use Rattle.model.specs.Trains.{Obj, Car, Train, Trains, train_objects, objects, times, among, car_numbers, numbers, one_of, fits, with_object, opened, place, place_at, alter_train, alter, car_words, alter_car}
use Rattle.model.specs.Step.{trim}
use Rattle.model.specs.Notes.{CarPlace, train_car_place, car_place, object_slots, train_slots, slots}
use Rattle.model.proofs.Distinct.{one_of_here, one_of_there, one_of_head, one_of_apart, one_of_right, distinct_cons, distinct_head}
use Rattle.model.proofs.Totals.{sums}

-- the cars of all trains, one train after another
abbrev pub cars_in_row : Trains → Train
cars_in_row ts = flat_map (λ t. t) ts

pub row_objects : (ts : Trains) → train_objects (cars_in_row ts) ≡ objects ts
row_objects [] = refl
row_objects (t ∷ ts) = flat_map-append (λ (c : Car). c.objects) t (cars_in_row ts) ∙ ap (λ os. train_objects t ++ os) (row_objects ts)

pub row_numbers : (ts : Trains) → car_numbers (cars_in_row ts) ≡ numbers ts
row_numbers [] = refl
row_numbers (t ∷ ts) = map-append (λ (c : Car). c.number) t (cars_in_row ts) ∙ ap (λ ns. car_numbers t ++ ns) (row_numbers ts)

train_car_place-++ : (n x : ℕ) (t u : Train) (rest : Option CarPlace) → train_car_place n x (t ++ u) rest ≡ train_car_place n x t (train_car_place (n + length t) x u rest)
train_car_place-++ n x [] u rest = let e : n ≡ n + 0 = omega arith in ap (λ k. train_car_place k x u rest) e
train_car_place-++ n x (c ∷ t) u rest = go (among x c.objects) (train_car_place-++ (n + 1) x t u rest)
  where
    go : (b : Bool) → train_car_place (n + 1) x (t ++ u) rest ≡ train_car_place (n + 1) x t (train_car_place (n + 1 + length t) x u rest)
        → ◌≡◌ {A = Option CarPlace} (cond b (Some (record { order = n; number = c.number })) (train_car_place (n + 1) x (t ++ u) rest))
        (cond b (Some (record { order = n; number = c.number })) (train_car_place (n + 1) x t (train_car_place (n + length (c ∷ t)) x u rest)))
    go true e = refl
    go false e =
        let k : n + 1 + length t ≡ n + length (c ∷ t) = omega arith in
        e ∙ ap (λ j. train_car_place (n + 1) x t (train_car_place j x u rest)) k

pub row_car_place : (n x : ℕ) (ts : Trains) → car_place n x ts ≡ train_car_place n x (cars_in_row ts) None
row_car_place n x [] = refl
row_car_place n x (t ∷ ts) = ap (train_car_place n x t) (row_car_place (n + length t) x ts) ∙ sym (train_car_place-++ n x t (cars_in_row ts) None)

train_slots-++ : (M : ShapeTable) (n : ℕ) (t u : Train) → train_slots M n (t ++ u) ≡ train_slots M n t ++ train_slots M (n + length t) u
train_slots-++ M n [] u = let e : n ≡ n + 0 = omega arith in ap (λ k. train_slots M k u) e
train_slots-++ M n (c ∷ t) u =
    let k : n + 1 + length t ≡ n + length (c ∷ t) = omega arith in
    let A = object_slots M n (car_words * c.number) c.objects in
    ap (λ ss. A ++ ss) (train_slots-++ M (n + 1) t u ∙ ap (λ j. train_slots M (n + 1) t ++ train_slots M j u) k)
    ∙ sym (append_assoc A (train_slots M (n + 1) t) (train_slots M (n + length (c ∷ t)) u))

pub row_slots : (M : ShapeTable) (n : ℕ) (ts : Trains) → slots M n ts ≡ train_slots M n (cars_in_row ts)
row_slots M n [] = refl
row_slots M n (t ∷ ts) = ap (λ ss. train_slots M n t ++ ss) (row_slots M (n + length t) ts) ∙ sym (train_slots-++ M n t (cars_in_row ts))

pub row_alter : (x : ℕ) (g : Body → Body) (ts : Trains) → cars_in_row (alter x g ts) ≡ alter_train x g (cars_in_row ts)
row_alter x g [] = refl
row_alter x g (t ∷ ts) = ap (λ u. alter_train x g t ++ u) (row_alter x g ts) ∙ sym (map-append (alter_car x g) t (cars_in_row ts))

pub row_trim : (ts : Trains) → cars_in_row (trim ts) ≡ cars_in_row ts
row_trim [] = refl
row_trim ([] ∷ ts) = refl
row_trim ((c ∷ cs) ∷ ts) = refl

-- an object placed behind those of one car, or in a car of the number n put in somewhere
pub data Placed (n : ℕ) (o : Obj) : Train → Train → Type 0 where
  opens : (t : Train) → Placed n o t (opened n o ∷ t)
  joins : (c : Car) (t : Train) → Placed n o (c ∷ t) (with_object o c ∷ t)
  later : (c : Car) (t u : Train) → Placed n o t u → Placed n o (c ∷ t) (c ∷ u)

place-placed : (n : ℕ) (o : Obj) (t rest : Train) → Placed n o (t ++ rest) (place n o t ++ rest)
place-placed n o [] rest = opens rest
place-placed n o (c ∷ []) rest = go (fits c o)
  where
    go : (b : Bool) → Placed n o (c ∷ rest) (◌++◌ {A = Car} (cond b (with_object o c ∷ []) (c ∷ opened n o ∷ [])) rest)
    go true = joins c rest
    go false = later c rest (opened n o ∷ rest) (opens rest)
place-placed n o (c ∷ d ∷ cs) rest = later c ((d ∷ cs) ++ rest) (place n o (d ∷ cs) ++ rest) (place-placed n o (d ∷ cs) rest)

behind : (n : ℕ) (o : Obj) (t u v : Train) → Placed n o u v → Placed n o (t ++ u) (t ++ v)
behind n o [] u v p = p
behind n o (c ∷ t) u v p = later c (t ++ u) (t ++ v) (behind n o t u v p)

pub place_at-placed : (k n : ℕ) (o : Obj) (ts : Trains) → Placed n o (cars_in_row ts) (cars_in_row (place_at k n o ts))
place_at-placed k n o [] = opens []
place_at-placed zero n o (t ∷ ts) = place-placed n o t (cars_in_row ts)
place_at-placed (suc k) n o (t ∷ ts) = behind n o t (cars_in_row ts) (cars_in_row (place_at k n o ts)) (place_at-placed k n o ts)

-- Car numbers stay different, and below 64.

module _ (n : ℕ) (o : Obj) where
  placed_either : {t u : Train} → Placed n o t u → (z : ℕ) → one_of z (car_numbers u) ≡ true → (z ≡ n) ⊎ (one_of z (car_numbers t) ≡ true)
  placed_either (opens t) z e = one_of_head z n (car_numbers t) e
  placed_either (joins c t) z e = inr e
  placed_either (later c t u q) z e =
      elim (one_of_head z c.number (car_numbers u) e) [
        | inl p ↦ inr (subst (λ (y : ℕ). one_of y (c.number ∷ car_numbers t) ≡ true) (sym p) (one_of_here c.number (car_numbers t)))
        | inr p ↦ elim (placed_either q z p) [ inl k ↦ inl k | inr k ↦ inr (one_of_there z c.number (car_numbers t) k) ]
      ]

  placed_below : {t u : Train} → Placed n o t u → n < 64 → AllByRecursion (λ z. z < 64) (car_numbers t) → AllByRecursion (λ z. z < 64) (car_numbers u)
  placed_below (opens t) h k = (h, k)
  placed_below (joins c t) h k = k
  placed_below (later c t u q) h k = (k.0, placed_below q h k.1)

  placed_distinct : {t u : Train} → Placed n o t u → one_of n (car_numbers t) ≡ false → IsDistinct eqb (car_numbers t) → IsDistinct eqb (car_numbers u)
  placed_distinct (opens t) f d = distinct_cons n (car_numbers t) f d
  placed_distinct (joins c t) f d = d
  placed_distinct (later c t u q) f d =
      let k = or_parts (eqb n c.number) (one_of n (car_numbers t)) f in
      let out : one_of c.number (car_numbers u) ≡ false = elim (cases_Bool (one_of c.number (car_numbers u))) [
        | inl p ↦ elim (placed_either q c.number p) [
          | inl e ↦ absurd (eqb-false n c.number k.0 (sym e))
          | inr e ↦ absurd (both_ways (one_of c.number (car_numbers t)) (distinct_head c.number (car_numbers t) d) e)
        ]
        | inr p ↦ p
      ] in
      distinct_cons c.number (car_numbers u) out (placed_distinct q k.1 (IsDistinct-tail eqb c.number (car_numbers t) d))

-- numbers below 64, each there once
abbrev pub Numbered : Train → Type 0
Numbered t = AllByRecursion (λ z. z < 64) (car_numbers t) × IsDistinct eqb (car_numbers t)

pub placed-numbered : (n : ℕ) (o : Obj) (t u : Train) → Placed n o t u → n < 64 → one_of n (car_numbers t) ≡ false → Numbered t → Numbered u
placed-numbered n o t u q h f k = (placed_below n o q h k.0, placed_distinct n o q f k.1)

pub numbered_right : (t u : Train) → Numbered (t ++ u) → Numbered u
numbered_right [] u k = k
numbered_right (c ∷ t) u k = numbered_right t u (k.0.1, IsDistinct-tail eqb c.number (car_numbers (t ++ u)) k.1)

-- no car of the second part has a number of the first
pub numbered_apart : (t u : Train) → Numbered (t ++ u) → (z : ℕ) → one_of z (car_numbers u) ≡ true → one_of z (car_numbers t) ≡ false
numbered_apart [] u k z e = refl
numbered_apart (c ∷ t) u k z e =
    let in_rest : one_of z (car_numbers (t ++ u)) ≡ true = subst (λ (ns : List ℕ). one_of z ns ≡ true) (sym (map-append (λ (c : Car). c.number) t u)) (one_of_right z (car_numbers t) (car_numbers u) e) in
    or_from (eqb z c.number) (one_of z (car_numbers t)) (one_of_apart z c.number (car_numbers (t ++ u)) in_rest (distinct_head c.number (car_numbers (t ++ u)) k.1))
    (numbered_apart t u (k.0.1, IsDistinct-tail eqb c.number (car_numbers (t ++ u)) k.1) z e)

pub alter-numbers : (x : ℕ) (g : Body → Body) (t : Train) → car_numbers (alter_train x g t) ≡ car_numbers t
alter-numbers x g [] = refl
alter-numbers x g (c ∷ t) = ap (λ (ns : List ℕ). c.number ∷ ns) (alter-numbers x g t)

-- Where a place is found.

module _ (y : ℕ) (d : CarPlace) where
  pub car_place_order : (n : ℕ) (t : Train) → train_car_place n y t None ≡ Some d → n ≤ d.order
  car_place_order n [] e = let z : ◌≡◌ {A = ℕ} 0 1 = cc in absurd (omega arith)
  car_place_order n (c ∷ t) e = go (car_place_order (n + 1) t) (among y c.objects) e
    where
      go : (train_car_place (n + 1) y t None ≡ Some d → n + 1 ≤ d.order) → (b : Bool)
          → ◌≡◌ {A = Option CarPlace} (cond b (Some (record { order = n; number = c.number })) (train_car_place (n + 1) y t None)) (Some d) → n ≤ d.order
      go more true q = let same : record { order = n; number = c.number } ≡ d = cc in subst (λ (v : CarPlace). n ≤ v.order) same (omega arith)
      go more false q = omega (arith, more q)

  pub car_place-number : (n : ℕ) (t : Train) → train_car_place n y t None ≡ Some d → one_of d.number (car_numbers t) ≡ true
  car_place-number n [] e = let z : ◌≡◌ {A = ℕ} 0 1 = cc in absurd (omega arith)
  car_place-number n (c ∷ t) e = go (car_place-number (n + 1) t) (among y c.objects) e
    where
      go : (train_car_place (n + 1) y t None ≡ Some d → one_of d.number (car_numbers t) ≡ true) → (b : Bool)
          → ◌≡◌ {A = Option CarPlace} (cond b (Some (record { order = n; number = c.number })) (train_car_place (n + 1) y t None)) (Some d) → one_of d.number (c.number ∷ car_numbers t) ≡ true
      go more true q =
          let same : record { order = n; number = c.number } ≡ d = cc in
          subst (λ (v : CarPlace). one_of v.number (c.number ∷ car_numbers t) ≡ true) same (one_of_here c.number (car_numbers t))
      go more false q = one_of_there d.number c.number (car_numbers t) (more q)

  pub car_place_lies : (n : ℕ) (t : Train) → train_car_place n y t None ≡ Some d → 1 ≤ times y (train_objects t)
  car_place_lies n [] e = let z : ◌≡◌ {A = ℕ} 0 1 = cc in absurd (omega arith)
  car_place_lies n (c ∷ t) e = go (car_place_lies (n + 1) t) (among y c.objects) refl e
    where
      go : (train_car_place (n + 1) y t None ≡ Some d → 1 ≤ times y (train_objects t)) → (b : Bool) → among y c.objects ≡ b
          → ◌≡◌ {A = Option CarPlace} (cond b (Some (record { order = n; number = c.number })) (train_car_place (n + 1) y t None)) (Some d) → 1 ≤ times y (train_objects (c ∷ t))
      go more true a q = omega (arith, sums, ltb-true 0 (times y c.objects) a)
      go more false a q = omega (arith, sums, more q)

pub car_place_found : (n y : ℕ) (t : Train) → 1 ≤ times y (train_objects t) → (d : CarPlace) × (train_car_place n y t None ≡ Some d)
car_place_found n y [] h = absurd (omega arith)
car_place_found n y (c ∷ t) h = go (car_place_found (n + 1) y t) (among y c.objects) refl
  where
    go : (1 ≤ times y (train_objects t) → (d : CarPlace) × (train_car_place (n + 1) y t None ≡ Some d)) → (b : Bool) → among y c.objects ≡ b
        → (d : CarPlace) × (◌≡◌ {A = Option CarPlace} (cond b (Some (record { order = n; number = c.number })) (train_car_place (n + 1) y t None)) (Some d))
    go more true a = (record { order = n; number = c.number }, refl)
    go more false a = more (omega (arith, sums, ltb-false 0 (times y c.objects) a))
