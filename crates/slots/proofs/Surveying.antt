-- A survey's pair by pair: which slot of which car an address is, and the first slot found so far.
use Rattle.std.proofs.Common.{length, zero, suc, ◌≡◌, ℕ, ◌+◌, ◌*◌, ◌/◌, ◌<◌, ◌≤◌, Bool, true, false, cond, ◌&&◌, ◌||◌, eqb, ltb, List, [], ◌∷◌, ◌++◌, Some, None, Option, sym, refl, ap, ◌∙◌, subst, inl, inr, arith, take, get_or, append_assoc}
use Rattle.std.proofs.lemmas.Bool.{cases_Bool, cases_eq, cases_lt, both_ways, eq-eqb, ne_eqb, or_from, lt-ltb, le-ltb}
use Rattle.std.specs.List.{AllByRecursion}
use Rattle.std.specs.Prelude.{slice_index, find, option_map, sum_by}
use Rattle.std.proofs.lemmas.List.{append-nil, take_more}
use Rattle.std.proofs.lemmas.List.Sums.{sum_by-append, sum_by-cons}
use Rattle.layout.specs.ShapeTable.{ShapeTable, Lawful}
use Rattle.layout.specs.declared.Shape.{Shape}
use Rattle.remembered.specs.Counts.{count_upto}
use Rattle.remembered.specs.Updates.{Pairs, count}
use Rattle.model.specs.Notes.{Slot, object_slots, train_slots, target_among}
use Rattle.model.specs.Remembered.{slots_into}
use Rattle.model.specs.Trains.{Train, train_objects, Obj, Car, words_of, car_words, car_numbers, one_of, times, among}
use Rattle.model.proofs.Alls.{all_++, all_map}
use Rattle.model.proofs.Overlooked.{Rises, rises_within}
use Rattle.model.proofs.Totals.{sums}
use Rattle.objects.specs.Lies.{CarStands}
use Rattle.slots.specs.Order.{earliest, outside_words, AreInOrder, AreTold}
use Rattle.slots.specs.Slots.{addresses, AddressTells, ArePaired, first_into}
use Rattle.slots.proofs.Holding.{Stands, slots_stand, into_has}
use Rattle.slots.proofs.Ordered.{Before, IsOrdered, first_by, first_by-same, first_by-or, earlier_across, rises_ordered, ordered-append}
use Rattle.slots.proofs.Walking.{rises_below, rises_above, one_of-append, addresses-append, slots_rise}

or_false : (s t : Bool) → t ≡ false → (s || t) ≡ s
or_false true t e = refl
or_false false t e = e

-- no later car has the number of one before it
not_again : (later : ℕ → ℕ → Bool) (n : ℕ) (cs : List Car) → AllByRecursion (λ d. (later d.number n ≡ true) × (later n d.number ≡ false)) cs → one_of n (car_numbers cs) ≡ false
not_again later n [] a = refl
not_again later n (d ∷ cs) a =
    or_from (eqb n d.number) (one_of n (car_numbers cs))
    (ne_eqb n d.number (λ e. both_ways (later n d.number) a.0.1 (ap (λ m. later m d.number) e ∙ (ap (λ m. later d.number m) (sym e) ∙ a.0.0))))
    (not_again later n cs a.1)

module _ (M : ShapeTable) (law : Lawful M) (code : Shape → ℕ) (at : ℕ → ℕ) (words : List ℕ) where
  abbrev pub AllStand : List Car → Type 0
  AllStand cs = AllByRecursion (CarStands M code at words) cs

  car_addresses : (n : ℕ) (c : Car) (cs : List Car)
      → addresses (train_slots M n (c ∷ cs)) ≡ addresses (object_slots M n (car_words * c.number) c.objects) ++ addresses (train_slots M (n + 1) cs)
  car_addresses n c cs = addresses-append (object_slots M n (car_words * c.number) c.objects) (train_slots M (n + 1) cs)

  rise : (n : ℕ) (c : Car) → CarStands M code at words c
      → Rises (128 * c.number) (128 * c.number + words_of c.objects) (addresses (object_slots M n (car_words * c.number) c.objects))
  rise n c s = slots_rise M code at words law n (car_words * c.number) c.objects s.lies

  -- an address of another car
  other_car : (n a : ℕ) (c : Car) → CarStands M code at words c → (a / 128 ≡ c.number → ⊥) → one_of a (addresses (object_slots M n (car_words * c.number) c.objects)) ≡ false
  other_car n a c s ne = elim (cases_lt a (128 * c.number)) [
    | inl l ↦ rises_below (128 * c.number) (128 * c.number + words_of c.objects) a _ (rise n c s) l
    | inr l ↦ elim (cases_lt a (128 * c.number + 128)) [
      | inl h ↦ absurd (ne (omega (arith, l, h)))
      | inr h ↦ rises_above (128 * c.number) (128 * c.number + words_of c.objects) a _ (rise n c s) (omega (arith, h, s.within))
    ]
  ]

  no_car : (n a : ℕ) (cs : List Car) → AllStand cs → one_of (a / 128) (car_numbers cs) ≡ false → one_of a (addresses (train_slots M n cs)) ≡ false
  no_car n a [] s e = refl
  no_car n a (c ∷ cs) s e =
      ap (one_of a) (car_addresses n c cs)
      ∙ (one_of-append a (addresses (object_slots M n (car_words * c.number) c.objects)) (addresses (train_slots M (n + 1) cs))
      ∙ or_from _ _ (other_car n a c s.0 (λ q. both_ways (one_of (a / 128) (car_numbers (c ∷ cs))) e (here q))) (no_car (n + 1) a cs s.1 (rest (eqb (a / 128) c.number) e)))
    where
      here : a / 128 ≡ c.number → one_of (a / 128) (car_numbers (c ∷ cs)) ≡ true
      here q = ap (λ b. b || one_of (a / 128) (car_numbers cs)) (eq-eqb (a / 128) c.number q)

      rest : (b : Bool) → (b || one_of (a / 128) (car_numbers cs)) ≡ false → one_of (a / 128) (car_numbers cs) ≡ false
      rest true q = absurd (both_ways true q refl)
      rest false q = q

  pub cars_stand : (n : ℕ) (cs : List Car) → AllStand cs → AllByRecursion (Stands M code at words) (train_slots M n cs)
  cars_stand n [] s = tt
  cars_stand n (c ∷ cs) s =
      all_++ (Stands M code at words) (object_slots M n (car_words * c.number) c.objects) (train_slots M (n + 1) cs)
      (slots_stand M code at words n (car_words * c.number) c.objects s.0.lies) (cars_stand (n + 1) cs s.1)

  -- the car that an address lies in
  pub record HasCar (n a : ℕ) (cs : List Car) (words_in : ℕ) : Type 0 where
    pub order : ℕ
    pub car : Car
    pub number : car.number ≡ a / 128
    pub stands : CarStands M code at words car
    pub filled : words_of car.objects ≡ words_in
    pub same : one_of a (addresses (train_slots M n cs)) ≡ one_of a (addresses (object_slots M order (car_words * car.number) car.objects))

  has_car : (later : ℕ → ℕ → Bool) (filled : ℕ → ℕ) (n a : ℕ) (cs : List Car) → AllStand cs → AllByRecursion (λ c. filled c.number ≡ words_of c.objects) cs → AreInOrder later cs
      → one_of (a / 128) (car_numbers cs) ≡ true → HasCar n a cs (filled (a / 128))
  has_car later filled n a [] s f o e = absurd (both_ways false refl e)
  has_car later filled n a (c ∷ cs) s f o e = elim (cases_eq (a / 128) c.number) [
    | inl q ↦ record {
      order = n;
      car = c;
      number = sym q;
      stands = s.0;
      filled = sym f.0 ∙ ap filled (sym q);
      same = ap (one_of a) (car_addresses n c cs)
          ∙ (one_of-append a (addresses (object_slots M n (car_words * c.number) c.objects)) (addresses (train_slots M (n + 1) cs))
          ∙ or_false _ _ (no_car (n + 1) a cs s.1 (ap (λ m. one_of m (car_numbers cs)) q ∙ not_again later c.number cs o.0)));
    }
    | inr ne ↦
        let there : one_of (a / 128) (car_numbers cs) ≡ true = ap (λ b. b || one_of (a / 128) (car_numbers cs)) (sym (ne_eqb (a / 128) c.number ne)) ∙ e in
        let r = has_car later filled (n + 1) a cs s.1 f.1 o.1 there in
        record {
          order = r.order;
          car = r.car;
          number = r.number;
          stands = r.stands;
          filled = r.filled;
          same = ap (one_of a) (car_addresses n c cs)
              ∙ (one_of-append a (addresses (object_slots M n (car_words * c.number) c.objects)) (addresses (train_slots M (n + 1) cs))
              ∙ (ap (λ b. b || one_of a (addresses (train_slots M (n + 1) cs))) (other_car n a c s.0 ne) ∙ r.same));
        }
  ]

  -- an outside car, or one without objects where there is none
  pub in_car : (outside : ℕ → Bool) (filled : ℕ → ℕ) (later : ℕ → ℕ → Bool) (n a : ℕ) (cs : List Car) → a < 8192 → AllStand cs → AreTold outside filled later cs
      → HasCar n a cs (outside_words outside filled (a / 128))
  in_car outside filled later n a cs few s told = go (outside (a / 128)) refl
    where
      is : outside (a / 128) ≡ one_of (a / 128) (car_numbers cs)
      is = told.which (a / 128) (omega (arith, few))

      go : (b : Bool) → outside (a / 128) ≡ b → HasCar n a cs (cond b (filled (a / 128)) 0)
      go true e = has_car later filled n a cs s told.words told.order (sym is ∙ e)
      go false e = record {
        order = n;
        car = record { number = a / 128; objects = [] };
        number = refl;
        stands = record { lies = tt; placed = tt; number = omega (arith, few); within = omega arith };
        filled = omega arith;
        same = no_car n a cs s (sym is ∙ e);
      }

  -- whether a slot of these cars at the address holds an object of the car c, by the car that the address lies in
  pub into_here : (c : Car) (n a words_in : ℕ) (cs : List Car) → AddressTells at c → c.number < 64 → AllStand cs → (h : HasCar n a cs words_in)
      → one_of a (addresses (slots_into c (object_slots M h.order (car_words * h.car.number) h.car.objects))) ≡ one_of a (addresses (slots_into c (train_slots M n cs)))
  into_here c n a words_in cs tells few s h =
      into_has M code at words c tells few a _ (slots_stand M code at words h.order (car_words * h.car.number) h.car.objects h.stands.lies)
      ∙ sym (into_has M code at words c tells few a _ (cars_stand n cs s)
      ∙ ap (λ t. eqb (slice_index words a / 128) c.number && t) h.same)

  cars_after : (later : ℕ → ℕ → Bool) (x m n : ℕ) (cs : List Car) → AllStand cs → x / 128 ≡ m
      → AllByRecursion (λ d. (later d.number m ≡ true) × (later m d.number ≡ false)) cs → AllByRecursion (Before later x) (addresses (train_slots M n cs))
  cars_after later x m n [] s e a = tt
  cars_after later x m n (d ∷ cs) s e a =
      subst (λ (ys : List ℕ). AllByRecursion (Before later x) ys) (sym (car_addresses n d cs))
      (all_++ (Before later x) (addresses (object_slots M n (car_words * d.number) d.objects)) (addresses (train_slots M (n + 1) cs))
      (all_map (λ y. (128 * d.number ≤ y) × (y < 128 * d.number + words_of d.objects)) (Before later x)
      (λ y b. let i : y / 128 ≡ d.number = omega (arith, b.0, b.1, s.0.within) in
      earlier_across later x y (ap (λ k. later k (x / 128)) i ∙ (ap (λ k. later d.number k) e ∙ a.0.0)) (ap (λ k. later (x / 128) k) i ∙ (ap (λ k. later k d.number) e ∙ a.0.1)))
      _ (rises_within (128 * d.number) (128 * d.number + words_of d.objects) _ (rise n d s.0)))
      (cars_after later x m (n + 1) cs s.1 e a.1))

  pub cars_ordered : (later : ℕ → ℕ → Bool) (n : ℕ) (cs : List Car) → AllStand cs → AreInOrder later cs → IsOrdered later (addresses (train_slots M n cs))
  cars_ordered later n [] s o = tt
  cars_ordered later n (c ∷ cs) s o =
      subst (IsOrdered later) (sym (car_addresses n c cs))
      (ordered-append later (addresses (object_slots M n (car_words * c.number) c.objects)) (addresses (train_slots M (n + 1) cs))
      (rises_ordered later c.number (128 * c.number) (128 * c.number + words_of c.objects) _ (omega arith) (omega (arith, s.0.within)) (rise n c s.0))
      (cars_ordered later (n + 1) cs s.1 o.1)
      (all_map (λ x. (128 * c.number ≤ x) × (x < 128 * c.number + words_of c.objects)) (λ x. AllByRecursion (Before later x) (addresses (train_slots M (n + 1) cs)))
      (λ x b. cars_after later x c.number (n + 1) cs s.1 (omega (arith, b.0, b.1, s.0.within)) o.0)
      _ (rises_within (128 * c.number) (128 * c.number + words_of c.objects) _ (rise n c s.0))))

-- The first slot found so far.

among-append : (y : ℕ) (xs ys : List Obj) → among y (xs ++ ys) ≡ (among y xs || among y ys)
among-append y xs ys = elim (cases_lt 0 (times y xs)) [
  | inl l ↦ lt-ltb 0 (times y (xs ++ ys)) (omega (arith, sums, l)) ∙ ap (λ b. b || among y ys) (sym (lt-ltb 0 (times y xs) l))
  | inr h ↦ let e : times y (xs ++ ys) ≡ times y ys = omega (arith, sums, h) in
      ap (ltb 0) e ∙ ap (λ b. b || among y ys) (sym (le-ltb 0 (times y xs) h))
]

target_among-append : (h : Option ℕ) (xs ys : List Obj) → target_among (xs ++ ys) h ≡ (target_among xs h || target_among ys h)
target_among-append None xs ys = refl
target_among-append (Some y) xs ys = among-append y xs ys

-- a slot that holds one of the objects seen, or one of the car's at an address that was passed
abbrev pub passes : List Obj → Car → ℕ → Slot → Bool
passes seen c from s = target_among seen s.target || (target_among c.objects s.target && ltb s.address from)

module _ (P : Pairs) (seen : List Obj) (c : Car) (from : ℕ) where
  passes_more : (a : ℕ) (ss : List Slot) → ArePaired P c ss → from ≤ a → ((x : ℕ) → from ≤ x → x < a → P c.number x ≡ false)
      → AllByRecursion (λ s. passes seen c (a + 1) s ≡ (passes seen c from s || (target_among c.objects s.target && eqb s.address a))) ss
  passes_more a [] p l none = tt
  passes_more a (s ∷ ss) p l none = (go (target_among seen s.target) (target_among c.objects s.target) p.0, passes_more a ss p.1 l none)
    where
      go : (b t : Bool) → (t ≡ true → P c.number s.address ≡ true) → (b || (t && ltb s.address (a + 1))) ≡ ((b || (t && ltb s.address from)) || (t && eqb s.address a))
      go true t f = refl
      go false false f = refl
      go false true f = elim (cases_lt s.address from) [
        | inl m ↦ lt-ltb s.address (a + 1) (omega (arith, m, l)) ∙ ap (λ b. b || eqb s.address a) (sym (lt-ltb s.address from m))
        | inr m ↦ elim (cases_lt s.address a) [
          | inl k ↦ absurd (both_ways (P c.number s.address) (none s.address m k) (f refl))
          | inr k ↦ elim (cases_eq s.address a) [
            | inl e ↦ lt-ltb s.address (a + 1) (omega (arith, e)) ∙ (sym (eq-eqb s.address a e) ∙ ap (λ b. b || eqb s.address a) (sym (le-ltb s.address from m)))
            | inr e ↦ le-ltb s.address (a + 1) (omega (arith, k, e)) ∙ (sym (ne_eqb s.address a e) ∙ ap (λ b. b || eqb s.address a) (sym (le-ltb s.address from m)))
          ]
        ]
      ]

  passes_all : (ss : List Slot) → ArePaired P c ss → ((x : ℕ) → from ≤ x → P c.number x ≡ false)
      → AllByRecursion (λ s. passes seen c from s ≡ target_among (seen ++ c.objects) s.target) ss
  passes_all [] p none = tt
  passes_all (s ∷ ss) p none =
      (go (target_among seen s.target) (target_among c.objects s.target) p.0 ∙ sym (target_among-append s.target seen c.objects), passes_all ss p.1 none)
    where
      go : (b t : Bool) → (t ≡ true → P c.number s.address ≡ true) → (b || (t && ltb s.address from)) ≡ (b || t)
      go true t f = refl
      go false false f = refl
      go false true f = elim (cases_lt s.address from) [
        | inl m ↦ lt-ltb s.address from m
        | inr m ↦ absurd (both_ways (P c.number s.address) (none s.address m) (f refl))
      ]

  pub survey_more : (later : ℕ → ℕ → Bool) (a : ℕ) (ss : List Slot) (here : Bool) (first new : Option ℕ) → IsOrdered later (addresses ss) → ArePaired P c ss → from ≤ a
      → ((x : ℕ) → from ≤ x → x < a → P c.number x ≡ false) → here ≡ one_of a (addresses (slots_into c ss)) → new ≡ cond here (Some (earliest later first a)) first
      → first ≡ first_by (passes seen c from) ss → new ≡ first_by (passes seen c (a + 1)) ss
  survey_more later a ss here first new ordered p l none is took so_far =
      took
      ∙ (ap (λ f. cond here (Some (earliest later f a)) f) so_far
      ∙ (ap (λ b. cond b (Some (earliest later (first_by (passes seen c from) ss) a)) (first_by (passes seen c from) ss)) is
      ∙ sym (first_by-same (passes seen c (a + 1)) (λ s. passes seen c from s || (target_among c.objects s.target && eqb s.address a)) ss (passes_more a ss p l none)
      ∙ first_by-or later (passes seen c from) (λ s. target_among c.objects s.target) a ss ordered)))

  pub survey_done : (ss : List Slot) (first : Option ℕ) → ArePaired P c ss → ((x : ℕ) → from ≤ x → P c.number x ≡ false) → first ≡ first_by (passes seen c from) ss
      → first ≡ first_into (seen ++ c.objects) ss
  survey_done ss first p none so_far = so_far ∙ first_by-same (passes seen c from) (λ s. target_among (seen ++ c.objects) s.target) ss (passes_all ss p none)

-- no slot is found where the address lies in no outside car
pub none_outside : (outside : ℕ → Bool) (n : ℕ) (here : Bool) → here ≡ true → (outside n ≡ false → here ≡ false) → outside n ≡ true
none_outside outside n here yes_here none = elim (cases_Bool (outside n)) [
  | inl e ↦ e
  | inr e ↦ absurd (both_ways here (none e) yes_here)
]

pub outside_none : (outside : ℕ → Bool) (filled : ℕ → ℕ) (n : ℕ) → outside n ≡ false → 0 ≡ outside_words outside filled n
outside_none outside filled n e = ap (λ b. cond b (filled n) 0) (sym e)

-- no address is that of a car without objects, where none of them has one
pub nothing_tells : (n : ℕ) → n < 64 → AddressTells (λ x. 8192) (record { number = n; objects = [] })
nothing_tells n l x = ((λ e. absurd (omega (arith, e, l))), (λ h. absurd (omega (arith, h))))

-- Counting.

-- no number is left to count
pub counted_all : (P : ℕ → Bool) (from to n : ℕ) → from ≤ to → ((k : ℕ) → from ≤ k → P k ≡ false) → n ≡ count P from → n ≡ count P to
counted_all P from to n l none e = e ∙ sym (count_upto P from to l (λ k h m. none k h))

-- From car to car of the train.

pub first_into_none : (ss : List Slot) → None ≡ first_into [] ss
first_into_none [] = refl
first_into_none (s ∷ ss) = go s.target (first_into_none ss)
  where
    go : (h : Option ℕ) → None ≡ first_into [] ss → ◌≡◌ {A = Option ℕ} None (option_map (λ (s : Slot). s.address) (cond (target_among [] h) (Some s) (find (λ s. target_among [] s.target) ss)))
    go None e = e
    go (Some y) e = e

pub sum_more : (f : ℕ → ℕ) (xs : List ℕ) (i n k : ℕ) → i < length xs → n ≡ sum_by f (take i xs) → k ≡ f (get_or xs i 0) → n + k ≡ sum_by f (take (i + 1) xs)
sum_more f xs i n k l so_far more =
    omega (arith, so_far, more, sum_by-append f (take i xs) (get_or xs i 0 ∷ []), sum_by-cons f (get_or xs i 0) []) ∙ sym (ap (sum_by f) (take_more xs i 0 l))

-- the car at a place of a train, and what is known of it
pub record AtPlace (P : Car → Type 0) (t : Train) (i : ℕ) : Type 0 where
  pub car : Car
  pub known : P car
  pub number : get_or (car_numbers t) i 0 ≡ car.number
  pub objects : train_objects (take (i + 1) t) ≡ train_objects (take i t) ++ car.objects

pub at_place : (P : Car → Type 0) (t : Train) (i : ℕ) → AllByRecursion P t → i < length (car_numbers t) → AtPlace P t i
at_place P [] i p l = absurd (omega arith)
at_place P (c ∷ cs) zero p l = record { car = c; known = p.0; number = refl; objects = append-nil c.objects }
at_place P (c ∷ cs) (suc i) p l =
    let r = at_place P cs i p.1 (omega (arith, l)) in
    let e : suc i + 1 ≡ suc (i + 1) = omega arith in
    record {
      car = r.car;
      known = r.known;
      number = r.number;
      objects = ap (λ k. train_objects (take k (c ∷ cs))) e
          ∙ (ap (λ os. c.objects ++ os) r.objects ∙ sym (append_assoc c.objects (train_objects (take i cs)) r.car.objects));
    }
