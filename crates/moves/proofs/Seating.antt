-- An object placed in a row of cars: its words are copied, and all other cars stand as they did.
use Rattle.std.proofs.Common.{◌≡◌, ℕ, zero, suc, ◌+◌, ◌*◌, ◌<◌, ◌≤◌, ◌≢◌, Bool, true, false, eqb, cond, List, [], ◌∷◌, ◌++◌, sym, refl, subst, arith, inl, inr}
use Rattle.std.proofs.lemmas.Bool.{cases_lt, leb-true, eqb-false, ne_eqb, or_parts, or_from}
use Rattle.std.proofs.lemmas.Map.Keys.{IsDistinct-tail}
use Rattle.std.specs.List.{AllByRecursion, IsDistinct}
use Rattle.layout.specs.ShapeTable.{ShapeTable, Lawful}
use Rattle.layout.specs.declared.Shape.{Shape}
use Rattle.model.specs.Bodies.{size}
use Rattle.model.specs.Trains.{Obj, Car, Train, Trains, words_of, fits, with_object, opened, place, place_at, car_numbers, one_of, car_words}
use Rattle.model.proofs.Distinct.{one_of_here, one_of_there, one_of_apart, distinct_head}
use Rattle.model.proofs.RememberCars.{cars_in_row, Placed, opens as p_opens, joins as p_joins, later as p_later, placed-numbered}
use Rattle.model.proofs.Totals.{sums}
use Rattle.objects.specs.Lies.{Lies, LieFrom, CarLies}
use Rattle.objects.specs.Words.{SameWithin, SameOutside, Copied}
use Rattle.objects.specs.Stand.{next_address, next_address_at}
use Rattle.objects.proofs.Objects.{lies_frame, lies_copied}
use Rattle.moves.specs.Seats.{Seat, opens, joins, later, RowLies}

-- placing in a train, and at a rank, is seating in the row of cars

seat_in : (n : ℕ) (o : Obj) (t rest : Train) → Seat n o (next_address n o t) (t ++ rest) (place n o t ++ rest)
seat_in n o [] rest = opens rest
seat_in n o (c ∷ []) rest = go (fits c o) refl
  where
    go : (b : Bool) → fits c o ≡ b
        → Seat n o (cond b (car_words * c.number + words_of c.objects) (car_words * n)) (c ∷ rest) (◌++◌ {A = Car} (cond b (with_object o c ∷ []) (c ∷ opened n o ∷ [])) rest)
    go true e = joins c rest e
    go false e = later (car_words * n) c rest (opened n o ∷ rest) (opens rest)
seat_in n o (c ∷ d ∷ cs) rest = later (next_address n o (d ∷ cs)) c ((d ∷ cs) ++ rest) (place n o (d ∷ cs) ++ rest) (seat_in n o (d ∷ cs) rest)

seat_behind : (n : ℕ) (o : Obj) (a : ℕ) (t u v : Train) → Seat n o a u v → Seat n o a (t ++ u) (t ++ v)
seat_behind n o a [] u v s = s
seat_behind n o a (c ∷ t) u v s = later a c (t ++ u) (t ++ v) (seat_behind n o a t u v s)

pub seat_at : (k n : ℕ) (o : Obj) (ts : Trains) → Seat n o (next_address_at k n o ts) (cars_in_row ts) (cars_in_row (place_at k n o ts))
seat_at k n o [] = opens []
seat_at zero n o (t ∷ ts) = seat_in n o t (cars_in_row ts)
seat_at (suc k) n o (t ∷ ts) = seat_behind n o (next_address_at k n o ts) t (cars_in_row ts) (cars_in_row (place_at k n o ts)) (seat_at k n o ts)

module _ (n : ℕ) (o : Obj) where
  pub seat-placed : {a : ℕ} {t u : Train} → Seat n o a t u → Placed n o t u
  seat-placed (opens t) = p_opens t
  seat-placed (joins c t e) = p_joins c t
  seat-placed (later a c t u s) = p_later c t u (seat-placed s)

  -- the object stands within one car, which is the new one or one of the row
  pub record StandsIn (a : ℕ) (t : Train) : Type 0 where
    pub car : ℕ
    pub known : one_of car (n ∷ car_numbers t) ≡ true
    pub low : car_words * car ≤ a
    pub high : a + size o.body ≤ car_words * car + car_words

  pub seated : {a : ℕ} {t u : Train} → Seat n o a t u → size o.body ≤ 128 → StandsIn a t
  seated (opens t) h = record { car = n; known = one_of_here n (car_numbers t); low = omega arith; high = omega arith }
  seated (joins c t e) h = record {
    car = c.number;
    known = one_of_there c.number n (c.number ∷ car_numbers t) (one_of_here c.number (car_numbers t));
    low = omega arith;
    high = omega (arith, leb-true (words_of c.objects + size o.body) car_words e);
  }
  seated (later a c t u s) h =
      let q = seated s h in
      record {
        car = q.car;
        known = go q.car (eqb q.car n) refl q.known;
        low = q.low;
        high = q.high;
      }
    where
      go : (m : ℕ) (b : Bool) → eqb m n ≡ b → one_of m (n ∷ car_numbers t) ≡ true → one_of m (n ∷ c.number ∷ car_numbers t) ≡ true
      go m b e h = grind (arith, e, h, one_of_there m c.number (car_numbers t), one_of_there m n (c.number ∷ car_numbers t))

  pub seated_within : {a : ℕ} {t u : Train} → Seat n o a t u → size o.body ≤ 128 → AllByRecursion (λ c. words_of c.objects ≤ car_words) t
      → AllByRecursion (λ c. words_of c.objects ≤ car_words) u
  seated_within (opens t) h w = (omega (arith, sums), w)
  seated_within (joins c t e) h w = (omega (arith, sums, leb-true (words_of c.objects + size o.body) car_words e), w.1)
  seated_within (later a c t u s) h w = (w.0, seated_within s h w.1)

module _ (M : ShapeTable) (code : Shape → ℕ) (law : Lawful M) (at : ℕ → ℕ) where
  frame_from : (v w : List ℕ) (a : ℕ) (os : List Obj) → LieFrom M code at v a os → SameWithin v w a (words_of os) → LieFrom M code at w a os
  frame_from v w a [] l s = tt
  frame_from v w a (o ∷ os) l s = (
    lies_frame M code law at v w a o.body l.0 (record { same = λ k g h. s.same k g (omega (arith, sums, h)) }),
    frame_from v w (a + size o.body) os l.1 (record { same = λ k g h. s.same k (omega (arith, g)) (omega (arith, sums, h)) }),
  )

  lie_from_more : (w : List ℕ) (a : ℕ) (os : List Obj) (o : Obj) → LieFrom M code at w a os → Lies M code at w (a + words_of os) o.body → LieFrom M code at w a (os ++ o ∷ [])
  lie_from_more w a [] o l h = (subst (λ b. Lies M code at w b o.body) (omega (arith, sums)) h, tt)
  lie_from_more w a (p ∷ os) o l h =
      (l.0, lie_from_more w (a + size p.body) os o l.1 (subst (λ b. Lies M code at w b o.body) (omega (arith, sums)) h))

  -- cars in which nothing was written
  cars_stay : (v w : List ℕ) (a m k : ℕ) → SameOutside v w a k → car_words * m ≤ a → a + k ≤ car_words * m + car_words
      → (t : Train) → one_of m (car_numbers t) ≡ false → AllByRecursion (λ c. words_of c.objects ≤ car_words) t
      → AllByRecursion (CarLies M code at v) t → AllByRecursion (CarLies M code at w) t
  cars_stay v w a m k s low high [] f i l = tt
  cars_stay v w a m k s low high (c ∷ t) f i l =
      let p = or_parts (eqb m c.number) (one_of m (car_numbers t)) f in
      let ne : m ≢ c.number = eqb-false m c.number p.0 in (
        frame_from v w (car_words * c.number) c.objects l.0 (record {
          same = λ j g h. elim (cases_lt j a) [
            | inl q ↦ s.before j q
            | inr q ↦ s.behind j (omega (arith, i.0, g, h, low, high, ne, q))
          ];
        }),
        cars_stay v w a m k s low high t p.1 i.1 l.1,
      )

  -- the object's words stand at its new place, and nothing else was written
  seat_lies : (v w : List ℕ) (n : ℕ) (o : Obj) {a : ℕ} {t u : Train} → Seat n o a t u → size o.body ≤ 128
      → one_of n (car_numbers t) ≡ false → IsDistinct eqb (car_numbers t)
      → AllByRecursion (λ c. words_of c.objects ≤ car_words) t → AllByRecursion (CarLies M code at v) t
      → Lies M code at w a o.body → SameOutside v w a (size o.body) → AllByRecursion (CarLies M code at w) u
  seat_lies v w n o (opens t) h f d i l new s =
      ((new, tt), cars_stay v w (car_words * n) n (size o.body) s (omega arith) (omega (arith, h)) t f i l)
  seat_lies v w n o (joins c t e) h f d i l new s =
      let fit = leb-true (words_of c.objects + size o.body) car_words e in (
        lie_from_more w (car_words * c.number) c.objects o
            (frame_from v w (car_words * c.number) c.objects l.0 (record { same = λ j g q. s.before j q })) new,
        cars_stay v w (car_words * c.number + words_of c.objects) c.number (size o.body) s (omega arith) (omega (arith, fit)) t (distinct_head c.number (car_numbers t) d) i.1 l.1,
      )
  seat_lies v w n o (later a c t u q) h f d i l new s =
      let p = or_parts (eqb n c.number) (one_of n (car_numbers t)) f in
      let at_car = seated n o q h in
      let out : one_of c.number (n ∷ car_numbers t) ≡ false =
      or_from (eqb c.number n) (one_of c.number (car_numbers t)) (ne_eqb c.number n (λ e. eqb-false n c.number p.0 (sym e))) (distinct_head c.number (car_numbers t) d) in
      let ne : at_car.car ≢ c.number = eqb-false at_car.car c.number (one_of_apart at_car.car c.number (n ∷ car_numbers t) at_car.known out) in (
        frame_from v w (car_words * c.number) c.objects l.0 (record {
          same = λ j g r. elim (cases_lt j a) [
            | inl x ↦ s.before j x
            | inr x ↦ s.behind j (omega (arith, i.0, g, r, at_car.low, at_car.high, ne, x))
          ];
        }),
        seat_lies v w n o q h p.1 (IsDistinct-tail eqb c.number (car_numbers t) d) i.1 l.1 new s,
      )

  pub row_seated : (v w : List ℕ) (n : ℕ) (o : Obj) (a b : ℕ) (t u : Train) → Seat n o a t u → size o.body ≤ 128 → n < 64 → one_of n (car_numbers t) ≡ false
      → RowLies M code at v t → Lies M code at v b o.body → Copied v w b a (size o.body) → SameOutside v w a (size o.body) → RowLies M code at w u
  row_seated v w n o a b t u q h k f r l c s =
      let num = placed-numbered n o t u (seat-placed n o q) k f (r.below, r.differ) in
      record {
        lies = seat_lies v w n o q h f r.differ r.within r.lies (lies_copied M code law at v w b a (size o.body) o.body l (omega arith) c) s;
        within = seated_within n o q h r.within;
        below = num.0;
        differ = num.1;
      }
