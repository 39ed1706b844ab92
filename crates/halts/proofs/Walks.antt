-- A walk over the words of a car meets the objects of the space that stand in it, and no others.
use Rattle.std.proofs.Common.{◌≡◌, ℕ, zero, suc, ◌+◌, ◌*◌, ◌<◌, List, [], ◌∷◌, get_or, length, Some, None, refl, sym, subst, arith, sum_by}
use Rattle.std.specs.Prelude.{slice_get}
use Rattle.std.specs.List.{AllByRecursion}
use Rattle.layout.specs.Coding.{Coded, SameOffsets}
use Rattle.layout.specs.declared.Shape.{Shape}
use Rattle.layout.specs.ShapeTable.{ShapeTable, Offsets}
use Rattle.model.specs.Bodies.{Body, size}
use Rattle.model.specs.Trains.{Obj, Car, Train, Trains, train_objects, objects, words_in_use, words_of, car_words}
use Rattle.model.proofs.Alls.{all_++, all_left, all_right, all_map}
use Rattle.model.proofs.Totals.{sums}
use Rattle.objects.specs.Lies.{Lies, LieFrom, ArePlaced, CarStands}
use Rattle.objects.specs.Stand.{TrainsStand}
use Rattle.trains.specs.Fills.{CarFill}
use Rattle.memory.specs.Heap.{Heap}
use Rattle.trains.specs.Ties.{car_fill, train_fills, fills}
use Rattle.halts.specs.Objects.{told, size_at, Meets, at_first, behind, LiesIn, LiesWhole, filled_words}

pub some_same : {A : Type 0} {a b : A} → Some a ≡ Some b → a ≡ b
some_same e = cc

none_some : {A : Type 0} {a : A} → None ≡ Some a → ⊥
none_some e = let z : ◌≡◌ {A = ℕ} 0 1 = cc in omega arith

-- the filled words of cars are the words of their objects
train_filled : (t : Train) → sum_by (λ c. c.filled) (train_fills t) ≡ words_of (train_objects t)
train_filled [] = refl
train_filled (c ∷ t) = omega (arith, sums, train_filled t)

pub words_filled : (ts : Trains) → filled_words (fills ts) ≡ words_in_use ts
words_filled [] = refl
words_filled (t ∷ ts) = omega (arith, sums, train_filled t, words_filled ts)

pub length-fills : (ts : Trains) → length (fills ts) ≡ length ts
length-fills [] = refl
length-fills (t ∷ ts) = omega (arith, length-fills ts)

module _ {M : ShapeTable} {code : Shape → ℕ} {decoded : ℕ → Offsets} (coded : Coded M code decoded) (at : ℕ → ℕ) (heap : Heap) where
  -- the header of an object that stands at a tells its words
  pub same_told : (a : ℕ) (b : Body) (l : Lies M code at heap.words a b) → SameOffsets l.offsets (told decoded heap a)
  same_told a b l = subst (λ n. SameOffsets l.offsets (decoded n)) (sym l.header) (coded.gives_back b.shape l.offsets l.admitted)

  size_told : (a : ℕ) (b : Body) → Lies M code at heap.words a b → size_at decoded heap a ≡ size b
  size_told a b l = let s = same_told a b l in omega (arith, s.refs, s.words, l.ref_count, l.word_count)

  -- objects, each of P, from the address b on to the end
  record Rest (P : Obj → Type 0) (end b : ℕ) : Type 0 where
    object : Obj
    rest : List Obj
    lies : LieFrom M code at heap.words b (object ∷ rest)
    placed : ArePlaced at b (object ∷ rest)
    ends : b + words_of (object ∷ rest) ≡ end
    each : AllByRecursion P (object ∷ rest)

  rest_of : (P : Obj → Type 0) (end b : ℕ) (os : List Obj) → LieFrom M code at heap.words b os → ArePlaced at b os → b + words_of os ≡ end
      → AllByRecursion P os → b < end → Rest P end b
  rest_of P end b [] l p e a h = absurd (omega (arith, e, h))
  rest_of P end b (o ∷ os) l p e a h = record { object = o; rest = os; lies = l; placed = p; ends = e; each = a }

  walked : (P : Obj → Type 0) (first end : ℕ) (os : List Obj) → LieFrom M code at heap.words first os → ArePlaced at first os
      → first + words_of os ≡ end → AllByRecursion P os → (a : ℕ) → Meets decoded heap first end a → Rest P end a
  walked P first end os l p e all a (at_first f h) = subst (Rest P end) (sym f) (rest_of P end first os l p e all (omega (arith, f, h)))
  walked P first end os l p e all b (behind {a = a} m f h) =
      let r = walked P first end os l p e all a m in
      let z = size_told a r.object.body r.lies.0 in
      subst (Rest P end) (omega (arith, f, z))
      (rest_of P end (a + size r.object.body) r.rest r.lies.1 r.placed.1 (omega (arith, sums, r.ends)) r.each.1 (omega (arith, f, z, h)))

  -- a walk meets each of them
  all_met : (first end a : ℕ) (os : List Obj) → LieFrom M code at heap.words a os → ArePlaced at a os → a + words_of os ≡ end
      → (a < end → Meets decoded heap first end a) → AllByRecursion (λ o. Meets decoded heap first end (at o.id)) os
  all_met first end a [] l p e m = tt
  all_met first end a (o ∷ os) l p e m =
      let here = m (omega (arith, sums, e)) in (
        subst (Meets decoded heap first end) (sym p.0) here,
        all_met first end (a + size o.body) os l.1 p.1 (omega (arith, sums, e)) (λ h. behind here (omega (arith, size_told a o.body l.0)) h),
      )

  -- an object of P that stands at a, whole in the car
  pub record Stood (P : Obj → Type 0) (c : CarFill) (a : ℕ) : Type 0 where
    pub object : Obj
    pub there : at object.id ≡ a
    pub is : P object
    pub whole : LiesWhole decoded heap c a

  in_car : (P : Obj → Type 0) (d : Car) → CarStands M code at heap.words d → AllByRecursion P d.objects
      → (a : ℕ) → Meets decoded heap (car_words * d.number) (car_words * d.number + words_of d.objects) a → Stood P (car_fill d) a
  in_car P d s all a m =
      let r = walked P (car_words * d.number) (car_words * d.number + words_of d.objects) d.objects s.lies s.placed refl all a m in
      record {
        object = r.object;
        there = r.placed.0;
        is = r.each.0;
        whole = record { ends = omega (arith, sums, r.ends, size_told a r.object.body r.lies.0); filled = s.within; number = s.number };
      }

  -- what is met in a train is an object of it
  in_train : (P : Obj → Type 0) (t : Train) → AllByRecursion (CarStands M code at heap.words) t → AllByRecursion P (train_objects t)
      → (a p : ℕ) (c : CarFill) → slice_get (train_fills t) p ≡ Some c → Meets decoded heap (car_words * c.number) (car_words * c.number + c.filled) a
      → Stood P c a
  in_train P [] s all a p c e m = absurd (none_some e)
  in_train P (d ∷ t) s all a zero c e m =
      let f : car_fill d ≡ c = some_same e in
      subst (λ c. Stood P c a) f
      (in_car P d s.0 (all_left P d.objects (train_objects t) all) a
      (subst (λ c. Meets decoded heap (car_words * c.number) (car_words * c.number + c.filled) a) (sym f) m))
  in_train P (d ∷ t) s all a (suc p) c e m = in_train P t s.1 (all_right P d.objects (train_objects t) all) a p c e m

  pub in_trains : (P : Obj → Type 0) (ts : Trains) → TrainsStand M code at heap.words ts → AllByRecursion P (objects ts)
      → (k a : ℕ) (l : LiesIn decoded heap (get_or (fills ts) k []) a) → Stood P l.car a
  in_trains P [] s all k a l = absurd (none_some l.stands)
  in_trains P (t ∷ ts) s all zero a l = in_train P t s.0 (all_left P (train_objects t) (objects ts) all) a l.place l.car l.stands l.met
  in_trains P (t ∷ ts) s all (suc k) a l = in_trains P ts s.1 (all_right P (train_objects t) (objects ts) all) k a l

  -- each object of a train is met in it
  train_met : (t : Train) → AllByRecursion (CarStands M code at heap.words) t → AllByRecursion (λ o. LiesIn decoded heap (train_fills t) (at o.id)) (train_objects t)
  train_met [] s = tt
  train_met (c ∷ t) s =
      let first = car_words * c.number in
      let end = car_words * c.number + words_of c.objects in
      all_++ (λ o. LiesIn decoded heap (train_fills (c ∷ t)) (at o.id)) c.objects (train_objects t)
      (all_map (λ o. Meets decoded heap first end (at o.id)) (λ o. LiesIn decoded heap (train_fills (c ∷ t)) (at o.id))
      (λ o m. record { place = 0; car = car_fill c; stands = refl; met = m }) c.objects
      (all_met first end first c.objects s.0.lies s.0.placed refl (λ h. at_first refl h)))
      (all_map (λ o. LiesIn decoded heap (train_fills t) (at o.id)) (λ o. LiesIn decoded heap (train_fills (c ∷ t)) (at o.id))
      (λ o l. record { place = suc l.place; car = l.car; stands = l.stands; met = l.met }) (train_objects t) (train_met t s.1))

  pub rank_met : (ts : Trains) → TrainsStand M code at heap.words ts → (k : ℕ)
      → AllByRecursion (λ o. LiesIn decoded heap (get_or (fills ts) k []) (at o.id)) (train_objects (get_or ts k []))
  rank_met [] s k = tt
  rank_met (t ∷ ts) s zero = train_met t s.0
  rank_met (t ∷ ts) s (suc k) = rank_met ts s.1 k

  -- in the train of some rank
  abbrev pub OfRank : Trains → ℕ → Type 0
  OfRank ts a = (k : ℕ) × LiesIn decoded heap (get_or (fills ts) k []) a

  pub trains_met : (ts : Trains) → TrainsStand M code at heap.words ts → AllByRecursion (λ o. OfRank ts (at o.id)) (objects ts)
  trains_met [] s = tt
  trains_met (t ∷ ts) s =
      all_++ (λ o. OfRank (t ∷ ts) (at o.id)) (train_objects t) (objects ts)
      (all_map (λ o. LiesIn decoded heap (train_fills t) (at o.id)) (λ o. OfRank (t ∷ ts) (at o.id)) (λ o l. (0, l)) (train_objects t) (train_met t s.0))
      (all_map (λ o. OfRank ts (at o.id)) (λ o. OfRank (t ∷ ts) (at o.id)) (λ o l. (suc l.0, l.1)) (objects ts) (trains_met ts s.1))
