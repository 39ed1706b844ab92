-- How full cars are, how many there are, and that one is always free.
use Rattle.std.proofs.Common.{◌≡◌, ℕ, zero, suc, ◌+◌, ◌*◌, ◌<◌, ◌≤◌, Bool, true, false, ◌&&◌, ltb, leb, List, [], ◌∷◌, ◌++◌, length, take, Some, None, Option, option_map, refl, sym, arith, length-append, cond, pred, sum_by, ap}
use lib.ListN.{length-replicate}
use Rattle.std.proofs.lemmas.Bool.{leb-true, leb-false, ltb-true, and_parts}
use Rattle.std.specs.List.{AllByRecursion}
use Rattle.std.proofs.lemmas.List.Sums.{sum_by-append, sum_by-take-le}
use Rattle.std.proofs.lemmas.List.{length-map, take-map}
use Rattle.layout.specs.declared.Shape.{Shape}
use Rattle.layout.specs.ShapeTable.{ShapeTable, Offsets, Lawful}
use Rattle.model.specs.Bodies.{Body, fresh, new_body, size}
use Rattle.model.specs.Trains.{Obj, Car, Train, Trains, train_objects, obj_size, words_of, words_in_use, cars_in_use, car_numbers, numbers, place, place_at, fits, with_object, opened, lowest_free, last_cars, arrival, most_trains, car_words}
use Rattle.model.specs.Claims.{MoveRequest, Claim, claims, Taken}
use Rattle.model.specs.Step.{claimed, copied_of, place_all, trim}
use Rattle.model.specs.Space.{Model, carried}
use Rattle.model.specs.Laws.{moment, FreeCar}
use Rattle.model.specs.Sound.{Sized, Filled, HasCars}
use Rattle.model.proofs.Totals.{claims-total, place_all-total, sums}
use Rattle.model.proofs.Alls.{claims_all, claimed_all_take, all_take}
use Rattle.model.proofs.Distinct.{lowest_unused}

-- Cars stay filled.

pub filled_tail : (c : Car) (cs : Train) → Filled (c ∷ cs) → Filled cs
filled_tail c [] p = tt
filled_tail c (d ∷ cs) p = p.2

filled_cons : (c : Car) (t : Train) → 1 ≤ length t → 65 ≤ words_of c.objects → words_of c.objects ≤ car_words → Filled t → Filled (c ∷ t)
filled_cons c [] l a b p = absurd (omega arith)
filled_cons c (d ∷ t) l a b p = (a, b, p)

pub place_stands : (n : ℕ) (o : Obj) (t : Train) → 1 ≤ length (place n o t)
place_stands n o [] = omega arith
place_stands n o (c ∷ []) = go (fits c o)
  where
    go : (b : Bool) → 1 ≤ length {A = Car} (cond b (with_object o c ∷ []) (c ∷ opened n o ∷ []))
    go true = omega arith
    go false = omega arith
place_stands n o (c ∷ d ∷ cs) = omega arith

pub filled_place : (n : ℕ) (o : Obj) (t : Train) → Sized o → Filled t → Filled (place n o t)
filled_place n o [] s p = (omega arith, omega arith)
filled_place n o (c ∷ []) s p = go (fits c o) refl
  where
    go : (b : Bool) → fits c o ≡ b → Filled (cond b (with_object o c ∷ []) (c ∷ opened n o ∷ []))
    go true e =
        let h : words_of c.objects + obj_size o ≤ car_words = leb-true (words_of c.objects + obj_size o) car_words e in
        let w = sum_by-append obj_size c.objects (o ∷ []) in
        (omega arith, omega arith)
    go false e =
        let h : car_words < words_of c.objects + obj_size o = leb-false (words_of c.objects + obj_size o) car_words e in
        (omega arith, p.1, (omega arith, omega arith))
filled_place n o (c ∷ d ∷ cs) s p = filled_cons c (place n o (d ∷ cs)) (place_stands n o (d ∷ cs)) p.0 p.1 (filled_place n o (d ∷ cs) s p.2)

pub filled_place_at : (k n : ℕ) (o : Obj) (ts : Trains) → Sized o → AllByRecursion Filled ts → AllByRecursion Filled (place_at k n o ts)
filled_place_at k n o [] s p = (filled_place n o [] s tt, tt)
filled_place_at zero n o (t ∷ ts) s p = (filled_place n o t s p.0, p.1)
filled_place_at (suc k) n o (t ∷ ts) s p = (p.0, filled_place_at k n o ts s p.1)

pub filled_place_all : (busy : List ℕ) (row : List Claim) (ts : Trains) → AllByRecursion Sized (claimed row) → AllByRecursion Filled ts → AllByRecursion Filled (place_all busy row ts)
filled_place_all busy [] ts s p = p
filled_place_all busy (c ∷ row) ts s p =
    let n = lowest_free (busy ++ numbers ts) in
    filled_place_all busy row (place_at c.rank n c.object ts) s.1 (filled_place_at c.rank n c.object ts s.0 p)

pub filled_trim : (ts : Trains) → AllByRecursion Filled ts → AllByRecursion Filled (trim ts)
filled_trim [] p = p
filled_trim ([] ∷ ts) p = p.1
filled_trim ((c ∷ cs) ∷ ts) p = p

-- Trains have cars.

pub standing_place_at : (k n : ℕ) (o : Obj) (ts : Trains) → AllByRecursion HasCars ts → AllByRecursion HasCars (place_at k n o ts)
standing_place_at k n o [] s = (place_stands n o [], tt)
standing_place_at zero n o (t ∷ ts) s = (place_stands n o t, s.1)
standing_place_at (suc k) n o (t ∷ ts) s = (s.0, standing_place_at k n o ts s.1)

pub standing_place_all : (busy : List ℕ) (row : List Claim) (ts : Trains) → AllByRecursion HasCars ts → AllByRecursion HasCars (place_all busy row ts)
standing_place_all busy [] ts s = s
standing_place_all busy (c ∷ row) ts s =
    let n = lowest_free (busy ++ numbers ts) in
    standing_place_all busy row (place_at c.rank n c.object ts) (standing_place_at c.rank n c.object ts s)

-- only the first train may have been without cars
pub standing_trim_all : (busy : List ℕ) (row : List Claim) (cs : Train) (ts : Trains) → AllByRecursion HasCars ts → AllByRecursion HasCars (trim (place_all busy row (cs ∷ ts)))
standing_trim_all busy [] [] ts s = s
standing_trim_all busy [] (c ∷ cs) ts s = (omega arith, s)
standing_trim_all busy (c ∷ row) cs ts s = go c.rank (λ ds us. standing_trim_all busy row ds us)
  where
    go : (k : ℕ) → ((ds : Train) (us : Trains) → AllByRecursion HasCars us → AllByRecursion HasCars (trim (place_all busy row (ds ∷ us))))
        → AllByRecursion HasCars (trim (place_all busy row (place_at k (lowest_free (busy ++ numbers (cs ∷ ts))) c.object (cs ∷ ts))))
    go zero more = more (place (lowest_free (busy ++ numbers (cs ∷ ts))) c.object cs) ts s
    go (suc k) more =
        let n = lowest_free (busy ++ numbers (cs ∷ ts)) in
        more cs (place_at k n c.object ts) (standing_place_at k n c.object ts s)

-- How many trains there are.

more_trains : (k n : ℕ) (o : Obj) (ts : Trains) → length ts ≤ length (place_at k n o ts)
more_trains k n o [] = omega arith
more_trains zero n o (t ∷ ts) = omega arith
more_trains (suc k) n o (t ∷ ts) = omega (arith, more_trains k n o ts)

trains_up_to : (m k n : ℕ) (o : Obj) (ts : Trains) → k < m → length ts ≤ m → length (place_at k n o ts) ≤ m
trains_up_to m k n o [] h l = omega arith
trains_up_to m zero n o (t ∷ ts) h l = l
trains_up_to zero (suc k) n o (t ∷ ts) h l = absurd (omega arith)
trains_up_to (suc m) (suc k) n o (t ∷ ts) h l = omega (arith, trains_up_to m k n o ts (omega arith) (omega arith))

pub length-place_at : (k n : ℕ) (o : Obj) (ts : Trains) → k < most_trains → length ts ≤ most_trains
    → (length ts ≤ length (place_at k n o ts)) × (length (place_at k n o ts) ≤ most_trains)
length-place_at k n o ts h l = (more_trains k n o ts, trains_up_to most_trains k n o ts h l)

abbrev pub RanksBelow : List Claim → Type 0
RanksBelow row = AllByRecursion (λ c. c.rank < most_trains) row

pub length-place_all : (busy : List ℕ) (row : List Claim) (ts : Trains) → RanksBelow row → length ts ≤ most_trains
    → (length ts ≤ length (place_all busy row ts)) × (length (place_all busy row ts) ≤ most_trains)
length-place_all busy [] ts r l = (omega arith, l)
length-place_all busy (c ∷ row) ts r l =
    let n = lowest_free (busy ++ numbers ts) in
    let one = length-place_at c.rank n c.object ts r.0 l in
    let rest = length-place_all busy row (place_at c.rank n c.object ts) r.1 one.1 in
    (omega (arith, one.0, rest.0), rest.1)

pub length-trim : (ts : Trains) → (length (trim ts) ≤ length ts) × (length ts ≤ length (trim ts) + 1)
length-trim [] = (omega arith, omega arith)
length-trim ([] ∷ ts) = (omega arith, omega arith)
length-trim ((c ∷ cs) ∷ ts) = (omega arith, omega arith)

pub arrival_below : (ts : Trains) → length ts ≤ most_trains → (arrival ts < most_trains) × (arrival ts ≤ length ts) × (1 ≤ length ts → 1 ≤ arrival ts)
arrival_below [] l = (omega arith, omega arith, λ h. h)
arrival_below (t ∷ []) l = (omega arith, omega arith, λ h. omega arith)
arrival_below (t ∷ u ∷ ts) l = go (ltb (length (t ∷ u ∷ ts)) most_trains && leb 4 (last_cars (t ∷ u ∷ ts))) refl
  where
    go : (b : Bool) → (ltb (length (t ∷ u ∷ ts)) most_trains && leb 4 (last_cars (t ∷ u ∷ ts))) ≡ b
        → (cond b (length (t ∷ u ∷ ts)) (pred (length (t ∷ u ∷ ts))) < most_trains) × (cond b (length (t ∷ u ∷ ts)) (pred (length (t ∷ u ∷ ts))) ≤ length (t ∷ u ∷ ts)) × (1 ≤ length (t ∷ u ∷ ts) → 1 ≤ cond b (length (t ∷ u ∷ ts)) (pred (length (t ∷ u ∷ ts))))
    go true e =
        let p = and_parts (ltb (length (t ∷ u ∷ ts)) most_trains) (leb 4 (last_cars (t ∷ u ∷ ts))) e in
        (ltb-true (length (t ∷ u ∷ ts)) most_trains p.0, omega arith, λ h. h)
    go false e = (omega arith, omega arith, λ h. omega arith)

-- How many cars there are.

pub train_by_words : (t : Train) → Filled t → 65 * length t ≤ words_of (train_objects t) + 64
train_by_words [] p = omega arith
train_by_words (c ∷ []) p = omega (arith, sums, p.0)
train_by_words (c ∷ d ∷ cs) p = omega (arith, sums, p.0, train_by_words (d ∷ cs) p.2)

pub cars_by_words : (ts : Trains) → AllByRecursion Filled ts → 65 * cars_in_use ts ≤ words_in_use ts + 65 * length ts
cars_by_words [] p = omega arith
cars_by_words (t ∷ ts) p = omega (arith, sums, train_by_words t p.0, cars_by_words ts p.1)

pub few_cars : (ts : Trains) → AllByRecursion Filled ts → words_in_use ts ≤ 3072 → length ts ≤ 8 → cars_in_use ts ≤ 55
few_cars ts p w l = omega (arith, cars_by_words ts p)

pub length-numbers : (ts : Trains) → length (numbers ts) ≡ cars_in_use ts
length-numbers [] = refl
length-numbers (t ∷ ts) = omega (arith, sums, length-append (car_numbers t) (numbers ts), length-map t (λ (c : Car). c.number), length-numbers ts)

pub free_car : (ts : Trains) → cars_in_use ts ≤ 57 → FreeCar ts
free_car ts h =
    let l : length (numbers ts) < 64 = omega (arith, length-numbers ts) in
    record { few = h; free = lowest_free (numbers ts); there = (lowest_unused (numbers ts) l).0; unused = (lowest_unused (numbers ts) l).1 }

-- A step copies no more than a car's words, and has a free car at each moment.

pub copied_few : (f : Car) (ws : List MoveRequest) → words_of f.objects ≤ 128 → copied_of (claims ws f.objects).taken ≤ 128
copied_few f ws h = omega (arith, claims-total obj_size ws f.objects)

pub total-take : (g : Obj → ℕ) (n : ℕ) (row : List Claim) → sum_by g (claimed (take n row)) ≤ sum_by g (claimed row)
total-take g n row = omega (arith, ap (sum_by g) (take-map (λ (c : Claim). c.object) n row), sum_by-take-le g (claimed row) n)

-- the cars while a row is placed, the first car not counted
pub few_placed : (busy : List ℕ) (row : List Claim) (f : Car) (cs : Train) (ts : Trains)
    → AllByRecursion Filled ((f ∷ cs) ∷ ts) → words_in_use ((f ∷ cs) ∷ ts) ≤ 3072 → length ((f ∷ cs) ∷ ts) ≤ 8
    → AllByRecursion Sized (claimed row) → RanksBelow row → words_of (claimed row) ≤ words_of f.objects
    → cars_in_use (place_all busy row (cs ∷ ts)) ≤ 55
few_placed busy row f cs ts p w l s r u =
    few_cars (place_all busy row (cs ∷ ts))
    (filled_place_all busy row (cs ∷ ts) s (filled_tail f cs p.0, p.1))
    (omega (arith, sums, place_all-total obj_size busy row (cs ∷ ts)))
    (length-place_all busy row (cs ∷ ts) r l).1

pub free_at_moment : (f : Car) (cs : Train) (ts : Trains) (m : Model)
    → AllByRecursion Filled ((f ∷ cs) ∷ ts) → words_in_use ((f ∷ cs) ∷ ts) ≤ 3072 → length ((f ∷ cs) ∷ ts) ≤ 8
    → AllByRecursion Sized f.objects → RanksBelow (carried f cs ts m).taken
    → (n : ℕ) → FreeCar (moment n m ((f ∷ cs) ∷ ts))
free_at_moment f cs ts m p w l s r n = go (carried f cs ts m) (claims_all Sized _ f.objects s).0 r (claims-total obj_size _ f.objects)
  where
    go : (c : Taken Claim) → AllByRecursion Sized (claimed c.taken) → RanksBelow c.taken → sum_by obj_size (claimed c.taken) + sum_by obj_size c.left ≡ sum_by obj_size f.objects
        → FreeCar ((f ∷ []) ∷ place_all (f.number ∷ []) (take n c.taken) (cs ∷ ts))
    go c a b e =
        let k = few_placed (f.number ∷ []) (take n c.taken) f cs ts p w l (claimed_all_take Sized n c.taken a) (all_take _ n c.taken b) (omega (arith, total-take obj_size n c.taken)) in
        free_car ((f ∷ []) ∷ place_all (f.number ∷ []) (take n c.taken) (cs ∷ ts)) (omega (arith, sums, k))

-- A new object has from 2 to 64 words.

-- what a make is to make is a new object of an admitted shape
pub fresh_is : (M : ShapeTable) (s : Shape) (b : Body) → new_body M s ≡ Some b → (o : Offsets) × (M.offsets s ≡ Some o) × (b ≡ fresh s o)
fresh_is M s b e = go (M.offsets s) refl e
  where
    go : (p : Option Offsets) → M.offsets s ≡ p → option_map (fresh s) p ≡ Some b → (o : Offsets) × (M.offsets s ≡ Some o) × (b ≡ fresh s o)
    go None q e = absurd (let z : ◌≡◌ {A = ℕ} 0 1 = cc in omega arith)
    go (Some o) q e = (o, q, (let i : fresh s o ≡ b = cc in sym i))

pub fresh_sized : (M : ShapeTable) → Lawful M → (s : Shape) (o : Offsets) → M.offsets s ≡ Some o → (2 ≤ size (fresh s o)) × (size (fresh s o) ≤ 64)
fresh_sized M law s o e =
    let a = law.apart s o e in
    let p = length-replicate {A = Option ℕ} o.refs None in
    let q = length-replicate {A = ℕ} o.words 0 in
    (omega (arith, a.some, p, q), omega (arith, a.few, p, q))
