-- Trains by fills follow the trains of the model.
use Rattle.std.proofs.Common.{◌≡◌, ℕ, zero, suc, ◌+◌, ◌*◌, ◌≢◌, Bool, true, false, ◌&&◌, eqb, ltb, leb, List, [], ◌∷◌, ◌++◌, length, Some, None, Option, option_to_list, refl, sym, ap, ◌∙◌, subst, arith, cond, pred}
use Rattle.std.proofs.lemmas.Bool.{ne_eqb, eq-eqb, both_ways}
use Rattle.std.specs.List.{IsDistinct}
use Rattle.std.proofs.lemmas.Map.Keys.{IsDistinct-tail}
use Rattle.std.proofs.lemmas.List.Sums.{sum_by-cons}
use Rattle.model.specs.Trains.{Obj, Car, Train, Trains, train_objects, objects, obj_size, words_of, cars_in_use, car_numbers, numbers, lowest_free, one_of, place, place_at, fits, with_object, opened, last_cars, arrival, times, among, car_words}
use Rattle.model.specs.Step.{trim, placing}
use Rattle.model.specs.Claims.{Claim}
use Rattle.model.specs.Notes.{CarPlace, train_car_place, car_place}
use Rattle.model.proofs.Totals.{sums, one_if}
use Rattle.model.proofs.Distinct.{distinct_head}
use Rattle.model.proofs.RememberCars.{cars_in_row, row_numbers, row_car_place, car_place-number}
use Rattle.objects.specs.Lies.{nothing}
use Rattle.objects.specs.Locate.{address_from, address_in, locate}
use Rattle.trains.specs.Fills.{CarFill, TrainFill, placed, released, fill_numbers, numbers_of, free_car, more_filled, place_in, place_fill, spot_in, spot_at, last_fills, arrival_of, cars_of, trim_fills}
use Rattle.trains.specs.Orders.{order_in}
use Rattle.trains.specs.Ties.{car_fill, train_fills, fills, FillsFollow, CallsFollow, at_rest, place_claims, LaterByNumbers, StandsInItsRoom}
use Rattle.trains.proofs.Changes.{filled_by, placed_by}

one_words : (o : Obj) → words_of (o ∷ []) ≡ obj_size o
one_words o = omega (arith, sums)

more_words : (os : List Obj) (o : Obj) → words_of (os ++ (o ∷ [])) ≡ words_of os + obj_size o
more_words os o = omega (arith, sums)

place_follows : (n : ℕ) (o : Obj) (t : Train) → train_fills (place n o t) ≡ place_in n (obj_size o) (train_fills t)
place_follows n o [] = ap (λ w. filled_by n w ∷ []) (one_words o)
place_follows n o (c ∷ []) = go (fits c o)
  where
    go : (b : Bool) → train_fills (cond b (with_object o c ∷ []) (c ∷ opened n o ∷ [])) ≡ cond b (more_filled (obj_size o) (car_fill c) ∷ []) (car_fill c ∷ filled_by n (obj_size o) ∷ [])
    go true = ap (λ w. filled_by c.number w ∷ []) (more_words c.objects o)
    go false = ap (λ w. car_fill c ∷ filled_by n w ∷ []) (one_words o)
place_follows n o (c ∷ d ∷ cs) = ap (λ (u : TrainFill). car_fill c ∷ u) (place_follows n o (d ∷ cs))

place_at_follows : (k n : ℕ) (o : Obj) (ts : Trains) → fills (place_at k n o ts) ≡ place_fill k n (obj_size o) (fills ts)
place_at_follows k n o [] = ap (λ (u : TrainFill). u ∷ []) (place_follows n o [])
place_at_follows zero n o (t ∷ ts) = ap (λ (u : TrainFill). u ∷ fills ts) (place_follows n o t)
place_at_follows (suc k) n o (t ∷ ts) = ap (λ (us : List TrainFill). train_fills t ∷ us) (place_at_follows k n o ts)

trim_follows : (ts : Trains) → fills (trim ts) ≡ trim_fills (fills ts)
trim_follows [] = refl
trim_follows ([] ∷ ts) = refl
trim_follows ((c ∷ cs) ∷ ts) = refl

length_train : (t : Train) → length (train_fills t) ≡ length t
length_train [] = refl
length_train (c ∷ cs) = ap suc (length_train cs)

length_fills : (ts : Trains) → length ts ≡ length (fills ts)
length_fills [] = refl
length_fills (t ∷ ts) = ap suc (length_fills ts)

last_follows : (ts : Trains) → last_cars ts ≡ last_fills (fills ts)
last_follows [] = refl
last_follows (t ∷ []) = sym (length_train t)
last_follows (t ∷ u ∷ ts) = last_follows (u ∷ ts)

arrival_follows : (ts : Trains) → arrival ts ≡ arrival_of (fills ts)
arrival_follows [] = refl
arrival_follows (t ∷ []) = refl
arrival_follows (t ∷ u ∷ ts) =
    ap (λ n. cond (ltb n 8 && leb 4 (last_cars (t ∷ u ∷ ts))) n (pred n)) (length_fills (t ∷ u ∷ ts))
    ∙ ap (λ m. cond (ltb (length (fills (t ∷ u ∷ ts))) 8 && leb 4 m) (length (fills (t ∷ u ∷ ts))) (pred (length (fills (t ∷ u ∷ ts))))) (last_follows (t ∷ u ∷ ts))

cars_follow : (ts : Trains) → cars_in_use ts ≡ cars_of (fills ts)
cars_follow [] = refl
cars_follow (t ∷ ts) = omega (arith, sum_by-cons {X = Train} length t ts, sum_by-cons {X = TrainFill} length (train_fills t) (fills ts), length_train t, cars_follow ts)

train_numbers_follow : (t : Train) → car_numbers t ≡ fill_numbers (train_fills t)
train_numbers_follow [] = refl
train_numbers_follow (c ∷ cs) = ap (λ ns. c.number ∷ ns) (train_numbers_follow cs)

numbers_follow : (ts : Trains) → numbers ts ≡ numbers_of (fills ts)
numbers_follow [] = refl
numbers_follow (t ∷ ts) = ap (λ ns. ns ++ numbers ts) (train_numbers_follow t) ∙ ap (λ ns. fill_numbers (train_fills t) ++ ns) (numbers_follow ts)

free_follows : (busy : Option CarFill) (ts : Trains) → lowest_free (fill_numbers (option_to_list busy) ++ numbers ts) ≡ free_car (record { trains = fills ts; busy = busy })
unfolding free_car
free_follows busy ts = ap (λ ns. lowest_free (fill_numbers (option_to_list busy) ++ ns)) (numbers_follow ts)

pub fills_follow : FillsFollow
fills_follow = record {
  placed = place_at_follows;
  trimmed = trim_follows;
  arrives = arrival_follows;
  counted = length_fills;
  cars = cars_follow;
  numbered = numbers_follow;
  free = free_follows;
}

placed_follows : (k : ℕ) (o : Obj) (busy : Option CarFill) (ts : Trains)
    → placed k (obj_size o) (record { trains = fills ts; busy = busy }) ≡ record { trains = fills (place_at k (lowest_free (fill_numbers (option_to_list busy) ++ numbers ts)) o ts); busy = busy }
placed_follows k o busy ts =
    ap (λ us. placed_by us busy) (ap (λ n. place_fill k n (obj_size o) (fills ts)) (sym (free_follows busy ts)) ∙ sym (place_at_follows k (lowest_free (fill_numbers (option_to_list busy) ++ numbers ts)) o ts))

claims_follow : (f : Car) (row : List Claim) (ts : Trains) → place_claims row (record { trains = fills ts; busy = Some (car_fill f) }) ≡ record { trains = fills (placing f row ts); busy = Some (car_fill f) }
claims_follow f [] ts = refl
claims_follow f (c ∷ row) ts =
    ap (place_claims row) (placed_follows c.rank c.object (Some (car_fill f)) ts) ∙ claims_follow f row (place_at c.rank (lowest_free (f.number ∷ numbers ts)) c.object ts)

pub calls_follow : CallsFollow
calls_follow = record {
  made = λ o ts. ap (λ k. placed k (obj_size o) (at_rest ts)) (sym (arrival_follows ts)) ∙ placed_follows (arrival ts) o None ts;
  car_freed = λ f cs ts row. ap released (claims_follow f row (cs ∷ ts)) ∙ ap (λ us. placed_by us None) (sym (trim_follows (placing f row (cs ∷ ts))));
  train_freed = λ t ts. refl;
}

-- the order of a car is that of its number
order_of_place : (y : ℕ) (d : CarPlace) (n : ℕ) (t : Train) → IsDistinct eqb (car_numbers t) → train_car_place n y t None ≡ Some d → d.order ≡ n + order_in d.number (car_numbers t)
order_of_place y d n [] u e = absurd (let z : ◌≡◌ {A = ℕ} 0 1 = cc in omega arith)
order_of_place y d n (c ∷ t) u e = go (among y c.objects) e (order_of_place y d (n + 1) t (IsDistinct-tail eqb c.number (car_numbers t) u)) (car_place-number y d (n + 1) t)
  where
    go : (b : Bool) → ◌≡◌ {A = Option CarPlace} (cond b (Some (record { order = n; number = c.number })) (train_car_place (n + 1) y t None)) (Some d)
        → (train_car_place (n + 1) y t None ≡ Some d → d.order ≡ n + 1 + order_in d.number (car_numbers t)) → (train_car_place (n + 1) y t None ≡ Some d → one_of d.number (car_numbers t) ≡ true)
        → d.order ≡ n + order_in d.number (car_numbers (c ∷ t))
    go true k more there =
        let i : record { order = n; number = c.number } ≡ d = cc in
        let o : n ≡ d.order = ap (λ (v : CarPlace). v.order) i in
        let m : c.number ≡ d.number = ap (λ (v : CarPlace). v.number) i in
        rw (eq-eqb d.number c.number (sym m)) (omega (arith, o))
    go false k more there =
        let ne : eqb d.number c.number ≡ false = ne_eqb d.number c.number (λ q. both_ways _ (distinct_head c.number (car_numbers t) u) (subst (λ z. one_of z (car_numbers t) ≡ true) q (there k))) in
        rw ne (omega (arith, more k))

order_of_car : (x : ℕ) (ts : Trains) (a : CarPlace) → IsDistinct eqb (numbers ts) → car_place 0 x ts ≡ Some a → a.order ≡ order_in a.number (numbers_of (fills ts))
order_of_car x ts a u e =
    let i = order_of_place x a 0 (cars_in_row ts) (subst (IsDistinct eqb) (sym (row_numbers ts)) u) (sym (row_car_place 0 x ts) ∙ e) in
    let j = ap (order_in a.number) (row_numbers ts ∙ numbers_follow ts) in
    omega (arith, i, j)

pub later_by_numbers : LaterByNumbers
later_by_numbers x y ts a b u e f =
    ap (λ m. ltb m a.order) (order_of_car y ts b u f) ∙ ap (λ m. ltb (order_in b.number (numbers_of (fills ts))) m) (order_of_car x ts a u e)

-- Where objects stand.

from_absent : (a x z : ℕ) (os : List Obj) → times x os ≡ 0 → address_from a os x z ≡ z
from_absent a x z [] e = refl
from_absent a x z (o ∷ os) e = go (eqb x o.id) refl (from_absent (a + obj_size o) x z os)
  where
    go : (b : Bool) → eqb x o.id ≡ b → (times x os ≡ 0 → address_from (a + obj_size o) os x z ≡ z) → ◌≡◌ {A = ℕ} (cond b a (address_from (a + obj_size o) os x z)) z
    go true q more = absurd (omega (arith, sums, e, ap (λ (c : Bool). one_if c) q))
    go false q more = more (omega (arith, sums, e, ap (λ (c : Bool). one_if c) q))

from_new : (a z : ℕ) (o : Obj) (os : List Obj) → times o.id os ≡ 0 → address_from a (os ++ (o ∷ [])) o.id z ≡ a + words_of os
from_new a z o [] e = rw (eq-eqb o.id o.id refl) (omega arith)
from_new a z o (p ∷ os) e = go (eqb o.id p.id) refl (from_new (a + obj_size p) z o os)
  where
    go : (b : Bool) → eqb o.id p.id ≡ b → (times o.id os ≡ 0 → address_from (a + obj_size p) (os ++ (o ∷ [])) o.id z ≡ a + obj_size p + words_of os)
        → ◌≡◌ {A = ℕ} (cond b a (address_from (a + obj_size p) (os ++ (o ∷ [])) o.id z)) (a + words_of (p ∷ os))
    go true q more = absurd (omega (arith, sums, e, ap (λ (c : Bool). one_if c) q))
    go false q more = omega (arith, sums, more (omega (arith, sums, e, ap (λ (c : Bool). one_if c) q)))

from_others : (a x z : ℕ) (o : Obj) (os : List Obj) → x ≢ o.id → address_from a (os ++ (o ∷ [])) x z ≡ address_from a os x z
from_others a x z o [] ne = rw (ne_eqb x o.id ne) refl
from_others a x z o (p ∷ os) ne = ap (cond (eqb x p.id) a) (from_others (a + obj_size p) x z o os ne)

in_new : (n z : ℕ) (o : Obj) (t : Train) → times o.id (train_objects t) ≡ 0 → address_in (place n o t) o.id z ≡ spot_in n (obj_size o) (train_fills t)
in_new n z o [] e = rw (eq-eqb o.id o.id refl) refl
in_new n z o (c ∷ []) e = go (fits c o)
  where
    go : (b : Bool) → address_in (cond b (with_object o c ∷ []) (c ∷ opened n o ∷ [])) o.id z ≡ cond b (car_words * c.number + words_of c.objects) (car_words * n)
    go true = from_new (car_words * c.number) z o c.objects (omega (arith, sums, e))
    go false = from_absent (car_words * c.number) o.id (address_in (opened n o ∷ []) o.id z) c.objects (omega (arith, sums, e)) ∙ rw (eq-eqb o.id o.id refl) refl
in_new n z o (c ∷ d ∷ cs) e =
    from_absent (car_words * c.number) o.id (address_in (place n o (d ∷ cs)) o.id z) c.objects (omega (arith, sums, e)) ∙ in_new n z o (d ∷ cs) (omega (arith, sums, e))

in_absent : (x z : ℕ) (t : Train) → times x (train_objects t) ≡ 0 → address_in t x z ≡ z
in_absent x z [] e = refl
in_absent x z (c ∷ cs) e = from_absent (car_words * c.number) x (address_in cs x z) c.objects (omega (arith, sums, e)) ∙ in_absent x z cs (omega (arith, sums, e))

in_others : (n x z : ℕ) (o : Obj) (t : Train) → x ≢ o.id → address_in (place n o t) x z ≡ address_in t x z
in_others n x z o [] ne = rw (ne_eqb x o.id ne) refl
in_others n x z o (c ∷ []) ne = go (fits c o)
  where
    go : (b : Bool) → address_in (cond b (with_object o c ∷ []) (c ∷ opened n o ∷ [])) x z ≡ address_in (c ∷ []) x z
    go true = from_others (car_words * c.number) x z o c.objects ne
    go false = ap (address_from (car_words * c.number) c.objects x) (rw (ne_eqb x o.id ne) refl)
in_others n x z o (c ∷ d ∷ cs) ne = ap (address_from (car_words * c.number) c.objects x) (in_others n x z o (d ∷ cs) ne)

locate_new : (k n : ℕ) (o : Obj) (ts : Trains) → times o.id (objects ts) ≡ 0 → locate (place_at k n o ts) o.id ≡ spot_at k n (obj_size o) (fills ts)
locate_new k n o [] e = in_new n nothing o [] e
locate_new zero n o (t ∷ ts) e = in_new n (locate ts o.id) o t (omega (arith, sums, e))
locate_new (suc k) n o (t ∷ ts) e = in_absent o.id (locate (place_at k n o ts) o.id) t (omega (arith, sums, e)) ∙ locate_new k n o ts (omega (arith, sums, e))

locate_others : (k n x : ℕ) (o : Obj) (ts : Trains) → x ≢ o.id → locate (place_at k n o ts) x ≡ locate ts x
locate_others k n x o [] ne = in_others n x nothing o [] ne
locate_others zero n x o (t ∷ ts) ne = in_others n x (locate ts x) o t ne
locate_others (suc k) n x o (t ∷ ts) ne = ap (address_in t x) (locate_others k n x o ts ne)

pub stands_in_its_room : StandsInItsRoom
stands_in_its_room = record { new = locate_new; others = locate_others }
