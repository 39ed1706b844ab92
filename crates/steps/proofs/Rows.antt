-- How full the cars of a row are, told by their numbers.
use Rattle.std.proofs.Common.{◌≡◌, ℕ, zero, suc, ◌<◌, ◌≤◌, Bool, false, cond, eqb, List, [], ◌∷◌, ◌++◌, length, get_or, refl, sym, ap, ◌∙◌, subst, arith, eq-eqb}
use Rattle.std.specs.List.{AllByRecursion, IsDistinct}
use Rattle.std.specs.Prelude.{sum_by, flat_map}
use Rattle.std.proofs.lemmas.List.{map-append}
use Rattle.std.proofs.lemmas.Bool.{or_parts}
use Rattle.std.proofs.lemmas.Map.Keys.{IsDistinct-tail}
use Rattle.model.specs.Trains.{Car, Train, Trains, car_numbers, one_of, train_objects, words_of, words_in_use, cars_in_use}
use Rattle.model.proofs.Alls.{all_with, all_left}
use Rattle.model.proofs.Distinct.{distinct_head}
use Rattle.model.proofs.RememberCars.{cars_in_row}
use Rattle.model.proofs.Totals.{sums}
use Rattle.objects.specs.Stand.{EachCar}
use Rattle.trains.specs.Fills.{CarFill, fill_numbers}
use Rattle.trains.specs.Orders.{filled_among, filled_of}
use Rattle.trains.specs.Ties.{car_fill, train_fills, fills}
use Rattle.memory.specs.Stands.{halted}

pub fills-row : (ts : Trains) → flat_map (λ (t : List CarFill). t) (fills ts) ≡ train_fills (cars_in_row ts)
fills-row [] = refl
fills-row (t ∷ ts) = ap (λ fs. train_fills t ++ fs) (fills-row ts) ∙ sym (map-append car_fill t (cars_in_row ts))

pub fill-numbers : (t : Train) → fill_numbers (train_fills t) ≡ car_numbers t
fill-numbers [] = refl
fill-numbers (c ∷ t) = ap (λ (ns : List ℕ). c.number ∷ ns) (fill-numbers t)

-- cars that have another number
pub other_numbers : (n : ℕ) (t : Train) → one_of n (car_numbers t) ≡ false → AllByRecursion (λ d. eqb d.number n ≡ false) t
other_numbers n [] e = tt
other_numbers n (c ∷ t) e = let p = or_parts (eqb n c.number) (one_of n (car_numbers t)) e in (grind (arith, p.0), other_numbers n t p.1)

pub row_filled : (t : Train) → IsDistinct eqb (car_numbers t) → AllByRecursion (λ c. filled_among c.number (train_fills t) ≡ words_of c.objects) t
row_filled [] d = tt
row_filled (c ∷ t) d = (
  ap (λ (b : Bool). cond b (words_of c.objects) (filled_among c.number (train_fills t))) (eq-eqb c.number c.number refl),
  all_with (λ d. eqb d.number c.number ≡ false) (λ d. filled_among d.number (train_fills t) ≡ words_of d.objects) (λ d. filled_among d.number (train_fills (c ∷ t)) ≡ words_of d.objects)
      (λ d p q. ap (λ (b : Bool). cond b (words_of c.objects) (filled_among d.number (train_fills t))) p ∙ q) t (other_numbers c.number t (distinct_head c.number (car_numbers t) d)) (row_filled t (IsDistinct-tail eqb c.number (car_numbers t) d)),
)

-- all words of a train, by its cars
pub train_words : (f : ℕ → ℕ) (t : Train) → AllByRecursion (λ c. f c.number ≡ words_of c.objects) t → sum_by f (car_numbers t) ≡ words_of (train_objects t)
train_words f [] h = refl
train_words f (c ∷ t) h = omega (arith, sums, h.0, train_words f t h.1)

pub all_numbers : (P : ℕ → Type 0) (t : Train) → AllByRecursion (λ c. P c.number) t → (i d : ℕ) → i < length (car_numbers t) → P (get_or (car_numbers t) i d)
all_numbers P [] h i d l = absurd (omega (arith, l))
all_numbers P (c ∷ t) h zero d l = h.0
all_numbers P (c ∷ t) h (suc i) d l = all_numbers P t h.1 i d (omega (arith, l))

-- The cars of a placement that no car is taken out of.

abbrev pub first_train : Trains → Train
first_train [] = []
first_train (t ∷ ts) = t

pub first_numbers : (ts : Trains) → fill_numbers (get_or (fills ts) 0 []) ≡ car_numbers (first_train ts)
first_numbers [] = refl
first_numbers (t ∷ ts) = fill-numbers t

pub first_in_row : (P : Car → Type 0) (ts : Trains) → AllByRecursion P (cars_in_row ts) → AllByRecursion P (first_train ts)
first_in_row P [] h = tt
first_in_row P (t ∷ ts) h = all_left P t (cars_in_row ts) h

pub first_of_each : (P : Car → Type 0) (ts : Trains) → EachCar P ts → AllByRecursion P (first_train ts)
first_of_each P [] h = tt
first_of_each P (t ∷ ts) h = h.0

pub halted_filled : (ts : Trains) → IsDistinct eqb (car_numbers (cars_in_row ts)) → AllByRecursion (λ c. filled_of c.number (halted ts) ≡ words_of c.objects) (cars_in_row ts)
halted_filled ts d =
    subst (λ (fs : List CarFill). AllByRecursion (λ c. filled_among c.number fs ≡ words_of c.objects) (cars_in_row ts)) (sym (fills-row ts)) (row_filled (cars_in_row ts) d)

pub length-car_numbers : (t : Train) → length (car_numbers t) ≡ length t
length-car_numbers [] = refl
length-car_numbers (c ∷ t) = grind (arith, length-car_numbers t)

pub first_few : (ts : Trains) → length (car_numbers (first_train ts)) ≤ cars_in_use ts
first_few [] = omega arith
first_few (t ∷ ts) = omega (arith, sums, length-car_numbers t)

pub first_words : (ts : Trains) → words_of (train_objects (first_train ts)) ≤ words_in_use ts
first_words [] = omega arith
first_words (t ∷ ts) = omega (arith, sums)
