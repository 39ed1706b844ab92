-- Laws of what the slot set keeps of each car.
use Rattle.std.specs.Prelude.{◌≡◌, ℕ, zero, suc, ◌+◌, ◌<◌, ◌≤◌, false, ◌||◌, List, [], ◌∷◌, length, take, slice_set, refl}
use Rattle.std.proofs.Common.{ap, ◌∙◌, arith, length-set}
use Rattle.std.proofs.lemmas.Bool.{eq-eqb, ne_eqb, or_right}
use Rattle.std.proofs.lemmas.List.Sums.{sum_by-cons, sum_by-set}
use Rattle.std.proofs.lemmas.List.{take_all}
use Rattle.std.specs.List.{sum_by}
use Rattle.remembered.specs.BitRow.{bit_in, Marked}
use Rattle.remembered.specs.BitRowLaws.{past_row}
use Rattle.remembered.specs.Counts.{count_le, count_more, count_none}
use Rattle.remembered.specs.PairLists.{or_none}
use Rattle.remembered.specs.SlotCars.{Car, car_at, kept_count, places}

pub kept_count_le : (row : List ℕ) → kept_count row ≤ 8192
unfolding kept_count
kept_count_le row = count_le (bit_in row) 8192

-- one bit more is one address more
pub kept_count_more : (old : List ℕ) (a : ℕ) (new : List ℕ) → a < 8192 → bit_in old a ≡ false → Marked old a new → kept_count new ≡ kept_count old + 1
unfolding kept_count
kept_count_more old a new h was m =
    count_more (bit_in old) (bit_in new) a 8192 h was (m a ∙ or_right (bit_in old a) _ (eq-eqb a a refl)) (λ k ne. m k ∙ ap (λ x. bit_in old k || x) (ne_eqb k a ne) ∙ or_none (bit_in old k))

pub kept_count_none : (row : List ℕ) → ((a : ℕ) → bit_in row a ≡ false) → kept_count row ≡ 0
unfolding kept_count
kept_count_none row h = count_none (bit_in row) 8192 (λ k l. h k)

places_all : (cars : List Car) → length cars ≡ 64 → places cars ≡ sum_by (λ (x : Car). kept_count x.kept) cars
unfolding places
places_all cars len = ap (sum_by (λ (x : Car). kept_count x.kept)) (take_all 64 cars (omega (arith, len)))

-- the places when one car is another
pub places-set : (cars : List Car) (c : ℕ) (car : Car) → length cars ≡ 64 → c < 64 → places (slice_set cars c car) + kept_count (car_at cars c).kept ≡ places cars + kept_count car.kept
places-set cars c car len h = omega (arith, places_all cars len, places_all (slice_set cars c car) (length-set cars c car ∙ len), sum_by-set (λ (x : Car). kept_count x.kept) cars c car (record { kept = []; overflown = false }) (omega (arith, len, h)))

kept_none : (n : ℕ) (cars : List Car) → ((c : ℕ) → c < n → kept_count (car_at cars c).kept ≡ 0) → sum_by (λ (x : Car). kept_count x.kept) (take n cars) ≡ 0
kept_none zero cars h = refl
kept_none (suc n) [] h = refl
kept_none (suc n) (car ∷ cars) h = sum_by-cons (λ (x : Car). kept_count x.kept) car (take n cars) ∙ omega (arith, h 0 (omega arith), kept_none n cars (λ c l. h (suc c) (omega (arith, l))))

-- no place is in use where no car keeps a pair
pub places_none : (cars : List Car) → ((c a : ℕ) → c < 64 → a < 8192 → bit_in (car_at cars c).kept a ≡ false) → places cars ≡ 0
unfolding places kept_count
places_none cars none = kept_none 64 cars (λ c h. count_none (bit_in (car_at cars c).kept) 8192 (λ a l. none c a h l))

pub kept_count-le-places : (cars : List Car) (c : ℕ) → length cars ≡ 64 → c < 64 → kept_count (car_at cars c).kept ≤ places cars
kept_count-le-places cars c len h =
    let none : Car = record { kept = []; overflown = false } in
    omega (arith, places-set cars c none len h, kept_count_none [] (λ a. past_row [] a (omega arith)))
