-- Cars and their slots by the ranks of their trains.
use Rattle.std.proofs.Common.{◌≡◌, ℕ, zero, suc, ◌+◌, ◌*◌, ◌/◌, ◌<◌, ◌≤◌, Bool, true, cond, List, [], ◌∷◌, length, get_or, refl, ap, ◌∙◌, arith}
use Rattle.std.specs.List.{AllByRecursion}
use Rattle.std.proofs.lemmas.List.{length-map}
use Rattle.std.proofs.lemmas.List.Sums.{sum_by-cons}
use Rattle.layout.specs.declared.Shape.{Shape}
use Rattle.layout.specs.ShapeTable.{ShapeTable, Lawful}
use Rattle.model.specs.Notes.{Slot, object_slots, train_slots}
use Rattle.model.specs.Trains.{Car, Train, Trains, car_words, car_numbers, one_of, words_of}
use Rattle.model.proofs.Alls.{all_map, all_++, all_with}
use Rattle.model.proofs.Distinct.{one_of_here, one_of_there}
use Rattle.model.proofs.Overlooked.{rises_within}
use Rattle.model.proofs.RememberCars.{cars_in_row, Numbered, numbered_apart, numbered_right}
use Rattle.objects.specs.Lies.{CarStands}
use Rattle.objects.specs.Stand.{TrainsStand, EachCar}
use Rattle.objects.proofs.Places.{each_row}
use Rattle.slots.specs.Slots.{addresses}
use Rattle.slots.proofs.Walking.{slots_rise}
use Rattle.trains.specs.Fills.{CarFill, TrainFill, fill_numbers, cars_of}
use Rattle.trains.specs.Orders.{rank_from, cars_before}
use Rattle.trains.specs.Ties.{fills}
use Rattle.steps.proofs.Rows.{fill-numbers}
use Rattle.steps.proofs.ClaimingRequests.{AtRank, AtRanks}

-- Cars of the trains before a rank.

before_none : (ts : List TrainFill) → cars_before 0 ts ≡ 0
before_none [] = refl
before_none (t ∷ ts) = refl

pub record TrainBefore (ts : List TrainFill) (k : ℕ) : Type 0 where
  pub more : cars_before (k + 1) ts ≡ cars_before k ts + length (fill_numbers (get_or ts k []))
  pub within : cars_before (k + 1) ts ≤ cars_of ts

pub train_before : (ts : List TrainFill) (k : ℕ) → k < length ts → TrainBefore ts k
train_before [] k l = absurd (omega arith)
train_before (t ∷ ts) zero l =
    let e : zero + 1 ≡ suc zero = omega arith in
    record {
      more = ap (λ k. cars_before k (t ∷ ts)) e ∙ omega (arith, before_none ts, length-map {A = CarFill} {B = ℕ} t (λ c. c.number));
      within = omega (arith, ap (λ k. cars_before k (t ∷ ts)) e, before_none ts, sum_by-cons {X = TrainFill} length t ts);
    }
train_before (t ∷ ts) (suc k) l =
    let r = train_before ts k (omega (arith, l)) in
    let e : suc k + 1 ≡ suc (k + 1) = omega arith in
    record {
      more = ap (λ k. cars_before k (t ∷ ts)) e ∙ omega (arith, r.more);
      within = omega (arith, ap (λ k. cars_before k (t ∷ ts)) e, r.within, sum_by-cons {X = TrainFill} length t ts);
    }

-- The rank of each car.

abbrev pub RanksAre : (rank : ℕ → ℕ) → ℕ → Trains → Type 0
RanksAre rank k [] = Unit {0}
RanksAre rank k (t ∷ ts) = AllByRecursion (λ c. rank c.number ≡ k) t × RanksAre rank (k + 1) ts

own_numbers : (t : Train) → AllByRecursion (λ c. one_of c.number (car_numbers t) ≡ true) t
own_numbers [] = tt
own_numbers (c ∷ t) = (
  one_of_here c.number (car_numbers t),
  all_map (λ d. one_of d.number (car_numbers t) ≡ true) (λ d. one_of d.number (car_numbers (c ∷ t)) ≡ true) (λ d p. one_of_there d.number c.number (car_numbers t) p) t (own_numbers t),
)

ranks_same : (rank other : ℕ → ℕ) (k : ℕ) (ts : Trains) → RanksAre rank k ts → EachCar (λ c. other c.number ≡ rank c.number) ts → RanksAre other k ts
ranks_same rank other k [] r e = tt
ranks_same rank other k (t ∷ ts) r e =
    (all_with (λ c. rank c.number ≡ k) (λ c. other c.number ≡ rank c.number) (λ c. other c.number ≡ k) (λ c p q. q ∙ p) t r.0 e.0, ranks_same rank other (k + 1) ts r.1 e.1)

pub ranks_are : (k : ℕ) (ts : Trains) → Numbered (cars_in_row ts) → RanksAre (λ n. rank_from k n (fills ts)) k ts
ranks_are k [] num = tt
ranks_are k (t ∷ ts) num = (
  all_map (λ c. one_of c.number (car_numbers t) ≡ true) (λ c. rank_from k c.number (fills (t ∷ ts)) ≡ k)
      (λ c p. ap (λ (b : Bool). cond b k (rank_from (k + 1) c.number (fills ts))) (ap (one_of c.number) (fill-numbers t) ∙ p)) t (own_numbers t),
  ranks_same (λ n. rank_from (k + 1) n (fills ts)) (λ n. rank_from k n (fills (t ∷ ts))) (k + 1) ts (ranks_are (k + 1) ts (numbered_right t (cars_in_row ts) num))
      (each_row (λ c. rank_from k c.number (fills (t ∷ ts)) ≡ rank_from (k + 1) c.number (fills ts)) ts
      (all_map (λ c. one_of c.number (car_numbers (cars_in_row ts)) ≡ true) (λ c. rank_from k c.number (fills (t ∷ ts)) ≡ rank_from (k + 1) c.number (fills ts))
      (λ c p. ap (λ (b : Bool). cond b k (rank_from (k + 1) c.number (fills ts))) (ap (one_of c.number) (fill-numbers t) ∙ numbered_apart t (cars_in_row ts) num c.number p))
      (cars_in_row ts) (own_numbers (cars_in_row ts)))),
)

-- The rank of each slot's car.

of_addresses : (P : ℕ → Type 0) (ss : List Slot) → AllByRecursion P (addresses ss) → AllByRecursion (λ s. P s.address) ss
of_addresses P [] p = tt
of_addresses P (s ∷ ss) p = (p.0, of_addresses P ss p.1)

pub all_addresses : (P : ℕ → Type 0) (ss : List Slot) → AllByRecursion (λ s. P s.address) ss → (i d : ℕ) → i < length (addresses ss) → P (get_or (addresses ss) i d)
all_addresses P [] p i d l = absurd (omega (arith, l))
all_addresses P (s ∷ ss) p zero d l = p.0
all_addresses P (s ∷ ss) p (suc i) d l = all_addresses P ss p.1 i d (omega (arith, l))

module _ (M : ShapeTable) (law : Lawful M) (code : Shape → ℕ) (at : ℕ → ℕ) (words : List ℕ) (rank : ℕ → ℕ) where
  car_at_rank : (n k : ℕ) (c : Car) → CarStands M code at words c → rank c.number ≡ k → AllByRecursion (AtRank rank k) (object_slots M n (car_words * c.number) c.objects)
  car_at_rank n k c s e =
      let ss = object_slots M n (car_words * c.number) c.objects in
      let low = car_words * c.number in
      let high = car_words * c.number + words_of c.objects in
      all_map (λ (s : Slot). (low ≤ s.address) × (s.address < high)) (AtRank rank k)
      (λ s p. let q : s.address / 128 ≡ c.number = omega (arith, p.0, p.1, here) in ap rank q ∙ e) ss
      (of_addresses (λ x. (low ≤ x) × (x < high)) ss (rises_within low high (addresses ss) (slots_rise M code at words law n low c.objects s.lies)))
    where
      here : words_of c.objects ≤ 128
      here = s.within

  pub train_at_rank : (n k : ℕ) (t : Train) → AllByRecursion (CarStands M code at words) t → AllByRecursion (λ c. rank c.number ≡ k) t → AllByRecursion (AtRank rank k) (train_slots M n t)
  train_at_rank n k [] s e = tt
  train_at_rank n k (c ∷ cs) s e =
      all_++ (AtRank rank k) (object_slots M n (car_words * c.number) c.objects) (train_slots M (n + 1) cs) (car_at_rank n k c s.0 e.0) (train_at_rank (n + 1) k cs s.1 e.1)

  pub trains_at_ranks : (n k : ℕ) (ts : Trains) → TrainsStand M code at words ts → RanksAre rank k ts → AtRanks rank M n k ts
  trains_at_ranks n k [] s e = tt
  trains_at_ranks n k (t ∷ ts) s e = (train_at_rank n k t s.0 e.0, trains_at_ranks (n + length t) (k + 1) ts s.1 e.1)
