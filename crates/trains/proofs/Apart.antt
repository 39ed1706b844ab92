-- The cars in use are apart.
use Rattle.std.proofs.Common.{◌≡◌, ℕ, zero, suc, ◌+◌, ◌<◌, true, eqb, List, [], ◌∷◌, ◌++◌, length, Some, None, Option, refl, sym, ap, ◌∙◌, subst, arith, get_or}
use Rattle.std.proofs.lemmas.Bool.{or_left, or_right, or_from, eq-eqb}
use Rattle.std.specs.List.{AllByRecursion, IsDistinct}
use Rattle.model.specs.Trains.{one_of}
use Rattle.model.proofs.Distinct.{distinct_nil, distinct_cons}
use Rattle.trains.specs.declared.car_record.CarRecord.{CarRecord}
use Rattle.trains.specs.Apart.{CarsAreApart}
use Rattle.trains.specs.Fills.{Placement, fill_numbers}
use Rattle.trains.specs.Table.{placement, in_trains, in_use_by, TrainStands, TrainsStand, BusyStands, Stands}
use Rattle.trains.proofs.Standing.{in_both, in_train_at, earlier_place, lower_rank, used_back, length_trains}
use Rattle.trains.proofs.Known.{used_low, filled_known, in_trains_used, cars_of_train}

all_of : (P : ℕ → Type 0) (ns : List ℕ) → ((n : ℕ) → one_of n ns ≡ true → P n) → AllByRecursion P ns
all_of P [] h = tt
all_of P (n ∷ ns) h = (h n (or_left (eqb n n) (one_of n ns) (eq-eqb n n refl)), all_of P ns (λ m e. h m (or_right (eqb m n) (one_of m ns) e)))

distinct_then : (T : List CarRecord) (r p : ℕ) (ns : List ℕ) (ts : List (List ℕ)) → TrainStands T r p ns → TrainsStand T (r + 1) ts → IsDistinct eqb (in_trains ts) → IsDistinct eqb (ns ++ in_trains ts)
distinct_then T r p [] ts s u d = d
distinct_then T r p (n ∷ ns) ts s u d =
    distinct_cons n (ns ++ in_trains ts)
    (in_both n ns (in_trains ts) ∙ or_from (one_of n ns) (one_of n (in_trains ts)) (earlier_place T r (p + 1) n ns s.2 (omega (arith, s.1))) (lower_rank T (r + 1) n ts u (omega (arith, s.0))))
    (distinct_then T r (p + 1) ns ts s.2 u d)

trains_distinct : (T : List CarRecord) (r : ℕ) (ts : List (List ℕ)) → TrainsStand T r ts → IsDistinct eqb (in_trains ts)
trains_distinct T r [] s = distinct_nil
trains_distinct T r (t ∷ ts) s = distinct_then T r 0 t ts s.0 s.1 (trains_distinct T (r + 1) ts s.1)

used_distinct : (T : List CarRecord) (trains : List (List ℕ)) (busy : Option ℕ) → TrainsStand T 0 trains → BusyStands T trains busy → IsDistinct eqb (in_use_by trains busy)
used_distinct T trains None s b = trains_distinct T 0 trains s
used_distinct T trains (Some k) s b = distinct_cons k (in_trains trains) b.0 (trains_distinct T 0 trains s)

pub cars_apart : (T : List CarRecord) (trains : List (List ℕ)) (busy : Option ℕ) (p : Placement) → Stands T trains busy → placement T trains busy ≡ p → CarsAreApart p
cars_apart T trains busy p s v =
    subst CarsAreApart v (record {
      below = subst (AllByRecursion (λ n. n < 64)) (sym (used_back T trains busy)) (all_of (λ n. n < 64) (in_use_by trains busy) (λ n e. used_low T trains busy n s e));
      differ = subst (IsDistinct eqb) (sym (used_back T trains busy)) (used_distinct T trains busy s.placed s.busy_apart);
      within = λ n. omega (arith, filled_known T trains busy n s, s.within n);
      few = omega (arith, length_trains T trains, s.few);
    })

pub one_of_at : (k d : ℕ) (ns : List ℕ) → k < length ns → one_of (get_or ns k d) ns ≡ true
one_of_at k d [] l = absurd (omega (arith, l))
one_of_at zero d (n ∷ ns) l = or_left (eqb n n) (one_of n ns) (eq-eqb n n refl)
one_of_at (suc k) d (n ∷ ns) l = or_right (eqb (get_or ns k d) n) (one_of (get_or ns k d) ns) (one_of_at k d ns (omega (arith, l)))

pub train_low : (T : List CarRecord) (trains : List (List ℕ)) (busy : Option ℕ) (p : Placement) (k : ℕ) → Stands T trains busy → placement T trains busy ≡ p
    → (n : ℕ) → one_of n (fill_numbers (get_or p.trains k [])) ≡ true → n < 64
train_low T trains busy p k s v n e =
    used_low T trains busy n s (in_trains_used n trains busy (in_train_at n k trains (ap (one_of n) (cars_of_train T k trains ∙ ap (λ (q : Placement). fill_numbers (get_or q.trains k [])) v) ∙ e)))
