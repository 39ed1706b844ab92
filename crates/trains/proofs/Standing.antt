-- Lists of cars whose ranks and places are those of the table.
use Rattle.std.proofs.Common.{get_or, ◌≡◌, ℕ, zero, suc, ◌+◌, ◌<◌, ◌≤◌, ◌≢◌, Bool, true, false, ◌||◌, eqb, List, [], ◌∷◌, ◌++◌, length, Some, None, Option, inl, inr, option_map, length-append, refl, sym, ap, ◌∙◌, arith, cond, flat_map, option_to_list}
use Rattle.std.proofs.lemmas.Bool.{or_left, or_right, eqb-true, or_parts, or_from, cases_Bool, both_ways, ne_eqb}
use Rattle.std.proofs.lemmas.List.Folds.{list_any-append}
use Rattle.std.proofs.lemmas.List.{map-append}
use Rattle.model.specs.Trains.{one_of, most_trains}
use Rattle.trains.specs.declared.car_record.CarRecord.{CarRecord}
use Rattle.trains.specs.Fills.{CarFill, TrainFill, fill_numbers, numbers_of, used_numbers}
use Rattle.trains.specs.Orders.{rank_from, filled_among, order_in, cars_before}
use Rattle.trains.specs.Table.{record_at, fill_of, train_fill, all_fills, placement, in_trains, in_use_by, TrainStands, TrainsStand}

pub numbers_back : (T : List CarRecord) (ns : List ℕ) → fill_numbers (train_fill T ns) ≡ ns
numbers_back T [] = refl
numbers_back T (n ∷ ns) = ap (λ ms. n ∷ ms) (numbers_back T ns)

pub all_numbers_back : (T : List CarRecord) (trains : List (List ℕ)) → numbers_of (all_fills T trains) ≡ in_trains trains
all_numbers_back T [] = refl
all_numbers_back T (t ∷ ts) = ap (λ ns. ns ++ numbers_of (all_fills T ts)) (numbers_back T t) ∙ ap (λ ns. t ++ ns) (all_numbers_back T ts)

pub used_back : (T : List CarRecord) (trains : List (List ℕ)) (busy : Option ℕ) → used_numbers (placement T trains busy) ≡ in_use_by trains busy
used_back T trains None = all_numbers_back T trains
used_back T trains (Some b) = ap (λ ns. b ∷ ns) (all_numbers_back T trains)

pub in_both : (n : ℕ) (ns ms : List ℕ) → one_of n (ns ++ ms) ≡ (one_of n ns || one_of n ms)
in_both n ns ms = list_any-append (λ m. eqb n m) ns ms

pub in_train_at : (n k : ℕ) (trains : List (List ℕ)) → one_of n (get_or trains k []) ≡ true → one_of n (in_trains trains) ≡ true
in_train_at n k [] e = e
in_train_at n zero (t ∷ ts) e = in_both n t (in_trains ts) ∙ or_left (one_of n t) (one_of n (in_trains ts)) e
in_train_at n (suc k) (t ∷ ts) e = in_both n t (in_trains ts) ∙ or_right (one_of n t) (one_of n (in_trains ts)) (in_train_at n k ts e)

pub other_rank : (T : List CarRecord) (r p n : ℕ) (ns : List ℕ) → TrainStands T r p ns → (record_at T n).rank ≢ r → one_of n ns ≡ false
other_rank T r p n [] s ne = refl
other_rank T r p n (m ∷ ns) s ne = or_from (eqb n m) (one_of n ns) (ne_eqb n m (λ e. ne (ap (λ k. (record_at T k).rank) e ∙ s.0))) (other_rank T r (p + 1) n ns s.2 ne)

pub earlier_place : (T : List CarRecord) (r p n : ℕ) (ns : List ℕ) → TrainStands T r p ns → (record_at T n).place < p → one_of n ns ≡ false
earlier_place T r p n [] s l = refl
earlier_place T r p n (m ∷ ns) s l =
    or_from (eqb n m) (one_of n ns) (ne_eqb n m (λ e. let q = ap (λ k. (record_at T k).place) e in omega (arith, q, s.1))) (earlier_place T r (p + 1) n ns s.2 (omega arith))

pub lower_rank : (T : List CarRecord) (r n : ℕ) (trains : List (List ℕ)) → TrainsStand T r trains → (record_at T n).rank < r → one_of n (in_trains trains) ≡ false
lower_rank T r n [] s l = refl
lower_rank T r n (t ∷ ts) s l =
    in_both n t (in_trains ts) ∙ or_from (one_of n t) (one_of n (in_trains ts)) (other_rank T r 0 n t s.0 (λ e. omega (arith, e))) (lower_rank T (r + 1) n ts s.1 (omega arith))

-- what a car's record says where it is in a train
pub record PlaceIn (T : List CarRecord) (r p n : ℕ) (ns : List ℕ) : Type 0 where
  pub rank : (record_at T n).rank ≡ r
  pub order : (record_at T n).place ≡ p + order_in n ns
  pub inside : order_in n ns < length ns

pub place_in_train : (T : List CarRecord) (r p n : ℕ) (ns : List ℕ) → TrainStands T r p ns → one_of n ns ≡ true → PlaceIn T r p n ns
place_in_train T r p n [] s e = absurd (both_ways false refl e)
place_in_train T r p n (m ∷ ns) s e = go (eqb n m) refl e (place_in_train T r (p + 1) n ns s.2)
  where
    go : (b : Bool) → eqb n m ≡ b → (b || one_of n ns) ≡ true → (one_of n ns ≡ true → PlaceIn T r (p + 1) n ns) → PlaceIn T r p n (m ∷ ns)
    go true q k more =
        let same = eqb-true n m q in
        record { rank = ap (λ k. (record_at T k).rank) same ∙ s.0; order = rw q (omega (arith, ap (λ k. (record_at T k).place) same, s.1)); inside = rw q (omega arith) }
    go false q k more =
        let i = more k in
        record { rank = i.rank; order = rw q (omega (arith, i.order)); inside = rw q (omega (arith, i.inside)) }

pub order_absent : (n : ℕ) (ns : List ℕ) → one_of n ns ≡ false → order_in n ns ≡ length ns
order_absent n [] e = refl
order_absent n (m ∷ ns) e = let k = or_parts (eqb n m) (one_of n ns) e in rw k.0 (omega (arith, order_absent n ns k.1))

pub order_left : (n : ℕ) (ns ms : List ℕ) → one_of n ns ≡ true → order_in n (ns ++ ms) ≡ order_in n ns
order_left n [] ms e = absurd (both_ways false refl e)
order_left n (m ∷ ns) ms e = go (eqb n m) e (order_left n ns ms)
  where
    go : (b : Bool) → (b || one_of n ns) ≡ true → (one_of n ns ≡ true → order_in n (ns ++ ms) ≡ order_in n ns) → ◌≡◌ {A = ℕ} (cond b 0 (suc (order_in n (ns ++ ms)))) (cond b 0 (suc (order_in n ns)))
    go true k more = refl
    go false k more = ap suc (more k)

pub order_right : (n : ℕ) (ns ms : List ℕ) → one_of n ns ≡ false → order_in n (ns ++ ms) ≡ length ns + order_in n ms
order_right n [] ms e = omega arith
order_right n (m ∷ ns) ms e = let k = or_parts (eqb n m) (one_of n ns) e in rw k.0 (omega (arith, order_right n ns ms k.1))

pub rank_found : (T : List CarRecord) (r n : ℕ) (trains : List (List ℕ)) → TrainsStand T r trains → one_of n (in_trains trains) ≡ true → rank_from r n (all_fills T trains) ≡ (record_at T n).rank
rank_found T r n [] s e = absurd (both_ways false refl e)
rank_found T r n (t ∷ ts) s e = rw (numbers_back T t) (go (one_of n t) refl (sym (in_both n t (in_trains ts)) ∙ e) (rank_found T (r + 1) n ts s.1))
  where
    go : (b : Bool) → one_of n t ≡ b → (b || one_of n (in_trains ts)) ≡ true → (one_of n (in_trains ts) ≡ true → rank_from (r + 1) n (all_fills T ts) ≡ (record_at T n).rank)
        → ◌≡◌ {A = ℕ} (cond b r (rank_from (r + 1) n (all_fills T ts))) (record_at T n).rank
    go true q k more = sym (place_in_train T r 0 n t s.0 q).rank
    go false q k more = more k

pub rank_absent : (T : List CarRecord) (r n : ℕ) (trains : List (List ℕ)) → one_of n (in_trains trains) ≡ false → rank_from r n (all_fills T trains) ≡ most_trains
rank_absent T r n [] e = refl
rank_absent T r n (t ∷ ts) e =
    let k = or_parts (one_of n t) (one_of n (in_trains ts)) (sym (in_both n t (in_trains ts)) ∙ e) in
    rw (numbers_back T t) (rw k.0 (rank_absent T (r + 1) n ts k.1))

pub filled_found : (T : List CarRecord) (n : ℕ) (ns : List ℕ) → one_of n ns ≡ true → filled_among n (train_fill T ns) ≡ (record_at T n).filled
filled_found T n [] e = absurd (both_ways false refl e)
filled_found T n (m ∷ ns) e = go (eqb n m) refl e (filled_found T n ns)
  where
    go : (b : Bool) → eqb n m ≡ b → (b || one_of n ns) ≡ true → (one_of n ns ≡ true → filled_among n (train_fill T ns) ≡ (record_at T n).filled)
        → ◌≡◌ {A = ℕ} (cond b (record_at T m).filled (filled_among n (train_fill T ns))) (record_at T n).filled
    go true q k more = ap (λ j. (record_at T j).filled) (sym (eqb-true n m q))
    go false q k more = more k

pub filled_absent : (T : List CarRecord) (n : ℕ) (ns : List ℕ) → one_of n ns ≡ false → filled_among n (train_fill T ns) ≡ 0
filled_absent T n [] e = refl
filled_absent T n (m ∷ ns) e = let k = or_parts (eqb n m) (one_of n ns) e in rw k.0 (filled_absent T n ns k.1)

pub all_in_order : (T : List CarRecord) (trains : List (List ℕ)) → flat_map (λ (t : List CarFill). t) (all_fills T trains) ≡ train_fill T (in_trains trains)
all_in_order T [] = refl
all_in_order T (t ∷ ts) = ap (λ (u : List CarFill). train_fill T t ++ u) (all_in_order T ts) ∙ sym (map-append (fill_of T) t (in_trains ts))

pub in_use_order : (T : List CarRecord) (trains : List (List ℕ)) (busy : Option ℕ)
    → option_to_list (option_map (fill_of T) busy) ++ flat_map (λ (t : List CarFill). t) (all_fills T trains) ≡ train_fill T (in_use_by trains busy)
in_use_order T trains None = all_in_order T trains
in_use_order T trains (Some b) = ap (λ (u : List CarFill). fill_of T b ∷ u) (all_in_order T trains)

pub length_train : (T : List CarRecord) (ns : List ℕ) → length (train_fill T ns) ≡ length ns
length_train T [] = refl
length_train T (n ∷ ns) = ap suc (length_train T ns)

pub length_trains : (T : List CarRecord) (trains : List (List ℕ)) → length (all_fills T trains) ≡ length trains
length_trains T [] = refl
length_trains T (t ∷ ts) = ap suc (length_trains T ts)

-- a car that is in a train stands behind those of the trains before, and before those of the trains behind
pub record OrderIn (T : List CarRecord) (n k : ℕ) (trains : List (List ℕ)) : Type 0 where
  pub order : order_in n (in_trains trains) ≡ cars_before k (all_fills T trains) + (record_at T n).place
  pub inside : order_in n (in_trains trains) < cars_before (suc k) (all_fills T trains)

pub order_found : (T : List CarRecord) (r k n : ℕ) (trains : List (List ℕ)) → TrainsStand T r trains → one_of n (in_trains trains) ≡ true → (record_at T n).rank ≡ r + k → OrderIn T n k trains
order_found T r k n [] s e q = absurd (both_ways false refl e)
order_found T r zero n (t ∷ ts) s e q =
    let here : one_of n t ≡ true = elim (cases_Bool (one_of n t)) [
      | inl p ↦ p
      | inr p ↦ absurd (both_ways (one_of n (in_trains ts)) (lower_rank T (r + 1) n ts s.1 (omega (arith, q))) (sym (ap (λ b. b || one_of n (in_trains ts)) p) ∙ (sym (in_both n t (in_trains ts)) ∙ e)))
    ] in
    let i = place_in_train T r 0 n t s.0 here in
    record { order = omega (arith, order_left n t (in_trains ts) here, i.order); inside = omega (arith, order_left n t (in_trains ts) here, i.inside, length_train T t) }
order_found T r (suc k) n (t ∷ ts) s e q =
    let out : one_of n t ≡ false = other_rank T r 0 n t s.0 (λ z. omega (arith, z, q)) in
    let i = order_found T (r + 1) k n ts s.1 (sym (ap (λ b. b || one_of n (in_trains ts)) out) ∙ (sym (in_both n t (in_trains ts)) ∙ e)) (omega (arith, q)) in
    record { order = omega (arith, order_right n t (in_trains ts) out, i.order, length_train T t); inside = omega (arith, order_right n t (in_trains ts) out, i.inside, length_train T t) }

pub all_before : (T : List CarRecord) (k : ℕ) (trains : List (List ℕ)) → length trains ≤ k → cars_before k (all_fills T trains) ≡ length (in_trains trains)
all_before T k [] l = refl
all_before T zero (t ∷ ts) l = absurd (omega (arith, l))
all_before T (suc k) (t ∷ ts) l = omega (arith, length_train T t, all_before T k ts (omega (arith, l)), length-append t (in_trains ts))

pub before_more : (j k : ℕ) (ts : List TrainFill) → j ≤ k → cars_before j ts ≤ cars_before k ts
before_more j k [] l = omega arith
before_more zero k (t ∷ ts) l = omega arith
before_more (suc j) zero (t ∷ ts) l = absurd (omega (arith, l))
before_more (suc j) (suc k) (t ∷ ts) l = omega (arith, before_more j k ts (omega (arith, l)))
