-- What is read of a table.
use Rattle.std.proofs.Common.{◌≡◌, ℕ, zero, suc, ◌+◌, ◌<◌, ◌≤◌, Bool, true, false, List, [], ◌∷◌, length, Some, None, Option, inl, inr, refl, sym, ap, ◌∙◌, subst, arith, replicate, get_or, ◌-◌, option_map, option_and_then, slice_get, cond, sum_by, ltb, leb, eqb, ◌||◌}
use Rattle.std.proofs.lemmas.Bool.{cases_Bool, or_from, or_left, or_right, eq-eqb, leb-true, leb-false, le-leb, lt-leb, both_ways, eqb-true, cases_lt, lt-ltb, le-ltb}
use Rattle.std.specs.Bool.{then_some}
use Rattle.std.specs.List.{range_with_len}
use Rattle.std.proofs.lemmas.List.Sums.{prefix_len_is, prefix_len_stops, sum_by-cons}
use Rattle.std.proofs.lemmas.List.FromFn.{length-range_with_len, get_or-range_with_len}
use Rattle.model.specs.Trains.{one_of, most_trains, lowest_free}
use Rattle.trains.specs.declared.car_record.CarRecord.{CarRecord}
use Rattle.trains.specs.Fills.{CarFill, TrainFill, Placement, fill_numbers, cars_of, free_car, used_numbers, room_in, room_at}
use Rattle.trains.specs.Orders.{filled_of, order_in, cars_before, stands_later}
use Rattle.trains.specs.Table.{record_at, free_record, fill_of, train_fill, all_fills, placement, in_trains, in_use_by, TrainsStand, Stands, Known, last_of, last_at}
use Rattle.trains.proofs.Standing.{numbers_back, all_numbers_back, used_back, in_both, rank_found, rank_absent, filled_found, filled_absent, in_use_order, length_train, length_trains, order_found, order_absent, all_before, before_more, place_in_train}

pub all_free : (k n : ℕ) → record_at (replicate k free_record) n ≡ free_record
all_free zero n = refl
all_free (suc k) zero = refl
all_free (suc k) (suc n) = all_free k n

-- the table of a space whose cars are all free
pub stands_new : (x : CarRecord) → x ≡ free_record → Stands (replicate 64 x) [] None
stands_new x e = rw e (record {
  wide = refl;
  few = omega arith;
  used = λ n. ap (λ (r : CarRecord). r.in_use) (all_free 64 n);
  free = λ n q. all_free 64 n;
  placed = tt;
  busy_apart = tt;
  within = λ n. let f = ap (λ (r : CarRecord). r.filled) (all_free 64 n) in omega (arith, f);
})

pub past_end : (T : List CarRecord) (n : ℕ) → length T ≤ n → record_at T n ≡ free_record
past_end [] n l = refl
past_end (x ∷ T) zero l = absurd (omega (arith, l))
past_end (x ∷ T) (suc n) l = past_end T n (omega (arith, l))

-- of a car that is in no train
absent : (T : List CarRecord) (trains : List (List ℕ)) (busy : Option ℕ) (n : ℕ) → Stands T trains busy → one_of n (in_trains trains) ≡ false
    → ((record_at T n).rank ≡ most_trains) × ((record_at T n).place ≡ 0)
absent T trains None n s e = let f = s.free n e in (ap (λ (r : CarRecord). r.rank) f, ap (λ (r : CarRecord). r.place) f)
absent T trains (Some b) n s e = go (eqb n b) refl
  where
    go : (d : Bool) → eqb n b ≡ d → ((record_at T n).rank ≡ most_trains) × ((record_at T n).place ≡ 0)
    go true q = let i = eqb-true n b q in rw i (s.busy_apart.1, s.busy_apart.2)
    go false q = let f = s.free n (or_from (eqb n b) (one_of n (in_trains trains)) q e) in (ap (λ (r : CarRecord). r.rank) f, ap (λ (r : CarRecord). r.place) f)

rank_low : (T : List CarRecord) (r n : ℕ) (trains : List (List ℕ)) → TrainsStand T r trains → one_of n (in_trains trains) ≡ true → r + length trains ≤ 8 → (record_at T n).rank < 8
rank_low T r n [] s e l = absurd (both_ways false refl e)
rank_low T r n (t ∷ ts) s e l = elim (cases_Bool (one_of n t)) [
  | inl p ↦ let i = (place_in_train T r 0 n t s.0 p).rank in omega (arith, i, l)
  | inr p ↦ rank_low T (r + 1) n ts s.1 (sym (ap (λ b. b || one_of n (in_trains ts)) p) ∙ (sym (in_both n t (in_trains ts)) ∙ e)) (omega (arith, l))
]

pub in_trains_used : (n : ℕ) (trains : List (List ℕ)) (busy : Option ℕ) → one_of n (in_trains trains) ≡ true → one_of n (in_use_by trains busy) ≡ true
in_trains_used n trains None e = e
in_trains_used n trains (Some b) e = or_right (eqb n b) (one_of n (in_trains trains)) e

pub filled_known : (T : List CarRecord) (trains : List (List ℕ)) (busy : Option ℕ) (n : ℕ) → Stands T trains busy → (record_at T n).filled ≡ filled_of n (placement T trains busy)
filled_known T trains busy n s = rw (in_use_order T trains busy) (elim (cases_Bool (one_of n (in_use_by trains busy))) [
  | inl p ↦ sym (filled_found T n (in_use_by trains busy) p)
  | inr p ↦ ap (λ (r : CarRecord). r.filled) (s.free n p) ∙ sym (filled_absent T n (in_use_by trains busy) p)
])

pub known : (T : List CarRecord) (trains : List (List ℕ)) (busy : Option ℕ) (n : ℕ) → Stands T trains busy → Known n (record_at T n) (placement T trains busy)
known T trains busy n s = elim (cases_Bool (one_of n (in_trains trains))) [
  | inl p ↦
      let low = rank_low T 0 n trains s.placed p (omega (arith, s.few)) in
      let i = order_found T 0 (record_at T n).rank n trains s.placed p (omega arith) in
      record {
        used = s.used n ∙ ap (one_of n) (sym (used_back T trains busy));
        rank = sym (rank_found T 0 n trains s.placed p);
        filled = filled_known T trains busy n s;
        low = omega (arith, low);
        order = ap (order_in n) (all_numbers_back T trains) ∙ i.order;
        inside = λ h. rw (all_numbers_back T trains) i.inside;
      }
  | inr p ↦
      let a = absent T trains busy n s p in
      record {
        used = s.used n ∙ ap (one_of n) (sym (used_back T trains busy));
        rank = a.0 ∙ sym (rank_absent T 0 n trains p);
        filled = filled_known T trains busy n s;
        low = omega (arith, a.0);
        order = ap (order_in n) (all_numbers_back T trains) ∙ (order_absent n (in_trains trains) p ∙ (sym (all_before T 8 trains s.few)
            ∙ (ap (λ k. cars_before k (all_fills T trains)) (sym a.0) ∙ let z = a.1 in omega (arith, z))));
        inside = λ h. absurd (omega (arith, a.0, h));
      }
]

at_range : (k i : ℕ) → i < k → get_or (range_with_len 0 k) i 0 ≡ i
at_range k i l = omega (arith, get_or-range_with_len 0 k i 0 l)

pub known_at : (T : List CarRecord) (trains : List (List ℕ)) (busy : Option ℕ) (p : Placement) (n : ℕ) (r : CarRecord) → Stands T trains busy → placement T trains busy ≡ p → record_at T n ≡ r → Known n r p
known_at T trains busy p n r s v e = subst (λ (q : CarRecord). Known n q p) e (subst (λ (q : Placement). Known n (record_at T n) q) v (known T trains busy n s))

-- the lowest free car is the first number that is not used
pub lowest_is : (used : List ℕ) (f : ℕ) → f ≤ 64 → ((k : ℕ) → k < f → one_of k used ≡ true) → (f < 64 → one_of f used ≡ false) → f ≡ lowest_free used
lowest_is used f l below here =
    let n = length-range_with_len 0 64 in
    sym (prefix_len_is (λ m. one_of m used) (range_with_len 0 64) f 0 (omega (arith, l, n))
    (λ k h. subst (λ m. one_of m used ≡ true) (sym (at_range 64 k (omega (arith, h, l)))) (below k h))
    (λ h. let g : f < 64 = omega (arith, h, n) in subst (λ m. one_of m used ≡ false) (sym (at_range 64 f g)) (here g)))

-- which of two cars is later, by their records
module _ (p : Placement) (car than : ℕ) (r q : CarRecord) (k : Known car r p) (l : Known than q p) where
  pub later_rank : q.rank < r.rank → stands_later car than p.trains ≡ true
  later_rank h = let m = before_more (suc q.rank) r.rank p.trains h in lt-ltb _ _ (omega (arith, k.order, l.inside (omega (arith, h, k.low)), m))

  pub earlier_rank : r.rank < q.rank → stands_later car than p.trains ≡ false
  earlier_rank h = let m = before_more (suc r.rank) q.rank p.trains h in le-ltb _ _ (omega (arith, l.order, k.inside (omega (arith, h, l.low)), m))

  pub same_rank : q.rank ≡ r.rank → ltb q.place r.place ≡ stands_later car than p.trains
  same_rank e = let same = ap (λ z. cars_before z p.trains) e in elim (cases_lt q.place r.place) [
    | inl h ↦ lt-ltb _ _ h ∙ sym (lt-ltb _ _ (omega (arith, k.order, l.order, same, h)))
    | inr h ↦ le-ltb _ _ h ∙ sym (le-ltb _ _ (omega (arith, k.order, l.order, same, h)))
  ]

pub any_default : {X : Type 0} → (xs : List X) (k : ℕ) (d e : X) → k < length xs → get_or xs k d ≡ get_or xs k e
any_default [] k d e l = absurd (omega (arith, l))
any_default (x ∷ xs) zero d e l = refl
any_default (x ∷ xs) (suc k) d e l = any_default xs k d e (omega (arith, l))

-- the train of a rank
pub cars_of_train : (T : List CarRecord) (k : ℕ) (trains : List (List ℕ)) → get_or trains k [] ≡ fill_numbers (get_or (all_fills T trains) k [])
cars_of_train T k [] = refl
cars_of_train T zero (t ∷ ts) = sym (numbers_back T t)
cars_of_train T (suc k) (t ∷ ts) = cars_of_train T k ts

pub train_is : (T : List CarRecord) (trains : List (List ℕ)) (busy : Option ℕ) (p : Placement) (k : ℕ) (x : List ℕ) → placement T trains busy ≡ p → k < length p.trains
    → x ≡ get_or trains k x → x ≡ fill_numbers (get_or p.trains k [])
train_is T trains busy p k x v l e =
    let few = ap (λ (q : Placement). length q.trains) v in
    e ∙ (any_default trains k x [] (omega (arith, l, few, length_trains T trains)) ∙ (cars_of_train T k trains ∙ ap (λ (q : Placement). fill_numbers (get_or q.trains k [])) v))

pub cars_is : (T : List CarRecord) (trains : List (List ℕ)) → cars_of (all_fills T trains) ≡ sum_by length trains
cars_is T [] = refl
cars_is T (t ∷ ts) = omega (arith, length_train T t, cars_is T ts, sum_by-cons {X = List ℕ} length t ts, sum_by-cons {X = TrainFill} length (train_fill T t) (all_fills T ts))

pub lowest_in : (T : List CarRecord) (trains : List (List ℕ)) (busy : Option ℕ) (p : Placement) (f : ℕ) → Stands T trains busy → placement T trains busy ≡ p → f ≤ 64
    → ((k : ℕ) → k < f → (record_at T k).in_use ≡ true) → (f < 64 → (record_at T f).in_use ≡ false) → f ≡ free_car p
unfolding free_car
lowest_in T trains busy p f s v l below here =
    lowest_is (used_numbers p) f l (λ k h. ap (λ q. one_of k (used_numbers q)) (sym v) ∙ (ap (one_of k) (used_back T trains busy) ∙ (sym (s.used k) ∙ below k h)))
    (λ h. ap (λ q. one_of f (used_numbers q)) (sym v) ∙ (ap (one_of f) (used_back T trains busy) ∙ (sym (s.used f) ∙ here h)))

-- The last car of a train.

pub last_get : (ns : List ℕ) → slice_get ns (length ns - 1) ≡ last_of ns
last_get [] = refl
last_get (n ∷ []) = refl
last_get (n ∷ m ∷ ns) = let e : length (n ∷ m ∷ ns) - 1 ≡ suc (length (m ∷ ns) - 1) = omega arith in rw e (last_get (m ∷ ns))

pub last_past : (k : ℕ) (trains : List (List ℕ)) → length trains ≤ k → last_at k trains ≡ None
last_past k [] l = refl
last_past zero (t ∷ ts) l = absurd (omega (arith, l))
last_past (suc k) (t ∷ ts) l = last_past k ts (omega (arith, l))

pub last_is : (k : ℕ) (trains : List (List ℕ)) → last_of (get_or trains k []) ≡ last_at k trains
last_is k [] = refl
last_is zero (t ∷ ts) = refl
last_is (suc k) (t ∷ ts) = last_is k ts

pub last_in : (n : ℕ) (ns : List ℕ) → last_of ns ≡ Some n → one_of n ns ≡ true
last_in n [] e = absurd (let z : ◌≡◌ {A = ℕ} 0 1 = cc in omega arith)
last_in n (m ∷ []) e = let i : m ≡ n = cc in or_left (eqb n m) false (eq-eqb n m (sym i))
last_in n (m ∷ o ∷ ns) e = or_right (eqb n m) (one_of n (o ∷ ns)) (last_in n (o ∷ ns) e)

pub last_used : (n k : ℕ) (trains : List (List ℕ)) → last_at k trains ≡ Some n → one_of n (in_trains trains) ≡ true
last_used n k [] e = absurd (let z : ◌≡◌ {A = ℕ} 0 1 = cc in omega arith)
last_used n zero (t ∷ ts) e = in_both n t (in_trains ts) ∙ or_left (one_of n t) (one_of n (in_trains ts)) (last_in n t e)
last_used n (suc k) (t ∷ ts) e = in_both n t (in_trains ts) ∙ or_right (one_of n t) (one_of n (in_trains ts)) (last_used n k ts e)

-- the room of the last car, by the table
pub room_last : (T : List CarRecord) (w : ℕ) (ns : List ℕ) (o : Option ℕ) → last_of ns ≡ o → option_map (λ (c : CarFill). c.number) (room_in w (train_fill T ns))
    ≡ option_and_then (λ n. then_some (leb ((record_at T n).filled + w) 128) n) o
room_last T w [] None e = refl
room_last T w [] (Some n) e = absurd (let z : ◌≡◌ {A = ℕ} 0 1 = cc in omega arith)
room_last T w (n ∷ []) None e = absurd (let z : ◌≡◌ {A = ℕ} 0 1 = cc in omega arith)
room_last T w (n ∷ []) (Some m) e = let i : n ≡ m = cc in rw i (go (leb ((record_at T m).filled + w) 128))
  where
    go : (b : Bool) → option_map (λ (c : CarFill). c.number) (cond b (Some (fill_of T m)) None) ≡ then_some b m
    go true = refl
    go false = refl
room_last T w (n ∷ m ∷ ns) o e = room_last T w (m ∷ ns) o e

pub room_last_at : (T : List CarRecord) (k w : ℕ) (trains : List (List ℕ)) (o : Option ℕ) → last_at k trains ≡ o → option_map (λ (c : CarFill). c.number) (room_at k w (all_fills T trains))
    ≡ option_and_then (λ n. then_some (leb ((record_at T n).filled + w) 128) n) o
room_last_at T k w [] None e = refl
room_last_at T k w [] (Some n) e = absurd (let z : ◌≡◌ {A = ℕ} 0 1 = cc in omega arith)
room_last_at T zero w (t ∷ ts) o e = room_last T w t o e
room_last_at T (suc k) w (t ∷ ts) o e = room_last_at T k w ts o e

pub used_low : (T : List CarRecord) (trains : List (List ℕ)) (busy : Option ℕ) (n : ℕ) → Stands T trains busy → one_of n (in_use_by trains busy) ≡ true → n < 64
used_low T trains busy n s e = elim (cases_lt n 64) [
  | inl l ↦ l
  | inr l ↦ absurd (both_ways _ (ap (λ (r : CarRecord). r.in_use) (past_end T n (omega (arith, l, s.wide)))) (s.used n ∙ e))
]

pub last_low : (T : List CarRecord) (trains : List (List ℕ)) (busy : Option ℕ) (n k : ℕ) → Stands T trains busy → last_at k trains ≡ Some n → n < 64
last_low T trains busy n k s e = used_low T trains busy n s (in_trains_used n trains busy (last_used n k trains e))

-- a test that a size leaves room is the test that it fits
pub leaves_room : (a w : ℕ) → w ≤ 128 → leb a (128 - w) ≡ leb (a + w) 128
leaves_room a w l = elim (cases_Bool (leb (a + w) 128)) [
  | inl e ↦ rw e (let h = leb-true _ _ e in le-leb a (128 - w) (omega (arith, h)))
  | inr e ↦ rw e (let h = leb-false _ _ e in lt-leb a (128 - w) (omega (arith, h, l)))
]

-- a free car is not used
pub free_unused : (used : List ℕ) → lowest_free used < 64 → one_of (lowest_free used) used ≡ false
free_unused used l =
    let n = length-range_with_len 0 64 in
    subst (λ m. one_of m used ≡ false) (at_range 64 (lowest_free used) l) (prefix_len_stops (λ m. one_of m used) (range_with_len 0 64) 0 (omega (arith, l, n)))

pub free_car_unused : (T : List CarRecord) (trains : List (List ℕ)) (busy : Option ℕ) (p : Placement) (f : ℕ) → placement T trains busy ≡ p → free_car p < 64 → f ≡ free_car p → one_of f (in_use_by trains busy) ≡ false
unfolding free_car
free_car_unused T trains busy p f v l e =
    ap (one_of f) (sym (used_back T trains busy)) ∙ (ap (λ q. one_of f (used_numbers q)) v ∙ (ap (λ k. one_of k (used_numbers p)) e ∙ free_unused (used_numbers p) l))
