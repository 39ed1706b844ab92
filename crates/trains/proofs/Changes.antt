-- What a change of the table makes of the trains.
use Rattle.std.proofs.Common.{◌≡◌, ℕ, zero, suc, ◌+◌, ◌-◌, ◌*◌, ◌<◌, ◌≤◌, ◌≢◌, Bool, true, false, List, [], ◌∷◌, length, set, remove, Some, None, Option, inl, inr, refl, sym, ap, ◌∙◌, subst, arith, get_or, ltb, eqb, cond, ◌||◌, option_map}
use Rattle.std.proofs.lemmas.Bool.{cases_Bool, or_from, or_parts, or_right, or_left, both_ways, eqb-true, eqb-false, ne_eqb, eq-eqb, leb-true, lt-ltb, le-ltb}
use Rattle.std.proofs.lemmas.List.{get_or-set_same, get_or-set_other, length-set}
use Rattle.model.specs.Trains.{one_of, most_trains, car_words}
use Rattle.trains.specs.declared.car_record.CarRecord.{CarRecord}
use Rattle.trains.specs.Fills.{CarFill, TrainFill, Placement, fill_fits, more_filled, place_in, place_fill, spot_in, spot_at, room_in, room_at, first_number, first_taken, tail_fills, with_trains}
use Rattle.trains.specs.Table.{record_at, free_record, fill_of, train_fill, all_fills, placement, in_trains, in_use_by, TrainStands, TrainsStand, BusyStands, Stands, car_gone, train_gone, first_dropped}
use Rattle.trains.proofs.Known.{in_trains_used, used_low}
use Rattle.trains.proofs.Standing.{in_both, other_rank, earlier_place, lower_rank, place_in_train}

-- the table with one record set
abbrev pub SetAt : (T U : List CarRecord) (n : ℕ) → CarRecord → Type 0
SetAt T U n x = (m : ℕ) → record_at U m ≡ cond (eqb m n) x (record_at T m)

pub set_at : (T : List CarRecord) (n : ℕ) (x : CarRecord) → n < length T → SetAt T (set T n x) n x
set_at T n x l m = elim (cases_Bool (eqb m n)) [
  | inl e ↦ rw e (rw (eqb-true m n e) (get_or-set_same T n x free_record l))
  | inr e ↦ rw e (get_or-set_other T n m x free_record (eqb-false m n e))
]

pub set_off : (T U : List CarRecord) (n m : ℕ) (x : CarRecord) → SetAt T U n x → eqb m n ≡ false → record_at U m ≡ record_at T m
set_off T U n m x h e = h m ∙ ap (λ b. cond b x (record_at T m)) e

pub set_on : (T U : List CarRecord) (n : ℕ) (x : CarRecord) → SetAt T U n x → record_at U n ≡ x
set_on T U n x h = h n ∙ ap (λ b. cond b x (record_at T n)) (eq-eqb n n refl)

-- Where the table stays the same for the cars of trains, so do the trains.

abbrev pub placed_by : List TrainFill → Option CarFill → Placement
placed_by ts b = record { trains = ts; busy = b }

abbrev pub filled_by : (n w : ℕ) → CarFill
filled_by n w = record { number = n; filled = w }

pub same_fill : (T U : List CarRecord) (ns : List ℕ) → ((m : ℕ) → one_of m ns ≡ true → (record_at U m).filled ≡ (record_at T m).filled) → train_fill U ns ≡ train_fill T ns
same_fill T U [] h = refl
same_fill T U (n ∷ ns) h =
    let here = h n (or_left (eqb n n) (one_of n ns) (eq-eqb n n refl)) in
    let rest = same_fill T U ns (λ m e. h m (or_right (eqb m n) (one_of m ns) e)) in
    ap (λ (w : ℕ). filled_by n w ∷ train_fill U ns) here ∙ ap (λ (cs : List CarFill). fill_of T n ∷ cs) rest

pub same_fills : (T U : List CarRecord) (trains : List (List ℕ)) → ((m : ℕ) → one_of m (in_trains trains) ≡ true → (record_at U m).filled ≡ (record_at T m).filled) → all_fills U trains ≡ all_fills T trains
same_fills T U [] h = refl
same_fills T U (t ∷ ts) h =
    let here = same_fill T U t (λ m e. h m (in_both m t (in_trains ts) ∙ or_left (one_of m t) (one_of m (in_trains ts)) e)) in
    let rest = same_fills T U ts (λ m e. h m (in_both m t (in_trains ts) ∙ or_right (one_of m t) (one_of m (in_trains ts)) e)) in
    ap (λ (u : TrainFill). u ∷ all_fills U ts) here ∙ ap (λ (us : List TrainFill). train_fill T t ∷ us) rest

-- the rank and the place of a car are the same in both tables
abbrev pub SamePlace : (T U : List CarRecord) → ℕ → Type 0
SamePlace T U m = ((record_at U m).rank ≡ (record_at T m).rank) × ((record_at U m).place ≡ (record_at T m).place)

pub same_stand : (T U : List CarRecord) (r p : ℕ) (ns : List ℕ) → ((m : ℕ) → one_of m ns ≡ true → SamePlace T U m) → TrainStands T r p ns → TrainStands U r p ns
same_stand T U r p [] h s = tt
same_stand T U r p (n ∷ ns) h s =
    let here = h n (or_left (eqb n n) (one_of n ns) (eq-eqb n n refl)) in
    (here.0 ∙ s.0, here.1 ∙ s.1, same_stand T U r (p + 1) ns (λ m e. h m (or_right (eqb m n) (one_of m ns) e)) s.2)

pub same_stands : (T U : List CarRecord) (r : ℕ) (trains : List (List ℕ)) → ((m : ℕ) → one_of m (in_trains trains) ≡ true → SamePlace T U m) → TrainsStand T r trains → TrainsStand U r trains
same_stands T U r [] h s = tt
same_stands T U r (t ∷ ts) h s = (
  same_stand T U r 0 t (λ m e. h m (in_both m t (in_trains ts) ∙ or_left (one_of m t) (one_of m (in_trains ts)) e)) s.0,
  same_stands T U (r + 1) ts (λ m e. h m (in_both m t (in_trains ts) ∙ or_right (one_of m t) (one_of m (in_trains ts)) e)) s.1,
)

pub same_place : (T U : List CarRecord) (m : ℕ) → record_at U m ≡ record_at T m → SamePlace T U m
same_place T U m e = (ap (λ (r : CarRecord). r.rank) e, ap (λ (r : CarRecord). r.place) e)

-- a car that is in the trains is not one that is not
pub apart_from : (n m : ℕ) (ns : List ℕ) → one_of n ns ≡ false → one_of m ns ≡ true → eqb m n ≡ false
apart_from n m ns f e = ne_eqb m n (λ q. both_ways (one_of n ns) f (subst (λ k. one_of k ns ≡ true) q e))

-- The car that is being emptied becomes free.

pub busy_freed : (T U : List CarRecord) (trains : List (List ℕ)) (b : ℕ) → SetAt T U b free_record → length U ≡ 64 → Stands T trains (Some b) → Stands U trains None × (all_fills U trains ≡ all_fills T trains)
busy_freed T U trains b h wide s =
    let off : (m : ℕ) → one_of m (in_trains trains) ≡ true → record_at U m ≡ record_at T m = λ m e. set_off T U b m free_record h (apart_from b m (in_trains trains) s.busy_apart.0 e) in (
      record {
        wide = wide;
        few = s.few;
        used = λ n. elim (cases_Bool (eqb n b)) [
          | inl e ↦
              let i = eqb-true n b e in
              rw i (ap (λ (r : CarRecord). r.in_use) (set_on T U b free_record h) ∙ sym s.busy_apart.0)
          | inr e ↦ ap (λ (r : CarRecord). r.in_use) (set_off T U b n free_record h e) ∙ (s.used n ∙ ap (λ d. d || one_of n (in_trains trains)) e)
        ];
        free = λ n q. elim (cases_Bool (eqb n b)) [
          | inl e ↦ rw (eqb-true n b e) (set_on T U b free_record h)
          | inr e ↦ set_off T U b n free_record h e ∙ s.free n (or_from (eqb n b) (one_of n (in_trains trains)) e q)
        ];
        placed = same_stands T U 0 trains (λ m e. same_place T U m (off m e)) s.placed;
        busy_apart = tt;
        within = λ n. elim (cases_Bool (eqb n b)) [
          | inl e ↦ let g : record_at U n ≡ free_record = rw (eqb-true n b e) (set_on T U b free_record h) in let f = ap (λ (r : CarRecord). r.filled) g in omega (arith, f)
          | inr e ↦ let f = ap (λ (r : CarRecord). r.filled) (set_off T U b n free_record h e) in omega (arith, f, s.within n)
        ];
      },
      same_fills T U trains (λ m e. ap (λ (r : CarRecord). r.filled) (off m e)),
    )

pub busy_goes : (T : List CarRecord) (trains : List (List ℕ)) (busy : Option ℕ) (b : ℕ) (x : CarRecord) → Stands T trains busy → busy ≡ Some b → x ≡ free_record
    → Stands (set T b x) trains None × (all_fills (set T b x) trains ≡ all_fills T trains)
busy_goes T trains busy b x s e f =
    let t : Stands T trains (Some b) = subst (λ o. Stands T trains o) e s in
    let low = used_low T trains (Some b) b t (or_left (eqb b b) (one_of b (in_trains trains)) (eq-eqb b b refl)) in
    rw f (busy_freed T (set T b free_record) trains b (set_at T b free_record (omega (arith, low, s.wide))) (length-set T b free_record ∙ s.wide) t)

-- The first car leaves its train.

gone_kept : (r : CarRecord) → ((car_gone r).in_use ≡ r.in_use) × ((car_gone r).filled ≡ r.filled)
gone_kept r = go (eqb r.rank 0) (eqb r.place 0)
  where
    go : (a b : Bool) → ((cond a (cond b (record { in_use = r.in_use; filled = r.filled; rank = most_trains; place = 0 }) (record { in_use = r.in_use; filled = r.filled; rank = 0; place = r.place - 1 })) r).in_use ≡ r.in_use)
        × ((cond a (cond b (record { in_use = r.in_use; filled = r.filled; rank = most_trains; place = 0 }) (record { in_use = r.in_use; filled = r.filled; rank = 0; place = r.place - 1 })) r).filled ≡ r.filled)
    go true true = (refl, refl)
    go true false = (refl, refl)
    go false b = (refl, refl)

gone_first : (r : CarRecord) → r.rank ≡ 0 → r.place ≡ 0 → ((car_gone r).rank ≡ most_trains) × ((car_gone r).place ≡ 0)
gone_first r e f = rw (e, f) (refl, refl)

gone_next : (r : CarRecord) (p : ℕ) → r.rank ≡ 0 → r.place ≡ p + 1 → ((car_gone r).rank ≡ 0) × ((car_gone r).place ≡ p)
gone_next r p e f = let n : eqb r.place 0 ≡ false = ne_eqb r.place 0 (λ q. omega (arith, q, f)) in rw (e, n) (refl, omega (arith, f))

gone_other : (r : CarRecord) → r.rank ≢ 0 → car_gone r ≡ r
gone_other r ne = rw (ne_eqb r.rank 0 ne) refl

module _ (T U : List CarRecord) (h : (m : ℕ) → record_at U m ≡ car_gone (record_at T m)) where
  gone_train : (p : ℕ) (ns : List ℕ) → TrainStands T 0 (p + 1) ns → TrainStands U 0 p ns
  gone_train p [] s = tt
  gone_train p (n ∷ ns) s =
      let g = gone_next (record_at T n) p s.0 s.1 in
      (ap (λ (r : CarRecord). r.rank) (h n) ∙ g.0, ap (λ (r : CarRecord). r.place) (h n) ∙ g.1, gone_train (p + 1) ns s.2)

  gone_fill : (m : ℕ) → (record_at U m).filled ≡ (record_at T m).filled
  gone_fill m = ap (λ (r : CarRecord). r.filled) (h m) ∙ (gone_kept (record_at T m)).1

  pub first_gone : (n : ℕ) (ns : List ℕ) (ts : List (List ℕ)) → length U ≡ 64 → Stands T ((n ∷ ns) ∷ ts) None → Stands U (ns ∷ ts) (Some n)
  first_gone n ns ts wide s =
      let here = s.placed.0 in
      let left = gone_first (record_at T n) here.0 here.1 in
      record {
        wide = wide;
        few = s.few;
        used = λ m. ap (λ (r : CarRecord). r.in_use) (h m) ∙ ((gone_kept (record_at T m)).0 ∙ s.used m);
        free = λ m q. h m ∙ ap car_gone (s.free m q);
        placed = (
          gone_train 0 ns here.2,
          same_stands T U 1 ts (λ m e. same_place T U m (h m ∙ gone_other (record_at T m) (λ z. both_ways _ (lower_rank T 1 m ts s.placed.1 (omega (arith, z))) e))) s.placed.1,
        );
        busy_apart = (
          in_both n ns (in_trains ts) ∙ or_from (one_of n ns) (one_of n (in_trains ts)) (earlier_place T 0 1 n ns here.2 (omega (arith, here.1))) (lower_rank T 1 n ts s.placed.1 (omega (arith, here.0))),
          ap (λ (r : CarRecord). r.rank) (h n) ∙ left.0,
          ap (λ (r : CarRecord). r.place) (h n) ∙ left.1,
        );
        within = λ m. omega (arith, gone_fill m, s.within m);
      }

-- The first train ends.

ended_first : (r : CarRecord) → r.rank ≡ 0 → train_gone r ≡ free_record
ended_first r e = rw e refl

record Moved (r s : CarRecord) : Type 0 where
  pub in_use : s.in_use ≡ r.in_use
  pub filled : s.filled ≡ r.filled
  pub place : s.place ≡ r.place

ended_other : (r : CarRecord) → r.rank ≢ 0 → Moved r (train_gone r)
ended_other r ne = rw (ne_eqb r.rank 0 ne) (go (ltb r.rank 8))
  where
    go : (b : Bool) → Moved r (cond b (record { in_use = r.in_use; filled = r.filled; rank = r.rank - 1; place = r.place }) r)
    go true = record { in_use = refl; filled = refl; place = refl }
    go false = record { in_use = refl; filled = refl; place = refl }

ended_rank : (r : CarRecord) (k : ℕ) → r.rank ≡ k + 1 → k + 1 < 8 → (train_gone r).rank ≡ k
ended_rank r k e l = rw (ne_eqb r.rank 0 (λ z. omega (arith, z, e)), lt-ltb r.rank 8 (omega (arith, e, l))) (omega (arith, e))

ended_none : (r : CarRecord) → r.rank ≡ 8 → train_gone r ≡ r
ended_none r e = rw (ne_eqb r.rank 0 (λ z. omega (arith, z, e)), le-ltb r.rank 8 (omega (arith, e))) refl

module _ (T U : List CarRecord) (h : (m : ℕ) → record_at U m ≡ train_gone (record_at T m)) where
  ended_train : (r p : ℕ) (ns : List ℕ) → r + 1 < 8 → TrainStands T (r + 1) p ns → TrainStands U r p ns
  ended_train r p [] l s = tt
  ended_train r p (n ∷ ns) l s =
      let o = ended_other (record_at T n) (λ z. omega (arith, z, s.0)) in
      (ap (λ (r : CarRecord). r.rank) (h n) ∙ ended_rank (record_at T n) r s.0 l, ap (λ (r : CarRecord). r.place) (h n) ∙ (o.place ∙ s.1), ended_train r (p + 1) ns l s.2)

  ended_trains : (r : ℕ) (trains : List (List ℕ)) → r + 1 + length trains ≤ 8 → TrainsStand T (r + 1) trains → TrainsStand U r trains
  ended_trains r [] l s = tt
  ended_trains r (t ∷ ts) l s = (ended_train r 0 t (omega (arith, l)) s.0, ended_trains (r + 1) ts (omega (arith, l)) s.1)

  behind_zero : (m : ℕ) (ts : List (List ℕ)) → TrainsStand T 1 ts → one_of m (in_trains ts) ≡ true → (record_at T m).rank ≢ 0
  behind_zero m ts s e z = both_ways _ (lower_rank T 1 m ts s (omega (arith, z))) e

  pub ended_fills : (ts : List (List ℕ)) → TrainsStand T 1 ts → all_fills U ts ≡ all_fills T ts
  ended_fills ts s = same_fills T U ts (λ m e. ap (λ (r : CarRecord). r.filled) (h m) ∙ (ended_other (record_at T m) (behind_zero m ts s e)).filled)

  not_held : (m : ℕ) (ts : List (List ℕ)) (busy : Option ℕ) → one_of m (in_trains ts) ≡ false → (record_at T m).rank ≡ 0 → (t : List ℕ) → BusyStands T (t ∷ ts) busy → one_of m (in_use_by ts busy) ≡ false
  not_held m ts None e z t b = e
  not_held m ts (Some k) e z t b = or_from (eqb m k) (one_of m (in_trains ts)) (ne_eqb m k (λ q. let i = ap (λ j. (record_at T j).rank) q in omega (arith, i, z, b.1))) e

  held_drop : (m : ℕ) (t : List ℕ) (ts : List (List ℕ)) (busy : Option ℕ) → one_of m t ≡ false → one_of m (in_use_by (t ∷ ts) busy) ≡ one_of m (in_use_by ts busy)
  held_drop m t ts None e = in_both m t (in_trains ts) ∙ ap (λ d. d || one_of m (in_trains ts)) e
  held_drop m t ts (Some k) e = ap (λ d. eqb m k || d) (in_both m t (in_trains ts) ∙ ap (λ d. d || one_of m (in_trains ts)) e)

  ended_busy : (t : List ℕ) (ts : List (List ℕ)) (busy : Option ℕ) → BusyStands T (t ∷ ts) busy → BusyStands U ts busy
  ended_busy t ts None b = tt
  ended_busy t ts (Some k) b =
      let same = h k ∙ ended_none (record_at T k) b.1 in (
        (or_parts (one_of k t) (one_of k (in_trains ts)) (sym (in_both k t (in_trains ts)) ∙ b.0)).1,
        ap (λ (r : CarRecord). r.rank) same ∙ b.1,
        ap (λ (r : CarRecord). r.place) same ∙ b.2,
      )

  pub ended_busy_fill : (t : List ℕ) (ts : List (List ℕ)) (busy : Option ℕ) → BusyStands T (t ∷ ts) busy → option_map (fill_of U) busy ≡ option_map (fill_of T) busy
  ended_busy_fill t ts None b = refl
  ended_busy_fill t ts (Some k) b = ap (λ (r : CarRecord). Some (filled_by k r.filled)) (h k ∙ ended_none (record_at T k) b.1)

  pub train_ended : (t : List ℕ) (ts : List (List ℕ)) (busy : Option ℕ) → length U ≡ 64 → Stands T (t ∷ ts) busy → Stands U ts busy
  train_ended t ts busy wide s = record {
    wide = wide;
    few = omega (arith, s.few);
    used = λ m. ap (λ (r : CarRecord). r.in_use) (h m) ∙ used_then m;
    free = λ m q. h m ∙ free_then m q;
    placed = ended_trains 0 ts (omega (arith, s.few)) s.placed.1;
    busy_apart = ended_busy t ts busy s.busy_apart;
    within = λ m. let e = ap (λ (r : CarRecord). r.filled) (h m) in omega (arith, e, within_then m);
  }
    where
      used_then : (m : ℕ) → (train_gone (record_at T m)).in_use ≡ one_of m (in_use_by ts busy)
      used_then m = elim (cases_Bool (eqb (record_at T m).rank 0)) [
        | inl e ↦
            let z = eqb-true _ _ e in
            ap (λ (r : CarRecord). r.in_use) (ended_first (record_at T m) z) ∙ sym (not_held m ts busy (lower_rank T 1 m ts s.placed.1 (omega (arith, z))) z t s.busy_apart)
        | inr e ↦
            let ne = eqb-false (record_at T m).rank 0 e in
            (ended_other (record_at T m) ne).in_use ∙ (s.used m ∙ held_drop m t ts busy (other_rank T 0 0 m t s.placed.0 ne))
      ]

      free_then : (m : ℕ) → one_of m (in_use_by ts busy) ≡ false → train_gone (record_at T m) ≡ free_record
      free_then m q = elim (cases_Bool (eqb (record_at T m).rank 0)) [
        | inl e ↦ ended_first (record_at T m) (eqb-true _ _ e)
        | inr e ↦ ap train_gone (s.free m (held_drop m t ts busy (other_rank T 0 0 m t s.placed.0 (eqb-false (record_at T m).rank 0 e)) ∙ q))
      ]

      within_then : (m : ℕ) → (train_gone (record_at T m)).filled ≤ 128
      within_then m = elim (cases_Bool (eqb (record_at T m).rank 0)) [
        | inl e ↦ let f = ap (λ (r : CarRecord). r.filled) (ended_first (record_at T m) (eqb-true _ _ e)) in omega (arith, f)
        | inr e ↦ omega (arith, (ended_other (record_at T m) (eqb-false (record_at T m).rank 0 e)).filled, s.within m)
      ]

-- What the calls make of it.

none_busy : (T : List CarRecord) (busy : Option ℕ) → option_map (fill_of T) busy ≡ None → busy ≡ None
none_busy T None e = refl
none_busy T (Some b) e = absurd (let z : ◌≡◌ {A = ℕ} 0 1 = cc in omega arith)

pub first_takes : (T U : List CarRecord) (trains trains' : List (List ℕ)) (busy : Option ℕ) (p : Placement) (car : ℕ) → Stands T trains busy → placement T trains busy ≡ p → p.busy ≡ None
    → first_number p.trains ≡ Some car → trains' ≡ first_dropped trains → ((m : ℕ) → record_at U m ≡ car_gone (record_at T m)) → length U ≡ 64
    → Stands U trains' (Some car) × (placement U trains' (Some car) ≡ first_taken p)
first_takes T U trains trains' busy p car s v b f r h wide =
    let none = none_busy T busy (ap (λ (q : Placement). q.busy) v ∙ b) in
    rw r (go trains (subst (Stands T trains) none s) (ap (λ o. placement T trains o) (sym none) ∙ v))
  where
    go : (rs : List (List ℕ)) → Stands T rs None → placement T rs None ≡ p → Stands U (first_dropped rs) (Some car) × (placement U (first_dropped rs) (Some car) ≡ first_taken p)
    go [] t w = absurd (let e = ap (λ (q : Placement). first_number q.trains) w ∙ f in let z : ◌≡◌ {A = ℕ} 0 1 = cc in omega arith)
    go ([] ∷ ts) t w = absurd (let e = ap (λ (q : Placement). first_number q.trains) w ∙ f in let z : ◌≡◌ {A = ℕ} 0 1 = cc in omega arith)
    go ((n ∷ ns) ∷ ts) t w =
        let e : Some n ≡ Some car = ap (λ (q : Placement). first_number q.trains) w ∙ f in
        let i : n ≡ car = cc in
        let fills : all_fills U (ns ∷ ts) ≡ all_fills T (ns ∷ ts) = same_fills T U (ns ∷ ts) (λ m q. gone_fill T U h m) in
        subst (λ (k : ℕ). Stands U (ns ∷ ts) (Some k) × (placement U (ns ∷ ts) (Some k) ≡ first_taken p)) i (
          first_gone T U h n ns ts wide t,
          ap (λ (us : List TrainFill). placed_by us (Some (fill_of U n))) fills ∙ (ap (λ (w : ℕ). placed_by (all_fills T (ns ∷ ts)) (Some (filled_by n w))) (gone_fill T U h n) ∙ ap first_taken w),
        )

pub first_there : (T : List CarRecord) (trains : List (List ℕ)) (busy : Option ℕ) (p : Placement) (car : ℕ) → placement T trains busy ≡ p → first_number p.trains ≡ Some car → 0 < length (get_or trains 0 [])
first_there T [] busy p car v f = absurd (let e = ap (λ (q : Placement). first_number q.trains) v ∙ f in let z : ◌≡◌ {A = ℕ} 0 1 = cc in omega arith)
first_there T ([] ∷ ts) busy p car v f = absurd (let e = ap (λ (q : Placement). first_number q.trains) v ∙ f in let z : ◌≡◌ {A = ℕ} 0 1 = cc in omega arith)
first_there T ((n ∷ ns) ∷ ts) busy p car v f = omega arith

pub train_goes : (T U : List CarRecord) (trains trains' : List (List ℕ)) (busy : Option ℕ) (p : Placement) → Stands T trains busy → placement T trains busy ≡ p → 0 < length trains
    → trains' ≡ remove trains 0 → ((m : ℕ) → record_at U m ≡ train_gone (record_at T m)) → length U ≡ 64
    → Stands U trains' busy × (placement U trains' busy ≡ with_trains (tail_fills p.trains) p)
train_goes T U trains trains' busy p s v l r h wide = rw r (go trains s v l)
  where
    go : (rs : List (List ℕ)) → Stands T rs busy → placement T rs busy ≡ p → 0 < length rs → Stands U (remove rs 0) busy × (placement U (remove rs 0) busy ≡ with_trains (tail_fills p.trains) p)
    go [] t w l = absurd (omega (arith, l))
    go (t ∷ ts) st w l = (
      train_ended T U h t ts busy wide st,
      ap (λ (us : List TrainFill). placed_by us (option_map (fill_of U) busy)) (ended_fills T U h ts st.placed.1)
          ∙ (ap (placed_by (all_fills T ts)) (ended_busy_fill T U h t ts busy st.busy_apart) ∙ ap (λ (q : Placement). with_trains (tail_fills q.trains) q) w),
    )

-- The last car of a train grows.

pub room_here : (T : List CarRecord) (w : ℕ) (ns : List ℕ) (c : CarFill) → room_in w (train_fill T ns) ≡ Some c → (one_of c.number ns ≡ true) × ((record_at T c.number).filled + w ≤ 128) × (fill_of T c.number ≡ c)
room_here T w [] c e = absurd (let z : ◌≡◌ {A = ℕ} 0 1 = cc in omega arith)
room_here T w (n ∷ []) c e = go (fill_fits w (fill_of T n)) refl e
  where
    go : (b : Bool) → fill_fits w (fill_of T n) ≡ b → ◌≡◌ {A = Option CarFill} (cond b (Some (fill_of T n)) None) (Some c)
        → (one_of c.number (n ∷ []) ≡ true) × ((record_at T c.number).filled + w ≤ 128) × (fill_of T c.number ≡ c)
    go true q k =
        let i : fill_of T n ≡ c = cc in
        subst (λ (d : CarFill). (one_of d.number (n ∷ []) ≡ true) × ((record_at T d.number).filled + w ≤ 128) × (fill_of T d.number ≡ d)) i
        (or_left (eqb n n) false (eq-eqb n n refl), leb-true _ _ q, refl)
    go false q k = absurd (let z : ◌≡◌ {A = ℕ} 0 1 = cc in omega arith)
room_here T w (n ∷ m ∷ ns) c e =
    let k = room_here T w (m ∷ ns) c e in
    (or_right (eqb c.number n) (one_of c.number (m ∷ ns)) k.0, k.1, k.2)

pub room_there : (T : List CarRecord) (k w : ℕ) (trains : List (List ℕ)) (c : CarFill) → room_at k w (all_fills T trains) ≡ Some c → (one_of c.number (in_trains trains) ≡ true) × ((record_at T c.number).filled + w ≤ 128) × (fill_of T c.number ≡ c)
room_there T k w [] c e = absurd (let z : ◌≡◌ {A = ℕ} 0 1 = cc in omega arith)
room_there T zero w (t ∷ ts) c e =
    let h = room_here T w t c e in (in_both c.number t (in_trains ts) ∙ or_left (one_of c.number t) (one_of c.number (in_trains ts)) h.0, h.1, h.2)
room_there T (suc k) w (t ∷ ts) c e =
    let h = room_there T k w ts c e in (in_both c.number t (in_trains ts) ∙ or_right (one_of c.number t) (one_of c.number (in_trains ts)) h.0, h.1, h.2)

pub spot_in_room : (n w : ℕ) (t : TrainFill) (c : CarFill) → room_in w t ≡ Some c → car_words * c.number + c.filled ≡ spot_in n w t
spot_in_room n w [] c e = absurd (let z : ◌≡◌ {A = ℕ} 0 1 = cc in omega arith)
spot_in_room n w (d ∷ []) c e = go (fill_fits w d) e
  where
    go : (b : Bool) → ◌≡◌ {A = Option CarFill} (cond b (Some d) None) (Some c) → ◌≡◌ {A = ℕ} (car_words * c.number + c.filled) (cond b (car_words * d.number + d.filled) (car_words * n))
    go true k = let i : d ≡ c = cc in ap (λ (x : CarFill). car_words * x.number + x.filled) (sym i)
    go false k = absurd (let z : ◌≡◌ {A = ℕ} 0 1 = cc in omega arith)
spot_in_room n w (d ∷ f ∷ cs) c e = spot_in_room n w (f ∷ cs) c e

pub spot_at_room : (k n w : ℕ) (ts : List TrainFill) (c : CarFill) → room_at k w ts ≡ Some c → car_words * c.number + c.filled ≡ spot_at k n w ts
spot_at_room k n w [] c e = absurd (let z : ◌≡◌ {A = ℕ} 0 1 = cc in omega arith)
spot_at_room zero n w (t ∷ ts) c e = spot_in_room n w t c e
spot_at_room (suc k) n w (t ∷ ts) c e = spot_at_room k n w ts c e

-- the record of the car n has w words more
pub record Grown (T U : List CarRecord) (n w : ℕ) : Type 0 where
  pub others : (m : ℕ) → eqb m n ≡ false → record_at U m ≡ record_at T m
  pub in_use : (record_at U n).in_use ≡ (record_at T n).in_use
  pub filled : (record_at U n).filled ≡ (record_at T n).filled + w
  pub place : SamePlace T U n

module _ (T U : List CarRecord) (n w f : ℕ) (g : Grown T U n w) where
  kept_fill : (m : ℕ) → eqb m n ≡ false → (record_at U m).filled ≡ (record_at T m).filled
  kept_fill m e = ap (λ (r : CarRecord). r.filled) (g.others m e)

  grown_train : (r p : ℕ) (ns : List ℕ) (c : CarFill) → TrainStands T r p ns → room_in w (train_fill T ns) ≡ Some c → c.number ≡ n → train_fill U ns ≡ place_in f w (train_fill T ns)
  grown_train r p [] c s e i = absurd (let z : ◌≡◌ {A = ℕ} 0 1 = cc in omega arith)
  grown_train r p (m ∷ []) c s e i = go (fill_fits w (fill_of T m)) e
    where
      go : (b : Bool) → ◌≡◌ {A = Option CarFill} (cond b (Some (fill_of T m)) None) (Some c)
          → ◌≡◌ {A = TrainFill} (fill_of U m ∷ []) (cond b (more_filled w (fill_of T m) ∷ []) (fill_of T m ∷ record { number = f; filled = w } ∷ []))
      go true k =
          let j : fill_of T m ≡ c = cc in
          let l : m ≡ n = ap (λ (d : CarFill). d.number) j ∙ i in
          rw l (ap (λ (x : ℕ). filled_by n x ∷ []) g.filled)
      go false k = absurd (let z : ◌≡◌ {A = ℕ} 0 1 = cc in omega arith)
  grown_train r p (m ∷ o ∷ ns) c s e i =
      let in_rest = subst (λ (x : ℕ). one_of x (o ∷ ns) ≡ true) i (room_here T w (o ∷ ns) c e).0 in
      let at = place_in_train T r (p + 1) n (o ∷ ns) s.2 in_rest in
      let ne = ne_eqb m n (λ q. let j = ap (λ x. (record_at T x).place) q in omega (arith, j, s.1, at.order)) in
      ap (λ (x : ℕ). filled_by m x ∷ train_fill U (o ∷ ns)) (kept_fill m ne) ∙ ap (λ (cs : TrainFill). fill_of T m ∷ cs) (grown_train r (p + 1) (o ∷ ns) c s.2 e i)

  grown_trains : (r k : ℕ) (trains : List (List ℕ)) (c : CarFill) → TrainsStand T r trains → room_at k w (all_fills T trains) ≡ Some c → c.number ≡ n → all_fills U trains ≡ place_fill k f w (all_fills T trains)
  grown_trains r k [] c s e i = absurd (let z : ◌≡◌ {A = ℕ} 0 1 = cc in omega arith)
  grown_trains r zero (t ∷ ts) c s e i =
      let here = subst (λ (x : ℕ). one_of x t ≡ true) i (room_here T w t c e).0 in
      let out = lower_rank T (r + 1) n ts s.1 (let q = (place_in_train T r 0 n t s.0 here).rank in omega (arith, q)) in
      ap (λ (u : TrainFill). u ∷ all_fills U ts) (grown_train r 0 t c s.0 e i) ∙ ap (λ (us : List TrainFill). place_in f w (train_fill T t) ∷ us) (same_fills T U ts (λ m q. kept_fill m (apart_from n m (in_trains ts) out q)))
  grown_trains r (suc k) (t ∷ ts) c s e i =
      let there = subst (λ (x : ℕ). one_of x (in_trains ts) ≡ true) i (room_there T k w ts c e).0 in
      let out = other_rank T r 0 n t s.0 (λ q. both_ways _ (lower_rank T (r + 1) n ts s.1 (omega (arith, q))) there) in
      ap (λ (u : TrainFill). u ∷ all_fills U ts) (same_fill T U t (λ m q. kept_fill m (apart_from n m t out q))) ∙ ap (λ (us : List TrainFill). train_fill T t ∷ us) (grown_trains (r + 1) k ts c s.1 e i)

  grown_place : (m : ℕ) → SamePlace T U m
  grown_place m = elim (cases_Bool (eqb m n)) [
    | inl e ↦ rw (eqb-true m n e) g.place
    | inr e ↦ same_place T U m (g.others m e)
  ]

  grown_stands : (trains : List (List ℕ)) (busy : Option ℕ) → length U ≡ 64 → Stands T trains busy → one_of n (in_trains trains) ≡ true → (record_at T n).filled + w ≤ 128 → Stands U trains busy
  grown_stands trains busy wide s e l = record {
    wide = wide;
    few = s.few;
    used = λ m. elim (cases_Bool (eqb m n)) [
      | inl q ↦ rw (eqb-true m n q) (g.in_use ∙ s.used n)
      | inr q ↦ ap (λ (r : CarRecord). r.in_use) (g.others m q) ∙ s.used m
    ];
    free = λ m q. g.others m (ne_eqb m n (λ i. both_ways _ q (subst (λ k. one_of k (in_use_by trains busy) ≡ true) (sym i) (in_trains_used n trains busy e)))) ∙ s.free m q;
    placed = same_stands T U 0 trains (λ m q. grown_place m) s.placed;
    busy_apart = busy_same busy s.busy_apart;
    within = λ m. elim (cases_Bool (eqb m n)) [
      | inl q ↦ rw (eqb-true m n q) (omega (arith, g.filled, l))
      | inr q ↦ omega (arith, kept_fill m q, s.within m)
    ];
  }
    where
      busy_same : (b : Option ℕ) → BusyStands T trains b → BusyStands U trains b
      busy_same None k = tt
      busy_same (Some b) k = (k.0, (grown_place b).0 ∙ k.1, (grown_place b).1 ∙ k.2)

  grown_busy : (trains : List (List ℕ)) (busy : Option ℕ) → BusyStands T trains busy → one_of n (in_trains trains) ≡ true → option_map (fill_of U) busy ≡ option_map (fill_of T) busy
  grown_busy trains None k e = refl
  grown_busy trains (Some b) k e = ap (λ (r : CarRecord). Some (filled_by b r.filled)) (g.others b (ne_eqb b n (λ i. both_ways _ k.0 (subst (λ j. one_of j (in_trains trains) ≡ true) (sym i) e))))

number_some : (o : Option CarFill) (n : ℕ) → option_map (λ (c : CarFill). c.number) o ≡ Some n → (c : CarFill) × (o ≡ Some c) × (c.number ≡ n)
number_some None n e = absurd (let z : ◌≡◌ {A = ℕ} 0 1 = cc in omega arith)
number_some (Some c) n e = (c, refl, (let i : c.number ≡ n = cc in i))

module _ (T : List CarRecord) (trains : List (List ℕ)) (busy : Option ℕ) (p : Placement) (n w k : ℕ) (s : Stands T trains busy) (v : placement T trains busy ≡ p)
    (e : option_map (λ (c : CarFill). c.number) (room_at k w p.trains) ≡ Some n) where
  e' : option_map (λ (c : CarFill). c.number) (room_at k w (all_fills T trains)) ≡ Some n
  e' = ap (λ (q : Placement). option_map (λ (c : CarFill). c.number) (room_at k w q.trains)) v ∙ e

  -- the last car, as the table has it
  pub last_car : (n < 64) × ((record_at T n).filled + w ≤ 128)
  last_car =
      let c = number_some _ n e' in
      let h = room_there T k w trains c.0 c.1 in
      (used_low T trains busy n s (in_trains_used n trains busy (subst (λ j. one_of j (in_trains trains) ≡ true) c.2 h.0)), subst (λ j. (record_at T j).filled + w ≤ 128) c.2 h.1)

  pub grows : (U : List CarRecord) (f : ℕ) → Grown T U n w → length U ≡ 64 → Stands U trains busy × (placement U trains busy ≡ with_trains (place_fill k f w p.trains) p)
  grows U f g wide =
      let c = number_some _ n e' in
      let h = room_there T k w trains c.0 c.1 in
      let there = subst (λ j. one_of j (in_trains trains) ≡ true) c.2 h.0 in (
        grown_stands T U n w f g trains busy wide s there last_car.1,
        ap (λ (us : List TrainFill). placed_by us (option_map (fill_of U) busy)) (grown_trains T U n w f g 0 k trains c.0 s.placed c.1 c.2)
            ∙ (ap (placed_by (place_fill k f w (all_fills T trains))) (grown_busy T U n w f g trains busy s.busy_apart there) ∙ ap (λ (q : Placement). with_trains (place_fill k f w q.trains) q) v),
      )

  pub grows_at : (f : ℕ) → car_words * n + (record_at T n).filled ≡ spot_at k f w p.trains
  grows_at f =
      let c = number_some _ n e' in
      let h = room_there T k w trains c.0 c.1 in
      let is : fill_of T n ≡ c.0 = subst (λ (j : ℕ). fill_of T j ≡ c.0) c.2 h.2 in
      ap (λ (d : CarFill). car_words * d.number + d.filled) is ∙ (spot_at_room k f w (all_fills T trains) c.0 c.1 ∙ ap (λ (q : Placement). spot_at k f w q.trains) v)

pub grown_by : (T : List CarRecord) (n w : ℕ) (x : CarRecord) → n < length T → x.in_use ≡ (record_at T n).in_use → x.filled ≡ (record_at T n).filled + w → x.rank ≡ (record_at T n).rank
    → x.place ≡ (record_at T n).place → Grown T (set T n x) n w
grown_by T n w x l a b c d =
    let h = set_at T n x l in
    let on = set_on T (set T n x) n x h in
    record {
      others = λ m e. set_off T (set T n x) n m x h e;
      in_use = ap (λ (r : CarRecord). r.in_use) on ∙ a;
      filled = ap (λ (r : CarRecord). r.filled) on ∙ b;
      place = (ap (λ (r : CarRecord). r.rank) on ∙ c, ap (λ (r : CarRecord). r.place) on ∙ d);
    }

abbrev pub grown_record : (w : ℕ) → CarRecord → CarRecord
grown_record w r = record { in_use = r.in_use; filled = r.filled + w; rank = r.rank; place = r.place }

-- the last car of the train of rank k is filled by w words more
module _ (T : List CarRecord) (trains : List (List ℕ)) (busy : Option ℕ) (p : Placement) (n w k f : ℕ) (x r : CarRecord) (s : Stands T trains busy) (v : placement T trains busy ≡ p)
    (e : option_map (λ (c : CarFill). c.number) (room_at k w p.trains) ≡ Some n) (old : record_at T n ≡ r) (new : x ≡ grown_record w r) where
  grew : Grown T (set T n x) n w
  grew =
      let low = (last_car T trains busy p n w k s v e).0 in
      let i : x ≡ grown_record w (record_at T n) = new ∙ ap (grown_record w) (sym old) in
      grown_by T n w x (omega (arith, low, s.wide)) (ap (λ (y : CarRecord). y.in_use) i) (ap (λ (y : CarRecord). y.filled) i) (ap (λ (y : CarRecord). y.rank) i) (ap (λ (y : CarRecord). y.place) i)

  pub fills_more : Stands (set T n x) trains busy × (placement (set T n x) trains busy ≡ with_trains (place_fill k f w p.trains) p)
  fills_more = grows T trains busy p n w k s v e (set T n x) f grew (length-set T n x ∙ s.wide)
