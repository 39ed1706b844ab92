-- A free car joins a train, or opens one.
use Rattle.std.proofs.Common.{◌≡◌, ℕ, zero, suc, ◌+◌, ◌*◌, ◌<◌, ◌≤◌, Bool, true, false, List, [], ◌∷◌, ◌++◌, length, set, Some, None, Option, inl, inr, refl, sym, ap, ◌∙◌, arith, get_or, eqb, cond, ◌||◌, option_map}
use Rattle.std.proofs.lemmas.Bool.{cases_Bool, or_from, or_parts, both_ways, eqb-true, eqb-false, ne_eqb}
use Rattle.std.proofs.lemmas.List.{length-set, map-append}
use Rattle.std.specs.List.{range_with_len, IsDistinct}
use Rattle.std.proofs.lemmas.List.FromFn.{length-range_with_len}
use Rattle.model.specs.Trains.{one_of, car_words}
use Rattle.model.proofs.Distinct.{distinct_nil, distinct_cons, length-within, in_numbered, one_of_head}
use Rattle.trains.specs.declared.car_record.CarRecord.{CarRecord}
use Rattle.trains.specs.Fills.{CarFill, TrainFill, Placement, fill_fits, place_in, place_fill, spot_in, spot_at, room_in, room_at, placed, free_car}
use Rattle.trains.specs.Table.{record_at, fill_of, train_fill, all_fills, placement, in_trains, in_use_by, TrainStands, TrainsStand, BusyStands, Stands, add_car}
use Rattle.trains.proofs.Standing.{in_both, in_train_at, earlier_place, length_trains}
use Rattle.trains.proofs.Known.{in_trains_used, used_low, free_car_unused}
use Rattle.trains.proofs.Changes.{SetAt, set_at, set_off, set_on, same_fills, same_stands, filled_by, placed_by, same_place, apart_from}

no_room_in : (n w : ℕ) (t : TrainFill) → room_in w t ≡ None → (place_in n w t ≡ t ++ filled_by n w ∷ []) × (spot_in n w t ≡ car_words * n)
no_room_in n w [] e = (refl, refl)
no_room_in n w (c ∷ []) e = go (fill_fits w c) e
  where
    go : (b : Bool) → ◌≡◌ {A = Option CarFill} (cond b (Some c) None) None
        → (◌≡◌ {A = TrainFill} (cond b (record { number = c.number; filled = c.filled + w } ∷ []) (c ∷ filled_by n w ∷ [])) (c ∷ filled_by n w ∷ [])) × (◌≡◌ {A = ℕ} (cond b (car_words * c.number + c.filled) (car_words * n)) (car_words * n))
    go true k = absurd (let z : ◌≡◌ {A = ℕ} 0 1 = cc in omega arith)
    go false k = (refl, refl)
no_room_in n w (c ∷ d ∷ cs) e = let k = no_room_in n w (d ∷ cs) e in (ap (λ (u : TrainFill). c ∷ u) k.0, k.1)

pub no_room_spot : (k n w : ℕ) (ts : List TrainFill) → room_at k w ts ≡ None → car_words * n ≡ spot_at k n w ts
no_room_spot k n w [] e = refl
no_room_spot zero n w (t ∷ ts) e = sym (no_room_in n w t e).1
no_room_spot (suc k) n w (t ∷ ts) e = no_room_spot k n w ts e

opened_trains : (U : List CarRecord) (k f w : ℕ) (trains : List (List ℕ)) → room_at k w (all_fills U trains) ≡ None → (record_at U f).filled ≡ w → all_fills U (add_car k f trains) ≡ place_fill k f w (all_fills U trains)
opened_trains U k f w [] e g = ap (λ (x : ℕ). (filled_by f x ∷ []) ∷ []) g
opened_trains U zero f w (t ∷ ts) e g =
    ap (λ (u : TrainFill). u ∷ all_fills U ts) (map-append (fill_of U) t (f ∷ []) ∙ (ap (λ (x : ℕ). train_fill U t ++ filled_by f x ∷ []) g ∙ sym (no_room_in f w (train_fill U t) e).0))
opened_trains U (suc k) f w (t ∷ ts) e g = ap (λ (us : List TrainFill). train_fill U t ∷ us) (opened_trains U k f w ts e g)

added_train : (U : List CarRecord) (r p f : ℕ) (ns : List ℕ) → TrainStands U r p ns → (record_at U f).rank ≡ r → (record_at U f).place ≡ p + length ns → TrainStands U r p (ns ++ f ∷ [])
added_train U r p f [] s a b = (a, omega (arith, b), tt)
added_train U r p f (n ∷ ns) s a b = (s.0, s.1, added_train U r (p + 1) f ns s.2 a (omega (arith, b)))

added_trains : (U : List CarRecord) (r k f : ℕ) (trains : List (List ℕ)) → TrainsStand U r trains → k ≤ length trains → (record_at U f).rank ≡ r + k → (record_at U f).place ≡ length (get_or trains k []) → TrainsStand U r (add_car k f trains)
added_trains U r k f [] s l a b = ((omega (arith, a, l), b, tt), tt)
added_trains U r zero f (t ∷ ts) s l a b = (added_train U r 0 f t s.0 (omega (arith, a)) (omega (arith, b)), s.1)
added_trains U r (suc k) f (t ∷ ts) s l a b = (s.0, added_trains U (r + 1) k f ts s.1 (omega (arith, l)) (omega (arith, a)) b)

or_front : (a b c : Bool) → ((a || (b || false)) || c) ≡ (b || (a || c))
or_front true true c = refl
or_front true false c = refl
or_front false true c = refl
or_front false false c = refl

or_swap : (a b c : Bool) → (a || (b || c)) ≡ (b || (a || c))
or_swap true true c = refl
or_swap true false c = refl
or_swap false true c = refl
or_swap false false c = refl

added_in : (m k f : ℕ) (trains : List (List ℕ)) → one_of m (in_trains (add_car k f trains)) ≡ (eqb m f || one_of m (in_trains trains))
added_in m k f [] = refl
added_in m zero f (t ∷ ts) =
    in_both m (t ++ f ∷ []) (in_trains ts) ∙ (ap (λ b. b || one_of m (in_trains ts)) (in_both m t (f ∷ [])) ∙ (or_front (one_of m t) (eqb m f) (one_of m (in_trains ts))
    ∙ ap (λ b. eqb m f || b) (sym (in_both m t (in_trains ts)))))
added_in m (suc k) f (t ∷ ts) =
    in_both m t (in_trains (add_car k f ts)) ∙ (ap (λ b. one_of m t || b) (added_in m k f ts) ∙ (or_swap (one_of m t) (eqb m f) (one_of m (in_trains ts))
    ∙ ap (λ b. eqb m f || b) (sym (in_both m t (in_trains ts)))))

added_used : (m k f : ℕ) (trains : List (List ℕ)) (busy : Option ℕ) → one_of m (in_use_by (add_car k f trains) busy) ≡ (eqb m f || one_of m (in_use_by trains busy))
added_used m k f trains None = added_in m k f trains
added_used m k f trains (Some b) = ap (λ d. eqb m b || d) (added_in m k f trains) ∙ or_swap (eqb m b) (eqb m f) (one_of m (in_trains trains))

added_length : (k f : ℕ) (trains : List (List ℕ)) (most : ℕ) → k ≤ length trains → k < most → length trains ≤ most → length (add_car k f trains) ≤ most
added_length k f [] most l h g = omega (arith, h)
added_length zero f (t ∷ ts) most l h g = g
added_length (suc k) f (t ∷ ts) zero l h g = absurd (omega (arith, h))
added_length (suc k) f (t ∷ ts) (suc most) l h g = omega (arith, added_length k f ts most (omega (arith, l)) (omega (arith, h)) (omega (arith, g)))

-- No train is as long as there are cars, while one is free.

train_distinct : (T : List CarRecord) (r p : ℕ) (ns : List ℕ) → TrainStands T r p ns → IsDistinct eqb ns
train_distinct T r p [] s = distinct_nil
train_distinct T r p (n ∷ ns) s = distinct_cons n ns (earlier_place T r (p + 1) n ns s.2 (omega (arith, s.1))) (train_distinct T r (p + 1) ns s.2)

distinct_at : (T : List CarRecord) (r k : ℕ) (trains : List (List ℕ)) → TrainsStand T r trains → IsDistinct eqb (get_or trains k [])
distinct_at T r k [] s = distinct_nil
distinct_at T r zero (t ∷ ts) s = train_distinct T r 0 t s.0
distinct_at T r (suc k) (t ∷ ts) s = distinct_at T (r + 1) k ts s.1

pub train_short : (T : List CarRecord) (trains : List (List ℕ)) (busy : Option ℕ) (f k : ℕ) → Stands T trains busy → f < 64 → one_of f (in_use_by trains busy) ≡ false → length (get_or trains k []) < 64
train_short T trains busy f k s l e =
    let train = get_or trains k [] in
    let used : (n : ℕ) → one_of n train ≡ true → one_of n (in_use_by trains busy) ≡ true = λ n h. in_trains_used n trains busy (in_train_at n k trains h) in
    let out : one_of f train ≡ false = elim (cases_Bool (one_of f train)) [
      | inl h ↦ absurd (both_ways _ e (used f h))
      | inr h ↦ h
    ] in
    let most = length-within (f ∷ train) (range_with_len 0 64) (distinct_cons f train out (distinct_at T 0 k trains s.placed)) (λ n h. elim (one_of_head n f train h) [
      | inl q ↦ in_numbered n 0 64 (omega arith) (omega (arith, q, l))
      | inr q ↦ in_numbered n 0 64 (omega arith) (let low = used_low T trains busy n s (used n q) in omega (arith, low))
    ]) in
    omega (arith, most, length-range_with_len 0 64)

module _ (T U : List CarRecord) (trains : List (List ℕ)) (busy : Option ℕ) (f k w : ℕ) (x : CarRecord) (s : Stands T trains busy) (h : SetAt T U f x) (e : one_of f (in_use_by trains busy) ≡ false)
    (taken : x.in_use ≡ true) (fill : x.filled ≡ w) (at : x.rank ≡ k) (place : x.place ≡ length (get_or trains k [])) where
  others : (m : ℕ) → one_of m (in_use_by trains busy) ≡ true → record_at U m ≡ record_at T m
  others m q = set_off T U f m x h (apart_from f m (in_use_by trains busy) e q)

  on : record_at U f ≡ x
  on = set_on T U f x h

  pub opened_stands : length U ≡ 64 → w ≤ 128 → k < 8 → k ≤ length trains → Stands U (add_car k f trains) busy
  opened_stands wide small low near = record {
    wide = wide;
    few = added_length k f trains 8 near low s.few;
    used = λ m. used_then m ∙ sym (added_used m k f trains busy);
    free = λ m q. let z = or_parts (eqb m f) (one_of m (in_use_by trains busy)) (sym (added_used m k f trains busy) ∙ q) in set_off T U f m x h z.0 ∙ s.free m z.1;
    placed = added_trains U 0 k f trains (same_stands T U 0 trains (λ m q. same_place T U m (others m (in_trains_used m trains busy q))) s.placed) near
        (let i = ap (λ (r : CarRecord). r.rank) on ∙ at in omega (arith, i)) (ap (λ (r : CarRecord). r.place) on ∙ place);
    busy_apart = busy_then busy e s.busy_apart;
    within = λ m. elim (cases_Bool (eqb m f)) [
      | inl q ↦ let i : record_at U m ≡ x = rw (eqb-true m f q) on in let j = ap (λ (r : CarRecord). r.filled) i in omega (arith, j, fill, small)
      | inr q ↦ let j = ap (λ (r : CarRecord). r.filled) (set_off T U f m x h q) in omega (arith, j, s.within m)
    ];
  }
    where
      used_then : (m : ℕ) → (record_at U m).in_use ≡ (eqb m f || one_of m (in_use_by trains busy))
      used_then m = elim (cases_Bool (eqb m f)) [
        | inl q ↦ let i : record_at U m ≡ x = rw (eqb-true m f q) on in rw q (ap (λ (r : CarRecord). r.in_use) i ∙ taken)
        | inr q ↦ rw q (ap (λ (r : CarRecord). r.in_use) (set_off T U f m x h q) ∙ s.used m)
      ]

      busy_then : (o : Option ℕ) → one_of f (in_use_by trains o) ≡ false → BusyStands T trains o → BusyStands U (add_car k f trains) o
      busy_then None q b = tt
      busy_then (Some b) q t =
          let ne : eqb b f ≡ false = ne_eqb b f (λ i. eqb-false f b (or_parts (eqb f b) (one_of f (in_trains trains)) q).0 (sym i)) in
          let i = set_off T U f b x h ne in
          (added_in b k f trains ∙ or_from (eqb b f) (one_of b (in_trains trains)) ne t.0, ap (λ (r : CarRecord). r.rank) i ∙ t.1, ap (λ (r : CarRecord). r.place) i ∙ t.2)

  pub opened_value : (p : Placement) → placement T trains busy ≡ p → room_at k w p.trains ≡ None → f ≡ free_car p → placement U (add_car k f trains) busy ≡ placed k w p
  opened_value p v r i =
      let same : all_fills U trains ≡ all_fills T trains = same_fills T U trains (λ m q. ap (λ (r : CarRecord). r.filled) (others m (in_trains_used m trains busy q))) in
      let held = same ∙ ap (λ (q : Placement). q.trains) v in
      let opened = opened_trains U k f w trains (ap (room_at k w) held ∙ r) (ap (λ (r : CarRecord). r.filled) on ∙ fill) in
      ap (λ (us : List TrainFill). placed_by us (option_map (fill_of U) busy)) (opened ∙ (ap (place_fill k f w) held ∙ ap (λ j. place_fill k j w p.trains) i))
      ∙ ap (placed_by (place_fill k (free_car p) w p.trains)) (busy_then busy e ∙ ap (λ (q : Placement). q.busy) v)
    where
      busy_then : (o : Option ℕ) → one_of f (in_use_by trains o) ≡ false → option_map (fill_of U) o ≡ option_map (fill_of T) o
      busy_then None q = refl
      busy_then (Some b) q =
          let ne : eqb b f ≡ false = ne_eqb b f (λ j. eqb-false f b (or_parts (eqb f b) (one_of f (in_trains trains)) q).0 (sym j)) in
          ap (λ (r : CarRecord). Some (filled_by b r.filled)) (set_off T U f b x h ne)

pub opens : (T : List CarRecord) (trains trains' : List (List ℕ)) (busy : Option ℕ) (p : Placement) (f k w at : ℕ) → Stands T trains busy → placement T trains busy ≡ p → k ≤ length p.trains → k < 8 → w ≤ 128
    → free_car p < 64 → f ≡ free_car p → room_at k w p.trains ≡ None → trains' ≡ add_car k f trains → at ≡ length (get_or trains k [])
    → Stands (set T f (record { in_use = true; filled = w; rank = k; place = at })) trains' busy × (placement (set T f (record { in_use = true; filled = w; rank = k; place = at })) trains' busy ≡ placed k w p)
opens T trains trains' busy p f k w at s v near low small free is full added place =
    let x : CarRecord = record { in_use = true; filled = w; rank = k; place = at } in
    let e = free_car_unused T trains busy p f v free is in
    let h = set_at T f x (omega (arith, is, free, s.wide)) in
    let l = ap (λ (q : Placement). length q.trains) v in
    rw added (
      opened_stands T (set T f x) trains busy f k w x s h e refl refl refl place (length-set T f x ∙ s.wide) small low (omega (arith, near, l, length_trains T trains)),
      opened_value T (set T f x) trains busy f k w x s h e refl refl refl place p v full is,
    )
