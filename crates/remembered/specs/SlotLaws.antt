-- Laws of the slot set.
use Rattle.std.specs.Prelude.{◌≡◌, ℕ, zero, suc, ◌+◌, ◌<◌, ◌≤◌, ◌↔◌, Bool, true, false, IsTrue, cond, not, ◌&&◌, ◌||◌, List, [], ◌∷◌, length, replicate, ◌==◌, ◌≢◌, nat_lt, slice_index_or, slice_set, refl}
use Rattle.std.proofs.Common.{sym, ap, subst, ◌∙◌, ⊎_elim, arith}
use Rattle.std.proofs.Math.Seq.{map-set_same}
use Rattle.std.proofs.lemmas.Grind.{common_steps}
use Rattle.std.proofs.lemmas.List.Sums.{sum_by-cons}
use Rattle.std.proofs.lemmas.List.{get_or_default, get_or-set_same, get_or-set_other}
use Rattle.std.proofs.lemmas.Bool.{cases_Bool, cases_eq, eq-eqb, ne_eqb, and_right, and_parts, ltb-true, ltb-false, or_from, cond-true, cond-false, cond_both}
use Rattle.remembered.specs.BitRow.{bit_in, Marked}
use Rattle.remembered.specs.BitRowLaws.{past_row}
use Rattle.remembered.specs.Laws.{in_range, new_in, HasNone}
use Rattle.remembered.specs.Leads.{IsExact, Leads}
use Rattle.remembered.specs.Leads.Leads.{untold, told}
use Rattle.remembered.specs.Pairs.{pair, number_of}
use Rattle.remembered.specs.SlotCars.{Car, car_at, kept_count, places, IsTallied}
use Rattle.remembered.specs.SlotCarLaws.{kept_count_more, kept_count_none, kept_count-le-places, places_none, places-set}
use Rattle.remembered.specs.Slots.{Slots, slot_in, slot_note, slot_forget, slot_run, slot_has, kept, is_over, slot_pairs, kept_of, KeepsPair, OverflowsCar, SlotNoted, SlotForgot, SlotSays, SlotStands}
use Rattle.remembered.specs.RangeLaws.{range_from, range_parts}
use Rattle.remembered.specs.Updates.{Updates}
use Rattle.remembered.specs.declared.Update.TheVariants.{Note, Forget}
use Rattle.remembered.specs.Counts.{count_same, count_none, count_all, count_more}
use Rattle.remembered.specs.PairLists.{and_none, within-without, number-without, length_without}

-- the counts when one pair more is kept
pub kept_more : (old new : List Car) (c a : ℕ) → a < 8192 → kept old c a ≡ false → ((d b : ℕ) → kept new d b ≡ (kept old d b || (d == c && b == a))) → kept_of new c ≡ kept_of old c + 1
unfolding kept_of
kept_more old new c a ha was h = count_more (kept old c) (kept new c) a 8192 ha was (grind (arith, common_steps, h c a)) (λ k ne. grind (arith, common_steps, ne, h c k))

pub kept_same : (old new : List Car) (c a : ℕ) → ((d b : ℕ) → kept new d b ≡ (kept old d b || (d == c && b == a))) → (d : ℕ) → (d ≢ c) → kept_of new d ≡ kept_of old d
unfolding kept_of
kept_same old new c a h d ne = count_same (kept new d) (kept old d) 8192 (λ k l. grind (arith, common_steps, ne, h d k))

-- the counts when a car is forgotten
pub freed_none : (old new : List Car) (c : ℕ) → ((d b : ℕ) → kept new d b ≡ (not (d == c) && kept old d b)) → kept_of new c ≡ 0
unfolding kept_of
freed_none old new c h = count_none (kept new c) 8192 (λ k l. grind (arith, common_steps, h c k))

pub freed_same : (old new : List Car) (c : ℕ) → ((d b : ℕ) → kept new d b ≡ (not (d == c) && kept old d b)) → (d : ℕ) → (d ≢ c) → kept_of new d ≡ kept_of old d
unfolding kept_of
freed_same old new c h d ne = count_same (kept new d) (kept old d) 8192 (λ k l. grind (arith, common_steps, ne, h d k))

pub kept-outside : (cars : List Car) (c : ℕ) → 64 ≤ c → kept_of cars c ≡ 0
unfolding kept_of
kept-outside cars c h = count_none (kept cars c) 8192 (λ k l. grind (arith, common_steps))

-- the counts when no pair of a car is changed
pub unchanged : (old new : List Car) (c : ℕ) → ((a : ℕ) → kept new c a ≡ kept old c a) → kept_of new c ≡ kept_of old c
unfolding kept_of
unchanged old new c h = count_same (kept new c) (kept old c) 8192 (λ k l. h k)

-- a car's count by its row
pub kept_of-row : (cars : List Car) (c : ℕ) → c < 64 → kept_of cars c ≡ kept_count (car_at cars c).kept
unfolding kept_of kept_count
kept_of-row cars c h = count_same (kept cars c) (bit_in (car_at cars c).kept) 8192 (λ k l. ap (λ x. x && bit_in (car_at cars c).kept k) (range_from c k h l))

-- a new pair is in range and not kept
pub new_parts : (cars : List Car) (c a : ℕ) → new_in (slot_pairs cars) c a ≡ true → (c < 64) × (a < 8192) × (kept cars c a ≡ false)
new_parts cars c a e = let q = range_parts c a (and_parts (in_range c a) _ e).0 in (q.0, q.1, grind (arith, common_steps))

-- the pairs that the set has after a forget
pub freed_pairs : (old : List Car) (c : ℕ) (new : List Car) → ((d b : ℕ) → kept new d b ≡ (not (d == c) && kept old d b)) → ((d : ℕ) → is_over new d ≡ (not (d == c) && is_over old d)) → (d b : ℕ) → slot_pairs new d b ≡ (not (d == c) && slot_pairs old d b)
freed_pairs old c new h o d b = grind (arith, common_steps, h d b, o d)

-- what stands for a state has the pairs of the state
pub slot_agrees : (cars : List Car) (σ : Slots) → SlotStands cars σ → (c a : ℕ) → slot_pairs cars c a ≡ slot_in σ c a
slot_agrees cars σ s c a = grind (arith, common_steps, s.kept_is c a, s.over_is c)

-- a note has one of three outcomes
note_cases : (P : Slots → Type 0) (c a : ℕ) (σ : Slots) → (new_in (slot_in σ) c a ≡ false → P σ)
    → (new_in (slot_in σ) c a ≡ true → length σ.kept < 2048 → P (record { kept = pair c a ∷ σ.kept; over = σ.over }))
    → (new_in (slot_in σ) c a ≡ true → 2048 ≤ length σ.kept → P (record { kept = σ.kept; over = λ d. σ.over d || d == c })) → P (slot_note c a σ)
note_cases P c a σ same kept over =
    cond_both (new_in (slot_in σ) c a) _ _ P
    (λ e. cond_both (nat_lt (length σ.kept) 2048) _ _ P (λ l. kept e (ltb-true _ _ l)) (λ g. over e (ltb-false _ _ g)))
    same

-- a note leads from what stands for a state to what stands for the next one
pub slot_tells : (old : List Car) (c a : ℕ) (new : List Car) (σ : Slots) → SlotNoted old c a new → SlotStands old σ → SlotStands new (slot_note c a σ)
slot_tells old c a new σ n s = note_cases (SlotStands new) c a σ (λ e. subst (λ x. SlotStands x σ) (sym (n.same (agree ∙ e))) s) (λ e l. one (agree ∙ e) (omega (arith, s.used_is))) (λ e g. full (agree ∙ e) (omega (arith, s.used_is)))
  where
    agree : new_in (slot_pairs old) c a ≡ new_in (slot_in σ) c a
    agree = ap (λ x. in_range c a && not x) (slot_agrees old σ s c a)

    number : (d : ℕ) → kept_of new c ≡ kept_of old c + 1 → ((d ≢ c) → kept_of new d ≡ kept_of old d) → kept_of old d ≡ number_of d σ.kept → kept_of new d ≡ cond (c == d) 1 0 + number_of d σ.kept
    number d one same is =
        ⊎_elim (λ (x : d ≡ c). grind (arith, common_steps, x, ap (kept_of new) x, ap (kept_of old) x)) (λ (ne : d ≢ c). grind (arith, common_steps, same ne)) (cases_eq d c)

    one : new_in (slot_pairs old) c a ≡ true → places old < 2048 → SlotStands new (record { kept = pair c a ∷ σ.kept; over = σ.over })
    one e l =
        let q = new_parts old c a e in
        let k = n.keeps e l in
        record {
          kept_is = λ d b. grind (arith, common_steps, k.kept_more d b, s.kept_is d b, q.0, q.1);
          over_is = λ d i. k.over_same d ∙ s.over_is d i;
          used_is = omega (arith, k.used_more, s.used_is);
          number_is = λ d. number d (kept_more old new c a q.1 q.2 k.kept_more) (kept_same old new c a k.kept_more d) (s.number_is d) ∙ sym (sum_by-cons _ (pair c a) σ.kept);
        }

    full : new_in (slot_pairs old) c a ≡ true → 2048 ≤ places old → SlotStands new (record { kept = σ.kept; over = λ d. σ.over d || d == c })
    full e g =
        let k = n.overflows e g in
        record {
          kept_is = λ d b. k.kept_same d b ∙ s.kept_is d b;
          over_is = λ d i. k.over_more d ∙ ap (λ x. x || d == c) (s.over_is d i);
          used_is = k.used_same ∙ s.used_is;
          number_is = λ d. unchanged old new d (k.kept_same d) ∙ s.number_is d;
        }

-- and so does a forget
pub slot_forgets : (old : List Car) (c : ℕ) (new : List Car) (σ : Slots) → SlotForgot old c new → SlotStands old σ → SlotStands new (slot_forget c σ)
slot_forgets old c new σ n s = record {
  kept_is = λ d b. grind (arith, common_steps, n.others_kept d b, s.kept_is d b, within-without c σ.kept d b);
  over_is = λ d i. n.others_over d ∙ ap (λ x. not (d == c) && x) (s.over_is d i);
  used_is = omega (arith, n.frees, s.used_is, s.number_is c, length_without c σ.kept);
  number_is = λ d.
      ⊎_elim
      (λ (x : d ≡ c). ap (kept_of new) x ∙ freed_none old new c n.others_kept ∙ sym (number-without c σ.kept d ∙ cond-true (d == c) 0 _ (eq-eqb d c x)))
      (λ (ne : d ≡ c → ⊥). freed_same old new c n.others_kept d ne ∙ s.number_is d ∙ sym (number-without c σ.kept d ∙ cond-false (d == c) 0 _ (ne_eqb d c ne)))
      (cases_eq d c);
}

-- cars with no pair stand for the state at the start
pub none_stand : (cars : List Car) → HasNone (slot_pairs cars) → SlotStands cars (slot_run [])
unfolding kept_of
none_stand cars none = record {
  kept_is = λ c a. kept_none c a ∙ sym (and_none (in_range c a));
  over_is = λ c h. grind (arith, common_steps, none c 0);
  used_is = places_none cars (λ c a hc ha. grind (arith, common_steps, none c a));
  number_is = λ c. count_none (kept cars c) 8192 (λ k l. kept_none c k);
}
  where
    kept_none : (c a : ℕ) → kept cars c a ≡ false
    kept_none c a = grind (arith, common_steps, none c a)

slot_stands : (s t : List Car) (us : Updates) → HasNone (slot_pairs s) → Leads slot_pairs SlotSays s us t → SlotStands t (slot_run us)
slot_stands s _ [] none (untold _) = none_stand s none
slot_stands s v (Note c a ∷ us) none (told _ t _ _ _ before _ said) = slot_tells t c a v (slot_run us) said (slot_stands s t us none before)
slot_stands s v (Forget c ∷ us) none (told _ t _ _ _ before _ said) = slot_forgets t c v (slot_run us) said (slot_stands s t us none before)

-- a slot set with no pair has the pairs that what it is told means
pub slot_exact : IsExact slot_pairs SlotSays slot_has
slot_exact s t us none way = slot_agrees t (slot_run us) (slot_stands s t us none way)

-- a car's row and flag when one car is another
set_at : (cars : List Car) (c : ℕ) (car : Car) → c < length cars → (d : ℕ) → d ≡ c → car_at (slice_set cars c car) d ≡ car
set_at cars c car h d e = ap (car_at (slice_set cars c car)) e ∙ get_or-set_same cars c car _ h

set_apart : (cars : List Car) (c : ℕ) (car : Car) (d : ℕ) → (d ≢ c) → car_at (slice_set cars c car) d ≡ car_at cars d
set_apart cars c car d ne = get_or-set_other cars c d car _ ne

one_more : (cars : List Car) (c a : ℕ) (car : Car) → length cars ≡ 64 → c < 64 → a < 8192 → bit_in (car_at cars c).kept a ≡ false
    → Marked (car_at cars c).kept a car.kept → car.overflown ≡ (car_at cars c).overflown → KeepsPair cars c a (slice_set cars c car)
one_more cars c a car len hc ha was more over = record {
  kept_more = kept_more;
  over_same = over_same;
  flags_same = map-set_same (λ w. w.overflown) cars c car _ over;
  used_more = omega (arith, places-set cars c car len hc, kept_count_more (car_at cars c).kept a car.kept ha was more);
}
  where
    kept_more : (d b : ℕ) → kept (slice_set cars c car) d b ≡ (kept cars d b || (d == c && b == a))
    kept_more d b =
        ⊎_elim
        (λ (e : d ≡ c). grind (arith, common_steps, e, set_at cars c car (omega arith) d e, more b))
        (λ (ne : d ≢ c). grind (arith, common_steps, ne, set_apart cars c car d ne))
        (cases_eq d c)

    over_same : (d : ℕ) → is_over (slice_set cars c car) d ≡ is_over cars d
    over_same d =
        ⊎_elim
        (λ (e : d ≡ c). grind (arith, common_steps, e, set_at cars c car (omega arith) d e, over))
        (λ (ne : d ≢ c). grind (arith, common_steps, set_apart cars c car d ne))
        (cases_eq d c)

one_over : (cars : List Car) (c : ℕ) (car : Car) → length cars ≡ 64 → c < 64 → car.kept ≡ (car_at cars c).kept → car.overflown ≡ true → OverflowsCar cars c (slice_set cars c car)
one_over cars c car len hc same over = record {
  kept_same = kept_same;
  rows_same = map-set_same (λ w. w.kept) cars c car _ same;
  over_more = over_more;
  used_same = omega (arith, places-set cars c car len hc, ap kept_count same);
}
  where
    kept_same : (d b : ℕ) → kept (slice_set cars c car) d b ≡ kept cars d b
    kept_same d b =
        ⊎_elim
        (λ (e : d ≡ c). grind (arith, common_steps, e, set_at cars c car (omega arith) d e, same))
        (λ (ne : d ≢ c). grind (arith, common_steps, set_apart cars c car d ne))
        (cases_eq d c)

    over_more : (d : ℕ) → is_over (slice_set cars c car) d ≡ (is_over cars d || d == c)
    over_more d =
        ⊎_elim
        (λ (e : d ≡ c). grind (arith, common_steps, e, set_at cars c car (omega arith) d e, over))
        (λ (ne : d ≢ c). grind (arith, common_steps, ne, set_apart cars c car d ne))
        (cases_eq d c)

-- one car keeps one address more; what was there is read with any default
pub keeps_pair : (cars : List Car) (c a : ℕ) (d car : Car) → length cars ≡ 64 → new_in (slot_pairs cars) c a ≡ true
    → Marked (slice_index_or cars c d).kept a car.kept → car.overflown ≡ (slice_index_or cars c d).overflown → KeepsPair cars c a (slice_set cars c car)
keeps_pair cars c a d car len new more over =
    let n = new_parts cars c a new in
    let at : slice_index_or cars c d ≡ car_at cars c = get_or_default cars c d _ (omega (arith, n.0)) in
    let none : bit_in (car_at cars c).kept a ≡ false = sym (ap (λ x. x && bit_in (car_at cars c).kept a) (range_from c a n.0 n.1)) ∙ n.2 in
    one_more cars c a car len n.0 n.1 none (subst (λ (w : Car). Marked w.kept a car.kept) at more) (over ∙ ap (λ (w : Car). w.overflown) at)

-- one car overflows
pub overflows_car : (cars : List Car) (c : ℕ) (d car : Car) → length cars ≡ 64 → c < 64 → car.kept ≡ (slice_index_or cars c d).kept → car.overflown ≡ true → OverflowsCar cars c (slice_set cars c car)
overflows_car cars c d car len hc same over = one_over cars c car len hc (same ∙ ap (λ (w : Car). w.kept) (get_or_default cars c d _ (omega arith))) over

-- one car gives all its places back
pub frees_car : (cars : List Car) (c : ℕ) (car : Car) → length cars ≡ 64 → c < 64 → ((a : ℕ) → bit_in car.kept a ≡ false) → car.overflown ≡ false → SlotForgot cars c (slice_set cars c car)
frees_car cars c car len hc none over = record {
  others = freed_pairs cars c (slice_set cars c car) others_kept others_over;
  others_kept = others_kept;
  others_over = others_over;
  frees = omega (arith, places-set cars c car len hc, kept_count_none car.kept none, kept_of-row cars c hc);
}
  where
    others_kept : (d b : ℕ) → kept (slice_set cars c car) d b ≡ (not (d == c) && kept cars d b)
    others_kept d b =
        ⊎_elim
        (λ (e : d ≡ c). grind (arith, common_steps, e, set_at cars c car (omega arith) d e, none b))
        (λ (ne : d ≢ c). grind (arith, common_steps, ne, set_apart cars c car d ne))
        (cases_eq d c)

    others_over : (d : ℕ) → is_over (slice_set cars c car) d ≡ (not (d == c) && is_over cars d)
    others_over d =
        ⊎_elim
        (λ (e : d ≡ c). grind (arith, common_steps, e, set_at cars c car (omega arith) d e, over))
        (λ (ne : d ≢ c). grind (arith, common_steps, ne, set_apart cars c car d ne))
        (cases_eq d c)

-- a car behind the last is forgotten
pub none_freed : (cars : List Car) (c : ℕ) → 64 ≤ c → SlotForgot cars c cars
none_freed cars c h = record {
  others = freed_pairs cars c cars others_kept others_over;
  others_kept = others_kept;
  others_over = others_over;
  frees = omega (arith, kept-outside cars c h);
}
  where
    others_kept : (d b : ℕ) → kept cars d b ≡ (not (d == c) && kept cars d b)
    others_kept d b = grind (arith, common_steps)

    others_over : (d : ℕ) → is_over cars d ≡ (not (d == c) && is_over cars d)
    others_over d = grind (arith, common_steps)

-- the cars at the start
start_kept : (car : Car) → ((a : ℕ) → bit_in car.kept a ≡ false) → (n c a : ℕ) → bit_in (car_at (replicate n car) c).kept a ≡ false
start_kept car none zero c a = past_row [] a (omega arith)
start_kept car none (suc n) zero a = none a
start_kept car none (suc n) (suc c) a = start_kept car none n c a

start_over : (car : Car) → car.overflown ≡ false → (n c : ℕ) → (car_at (replicate n car) c).overflown ≡ false
start_over car over zero c = refl
start_over car over (suc n) zero = over
start_over car over (suc n) (suc c) = start_over car over n c

pub start_pairs : (car : Car) → ((a : ℕ) → bit_in car.kept a ≡ false) → car.overflown ≡ false → HasNone (slot_pairs (replicate 64 car))
start_pairs car none over c a = and_right (in_range c a) _ (or_from _ _ (and_right (nat_lt c 64) _ (start_over car over 64 c)) (start_kept car none 64 c a))

-- all places are free then
pub start_places : (car : Car) → ((a : ℕ) → bit_in car.kept a ≡ false) → places (replicate 64 car) ≡ 0
start_places car none = places_none (replicate 64 car) (λ c a hc ha. start_kept car none 64 c a)

-- what a car gives back is a part of the places in use
pub freed_count : (cars : List Car) (c : ℕ) (d : Car) → length cars ≡ 64 → c < 64 → (kept_count (slice_index_or cars c d).kept ≡ kept_of cars c) × (kept_of cars c ≤ places cars)
freed_count cars c d len hc =
    (ap (λ (w : Car). kept_count w.kept) (get_or_default cars c d _ (omega arith)) ∙ sym (kept_of-row cars c hc), omega (arith, kept_of-row cars c hc, kept_count-le-places cars c len hc))

all_kept : (cars : List Car) (c : ℕ) → ((a : ℕ) → a < 8192 → kept cars c a ≡ true) → kept_of cars c ≡ 8192
unfolding kept_of
all_kept cars c h = count_all (kept cars c) 8192 h

-- a car with all addresses is overflown, since they would not fit into 2,048 places
over_if_all : (cars : List Car) (used c : ℕ) → IsTallied cars used → ((a : ℕ) → a < 8192 → slot_pairs cars c a ≡ true) → is_over cars c ≡ true
over_if_all cars used c tallied all =
    let hc = (range_parts c 0 (and_parts (in_range c 0) _ (all 0 (omega arith))).0).0 in
    ⊎_elim (λ e. e)
    (λ (e : is_over cars c ≡ false).
    let many = all_kept cars c (λ a l. grind (arith, common_steps, all a l)) in
    absurd (omega (arith, many, kept_of-row cars c hc, kept_count-le-places cars c tallied.full hc, tallied.tallied, tallied.room)))
    (cases_Bool (is_over cars c))

-- a car is overflown exactly when it has all addresses; its flag is read with any default
pub over_all : (cars : List Car) (used c : ℕ) (d : Car) (over : Bool) → IsTallied cars used → nat_lt c 64 ≡ true → over ≡ (slice_index_or cars c d).overflown → IsTrue over ↔ ((a : ℕ) → a < 8192 → slot_pairs cars c a ≡ true)
over_all cars used c d over tallied in_range e =
    let at = get_or_default cars c d (record { kept = []; overflown = false }) (omega (arith, tallied.full, ltb-true c 64 in_range)) in
    let is : over ≡ is_over cars c = grind (arith, common_steps, e, at) in
    (λ o a l. grind (arith, common_steps, is, o), λ all. is ∙ over_if_all cars used c tallied all)
