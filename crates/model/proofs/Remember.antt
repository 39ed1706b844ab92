-- Every call keeps the remembered set complete, so no reference is overlooked.
use Rattle.std.proofs.Common.{◌≡◌, ℕ, ◌+◌, ◌*◌, ◌<◌, ◌≤◌, Bool, true, false, cond, eqb, List, [], ◌∷◌, ◌++◌, length, get_or, Some, None, Option, sym, refl, ap, ◌∙◌, subst, arith, length-set, not}
use lib.ListN.{length-replicate}
use Rattle.std.proofs.lemmas.Bool.{eqb-false, ltb-false, or_parts}
use Rattle.std.specs.List.{AllByRecursion, IsDistinct}
use Rattle.std.specs.Prelude.{map}
use Rattle.layout.specs.ShapeTable.{ShapeTable, Offsets, Lawful}
use Rattle.std.specs.Option.{option_map_or}
use Rattle.remembered.specs.declared.Update.TheVariants.{Forget}
use Rattle.remembered.specs.Laws.{Keeps}
use Rattle.remembered.specs.Updates.{Pairs, Updates, no_pairs, still_noted}
use Rattle.calls.specs.declared.call.Call.{Call}
use Rattle.calls.specs.declared.call.Call.TheVariants.{Make, Access, Step, Tally}
use Rattle.model.specs.Calls.{History}
use Rattle.layout.specs.declared.Shape.{Shape}
use Rattle.model.specs.Bodies.{Body, fresh, shape_of, new_body, size, with_ref, with_value, is_root, Effect, leave, hold, point, store, response}
use Rattle.model.specs.Trains.{Obj, Car, Train, Trains, train_objects, objects, words_of, words_in_use, obj_size, times, among, car_numbers, numbers, one_of, lowest_free, place_at, arrival, inside, alter, car_words}
use Rattle.model.specs.Claims.{MoveRequest, Claim}
use Rattle.model.specs.Step.{first_to, outside, requests, claimed, place_all}
use Rattle.model.specs.Notes.{CarPlace, car_place, Slot, ref_offset, train_slots, slots, notes, notes_of_carried, target_among, is_slot, tell}
use Rattle.model.specs.Space.{Model, all_objects, updates_of, noted_by, made_by, has_room, space_with, carried, trains_after, step_by, step_on, act, space_of}
use Rattle.model.specs.Remembered.{RememberedIfLater, HoldsWhatLies}
use Rattle.model.proofs.Totals.{claims-total, place_at-total, sums}
use Rattle.model.specs.Sound.{Points, Sized, Filled, SoundAt, Sound}
use Rattle.model.proofs.Alls.{all_left, all_right, claims_all, place_at_all, all_map, all_with}
use Rattle.model.proofs.Distinct.{one_of_apart, lowest_unused, all_at, distinct_nil, distinct_head}
use Rattle.model.proofs.Cars.{fresh_is, RanksBelow, filled_tail, filled_place_at, length-place_at, few_cars, length-numbers}
use Rattle.model.proofs.Alters.{ref_size, value_size, objects-alter, alter_all}
use Rattle.model.proofs.Outside.{claims_below, requests_below}
use Rattle.model.proofs.Keeps.{old_none, step_all, sound_of, make_cases, no_ref, times_self}
use Rattle.model.proofs.RememberCars.{later, cars_in_row, row_objects, row_numbers, row_car_place, row_slots, row_alter, row_trim, place_at-placed, Numbered, placed-numbered, numbered_right, numbered_apart, alter-numbers, car_place-number, car_place_found}
use Rattle.model.proofs.RememberSlots.{InRefs, InObjects, InCars, cars_from, cars_all, By, cars_slots, Noted, Always, But, noted_right, noted_with, noted_placed, store_noted, point_noted, ToldSlot, noted_slots, slots_noted}
use Rattle.model.proofs.RememberTold.{KeepsNoted, still_noted_keeps, tell-++, notes_keep, Gained, notes_gain, touched, carried_keep, carried_gain, forgets_keep}

-- a body of an admitted shape, with as many references and data words as the layout says
pub record Shaped (M : ShapeTable) (b : Body) : Type 0 where
  pub offsets : Offsets
  pub admitted : M.offsets b.shape ≡ Some offsets
  pub refs : length b.refs ≡ offsets.refs
  pub values : length b.values ≡ offsets.words

pub record Remembering (M : ShapeTable) (has : Updates → Pairs) (ts : Trains) (r : Updates) : Type 0 where
  pub numbered : Numbered (cars_in_row ts)
  pub shaped : AllByRecursion (λ o. Shaped M o.body) (objects ts)
  pub noted : Noted M has r Always (cars_in_row ts)

-- Addresses.

abbrev Below : ℕ → ℕ → ℕ → Option ℕ → Type 0
Below a x i h = a < 8192

abbrev pub Within : Train → Type 0
Within t = AllByRecursion (λ c. words_of c.objects ≤ 128) t

filled_within : (t u : Train) → Filled t → Within u → Within (t ++ u)
filled_within [] u h w = w
filled_within (c ∷ []) u h w = (h.1, w)
filled_within (c ∷ d ∷ cs) u h w = (h.1, filled_within (d ∷ cs) u h.2 w)

pub all_within : (ts : Trains) → AllByRecursion Filled ts → Within (cars_in_row ts)
all_within [] h = tt
all_within (t ∷ ts) h = filled_within t (cars_in_row ts) h.0 (all_within ts h.1)

module _ (M : ShapeTable) (law : Lawful M) where
  refs_below : (s : Shape) (o : Offsets) → M.offsets s ≡ Some o → (x a j : ℕ) (hs : List (Option ℕ))
      → j + length hs ≤ o.refs → a + (1 + (o.refs + o.words)) ≤ 8192 → InRefs M Below s x a j hs
  refs_below s o ok x a j [] l k = tt
  refs_below s o ok x a j (h ∷ hs) l k =
      let p = (law.apart s o ok).ref_inside j (omega (arith, l)) in
      let q : ref_offset M s j ≡ o.ref_at j = ap (λ v. option_map_or (λ u. u.ref_at j) v 0) ok in
      (omega (arith, p.1, k, q), refs_below s o ok x a (j + 1) hs (omega (arith, l)) k)

  objects_below : (a : ℕ) (os : List Obj) → a + words_of os ≤ 8192 → AllByRecursion (λ o. Shaped M o.body) os → InObjects M Below a os
  objects_below a [] l p = tt
  objects_below a (o ∷ os) l p =
      let q = p.0 in (
        refs_below o.body.shape q.offsets q.admitted o.id a 0 o.body.refs (omega (arith, q.refs)) (omega (arith, sums, q.refs, q.values, l)),
        objects_below (a + size o.body) os (omega (arith, sums, l)) p.1,
      )

  cars_below : (t : Train) → Within t → AllByRecursion (λ z. z < 64) (car_numbers t) → AllByRecursion (λ o. Shaped M o.body) (train_objects t) → InCars M Below t
  cars_below [] w k p = tt
  cars_below (c ∷ cs) w k p =
      let n : c.number < 64 = k.0 in
      let l : words_of c.objects ≤ 128 = w.0 in (
        objects_below (car_words * c.number) c.objects (omega arith) (all_left _ c.objects (train_objects cs) p),
        cars_below cs w.1 k.1 (all_right _ c.objects (train_objects cs) p),
      )

  addresses_below : (ts : Trains) → AllByRecursion Filled ts → Numbered (cars_in_row ts) → AllByRecursion (λ o. Shaped M o.body) (objects ts)
      → AllByRecursion (λ s. s.address < 8192) (slots M 0 ts)
  addresses_below ts f k p =
      subst (λ (ss : List Slot). AllByRecursion (λ s. s.address < 8192) ss) (sym (row_slots M 0 ts))
      (cars_slots M Below 0 (cars_in_row ts)
      (cars_below (cars_in_row ts) (all_within ts f) k.0 (subst (λ (os : List Obj). AllByRecursion (λ o. Shaped M o.body) os) (sym (row_objects ts)) p)))

-- The notes add what was left out.

join_told : (has : Updates → Pairs) (ts : Trains) (test : Slot → Bool) (q : Updates) (E : ℕ → ℕ → ℕ → Type 0) → Numbered (cars_in_row ts)
    → ((s : Slot) (y : ℕ) → s.target ≡ Some y → test s ≡ false → E s.holder s.index y)
    → (s : Slot) → ToldSlot has q E 0 (cars_in_row ts) s → (Gained has ts test q s × (s.address < 8192)) → ToldSlot has q Always 0 (cars_in_row ts) s
join_told has ts test q E num out s u v y d e w l k = go (test s) refl
  where
    go : (b : Bool) → test s ≡ b → has q d.number s.address ≡ true
    go true a = v.0 a y d e (row_car_place 0 y ts ∙ w) l (all_at (λ z. z < 64) d.number (car_numbers (cars_in_row ts)) num.0 (car_place-number y d 0 (cars_in_row ts) w)) v.1
    go false a = u y d e w l (out s y e a)

module _ (M : ShapeTable) (law : Lawful M) (has : Updates → Pairs) (told-law : KeepsNoted has) where
  complete : (ts : Trains) (r q : Updates) (test : Slot → Bool) (E : ℕ → ℕ → ℕ → Type 0) → ((y : ℕ) → times y (objects ts) ≤ 1) → AllByRecursion Filled ts
      → Numbered (cars_in_row ts) → AllByRecursion (λ o. Shaped M o.body) (objects ts)
      → ((s : Slot) (y : ℕ) → s.target ≡ Some y → test s ≡ false → E s.holder s.index y)
      → ((n a : ℕ) → has r n a ≡ true → has q n a ≡ true) → AllByRecursion (Gained has ts test q) (slots M 0 ts)
      → Noted M has r E (cars_in_row ts) → Noted M has q Always (cars_in_row ts)
  complete ts r q test E once f num shp out keeps gains p =
      let t = cars_in_row ts in
      let kept = noted_with M has r q E E t p (cars_all M (λ a x i h. (y : ℕ) → h ≡ Some y → E x i y → E x i y) (λ a x i h y e k. k) t)
      (λ n a o u. keeps n a u) in
      let told = subst (λ (ss : List Slot). AllByRecursion (ToldSlot has q E 0 t) ss) (sym (row_slots M 0 ts)) (noted_slots M has q E 0 t kept) in
      let gain = all_with (Gained has ts test q) (λ s. s.address < 8192) (λ s. Gained has ts test q s × (s.address < 8192)) (λ s u v. (u, v)) (slots M 0 ts)
      gains (addresses_below M law ts f num shp) in
      slots_noted M has q Always 0 t (λ y. omega (arith, ap (times y) (row_objects ts), once y))
      (subst (λ (ss : List Slot). AllByRecursion (ToldSlot has q Always 0 t) ss) (row_slots M 0 ts)
      (all_with (ToldSlot has q E 0 t) (λ s. Gained has ts test q s × (s.address < 8192)) (ToldSlot has q Always 0 t)
      (join_told has ts test q E num out) (slots M 0 ts) told gain))

-- A make.

-- all references but those to z
abbrev NotTo : ℕ → ℕ → ℕ → ℕ → Type 0
NotTo z x i y = y ≡ z → ⊥

place_remembers : (M : ShapeTable) (has : Updates → Pairs) (k n : ℕ) (o : Obj) (ts : Trains) (r : Updates) → n < 64 → one_of n (numbers ts) ≡ false → Shaped M o.body
    → ((i y : ℕ) → get_or o.body.refs i None ≡ Some y → ⊥) → AllByRecursion (Points (λ y. y ≡ o.id → ⊥)) (objects ts)
    → Remembering M has ts r → Remembering M has (place_at k n o ts) r
place_remembers M has k n o ts r h f shp none others rem =
    let q = place_at-placed k n o ts in
    let E = NotTo o.id in
    let before = noted_with M has r r Always E (cars_in_row ts) rem.noted
    (cars_all M (λ a x i h. (y : ℕ) → h ≡ Some y → E x i y → Always x i y) (λ a x i h y e u. tt) (cars_in_row ts)) (λ m a u v. v) in
    let after = noted_placed M has r E n o (λ i j y e u. none i y e) (λ x i u. u refl) q before in
    let fine = place_at_all (Points (λ y. y ≡ o.id → ⊥)) k n o ts others (λ i y e. absurd (none i y e)) in
    let points = subst (λ (os : List Obj). AllByRecursion (Points (λ y. y ≡ o.id → ⊥)) os) (sym (row_objects (place_at k n o ts))) fine in
    let B : ℕ → ℕ → ℕ → Option ℕ → Type 0 = λ a x i h. (y : ℕ) → h ≡ Some y → Always x i y → E x i y in
    record {
      numbered = placed-numbered n o (cars_in_row ts) (cars_in_row (place_at k n o ts)) q h (subst (λ (ns : List ℕ). one_of n ns ≡ false) (sym (row_numbers ts)) f) rem.numbered;
      shaped = place_at_all (λ p. Shaped M p.body) k n o ts rem.shaped shp;
      noted = noted_with M has r r E Always (cars_in_row (place_at k n o ts)) after
          (cars_from M B (cars_in_row (place_at k n o ts))
          (all_map (Points (λ y. y ≡ o.id → ⊥)) (λ p. (i b j : ℕ) → B b p.id j (get_or p.body.refs i None)) (λ p u i b j y e v. u i y e)
          (train_objects (cars_in_row (place_at k n o ts))) points))
          (λ m a u v. v);
    }

module _ (M : ShapeTable) (law : Lawful M) (has : Updates → Pairs) (told-law : KeepsNoted has) where
  made_remembers : (p : Shape) (u : Offsets) (x : ℕ) (m : Model) (us : Updates) → M.offsets p ≡ Some u → Sound m → Remembering M has m.trains us
      → Remembering M has (made_by (fresh p u) x m).trains us
  made_remembers p u x m us ok s rem =
      let ts = m.trains in
      let few = few_cars ts s.filled s.room s.few in
      let free = lowest_unused (numbers ts) (omega (arith, length-numbers ts, few)) in
      place_remembers M has (arrival ts) (lowest_free (numbers ts)) (record { id = m.made; body = fresh p u }) ts us free.0 free.1
      (record { offsets = u; admitted = ok; refs = length-replicate {A = Option ℕ} u.refs None; values = length-replicate {A = ℕ} u.words 0 })
      (λ i y e. no_ref u.refs i y e)
      (all_map (Points (λ y. 1 ≤ times y (objects ts))) (Points (λ y. y ≡ m.made → ⊥))
      (λ p u i y e q. omega (arith, u i y e, old_none m.made y (objects ts) (omega (arith, q)) s.old)) (objects ts) s.refs)
      rem

  make_remembers : (r k a b : ℕ) (m : Model) (us : Updates) → Sound m → Remembering M has m.trains us
      → Remembering M has (act M (Make r k a b) m).state.trains us
  make_remembers r k a b m us s rem =
      make_cases (λ o. Remembering M has o.state.trains us) (is_root r) (new_body M (shape_of k a b)) (λ x. not (has_room x m)) m
      (λ x. made_by x r m) (λ n. rem)
      (λ x is room. let u = fresh_is M (shape_of k a b) x is in rw u.2 (made_remembers (shape_of k a b) u.0 r m us u.1 s rem))

-- A call on what the roots hold.

alter_shaped : (M : ShapeTable) (x : ℕ) (g : Body → Body) → ((b : Body) → Shaped M b → Shaped M (g b)) → (ts : Trains)
    → AllByRecursion (λ o. Shaped M o.body) (objects ts) → AllByRecursion (λ o. Shaped M o.body) (objects (alter x g ts))
alter_shaped M x g keeps ts p =
    subst (λ (os : List Obj). AllByRecursion (λ o. Shaped M o.body) os) (sym (objects-alter x g ts))
    (alter_all x g (λ o. Shaped M o.body) (λ o. Shaped M o.body) (λ o q. go o q (eqb x o.id)) (objects ts) p)
  where
    go : (o : Obj) → Shaped M o.body → (b : Bool) → Shaped M (cond b (g o.body) o.body)
    go o q true = keeps o.body q
    go o q false = q

alter-numbered : (x : ℕ) (g : Body → Body) (ts : Trains) → Numbered (cars_in_row ts) → Numbered (cars_in_row (alter x g ts))
alter-numbered x g ts k =
    subst (λ (ns : List ℕ). AllByRecursion (λ z. z < 64) ns × IsDistinct eqb ns)
    (sym (ap car_numbers (row_alter x g ts) ∙ alter-numbers x g (cars_in_row ts))) k

module _ (M : ShapeTable) (law : Lawful M) (has : Updates → Pairs) (told-law : KeepsNoted has) where
  effect_remembers : (e : Effect) (m : Model) (us : Updates) → Sound (space_with e m) → Remembering M has m.trains us
      → Remembering M has (space_with e m).trains (tell (noted_by M e (space_with e m).trains) us)
  effect_remembers leave m us s rem = rem
  effect_remembers (hold r h) m us s rem = rem
  effect_remembers (point x i h) m us s rem =
      let g = with_ref i h in
      let ts = alter x g m.trains in
      let num = alter-numbered x g m.trains rem.numbered in
      let shp = alter_shaped M x g (λ b q. record { offsets = q.offsets; admitted = q.admitted; refs = length-set b.refs i h ∙ q.refs; values = q.values }) m.trains rem.shaped in
      record {
        numbered = num;
        shaped = shp;
        noted = complete M law has told-law ts us (tell (notes ts (is_slot x i) (slots M 0 ts)) us) (is_slot x i) (But x i) s.once s.filled num shp (λ z y e a. a)
            (λ n a u. notes_keep has told-law ts (is_slot x i) (slots M 0 ts) us n a u) (notes_gain has told-law ts (is_slot x i) (slots M 0 ts) us)
            (subst (λ (t : Train). Noted M has us (But x i) t) (sym (row_alter x g m.trains))
            (point_noted M has us x i h (ref_size i h) (cars_in_row m.trains) rem.noted));
      }
  effect_remembers (store x w v) m us s rem =
      let g = with_value w v in
      record {
        numbered = alter-numbered x g m.trains rem.numbered;
        shaped = alter_shaped M x g (λ b q. record { offsets = q.offsets; admitted = q.admitted; refs = q.refs; values = length-set b.values w v ∙ q.values }) m.trains rem.shaped;
        noted = subst (λ (t : Train). Noted M has us Always t) (sym (row_alter x g m.trains))
            (store_noted M has us x w v (value_size w v) (cars_in_row m.trains) rem.noted);
      }

-- A step.

-- objects placed while a car f is emptied: no car takes the number of another, nor that of f
pub place_all-numbered : (f : Car) (row : List Claim) (ts : Trains) → AllByRecursion Filled ts → words_in_use ts + words_of (claimed row) ≤ 3072 → length ts ≤ 8
    → AllByRecursion Sized (claimed row) → RanksBelow row → Numbered (f ∷ cars_in_row ts) → Numbered (f ∷ cars_in_row (place_all (f.number ∷ []) row ts))
place_all-numbered f [] ts p w l s r k = k
place_all-numbered f (c ∷ row) ts p w l s r k =
    let n = lowest_free ((f.number ∷ []) ++ numbers ts) in
    let few = few_cars ts p (omega (arith, w)) l in
    let free = lowest_unused (f.number ∷ numbers ts) (omega (arith, length-numbers ts, few)) in
    let size-more = place_at-total obj_size c.rank n c.object ts in
    place_all-numbered f row (place_at c.rank n c.object ts) (filled_place_at c.rank n c.object ts s.0 p)
    (omega (arith, sums, w, size-more)) (length-place_at c.rank n c.object ts r.0 l).1 s.1 r.1
    (placed-numbered n c.object (f ∷ cars_in_row ts) (f ∷ cars_in_row (place_at c.rank n c.object ts)) (later f _ _ (place_at-placed c.rank n c.object ts)) free.0
    (subst (λ (ns : List ℕ). one_of n (f.number ∷ ns) ≡ false) (sym (row_numbers ts)) free.1) k)

-- the references of objects that are not carried, to objects that are not carried
abbrev Uncarried : List Obj → ℕ → ℕ → ℕ → Type 0
Uncarried os x i y = (times x os ≡ 0) × (times y os ≡ 0)

place_all_noted : (M : ShapeTable) (has : Updates → Pairs) (r : Updates) (os : List Obj) (busy : List ℕ) (row : List Claim) (ts : Trains)
    → AllByRecursion (λ o. 1 ≤ times o.id os) (claimed row) → Noted M has r (Uncarried os) (cars_in_row ts) → Noted M has r (Uncarried os) (cars_in_row (place_all busy row ts))
place_all_noted M has r os busy [] ts a p = p
place_all_noted M has r os busy (c ∷ row) ts a p =
    let n = lowest_free (busy ++ numbers ts) in
    let here : 1 ≤ times c.object.id os = a.0 in
    place_all_noted M has r os busy row (place_at c.rank n c.object ts) a.1
    (noted_placed M has r (Uncarried os) n c.object (λ i j y e u. omega (arith, u.0)) (λ x i u. omega (arith, u.1)) (place_at-placed c.rank n c.object ts) p)

untouched : (os : List Obj) (s : Slot) (y : ℕ) → s.target ≡ Some y → touched os s ≡ false → Uncarried os s.holder s.index y
untouched os s y e t =
    let k = or_parts (among s.holder os) (target_among os s.target) t in
    let h : among y os ≡ false = subst (λ (v : Option ℕ). target_among os v ≡ false) e k.1 in
    (omega (arith, ltb-false 0 (times s.holder os) k.0), omega (arith, ltb-false 0 (times y os) h))

module _ (M : ShapeTable) (law : Lawful M) (has : Updates → Pairs) (told-law : KeepsNoted has) where
  train_remembers : (t : Train) (ts : Trains) (r : Updates) → Remembering M has (t ∷ ts) r → Remembering M has ts (tell (map Forget (car_numbers t)) r)
  train_remembers t ts r rem = record {
    numbered = numbered_right t (cars_in_row ts) rem.numbered;
    shaped = all_right (λ o. Shaped M o.body) (train_objects t) (objects ts) rem.shaped;
    noted = noted_with M has r (tell (map Forget (car_numbers t)) r) Always Always (cars_in_row ts) (noted_right M has r Always t (cars_in_row ts) rem.noted)
        (cars_all M (λ a x i h. (y : ℕ) → h ≡ Some y → Always x i y → Always x i y) (λ a x i h y e u. u) (cars_in_row ts))
        (λ n a o u. forgets_keep has told-law (car_numbers t) r n a (numbered_apart t (cars_in_row ts) rem.numbered n o) u);
  }

  module _ (f : Car) (cs : Train) (ts : Trains) (m : Model) (s : SoundAt m.made m.roots ((f ∷ cs) ∷ ts) m.mark) (us : Updates) (rem : Remembering M has ((f ∷ cs) ∷ ts) us) where
    after_numbered : Numbered (cars_in_row (trains_after f cs ts m))
    after_numbered =
        let W = requests m.roots m.mark f cs ts in
        let row = (carried f cs ts m).taken in
        let R = place_all (f.number ∷ []) row (cs ∷ ts) in
        let sizes = (claims_all Sized W f.objects (all_left Sized f.objects (train_objects cs) (all_left Sized (f.objects ++ train_objects cs) (objects ts) s.sized))).0 in
        let below = claims_below W f.objects (requests_below m.roots m.mark f cs ts s.few s.mark) in
        subst Numbered (sym (row_trim R))
        (numbered_right (f ∷ []) (cars_in_row R)
        (place_all-numbered f row (cs ∷ ts) (filled_tail f cs s.filled.0, s.filled.1)
        (omega (arith, sums, s.room, claims-total obj_size W f.objects))
        s.few sizes below rem.numbered))

    after_noted : Noted M has (Forget f.number ∷ us) (Uncarried (claimed (carried f cs ts m).taken)) (cars_in_row (trains_after f cs ts m))
    after_noted =
        let row = (carried f cs ts m).taken in
        let os = claimed row in
        let q = Forget f.number ∷ us in
        let R = place_all (f.number ∷ []) row (cs ∷ ts) in
        let t = cars_in_row (cs ∷ ts) in
        let before = noted_with M has us q Always (Uncarried os) t rem.noted.1
        (cars_all M (λ a x i h. (y : ℕ) → h ≡ Some y → Uncarried os x i y → Always x i y) (λ a x i h y e u. tt) t)
        (λ n a o u. told-law.keeps_others us f.number n a (eqb-false n f.number (one_of_apart n f.number (car_numbers t) o (distinct_head f.number (car_numbers t) rem.numbered.1))) u) in
        subst (λ (v : Train). Noted M has q (Uncarried os) v) (sym (row_trim R)) (place_all_noted M has q os (f.number ∷ []) row (cs ∷ ts) (times_self os) before)

    car_remembers : ((y : ℕ) → times y (objects (trains_after f cs ts m)) ≤ 1) → AllByRecursion Filled (trains_after f cs ts m)
        → Remembering M has (trains_after f cs ts m)
        (tell (Forget f.number ∷ notes_of_carried (trains_after f cs ts m) (claimed (carried f cs ts m).taken) (slots M 0 (trains_after f cs ts m))) us)
    car_remembers once fill =
        let after = trains_after f cs ts m in
        let os = claimed (carried f cs ts m).taken in
        let shp = step_all (λ o. Shaped M o.body) f cs ts m rem.shaped in
        record {
          numbered = after_numbered;
          shaped = shp;
          noted = subst (λ (v : Updates). Noted M has v Always (cars_in_row after)) (sym (tell-++ (Forget f.number ∷ []) (notes_of_carried after os (slots M 0 after)) us))
              (complete M law has told-law after (Forget f.number ∷ us) (tell (notes_of_carried after os (slots M 0 after)) (Forget f.number ∷ us)) (touched os) (Uncarried os)
              once fill after_numbered shp (untouched os)
              (λ n a u. carried_keep has told-law after (slots M 0 after) os (Forget f.number ∷ us) n a u) (carried_gain has told-law after (slots M 0 after) os (Forget f.number ∷ us)) after_noted);
        }

  step_remembers : (ts : Trains) (m : Model) (us : Updates) → m.trains ≡ ts → SoundAt m.made m.roots ts m.mark → Sound (step_on M ts m).state → Remembering M has ts us
      → Remembering M has (step_on M ts m).state.trains (tell (step_on M ts m).updates us)
  step_remembers [] m us e s z rem = subst (λ (v : Trains). Remembering M has v us) (sym e) rem
  step_remembers ([] ∷ ts) m us e s z rem = absurd (omega (arith, s.standing.0))
  step_remembers ((f ∷ cs) ∷ ts) m us e s z rem = go (first_to (train_objects (f ∷ cs)) (outside m.roots ((f ∷ cs) ∷ ts) ts)) z
    where
      go : (w : Option MoveRequest) → Sound (step_by M w (f ∷ cs) ts m).state → Remembering M has (step_by M w (f ∷ cs) ts m).state.trains (tell (step_by M w (f ∷ cs) ts m).updates us)
      go None y = train_remembers (f ∷ cs) ts us rem
      go (Some w) y = car_remembers f cs ts m s us rem y.once y.filled

  act_remembers : (c : Call) (m : Model) (us : Updates) → Sound m → Sound (act M c m).state → Remembering M has m.trains us
      → Remembering M has (act M c m).state.trains (tell (act M c m).updates us)
  act_remembers (Make r k a b) m us s z rem = make_remembers M law has told-law r k a b m us s rem
  act_remembers (Access c) m us s z rem = effect_remembers M law has told-law (response (inside (all_objects m)) m.roots c).effect m us z rem
  act_remembers Step m us s z rem = step_remembers m.trains m us refl s z rem
  act_remembers Tally m us s z rem = rem

  pub remembering_of : (h : History) → Remembering M has (space_of M h).trains (updates_of M h)
  remembering_of [] = record { numbered = (tt, distinct_nil); shaped = tt; noted = tt }
  remembering_of (e ∷ h) = act_remembers e.call (space_of M h) (updates_of M h) (sound_of M law h) (sound_of M law (e ∷ h)) (remembering_of h)

-- What holds at every halt of the slots, by the pairs that contain those noted.

module _ (M : ShapeTable) (law : Lawful M) (h : History) where
  noted_at : Remembering M (still_noted no_pairs) (space_of M h).trains (updates_of M h)
  noted_at = remembering_of M law (still_noted no_pairs) still_noted_keeps h

  pub numbered_at : Numbered (cars_in_row (space_of M h).trains)
  numbered_at = noted_at.numbered

  pub shaped_at : AllByRecursion (λ o. Shaped M o.body) (all_objects (space_of M h))
  shaped_at = noted_at.shaped

  pub slot_addresses : AllByRecursion (λ s. s.address < 8192) (slots M 0 (space_of M h).trains)
  slot_addresses = addresses_below M law (space_of M h).trains (sound_of M law h).filled numbered_at shaped_at

  pub slots_hold : AllByRecursion (HoldsWhatLies (space_of M h).trains) (slots M 0 (space_of M h).trains)
  slots_hold =
      let ts = (space_of M h).trains in
      let t = cars_in_row ts in
      let L : ℕ → ℕ → ℕ → Option ℕ → Type 0 = λ a x i v. (y : ℕ) → v ≡ Some y → (c : CarPlace) × (car_place 0 y ts ≡ Some c) in
      let found : (y : ℕ) → 1 ≤ times y (objects ts) → (c : CarPlace) × (car_place 0 y ts ≡ Some c) =
      λ y l. let w = car_place_found 0 y t (omega (arith, l, ap (times y) (row_objects ts))) in (w.0, row_car_place 0 y ts ∙ w.1) in
      subst (λ (ss : List Slot). AllByRecursion (By L) ss) (sym (row_slots M 0 ts))
      (cars_slots M L 0 t (cars_from M L t
      (subst (λ (os : List Obj). AllByRecursion (λ o. (i b k : ℕ) → L b o.id k (get_or o.body.refs i None)) os) (sym (row_objects ts))
      (all_map (Points (λ y. 1 ≤ times y (objects ts))) (λ o. (i b k : ℕ) → L b o.id k (get_or o.body.refs i None)) (λ o p i b k y e. found y (p i y e)) (objects ts) (sound_of M law h).refs))))

  pub slots_remembered : (P : Pairs) → Keeps (still_noted no_pairs (updates_of M h)) P
      → AllByRecursion (RememberedIfLater P (space_of M h).trains) (slots M 0 (space_of M h).trains)
  slots_remembered P more =
      let ts = (space_of M h).trains in
      let t = cars_in_row ts in
      let us = updates_of M h in
      let told = noted_slots M (still_noted no_pairs) us Always 0 t noted_at.noted in
      subst (λ (ss : List Slot). AllByRecursion (RememberedIfLater P ts) ss) (sym (row_slots M 0 ts))
      (all_map (ToldSlot (still_noted no_pairs) us Always 0 t) (RememberedIfLater P ts)
      (λ v u y c e w l. more c.number v.address (u y c e (sym (row_car_place 0 y ts) ∙ w) l tt)) (train_slots M 0 t) told)
