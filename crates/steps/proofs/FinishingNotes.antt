-- What a step tells the remembered set once a car is emptied.
use Rattle.std.proofs.Common.{◌≡◌, ℕ, ◌+◌, ◌*◌, ◌/◌, ◌<◌, ◌≤◌, List, [], ◌∷◌, ◌++◌, filter, flat_map, reverse, Some, None, sym, refl, ◌∙◌, subst, arith}
use Rattle.std.proofs.lemmas.List.{append-nil}
use Rattle.std.specs.List.{AllByRecursion}
use Rattle.layout.specs.ShapeTable.{ShapeTable, Lawful}
use Rattle.layout.specs.declared.Shape.{Shape}
use Rattle.remembered.specs.declared.Update.{Update}
use Rattle.remembered.specs.declared.Update.TheVariants.{Forget}
use Rattle.remembered.specs.Laws.{KeepsOthers}
use Rattle.remembered.specs.Leads.{Leads}
use Rattle.remembered.specs.Leads.Leads.{untold, told}
use Rattle.remembered.specs.Updates.{Pairs}
use Rattle.model.specs.Bodies.{size}
use Rattle.model.specs.Notes.{train_car_place, Slot, ref_slots, object_slots, train_slots, slots, note_of, notes_of_carried, corrected, is_slot_of, tell}
use Rattle.model.specs.Sound.{Points}
use Rattle.model.specs.Claims.{Claim as ObjectClaim}
use Rattle.model.specs.Step.{trim, claimed, place_all}
use Rattle.model.specs.Trains.{Obj, Car, Train, Trains, train_objects, objects, times, words_of, numbers, lowest_free, place_at, car_words}
use Rattle.model.proofs.Alls.{all_++, all_left, all_right, all_map, all_with}
use Rattle.model.proofs.RememberCars.{cars_in_row, row_objects, row_slots, row_car_place, Placed, opens, joins, later, place_at-placed}
use Rattle.model.proofs.Totals.{sums}
use Rattle.objects.specs.Lies.{LieFrom, ArePlaced, CarStands}
use Rattle.objects.specs.Locate.{locate}
use Rattle.objects.specs.Stand.{TrainsStand, CarPlaced, Seated}
use Rattle.objects.specs.Words.{HasItsWord}
use Rattle.objects.proofs.Frames.{train_all}
use Rattle.objects.proofs.Places.{row_each, car_placed}
use Rattle.slots.proofs.Holding.{slots_stand}
use Rattle.trains.specs.Ties.{fills}
use Rattle.moves.specs.Fixes.{addresses_of, own_references}
use Rattle.moves.specs.Noting.{noted_at, noted_each}
use Rattle.moves.proofs.Correcting.{refs_each, offset-admitted}
use Rattle.moves.proofs.Telling.{noted-slot, noted-carried, own_row, holder_row, target_row}
use Rattle.moves.proofs.Turns.{leads_on}

module _ (M : ShapeTable) (code : Shape → ℕ) (law : Lawful M) where
  -- the slots of a car lie in it
  slots_within : (at : ℕ → ℕ) (w : List ℕ) (n a : ℕ) (os : List Obj) → LieFrom M code at w a os → AllByRecursion (λ s. (a ≤ s.address) × (s.address < a + words_of os)) (object_slots M n a os)
  slots_within at w n a [] l = tt
  slots_within at w n a (o ∷ os) l =
      all_++ _ (ref_slots M o.body.shape n o.id a 0 o.body.refs) (object_slots M n (a + size o.body) os)
      (refs_each M (λ s. (a ≤ s.address) × (s.address < a + words_of (o ∷ os))) o.body.shape n o.id a 0 o.body.refs (λ j lt.
      let b = l.0 in
      let i = (law.apart o.body.shape b.offsets b.admitted).ref_inside (0 + j) (omega (arith, lt, b.ref_count)) in
      (omega (arith, offset-admitted M code law b (0 + j), i.0), omega (arith, sums, offset-admitted M code law b (0 + j), i.1, b.ref_count, b.word_count))))
      (all_map _ _ (λ s p. (omega (arith, p.0), omega (arith, sums, p.1))) (object_slots M n (a + size o.body) os) (slots_within at w n (a + size o.body) os l.1))

  pub slots_in_car : (at : ℕ → ℕ) (w : List ℕ) (c : Car) → CarStands M code at w c → (k : ℕ) → AllByRecursion (λ s. s.address / car_words ≡ c.number) (object_slots M k (car_words * c.number) c.objects)
  slots_in_car at w c s k =
      all_map (λ s. (car_words * c.number ≤ s.address) × (s.address < car_words * c.number + words_of c.objects)) (λ s. s.address / car_words ≡ c.number)
      (λ z p. omega (arith, p.0, p.1, s.within)) (object_slots M k (car_words * c.number) c.objects) (slots_within at w k (car_words * c.number) c.objects s.lies)

  -- each slot of a row has the word of what it holds
  row_words : (at : ℕ → ℕ) (w : List ℕ) (n : ℕ) (t : Train) → AllByRecursion (CarStands M code at w) t → AllByRecursion (HasItsWord at w) (train_slots M n t)
  row_words at w n [] h = tt
  row_words at w n (c ∷ t) h =
      all_++ (HasItsWord at w) (object_slots M n (car_words * c.number) c.objects) (train_slots M (n + 1) t)
      (slots_stand M code at w n (car_words * c.number) c.objects h.0.lies) (row_words at w (n + 1) t h.1)

-- what a slot holds
abbrev Holds : (Q : ℕ → Type 0) → Slot → Type 0
Holds Q s = (y : ℕ) → s.target ≡ Some y → Q y

objects_hold : (M : ShapeTable) (Q : ℕ → Type 0) (n a : ℕ) (os : List Obj) → AllByRecursion (Points Q) os → AllByRecursion (Holds Q) (object_slots M n a os)
objects_hold M Q n a [] p = tt
objects_hold M Q n a (o ∷ os) p =
    all_++ (Holds Q) (ref_slots M o.body.shape n o.id a 0 o.body.refs) (object_slots M n (a + size o.body) os)
    (refs_each M (Holds Q) o.body.shape n o.id a 0 o.body.refs (λ j lt y e. p.0 j y e)) (objects_hold M Q n (a + size o.body) os p.1)

row_holds : (M : ShapeTable) (Q : ℕ → Type 0) (n : ℕ) (t : Train) → AllByRecursion (λ c. AllByRecursion (Points Q) c.objects) t → AllByRecursion (Holds Q) (train_slots M n t)
row_holds M Q n [] p = tt
row_holds M Q n (c ∷ t) p =
    all_++ (Holds Q) (object_slots M n (car_words * c.number) c.objects) (train_slots M (n + 1) t) (objects_hold M Q n (car_words * c.number) c.objects p.0) (row_holds M Q (n + 1) t p.1)

-- what holds of all objects once some were placed holds of those, and of all that were there before
placed_from : (P : Obj → Type 0) (n : ℕ) (o : Obj) {t u : Train} → Placed n o t u → AllByRecursion P (train_objects u) → P o × AllByRecursion P (train_objects t)
placed_from P n o (opens t) h = (h.0, h.1)
placed_from P n o (joins c t) h =
    let k = all_left P (c.objects ++ o ∷ []) (train_objects t) h in
    ((all_right P c.objects (o ∷ []) k).0, all_++ P c.objects (train_objects t) (all_left P c.objects (o ∷ []) k) (all_right P (c.objects ++ o ∷ []) (train_objects t) h))
placed_from P n o (later c t v p) h =
    let r = placed_from P n o p (all_right P c.objects (train_objects v) h) in
    (r.0, all_++ P c.objects (train_objects t) (all_left P c.objects (train_objects v) h) r.1)

pub claimed_among : (P : Obj → Type 0) (busy : List ℕ) (row : List ObjectClaim) (ts : Trains) → AllByRecursion P (objects (place_all busy row ts)) → AllByRecursion P (claimed row) × AllByRecursion P (objects ts)
claimed_among P busy [] ts h = (tt, h)
claimed_among P busy (c ∷ row) ts h =
    let n = lowest_free (busy ++ numbers ts) in
    let us = place_at c.rank n c.object ts in
    let r = claimed_among P busy row us h in
    let q = placed_from P n c.object (place_at-placed c.rank n c.object ts) (subst (AllByRecursion P) (sym (row_objects us)) r.1) in
    ((q.0, r.0), subst (AllByRecursion P) (row_objects ts) q.1)

-- the slots that are noted by words are those that the model notes
abbrev pub NotedAs : ShapeTable → (w : List ℕ) → List Obj → (ts after : Trains) → Type 0
NotedAs M w os ts after =
    noted_each (fills ts) w (addresses_of (filter (corrected os) (slots M 0 ts)) ++ flat_map (own_references M (locate ts)) os) ≡ notes_of_carried after os (slots M 0 after)

-- where a first train is without cars, its end changes nothing that is noted
pub noted-trim : (M : ShapeTable) (w : List ℕ) (os : List Obj) (ts : Trains) → NotedAs M w os (trim ts) (trim ts) → NotedAs M w os ts (trim ts)
noted-trim M w os [] e = e
noted-trim M w os ([] ∷ ts) e = e
noted-trim M w os ((c ∷ cs) ∷ ts) e = e

module _ (M : ShapeTable) (code : Shape → ℕ) (law : Lawful M) (ts : Trains) (w : List ℕ) (seat : Seated ts) (stand : TrainsStand M code (locate ts) w ts)
    (closed : AllByRecursion (Points (λ y. 1 ≤ times y (objects ts))) (objects ts)) where
  abbrev Lying : ℕ → Type 0
  Lying y = 1 ≤ times y (objects ts)

  abbrev Has : Slot → Type 0
  Has s = HasItsWord (locate ts) w s × Holds Lying s

  abbrev In : Slot → Type 0
  In s = train_car_place 0 s.holder (cars_in_row ts) None ≡ Some (record { order = s.order; number = s.address / car_words })

  abbrev Good : Slot → Type 0
  Good s = noted_at (fills ts) w s.address ≡ note_of ts s s.target

  row_stands : AllByRecursion (CarStands M code (locate ts) w) (cars_in_row ts)
  row_stands = row_each (CarStands M code (locate ts) w) ts stand

  row_once : (x : ℕ) → times x (train_objects (cars_in_row ts)) ≤ 1
  row_once x = subst (λ os. times x os ≤ 1) (sym (row_objects ts)) (seat.once x)

  one_good : (s : Slot) → Has s → In s → Good s
  one_good s h i =
      noted-slot ts w (locate ts) s (record { order = s.order; number = s.address / car_words }) seat.apart.differ seat.apart.below h.0 (row_car_place 0 s.holder ts ∙ i) refl refl
      (λ y e.
      let t = target_row M (locate ts) y 0 (cars_in_row ts) (all_map (CarStands M code (locate ts) w) (CarPlaced (locate ts)) (car_placed M code (locate ts) w) (cars_in_row ts) row_stands)
      (subst (λ os. 1 ≤ times y os) (sym (row_objects ts)) (h.1 y e)) in
      (t.0, row_car_place 0 y ts ∙ t.1, t.2))

  all_good : AllByRecursion Good (slots M 0 ts)
  all_good =
      subst (AllByRecursion Good) (sym (row_slots M 0 ts))
      (all_with Has In Good one_good (train_slots M 0 (cars_in_row ts))
      (all_with (HasItsWord (locate ts) w) (Holds Lying) Has (λ s a b. (a, b)) (train_slots M 0 (cars_in_row ts))
      (row_words M code law (locate ts) w 0 (cars_in_row ts) row_stands)
      (row_holds M Lying 0 (cars_in_row ts) (train_all (Points Lying) (cars_in_row ts) (subst (AllByRecursion (Points Lying)) (sym (row_objects ts)) closed))))
      (holder_row M (locate ts) 0 (cars_in_row ts) row_once
      (all_map (CarStands M code (locate ts) w) (λ c. (k : ℕ) → AllByRecursion (λ s. s.address / car_words ≡ c.number) (object_slots M k (car_words * c.number) c.objects))
      (slots_in_car M code law (locate ts) w) (cars_in_row ts) row_stands)))

  all_own : AllByRecursion (λ o. own_references M (locate ts) o ≡ addresses_of (filter (is_slot_of o) (slots M 0 ts))) (objects ts)
  all_own =
      subst (λ ss. AllByRecursion (λ o. own_references M (locate ts) o ≡ addresses_of (filter (is_slot_of o) ss)) (objects ts)) (sym (row_slots M 0 ts))
      (subst (AllByRecursion (λ o. own_references M (locate ts) o ≡ addresses_of (filter (is_slot_of o) (train_slots M 0 (cars_in_row ts))))) (row_objects ts)
      (own_row M (locate ts) 0 (cars_in_row ts)
      (all_map (CarStands M code (locate ts) w) (λ c. ArePlaced (locate ts) (car_words * c.number) c.objects) (λ c s. s.placed) (cars_in_row ts) row_stands) row_once))

  -- whichever of the objects were carried
  pub noted-all : (os : List Obj) → ((P : Obj → Type 0) → AllByRecursion P (objects ts) → AllByRecursion P os) → NotedAs M w os ts ts
  noted-all os part = noted-carried M (locate ts) ts w (slots M 0 ts) all_good os (part _ all_own)

-- the set forgets a car and is then told what was noted, first of some slots and then of others
module _ {S : Type 0} (has : S → Pairs) (says : S → Update → S → Type 0) (s t u v : S) where
  pub carried_told : (n : ℕ) (first more all : List Update) → KeepsOthers n (has s) (has t) → says s (Forget n) t → Leads has says t (reverse first) u → Leads has says u (reverse more) v
      → first ++ more ≡ all → Leads has says s (tell (Forget n ∷ all) []) v
  carried_told n first more all others said a b e =
      subst (λ us. Leads has says s us v) (sym (append-nil (reverse (Forget n ∷ all))))
      (leads_on has says s t v (Forget n ∷ []) all (Forget n ∷ all) refl (told s s t (Forget n) [] (untold s) others said)
      (leads_on has says t u v first more all (sym e) a b))
