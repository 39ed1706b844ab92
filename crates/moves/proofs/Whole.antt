-- A whole pass: moved, fixed, and ready to be noted.
use Rattle.std.proofs.Common.{◌≡◌, ℕ, ◌+◌, ◌*◌, ◌/◌, ◌<◌, ◌≤◌, true, eqb, List, [], ◌∷◌, ◌++◌, length, get_or, take, map, filter, flat_map, Option, Some, None, sym, refl, ap, ◌∙◌, subst, arith}
use Rattle.std.proofs.lemmas.Bool.{or_left, or_right, eq-eqb, eqb-false}
use Rattle.std.proofs.lemmas.List.{length-set}
use Rattle.std.proofs.lemmas.Map.Keys.{IsDistinct-tail}
use Rattle.std.specs.List.{AllByRecursion, Contains, IsDistinct}
use Rattle.model.specs.Sound.{Points}
use Rattle.objects.specs.Lies.{ArePlaced, CarStands}
use Rattle.objects.specs.Stand.{CarPlaced}
use Rattle.objects.proofs.Places.{row_each}
use Rattle.objects.proofs.SlotWords.{words_at_slots}
use Rattle.trains.specs.Ties.{fills}
use Rattle.remembered.specs.declared.Update.{Update}
use Rattle.model.specs.Notes.{slots as slots_of}
use Rattle.moves.proofs.Telling.{noted-carried, noted-slot, own_row, holder_row, target_row}
use Rattle.model.specs.Notes.{Slot, train_car_place, object_slots, note_of, notes_of_carried, is_slot_of}
use Rattle.model.specs.Trains.{Obj, Train, Trains, train_objects}
use Rattle.model.proofs.RememberCars.{row_objects, row_numbers, row_car_place}
use Rattle.layout.specs.ShapeTable.{ShapeTable, Lawful, Offsets}
use Rattle.layout.specs.Coding.{Coded}
use Rattle.layout.specs.declared.Shape.{Shape}
use Rattle.model.specs.Notes.{train_slots, slots, corrected}
use Rattle.model.specs.Step.{claimed}
use Rattle.model.specs.Trains.{objects, times, car_numbers, one_of, car_words}
use Rattle.model.proofs.Alls.{all_map, all_with}
use Rattle.model.proofs.Distinct.{all_at, one_of_apart, distinct_head}
use Rattle.model.proofs.RememberCars.{cars_in_row, row_slots}
use Rattle.objects.specs.Lies.{word_of}
use Rattle.objects.specs.Locate.{locate}
use Rattle.objects.specs.Stand.{TrainsStand}
use Rattle.objects.proofs.Frames.{lie_from_frame}
use Rattle.claims.specs.Claimed.{place_of, claim_of}
use Rattle.std.proofs.lemmas.List.Concat.{flat_map-append}
use Rattle.claims.specs.declared.Claim.{Claim}
use Rattle.trains.specs.Fills.{Placement, TrainFill}
use Rattle.moves.specs.Noting.{noted_at, noted_each}
use Rattle.moves.specs.Fixes.{fixed, fix_at, fix_each, moved_references, addresses_of, own_references, Corrected, Suffices, CanFix, moved_out, IsOutside}
use Rattle.moves.specs.Moves.{Carrying, CanMove, AreMoved}
use Rattle.moves.proofs.Correcting.{one_among, cars_inside, slots_inside}
use Rattle.moves.proofs.Enough.{corrected_each, moved_are, suffice}
use Rattle.moves.proofs.Fixing.{all_taken, total, fixed-twice, fixed-word_of}
use Rattle.moves.proofs.Gathered.{placing_has, one_of-left, one_of-right}
use Rattle.moves.proofs.Standing.{fixed-stand, slots_known}
use Rattle.moves.proofs.Steps.{LiesIn, all_lie, all_contained}
use Rattle.moves.proofs.Turns.{fix_each_outside, fix_each-++}

-- what holds of each number in a list
all_from : (P : ℕ → Type 0) (xs : List ℕ) → ((k : ℕ) → one_of k xs ≡ true → P k) → AllByRecursion P xs
all_from P [] f = tt
all_from P (x ∷ xs) f = (f x (or_left (eqb x x) (one_of x xs) (eq-eqb x x refl)), all_from P xs (λ k e. f k (or_right (eqb k x) (one_of k xs) e)))

length-fixed : (car : ℕ) (forward addresses v : List ℕ) → length (fix_each car forward addresses v) ≡ length v
length-fixed car forward [] v = refl
length-fixed car forward (a ∷ more) v = length-fixed car forward more (fix_at car forward a v) ∙ length-set v a (fixed car forward (get_or v a 0))

module _ (M : ShapeTable) (code : Shape → ℕ) (decoded : ℕ → Offsets) (law : Lawful M) (coded : Coded M code decoded) (q : Carrying) (v₀ : List ℕ) (p₀ : Placement) (m : CanMove M code q v₀ p₀) (c : CanFix q)
    (v forward : List ℕ) (p : Placement) (r : AreMoved M code q (length q.row) v forward p) where
  abbrev pub own : List ℕ
  own = flat_map (own_references M (locate (moved_out q))) (claimed q.row)

  abbrev pub others : List ℕ
  others = addresses_of (filter (corrected (claimed q.row)) (slots M 0 (moved_out q)))

  enough : Suffices M q (own ++ others)
  enough = suffice M code q v₀ p₀ m c v forward p r

  slot_outside : (k : ℕ) → one_of k (addresses_of (slots M 0 (moved_out q))) ≡ true → IsOutside q.emptied.number k
  slot_outside k e =
      let row = cars_in_row (moved_out q) in
      let in_row = one_among (λ a. one_of (a / car_words) (car_numbers row) ≡ true) k (train_slots M 0 row)
      (cars_inside M code law q.at v 0 row r.lies.lies.1 r.lies.within.1) (subst (λ ss. one_of k (addresses_of ss) ≡ true) (row_slots M 0 (moved_out q)) e) in
      let low = all_at (λ n. n < 64) (k / car_words) (car_numbers row) r.lies.below.1 in_row in
      (omega (arith, low), eqb-false (k / car_words) q.emptied.number (one_of_apart (k / car_words) q.emptied.number (car_numbers row) in_row (distinct_head q.emptied.number (car_numbers row) r.lies.differ)))

  pub own_outside : AllByRecursion (IsOutside q.emptied.number) own
  own_outside = all_from _ own (λ k e. slot_outside k (enough.only k (one_of-left k own others e)))

  pub others_outside : AllByRecursion (IsOutside q.emptied.number) others
  others_outside = all_from _ others (λ k e. slot_outside k (enough.only k (one_of-right k own others e)))

  -- the references by the headers of the car, in all words that have the car as it was
  pub headers : (w : List ℕ) → ((k : ℕ) → k / car_words ≡ q.emptied.number → get_or w k 0 ≡ get_or v k 0) → moved_references decoded w forward q.emptied.number (map (claim_of q.at q.emptied) q.row) ≡ own
  headers w same =
      let low = car_words * q.emptied.number in
      let lie = lie_from_frame M code law q.at v w low q.emptied.objects r.lies.lies.0 (record { same = λ k g h. same k (omega (arith, g, h, r.lies.within.0)) }) in
      let all = all_lie M code q.at w low (low + car_words) low q.emptied.objects lie m.placed (omega arith) (omega (arith, r.lies.within.0)) in
      let forwards = subst (λ row. AllByRecursion (λ o. get_or forward (place_of q.at q.emptied o) 0 ≡ locate (moved_out q) o.id) (claimed row)) (all_taken M code q v₀ p₀ m c v forward p r) r.forwards in
      moved_are M code decoded coded q.at (locate (moved_out q)) q.emptied w forward low (low + car_words) q.row refl
      (all_with (λ o. get_or forward (place_of q.at q.emptied o) 0 ≡ locate (moved_out q) o.id) (λ o. Contains q.emptied.objects o) _
      (λ o e d. (all_contained (LiesIn M code q.at w low (low + car_words)) q.emptied.objects o all d, e)) (claimed q.row) forwards m.of_car)

  pub all_fixed : List ℕ
  all_fixed = fix_each q.emptied.number forward others (fix_each q.emptied.number forward own v)

  -- the emptied car is as it was
  pub car_stays : (k : ℕ) → k / car_words ≡ q.emptied.number → get_or all_fixed k 0 ≡ get_or v k 0
  unfolding all_fixed
  car_stays k e =
      fix_each_outside q.emptied.number forward others (fix_each q.emptied.number forward own v) k others_outside e
      ∙ fix_each_outside q.emptied.number forward own v k own_outside e

  pub stand : length v ≡ 8192 → TrainsStand M code (locate (moved_out q)) all_fixed (moved_out q)
  unfolding all_fixed
  stand long =
      let both = fix_each-++ q.emptied.number forward own others v in
      let inside : AllByRecursion (λ a. a < length v) (own ++ others) =
      all_from _ (own ++ others) (λ k e. omega (arith, (slot_outside k (enough.only k e)).0, long)) in
      fixed-stand M code law q v₀ p₀ m c v forward p r (own ++ others) (fix_each q.emptied.number forward others (fix_each q.emptied.number forward own v)) enough
      (subst (Corrected q.emptied.number forward (own ++ others) v) both
      (corrected_each q.emptied.number forward (own ++ others) v (fixed-twice M code q v₀ p₀ m c v forward p r) inside))

  pub roots_fixed : (held : List (Option ℕ)) → AllByRecursion (λ h. (y : ℕ) → h ≡ Some y → 1 ≤ times y (objects (moved_out q))) held
      → map (fixed q.emptied.number forward) (map (word_of q.at) held) ≡ map (word_of (locate (moved_out q))) held
  roots_fixed [] k = refl
  roots_fixed (h ∷ held) k =
      ap (λ a. a ∷ map (fixed q.emptied.number forward) (map (word_of q.at) held)) (fixed-word_of M code q v₀ p₀ m c v forward p r h k.0)
      ∙ ap (λ xs. word_of (locate (moved_out q)) h ∷ xs) (roots_fixed held k.1)

  -- as the code has them: the car's number, the claims in order, and the slots of others
  module _ (car : ℕ) (order : List Claim) (slots : List ℕ) (car-is : car ≡ q.emptied.number) (order-is : order ≡ map (claim_of q.at q.emptied) q.row) (slots-are : slots ≡ others) where
    headers_by : (w : List ℕ) → ((k : ℕ) → k / car_words ≡ q.emptied.number → get_or w k 0 ≡ get_or v k 0) → moved_references decoded w forward car order ≡ own
    headers_by w same =
        ap (λ n. moved_references decoded w forward n order) car-is ∙ ap (moved_references decoded w forward q.emptied.number) order-is ∙ headers w same

    pub outside_by : AllByRecursion (IsOutside car) (moved_references decoded v forward car order)
    outside_by =
        subst (AllByRecursion (IsOutside car)) (sym (headers_by v (λ k e. refl))) (subst (λ n. AllByRecursion (IsOutside n) own) (sym car-is) own_outside)

    pub slots_inside_by : AllByRecursion (λ a. a < 8192) slots
    slots_inside_by = subst (AllByRecursion (λ a. a < 8192)) (sym slots-are) (all_map (IsOutside q.emptied.number) (λ a. a < 8192) (λ a h. h.0) others others_outside)

    module _ (w₁ w₂ : List ℕ) (first : w₁ ≡ fix_each car forward (moved_references decoded v forward car order) v) (then-is : w₂ ≡ fix_each car forward slots w₁) where
      pub fixed_by : w₂ ≡ all_fixed
      unfolding all_fixed
      fixed_by =
          then-is ∙ ap (fix_each car forward slots) first
          ∙ ap (λ n. fix_each n forward slots (fix_each n forward (moved_references decoded v forward car order) v)) car-is
          ∙ ap (λ xs. fix_each q.emptied.number forward xs (fix_each q.emptied.number forward (moved_references decoded v forward car order) v)) slots-are
          ∙ ap (λ xs. fix_each q.emptied.number forward others (fix_each q.emptied.number forward xs v)) (headers_by v (λ k e. refl))

      pub headers_after : moved_references decoded w₂ forward car order ≡ own
      headers_after = headers_by w₂ (λ k e. ap (λ w. get_or w k 0) fixed_by ∙ car_stays k e)

      pub moved_inside_by : AllByRecursion (λ a. a < 8192) (moved_references decoded w₂ forward car order)
      moved_inside_by = subst (AllByRecursion (λ a. a < 8192)) (sym headers_after) (all_map (IsOutside q.emptied.number) (λ a. a < 8192) (λ a h. h.0) own own_outside)

      pub stand_by : length v ≡ 8192 → TrainsStand M code (locate (moved_out q)) w₂ (moved_out q)
      stand_by long = subst (λ w. TrainsStand M code (locate (moved_out q)) w (moved_out q)) (sym fixed_by) (stand long)

      pub noted_by : (ts : List TrainFill) → noted_each ts w₂ (slots ++ own) ≡ noted_each ts w₂ slots ++ noted_each ts w₂ (moved_references decoded w₂ forward car order)
      noted_by ts = flat_map-append (noted_at ts w₂) slots own ∙ ap (λ xs. noted_each ts w₂ slots ++ noted_each ts w₂ xs) (sym headers_after)

  pub roots_by : (car : ℕ) (old new : List ℕ) → car ≡ q.emptied.number → new ≡ map (fixed car forward) old → (held : List (Option ℕ)) → old ≡ map (word_of q.at) held
      → AllByRecursion (λ h. (y : ℕ) → h ≡ Some y → 1 ≤ times y (objects (moved_out q))) held → new ≡ map (word_of (locate (moved_out q))) held
  roots_by car old new car-is e held is known =
      e ∙ ap (λ n. map (fixed n forward) old) car-is ∙ ap (map (fixed q.emptied.number forward)) is ∙ roots_fixed held known

  once_all : (x : ℕ) → times x (objects (moved_out q)) ≤ 1
  once_all x = omega (arith, total M code q v₀ p₀ m c v forward p r x, m.once x)

  -- what the slots are noted for, in words in which all cars stand, is what the model notes
  pub notes_are : (w : List ℕ) → TrainsStand M code (locate (moved_out q)) w (moved_out q)
      → noted_each p.trains w (others ++ own) ≡ notes_of_carried (moved_out q) (claimed q.row) (slots M 0 (moved_out q))
  notes_are w st =
      ap (λ (z : Placement). noted_each z.trains w (others ++ own)) r.placement
      ∙ noted-carried M to ts w (slots M 0 ts) good (claimed q.row) owns
    where
      ts : Trains
      ts = moved_out q

      to : ℕ → ℕ
      to = locate ts

      row : Train
      row = cars_in_row ts

      row-is : take (length q.row) q.row ≡ q.row
      row-is = all_taken M code q v₀ p₀ m c v forward p r

      once_row : (x : ℕ) → times x (train_objects row) ≤ 1
      once_row x = subst (λ os. times x os ≤ 1) (sym (row_objects ts)) (once_all x)

      stands : AllByRecursion (CarStands M code to w) row
      stands = row_each (CarStands M code to w) ts st

      placed : AllByRecursion (λ d. ArePlaced to (car_words * d.number) d.objects) row
      placed = all_map (CarStands M code to w) (λ d. ArePlaced to (car_words * d.number) d.objects) (λ d z. z.placed) row stands

      cars : AllByRecursion (CarPlaced to) row
      cars = all_map (CarStands M code to w) (CarPlaced to) (λ d z. record { placed = z.placed; number = z.number; within = z.within }) row stands

      inside : AllByRecursion (λ d. (k : ℕ) → AllByRecursion (λ s. s.address / car_words ≡ d.number) (object_slots M k (car_words * d.number) d.objects)) row
      inside =
          all_map (CarStands M code to w) _
          (λ d z k. all_map _ (λ s. s.address / car_words ≡ d.number) (λ s h. omega (arith, h.0, h.1, z.within)) (object_slots M k (car_words * d.number) d.objects)
          (slots_inside M code law to w k (car_words * d.number) d.objects z.lies)) row stands

      owns : AllByRecursion (λ o. own_references M to o ≡ addresses_of (filter (is_slot_of o) (slots M 0 ts))) (claimed q.row)
      owns =
          let P : Obj → Type 0 = λ o. own_references M to o ≡ addresses_of (filter (is_slot_of o) (slots M 0 ts)) in
          subst (λ xs. AllByRecursion P (claimed xs)) row-is
          (placing_has P (q.emptied.number ∷ []) (take (length q.row) q.row) q.trains
          (subst (AllByRecursion P) (row_objects ts)
          (subst (λ ss. AllByRecursion (λ o. own_references M to o ≡ addresses_of (filter (is_slot_of o) ss)) (train_objects row)) (sym (row_slots M 0 ts)) (own_row M to 0 row placed once_row)))).0

      Known : ℕ → Type 0
      Known y = 1 ≤ times y (objects ts)

      one : (s : Slot) → get_or w s.address 0 ≡ word_of to s.target → train_car_place 0 s.holder row None ≡ Some (record { order = s.order; number = s.address / car_words })
          → ((y : ℕ) → s.target ≡ Some y → Known y) → noted_at (fills ts) w s.address ≡ note_of ts s s.target
      one s word here known =
          noted-slot ts w to s (record { order = s.order; number = s.address / car_words })
          (subst (IsDistinct eqb) (row_numbers ts) (IsDistinct-tail eqb q.emptied.number (car_numbers row) r.lies.differ))
          (subst (AllByRecursion (λ n. n < 64)) (row_numbers ts) r.lies.below.1) word (row_car_place 0 s.holder ts ∙ here) refl refl
          (λ y e. let t = target_row M to y 0 row cars (subst (λ os. 1 ≤ times y os) (sym (row_objects ts)) (known y e)) in (t.0, row_car_place 0 y ts ∙ t.1, t.2))

      good : AllByRecursion (λ s. noted_at (fills ts) w s.address ≡ note_of ts s s.target) (slots M 0 ts)
      good =
          all_with (λ s. get_or w s.address 0 ≡ word_of to s.target) (λ s. (train_car_place 0 s.holder row None ≡ Some (record { order = s.order; number = s.address / car_words })) × ((y : ℕ) → s.target ≡ Some y → Known y)) _
          (λ s word h. one s word h.0 h.1) (slots M 0 ts) (words_at_slots M code to w 0 ts st)
          (subst (AllByRecursion _) (sym (row_slots M 0 ts))
          (all_with (λ s. train_car_place 0 s.holder row None ≡ Some (record { order = s.order; number = s.address / car_words })) (λ s. (y : ℕ) → s.target ≡ Some y → Known y) _ (λ s a b. (a, b))
          (train_slots M 0 row) (holder_row M to 0 row once_row inside) (slots_known M Known 0 row (subst (AllByRecursion (Points Known)) (sym (row_objects ts)) c.closed))))

  -- the same for the code's slots
  pub notes_by : (slots : List ℕ) → slots ≡ others → (w : List ℕ) → TrainsStand M code (locate (moved_out q)) w (moved_out q) → (us : List Update) → noted_each p.trains w (slots ++ own) ≡ us
      → notes_of_carried (moved_out q) (claimed q.row) (slots_of M 0 (moved_out q)) ≡ us
  notes_by slots e w st us f = sym (notes_are w st) ∙ ap (λ xs. noted_each p.trains w (xs ++ own)) (sym e) ∙ f
