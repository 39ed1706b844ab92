-- A step that emptied the first car, once it has ended.
use Rattle.std.proofs.Common.{◌≡◌, ℕ, ◌+◌, ◌-◌, ◌*◌, ◌/◌, ◌<◌, ◌≤◌, Bool, true, false, cond, List, [], ◌∷◌, ◌++◌, length, filter, flat_map, Option, refl, sym, ap, ◌∙◌, subst, arith}
use Rattle.std.proofs.lemmas.List.Concat.{flat_map-append}
use Rattle.std.specs.List.{AllByRecursion}
use Rattle.calls.specs.declared.answer.StepKind.TheVariants.{Car as emptied_car}
use Rattle.layout.specs.ShapeTable.{ShapeTable, Lawful, Offsets}
use Rattle.layout.specs.declared.Shape.{Shape}
use Rattle.remembered.specs.declared.Update.{Update}
use Rattle.remembered.specs.declared.Update.TheVariants.{Forget}
use Rattle.remembered.specs.Leads.{Leads}
use Rattle.remembered.specs.Updates.{Pairs}
use Rattle.model.specs.Claims.{MoveRequest}
use Rattle.model.specs.Notes.{Slot, ref_slots, object_slots, train_slots, slots, notes_of_carried, corrected, tell}
use Rattle.model.specs.Space.{Model, carried, free_car, looked, trains_after}
use Rattle.model.specs.Step.{claimed, out_of, back_of, copied_of}
use Rattle.model.specs.Trains.{Obj, Car, Train, Trains, words_of, numbers, car_words}
use Rattle.model.proofs.Alls.{all_++, all_map}
use Rattle.model.proofs.RememberCars.{cars_in_row, row_slots}
use Rattle.model.proofs.Totals.{trim-objects}
use Rattle.objects.specs.Lies.{CarStands}
use Rattle.objects.specs.Locate.{locate}
use Rattle.objects.specs.Stand.{ObjectStands, EachCar}
use Rattle.objects.proofs.Places.{row_each, objects_stand}
use Rattle.claims.specs.declared.Claim.{Claim}
use Rattle.trains.specs.Fills.{Placement, TrainFill, released}
use Rattle.trains.specs.Orders.{filled_of}
use Rattle.trains.specs.Ties.{fills}
use Rattle.memory.specs.declared.Mark.{Mark}
use Rattle.memory.specs.Heap.{Heap}
use Rattle.memory.specs.Stands.{Stands, mark_at}
use Rattle.memory.proofs.Held.{Halt}
use Rattle.moves.specs.Fixes.{fixed, addresses_of, moved_references, own_references}
use Rattle.moves.specs.Noting.{noted_at, noted_each}
use Rattle.moves.proofs.Correcting.{refs_each, offset-admitted}
use Rattle.steps.specs.Emptying.{IsEmptied, placed_out}
use Rattle.steps.specs.Finishing.{CanFinishFrom}
use Rattle.steps.specs.Marks.{guarded}
use Rattle.steps.specs.Steps.{Steps}
use Rattle.steps.proofs.FinishingNotes.{slots_in_car, claimed_among, noted-trim, noted-all}
use Rattle.steps.proofs.FinishingState.{car_freed, car_freed_stands, emptied_words, Few, few_carried}

-- Addresses of memory.

addresses_below : (p : Slot → Bool) (ss : List Slot) → AllByRecursion (λ s. s.address < 8192) ss → AllByRecursion (λ a. a < 8192) (addresses_of (filter p ss))
addresses_below p [] h = tt
addresses_below p (s ∷ ss) h = go (p s) (addresses_below p ss h.1)
  where
    go : (b : Bool) → AllByRecursion (λ a. a < 8192) (addresses_of (filter p ss)) → AllByRecursion (λ a. a < 8192) (addresses_of (cond b (s ∷ filter p ss) (filter p ss)))
    go true r = (h.0, r)
    go false r = r

of_addresses : (P : ℕ → Type 0) (ss : List Slot) → AllByRecursion (λ s. P s.address) ss → AllByRecursion P (addresses_of ss)
of_addresses P [] h = tt
of_addresses P (s ∷ ss) h = (h.0, of_addresses P ss h.1)

all_flat : (P : ℕ → Type 0) (g : Obj → List ℕ) (os : List Obj) → AllByRecursion (λ o. AllByRecursion P (g o)) os → AllByRecursion P (flat_map g os)
all_flat P g [] h = tt
all_flat P g (o ∷ os) h = all_++ P (g o) (flat_map g os) h.0 (all_flat P g os h.1)

module _ (M : ShapeTable) (code : Shape → ℕ) (law : Lawful M) (at : ℕ → ℕ) (w : List ℕ) where
  row_below : (n : ℕ) (t : Train) → AllByRecursion (CarStands M code at w) t → AllByRecursion (λ s. s.address < 8192) (train_slots M n t)
  row_below n [] h = tt
  row_below n (c ∷ t) h =
      let low = h.0.number in
      all_++ (λ s. s.address < 8192) (object_slots M n (car_words * c.number) c.objects) (train_slots M (n + 1) t)
      (all_map (λ s. s.address / car_words ≡ c.number) (λ s. s.address < 8192) (λ s e. omega (arith, e, low)) (object_slots M n (car_words * c.number) c.objects) (slots_in_car M code law at w c h.0 n))
      (row_below (n + 1) t h.1)

  own_below : (o : Obj) → ObjectStands M code at w o.id o.body → AllByRecursion (λ a. a < 8192) (own_references M at o)
  own_below o k =
      of_addresses (λ a. a < 8192) (ref_slots M o.body.shape 0 o.id (at o.id) 0 o.body.refs)
      (refs_each M (λ s. s.address < 8192) o.body.shape 0 o.id (at o.id) 0 o.body.refs (λ j lt.
      let b = k.lies in
      let i = (law.apart o.body.shape b.offsets b.admitted).ref_inside (0 + j) (omega (arith, lt, b.ref_count)) in
      omega (arith, offset-admitted M code law b (0 + j), i.1, b.ref_count, b.word_count, k.within, k.car)))

module _ (M : ShapeTable) (code : Shape → ℕ) (decoded : ℕ → Offsets) (law : Lawful M) (m : Model) (f : Car) (cs : Train) (ts : Trains) (forward : List ℕ) (s : Heap) (emp : IsEmptied M code m f cs ts forward s)
    (car : ℕ) (order : List Claim) (addresses : List ℕ) (can : CanFinishFrom M decoded m f cs ts forward car order addresses s.words) where
  pub slots_below : AllByRecursion (λ a. a < 8192) addresses
  slots_below =
      let before = placed_out m f cs ts in
      subst (AllByRecursion (λ a. a < 8192)) (sym can.slots_are)
      (addresses_below (corrected (claimed (carried f cs ts m).taken)) (slots M 0 before)
      (subst (AllByRecursion (λ s. s.address < 8192)) (sym (row_slots M 0 before))
      (row_below M code law (locate before) s.words 0 (cars_in_row before) (row_each (CarStands M code (locate before) s.words) before emp.stand))))

  pub references_below : AllByRecursion (λ a. a < 8192) (moved_references decoded s.words forward car order)
  references_below =
      let before = placed_out m f cs ts in
      let row = (carried f cs ts m).taken in
      subst (AllByRecursion (λ a. a < 8192)) (sym can.references_are)
      (all_flat (λ a. a < 8192) (own_references M (locate before)) (claimed row)
      (all_map (λ o. ObjectStands M code (locate before) s.words o.id o.body) (λ o. AllByRecursion (λ a. a < 8192) (own_references M (locate before) o)) (own_below M code law (locate before) s.words) (claimed row)
      (claimed_among (λ o. ObjectStands M code (locate before) s.words o.id o.body) (f.number ∷ []) row (cs ∷ ts) (objects_stand M code (locate before) s.words before emp.stand)).0))

  -- what is known of the numbers
  pub car_low : Halt m → car < 64
  car_low halt =
      let low = subst (λ us. AllByRecursion (λ n. n < 64) (numbers us)) can.trains halt.seated.apart.below in
      omega (arith, can.car_is, low.0)

  pub few : Halt m → Few (carried f cs ts m).taken
  few halt =
      let within = subst (λ us. EachCar (λ c. words_of c.objects ≤ car_words) us) can.trains halt.seated.within in
      few_carried f cs ts m halt can.trains within.0.0

  pub used_fits : Halt m → (filled copied : ℕ) → copied ≡ copied_of (carried f cs ts m).taken → s.used - filled + copied ≤ 4294967295
  used_fits halt filled copied e = omega (arith, e, (few halt).copied, emp.used, halt.sound.room)

  module _ (w : MoveRequest) (asked : Mark) (halt : Halt (free_car M w f cs ts m).state) (asks : asked ≡ mark_at m.trains w) where
    stands : Stands M code (free_car M w f cs ts m).state (car_freed M code m f cs ts forward s asked)
    stands = car_freed_stands M code m f cs ts forward s w asked halt can.trains can.root_count emp asks

    pub notes_are : (us : List TrainFill) → us ≡ fills (placed_out m f cs ts) → noted_each us s.words addresses ++ noted_each us s.words (moved_references decoded s.words forward car order)
        ≡ notes_of_carried (trains_after f cs ts m) (claimed (carried f cs ts m).taken) (slots M 0 (trains_after f cs ts m))
    notes_are us e =
        let before = placed_out m f cs ts in
        let after = trains_after f cs ts m in
        let row = (carried f cs ts m).taken in
        let refs = moved_references decoded s.words forward car order in
        ap (λ (vs : List TrainFill). noted_each vs s.words addresses ++ noted_each vs s.words refs) e
        ∙ sym (flat_map-append (noted_at (fills before) s.words) addresses refs)
        ∙ ap (λ xs. noted_each (fills before) s.words (xs ++ refs)) can.slots_are
        ∙ ap (λ xs. noted_each (fills before) s.words (addresses_of (filter (corrected (claimed row)) (slots M 0 before)) ++ xs)) can.references_are
        ∙ noted-trim M s.words (claimed row) before
        (noted-all M code law after s.words halt.seated stands.objects halt.sound.refs (claimed row) (λ P h.
        (claimed_among P (f.number ∷ []) row (cs ∷ ts) (subst (AllByRecursion P) (trim-objects before) h)).0))

    pub car_steps : {S : Type 0} (has : S → Pairs) (says : S → Update → S → Type 0) (set after : S) → Leads has says set (tell (Forget car ∷ notes_of_carried (trains_after f cs ts m) (claimed (carried f cs ts m).taken) (slots M 0 (trains_after f cs ts m))) []) after
        → (out back copied lost seen : ℕ) → out ≡ out_of (carried f cs ts m).taken → back ≡ back_of (carried f cs ts m).taken → copied ≡ copied_of (carried f cs ts m).taken
        → lost ≡ length (carried f cs ts m).left → seen ≡ looked (has set) (f ∷ cs)
        → (p : Placement) → p ≡ released s.trains → (object : ℕ) → object ≡ fixed car forward asked.object
        → (mk : Option Mark) → mk ≡ guarded s.mark out (record { object = object; rank = asked.rank }) → (filled : ℕ) → filled ≡ filled_of car s.trains
        → Steps M code has says (free_car M w f cs ts m) (record { kind = emptied_car; out = out; back = back; copied = copied; lost = lost; looked = seen; cars = 1 })
        (record { words = s.words; roots = s.roots; trains = p; mark = mk; used = s.used - filled + copied }) set after
    car_steps has says set after lead out back copied lost seen oe be ce le se p pe object obe mk me filled fe =
        let all : filled ≡ words_of f.objects = fe ∙ ap (λ n. filled_of n s.trains) can.car_is ∙ emptied_words f (placed_out m f cs ts) s.trains emp.trains in
        let there : object ≡ fixed f.number forward asked.object = obe ∙ ap (λ n. fixed n forward asked.object) can.car_is in
        let mark : mk ≡ guarded s.mark (out_of (carried f cs ts m).taken) (record { object = fixed f.number forward asked.object; rank = asked.rank }) =
        me ∙ ap (λ n. guarded s.mark n (record { object = object; rank = asked.rank })) oe ∙ ap (λ a. guarded s.mark (out_of (carried f cs ts m).taken) (record { object = a; rank = asked.rank })) there in
        record {
          stands = rw (pe, mark, all, ce) stands;
          reply = rw (oe, be, ce, le, se) refl;
          told = subst (λ n. Leads has says set (tell (Forget n ∷ notes_of_carried (trains_after f cs ts m) (claimed (carried f cs ts m).taken) (slots M 0 (trains_after f cs ts m))) []) after) can.car_is lead;
        }
