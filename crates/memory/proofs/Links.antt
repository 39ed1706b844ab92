-- What a link tells the remembered set.
use Rattle.std.proofs.Common.{◌≡◌, ℕ, ◌+◌, ◌/◌, ◌<◌, ◌≤◌, Bool, true, false, cond, ◌&&◌, eqb, ltb, List, [], ◌∷◌, length, get_or, set, length-set, Option, Some, None, refl, sym, ap, ap₂, ◌∙◌, subst, arith}
use Rattle.std.specs.List.{AllByRecursion}
use Rattle.std.specs.Prelude.{flat_map}
use Rattle.std.proofs.lemmas.Bool.{eqb-true, ltb-true, le-ltb}
use Rattle.std.proofs.lemmas.List.{get_or-set_same, append-nil}
use Rattle.calls.specs.declared.answer.Refusal.{Refusal}
use Rattle.calls.specs.declared.answer.Refusal.TheVariants.{Root, Missing}
use Rattle.calls.specs.declared.call.Access.TheVariants.{Link}
use Rattle.calls.specs.declared.call.Call.TheVariants.{Access}
use Rattle.layout.specs.declared.Shape.{Shape}
use Rattle.layout.specs.ShapeTable.{ShapeTable, Lawful}
use Rattle.remembered.specs.declared.Update.{Update}
use Rattle.remembered.specs.declared.Update.TheVariants.{Note}
use Rattle.remembered.specs.Leads.{Leads, untold}
use Rattle.remembered.specs.Updates.{Pairs}
use Rattle.model.specs.Calls.{refused, done}
use Rattle.model.specs.Bodies.{Body, held, is_root, point, with_ref, Response, refuse, give, object_of, unless, on_object, response}
use Rattle.model.specs.Notes.{CarPlace, Slot, ref_offset, slots, note_by, note_of, notes, is_slot, tell}
use Rattle.model.specs.Trains.{Obj, Trains, objects, times, inside, numbers, car_words, alter}
use Rattle.model.specs.Space.{Model, all_objects, noted_by, space_with, act}
use Rattle.model.proofs.Alls.{all_map}
use Rattle.model.proofs.Alters.{ref_size, objects-alter, alter-times, alter_all}
use Rattle.model.proofs.WasteLaws.{inside_self}
use Rattle.objects.specs.Lies.{word_of}
use Rattle.objects.specs.Locate.{locate}
use Rattle.objects.specs.Stand.{Seated}
use Rattle.objects.proofs.Changes.{locate-alter, seated_alter, ref_offset_within}
use Rattle.objects.proofs.Places.{car_of, object_stands}
use Rattle.trains.specs.Fills.{TrainFill, Placement}
use Rattle.trains.specs.Orders.{order_in, stands_later}
use Rattle.trains.specs.Ties.{fills}
use Rattle.trains.proofs.Follow.{fills_follow, later_by_numbers}
use Rattle.memory.specs.Heap.{Heap}
use Rattle.memory.specs.Stands.{Stands, Acts}
use Rattle.memory.specs.Noting.{noted_at}
use Rattle.memory.specs.Found.{Found, RefusesWord, ref_count, ref_at}
use Rattle.memory.proofs.Held.{Halt}
use Rattle.memory.proofs.Acting.{with_word, refused_acts, point_stands, found_response, fills-alter, words-alter}
use Rattle.memory.proofs.Slots.{PlacedAt, placed_at, one_slot_of, order_most, order_high}

-- what an object of a placement has inside, said of each object
pub each_inside : (os : List Obj) → ((y : ℕ) → times y os ≤ 1) → (x : ℕ) (b : Body) → inside os x ≡ Some b → AllByRecursion (λ o. eqb x o.id ≡ true → o.body ≡ b) os
each_inside os once x b e =
    all_map (λ o. inside os o.id ≡ Some o.body) (λ o. eqb x o.id ≡ true → o.body ≡ b)
    (λ o f q. let g : ◌≡◌ {A = Option Body} (Some o.body) (Some b) = sym f ∙ ap (inside os) (sym (eqb-true x o.id q)) ∙ e in let j : o.body ≡ b = cc in j)
    os (inside_self os once)

and_true : (b c : Bool) → c ≡ true → (b && c) ≡ b
and_true true c e = e
and_true false c e = refl

and_false : (b c : Bool) → c ≡ false → (b && c) ≡ false
and_false true c e = e
and_false false c e = refl

-- What is noted of the one slot of a reference.

module _ (M : ShapeTable) (ts : Trains) (s : Seated ts) (x i : ℕ) (b : Body) (there : i < length b.refs)
    (is_b : AllByRecursion (λ o. eqb x o.id ≡ true → o.body ≡ b) (objects ts)) (lies : 1 ≤ times x (objects ts)) where
  abbrev at_place : PlacedAt x ts
  at_place = placed_at ts s x lies

  none_later : (c : ℕ) → stands_later c 64 (fills ts) ≡ false
  none_later c =
      ap (λ (ns : List ℕ). ltb (order_in 64 ns) (order_in c ns)) (sym (fills_follow.numbered ts))
      ∙ le-ltb (order_in 64 (numbers ts)) (order_in c (numbers ts)) (omega (arith, order_high 64 (numbers ts) s.apart.below, order_most c (numbers ts)))

  pub told_of : (a : ℕ) (h : Option ℕ) → a ≡ locate ts x + ref_offset M b.shape i → a / car_words ≡ locate ts x / car_words → get_or b.refs i None ≡ h
      → ((y : ℕ) → h ≡ Some y → 1 ≤ times y (objects ts))
      → notes ts (is_slot x i) (slots M 0 ts) ≡ noted_at (fills ts) a (word_of (locate ts) h)
  told_of a h e car target held_lies =
      ap (flat_map (λ (v : Slot). note_of ts v v.target)) (one_slot_of M ts s x i b there is_b lies)
      ∙ append-nil _
      ∙ go h target held_lies
    where
      slot : Slot
      slot = record { order = at_place.place.order; address = locate ts x + ref_offset M b.shape i; holder = x; index = i; target = get_or b.refs i None }

      go : (h : Option ℕ) → get_or b.refs i None ≡ h → ((y : ℕ) → h ≡ Some y → 1 ≤ times y (objects ts)) → note_of ts slot slot.target ≡ noted_at (fills ts) a (word_of (locate ts) h)
      go None q l = ap (note_of ts slot) q ∙ sym (ap (λ (t : Bool). cond t (Note (8192 / car_words) a ∷ []) []) (none_later (a / car_words)))
      go (Some y) q l =
          let p = placed_at ts s y (l y refl) in
          ap (note_of ts slot) q ∙ ap (λ (v : Option CarPlace). note_by v slot) p.found
          ∙ ap₂ (λ (t : Bool) (u : Update). cond t (u ∷ []) [])
          (later_by_numbers x y ts at_place.place p.place s.apart.differ at_place.found p.found ∙ ap₂ (λ (c d : ℕ). stands_later c d (fills ts)) (sym (car ∙ at_place.number)) (sym p.number))
          (ap₂ (λ (c d : ℕ). Note c d) (sym p.number) (sym e))

-- What a link tells.

module _ (M : ShapeTable) (code : Shape → ℕ) (law : Lawful M) (m : Model) (halt : Halt m) (s : Heap) (st : Stands M code m s) where
  -- the reference that is set stands in the car of its object
  in_its_car : (r i a : ℕ) (f : Found m ref_count (ref_at M) r i a) → a / car_words ≡ locate m.trains f.object / car_words
  in_its_car r i a f =
      let o = object_stands M code (locate m.trains) s.words m.trains st.objects f.object f.body f.inside in
      let q = ref_offset_within M code law (locate m.trains) s.words (locate m.trains f.object) f.body o.lies i f.there in
      car_of a (locate m.trains f.object / car_words) (omega (arith, f.address)) (omega (arith, f.address, q.1, o.within))

  link_told : (r i a : ℕ) (f : Found m ref_count (ref_at M) r i a) (h : Option ℕ) → ((y : ℕ) → h ≡ Some y → 1 ≤ times y (all_objects m))
      → noted_by M (point f.object i h) (space_with (point f.object i h) m).trains ≡ noted_at (fills m.trains) a (word_of (locate m.trains) h)
  link_told r i a f h lies =
      let g = with_ref i h in
      let k = ref_size i h in
      let x = f.object in
      let ts = alter x g m.trains in
      let same : (y : ℕ) → times y (objects ts) ≡ times y (all_objects m) = λ y. ap (times y) (objects-alter x g m.trains) ∙ alter-times x g y (all_objects m) in
      let here : 1 ≤ times x (objects ts) = rw (same x) (halt.sound.roots r x f.held) in
      let is_b : AllByRecursion (λ o. eqb x o.id ≡ true → o.body ≡ g f.body) (objects ts) =
      subst (AllByRecursion (λ o. eqb x o.id ≡ true → o.body ≡ g f.body)) (sym (objects-alter x g m.trains))
      (alter_all x g (λ o. eqb x o.id ≡ true → o.body ≡ f.body) (λ o. eqb x o.id ≡ true → o.body ≡ g f.body) (λ o p q. rw q (ap g (p q))) (all_objects m)
      (each_inside (all_objects m) halt.sound.once x f.body f.inside)) in
      let moved : locate ts x ≡ locate m.trains x = locate-alter x g k m.trains x in
      told_of M ts (seated_alter x g k m.trains halt.seated) x i (g f.body) (omega (arith, length-set f.body.refs i h, f.there)) is_b here a h
      (f.address ∙ ap (λ (z : ℕ). z + ref_offset M f.body.shape i) (sym moved)) (in_its_car r i a f ∙ ap (λ (z : ℕ). z / car_words) (sym moved))
      (get_or-set_same f.body.refs i h None f.there) (λ y e. rw (same y) (lies y e))
      ∙ ap₂ (λ (fs : List TrainFill) (w : ℕ). noted_at fs a w) (fills-alter x g k m.trains) (words-alter x g k m.trains h)

  link_response : (r i q a : ℕ) (f : Found m ref_count (ref_at M) r i a) → is_root q ≡ true
      → response (inside (all_objects m)) m.roots (Link r i q) ≡ give done (point f.object i (held m.roots q))
  link_response r i q a f p =
      ap (λ (t : Bool). on_object t (object_of (inside (all_objects m)) (held m.roots r)) (λ x b. unless (ltb i (length b.refs)) Missing (give done (point x i (held m.roots q))))) (and_true (is_root r) (is_root q) p)
      ∙ found_response m ref_count (ref_at M) r i a f (λ x b. give done (point x i (held m.roots q)))

  -- a link tells the set what it should, and leaves a memory that stands for the space after it
  pub linked : {S : Type 0} (has : S → Pairs) (says : S → Update → S → Type 0) (set after : S) (r i q a w : ℕ) → Found m ref_count (ref_at M) r i a → is_root q ≡ true → w ≡ get_or s.roots q 0
      → Leads has says set (tell (noted_at s.trains.trains a w) []) after
      → Acts M code (Access (Link r i q)) m done (act M (Access (Link r i q)) m).updates (with_word a w s) × Leads has says set (tell (act M (Access (Link r i q)) m).updates []) after
  linked has says set after r i q a w f p e way =
      let h = held m.roots q in
      let word : w ≡ word_of (locate m.trains) h = e ∙ st.roots q (ltb-true q 32 p) in
      let response_is = link_response r i q a f p in
      let told : (act M (Access (Link r i q)) m).updates ≡ noted_at s.trains.trains a w =
      ap (λ (v : Response). noted_by M v.effect (space_with v.effect m).trains) response_is ∙ link_told r i a f h (halt.sound.roots q)
      ∙ ap₂ (λ (fs : List TrainFill) (w : ℕ). noted_at fs a w) (sym (ap (λ (v : Placement). v.trains) st.trains)) (sym word) in (
        record {
          answered = λ P. ap (λ (v : Response). v.reply) response_is;
          updates = refl;
          stands = subst (λ (v : Response). Stands M code (space_with v.effect m) (with_word a w s)) (sym response_is) (rw f.address (point_stands M code m s st law halt f.object f.body f.inside i h w f.there word));
        },
        rw told way,
      )

  -- a refused link tells it nothing
  pub not_linked : {S : Type 0} (has : S → Pairs) (says : S → Update → S → Type 0) (set : S) (r i q : ℕ) (e : Refusal) → response (inside (all_objects m)) m.roots (Link r i q) ≡ refuse e
      → Acts M code (Access (Link r i q)) m (refused e) (act M (Access (Link r i q)) m).updates s × Leads has says set (tell (act M (Access (Link r i q)) m).updates []) set
  not_linked has says set r i q e f =
      let a = refused_acts M code m s st (Link r i q) e f in
      (record { answered = a.answered; updates = refl; stands = a.stands }, rw a.updates (untold set))

  pub link_no_root : (r i q : ℕ) (e : Refusal) → is_root q ≡ false → Root ≡ e → response (inside (all_objects m)) m.roots (Link r i q) ≡ refuse e
  link_no_root r i q e p f =
      ap (λ (t : Bool). on_object t (object_of (inside (all_objects m)) (held m.roots r)) (λ x b. unless (ltb i (length b.refs)) Missing (give done (point x i (held m.roots q))))) (and_false (is_root r) (is_root q) p)
      ∙ ap refuse f

  pub link_not_found : (r i q : ℕ) (e : Refusal) → is_root q ≡ true → RefusesWord m ref_count r i e → response (inside (all_objects m)) m.roots (Link r i q) ≡ refuse e
  link_not_found r i q e p f =
      ap (λ (t : Bool). on_object t (object_of (inside (all_objects m)) (held m.roots r)) (λ x b. unless (ltb i (length b.refs)) Missing (give done (point x i (held m.roots q))))) (and_true (is_root r) (is_root q) p)
      ∙ f (λ x b. give done (point x i (held m.roots q)))
