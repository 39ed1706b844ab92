-- The memory once what was claimed was moved out of the first car.
use Rattle.std.proofs.Common.{◌≡◌, ℕ, ◌<◌, ◌≤◌, Bool, true, false, cond, List, [], ◌∷◌, length, get_or, map, filter, Option, Some, None, sym, refl, ap, ◌∙◌, subst, arith, ◌/◌, flat_map}
use Rattle.std.proofs.lemmas.Bool.{ltb-false}
use Rattle.std.proofs.lemmas.List.{get_or-map, length-set}
use Rattle.std.specs.List.{AllByRecursion}
use Rattle.std.specs.Option.{option_map}
use Rattle.layout.specs.ShapeTable.{ShapeTable, Lawful, Offsets}
use Rattle.layout.specs.Coding.{Coded}
use Rattle.layout.specs.declared.Shape.{Shape}
use Rattle.model.specs.Claims.{MoveRequest}
use Rattle.model.specs.Notes.{slots, corrected}
use Rattle.model.specs.Sound.{SoundAt, Marked}
use Rattle.model.specs.Space.{Model, carried}
use Rattle.model.specs.Step.{claimed, mark_after}
use Rattle.model.specs.Trains.{Car, Train, Trains, objects, times, among, car_words}
use Rattle.model.proofs.RememberCars.{cars_in_row, Numbered}
use Rattle.model.proofs.Totals.{sums}
use Rattle.objects.specs.Lies.{word_of, HoldsItsOwn}
use Rattle.objects.specs.Locate.{locate}
use Rattle.objects.specs.Stand.{TrainsStand, EachCar}
use Rattle.objects.proofs.Locates.{seated_own}
use Rattle.slots.proofs.Holding.{car_tells}
use Rattle.slots.specs.Slots.{AddressTells}
use Rattle.claims.specs.declared.Claim.{Claim}
use Rattle.trains.specs.Fills.{Placement, first_taken}
use Rattle.memory.specs.declared.Mark.{Mark}
use Rattle.memory.specs.Heap.{Heap}
use Rattle.memory.specs.Stands.{halted, mark_at}
use Rattle.memory.proofs.Held.{Halt}
use Rattle.moves.specs.Fills.{emptying}
use Rattle.moves.specs.Fixes.{CanFix, moved_out, addresses_of, fixed, fix_at, fix_each, moved_references, IsOutside, own_references}
use Rattle.moves.specs.Moves.{CanMove, AreMoved}
use Rattle.moves.proofs.Fixing.{fixed-other, fixed-at}
use Rattle.moves.proofs.Turns.{fix_each_outside}
use Rattle.moves.proofs.Whole.{headers, own_outside, others_outside, outside_by, slots_inside_by, stand_by, roots_by}
use Rattle.steps.specs.Emptying.{CanEmptyFrom, IsEmptied, placed_out, carrying_of}
use Rattle.steps.specs.Finishing.{CanFinishFrom}
use Rattle.steps.specs.Marks.{mark_left}
use Rattle.steps.proofs.MarkLaws.{marks_follow}
use Rattle.steps.proofs.EmptyingReady as ready

-- fixing words leaves as many as there were
length-fixed : (car : ℕ) (forward addresses v : List ℕ) → length (fix_each car forward addresses v) ≡ length v
length-fixed car forward [] v = refl
length-fixed car forward (a ∷ more) v = length-fixed car forward more (fix_at car forward a v) ∙ length-set v a (fixed car forward (get_or v a 0))

module _ (M : ShapeTable) (code : Shape → ℕ) (decoded : ℕ → Offsets) (law : Lawful M) (coded : Coded M code decoded) (m : Model) (halt : Halt m) (num : Numbered (cars_in_row m.trains))
    (f : Car) (cs : Train) (ts : Trains) (car : ℕ) (order : List Claim) (addresses : List ℕ) (s : Heap) (r : CanEmptyFrom M code m f cs ts car order addresses s) where
  sound : SoundAt m.made m.roots ((f ∷ cs) ∷ ts) m.mark
  sound = subst (λ us. SoundAt m.made m.roots us m.mark) r.trains halt.sound

  pub taken_first : first_taken s.trains ≡ emptying f (cs ∷ ts)
  taken_first = ap first_taken (r.stands.trains ∙ ap halted r.trains)

  pub idle : s.trains.busy ≡ None
  idle = ap (λ (p : Placement). p.busy) r.stands.trains

  pub can_move : (p : Placement) → p ≡ first_taken s.trains → CanMove M code (carrying_of m f cs ts) s.words p
  can_move p e =
      subst (λ z. CanMove M code (carrying_of m f cs ts) s.words z) (sym (e ∙ taken_first))
      (ready.can_move m f cs ts sound M code (locate m.trains) s.words (subst (λ us. TrainsStand M code (locate m.trains) s.words us) r.trains r.stands.objects)
      (subst (λ us. Numbered (cars_in_row us)) r.trains num))

  pub can_fix : CanFix (carrying_of m f cs ts)
  can_fix = ready.can_fix m f cs ts sound (locate m.trains) (λ y. ap (λ us. locate us y) r.trains)

  pub slots_are : addresses ≡ addresses_of (filter (corrected (claimed (carried f cs ts m).taken)) (slots M 0 (moved_out (carrying_of m f cs ts))))
  slots_are = r.slots_are ∙ ready.slots_same m f cs ts sound M (locate m.trains)

  placed_is : moved_out (carrying_of m f cs ts) ≡ placed_out m f cs ts
  placed_is = ready.all_placed m f cs ts sound (locate m.trains)

  -- what is known once the objects were moved
  module _ (p₀ : Placement) (start : p₀ ≡ first_taken s.trains) (v forward : List ℕ) (p : Placement) (moved : AreMoved M code (carrying_of m f cs ts) (length (carried f cs ts m).taken) v forward p) where
    pub outside : AllByRecursion (IsOutside car) (moved_references decoded v forward car order)
    outside = outside_by M code decoded law coded (carrying_of m f cs ts) s.words p₀ (can_move p₀ start) can_fix v forward p moved car order addresses r.car_is r.order_is slots_are

    pub slots_inside : AllByRecursion (λ a. a < 8192) addresses
    slots_inside = slots_inside_by M code decoded law coded (carrying_of m f cs ts) s.words p₀ (can_move p₀ start) can_fix v forward p moved car order addresses r.car_is r.order_is slots_are

    forwards : (x : ℕ) → 1 ≤ times x (objects (placed_out m f cs ts)) → fixed f.number forward (locate m.trains x) ≡ locate (placed_out m f cs ts) x
    forwards =
        subst (λ us. (x : ℕ) → 1 ≤ times x (objects us) → fixed f.number forward (locate m.trains x) ≡ locate us x) placed_is
        (fixed-at M code (carrying_of m f cs ts) s.words p₀ (can_move p₀ start) can_fix v forward p moved)

    stays : (x : ℕ) → 1 ≤ times x (objects (cs ∷ ts)) → locate m.trains x ≡ locate (placed_out m f cs ts) x
    stays = subst (λ us. (x : ℕ) → 1 ≤ times x (objects (cs ∷ ts)) → locate m.trains x ≡ locate us x) placed_is
        (λ x h. (fixed-other M code (carrying_of m f cs ts) s.words p₀ (can_move p₀ start) can_fix v forward p moved x h).1)

    stand : (w₁ w₂ : List ℕ) → w₁ ≡ fix_each car forward (moved_references decoded v forward car order) v → w₂ ≡ fix_each car forward addresses w₁ → length w₂ ≡ 8192
        → TrainsStand M code (locate (placed_out m f cs ts)) w₂ (placed_out m f cs ts)
    stand w₁ w₂ first then-is wide =
        let long : length v ≡ 8192 =
        sym (length-fixed car forward (moved_references decoded v forward car order) v) ∙ (ap length (sym first)
        ∙ (sym (length-fixed car forward addresses w₁) ∙ (ap length (sym then-is) ∙ wide))) in
        subst (λ us. TrainsStand M code (locate us) w₂ us) placed_is
        (stand_by M code decoded law coded (carrying_of m f cs ts) s.words p₀ (can_move p₀ start) can_fix v forward p moved car order addresses r.car_is r.order_is slots_are w₁ w₂ first then-is long)

    root_words : s.roots ≡ map (word_of (locate m.trains)) m.roots
    root_words = ready.words_by_number (locate m.trains) s.roots m.roots (r.stands.root_word_count ∙ sym r.stands.root_count) (λ k l. r.stands.roots k (omega (arith, l, r.stands.root_count)))

    roots_now : (new : List ℕ) → new ≡ map (fixed car forward) s.roots → new ≡ map (word_of (locate (placed_out m f cs ts))) m.roots
    roots_now new e =
        subst (λ us. new ≡ map (word_of (locate us)) m.roots) placed_is
        (roots_by M code decoded law coded (carrying_of m f cs ts) s.words p₀ (can_move p₀ start) can_fix v forward p moved car s.roots new r.car_is e m.roots root_words
        (subst (λ us. AllByRecursion (λ h. (y : ℕ) → h ≡ Some y → 1 ≤ times y (objects us)) m.roots) (sym placed_is) (ready.roots_placed m f cs ts sound)))

    -- the mark that stays is on an object that was not moved
    mark_stays : (mk : Option MoveRequest) → ((w : MoveRequest) → mk ≡ Some w → Marked w ((f ∷ cs) ∷ ts))
        → option_map (mark_at m.trains) (mark_after f.objects mk) ≡ option_map (mark_at (placed_out m f cs ts)) (mark_after f.objects mk)
    mark_stays None k = refl
    mark_stays (Some w) k = go (among w.who f.objects) refl (stays w.who) (k w refl)
      where
        go : (b : Bool) → among w.who f.objects ≡ b → (1 ≤ times w.who (objects (cs ∷ ts)) → locate m.trains w.who ≡ locate (placed_out m f cs ts) w.who) → Marked w ((f ∷ cs) ∷ ts)
            → ◌≡◌ {A = Option Mark} (option_map (mark_at m.trains) (cond b None (Some w))) (option_map (mark_at (placed_out m f cs ts)) (cond b None (Some w)))
        go true e same k = refl
        go false e same k = ap (λ (a : ℕ). Some (record { object = a; rank = w.rank })) (same (omega (arith, sums, k.lies, ltb-false 0 (times w.who f.objects) e)))

    mark_now : (mk : Option Mark) → mk ≡ mark_left car s.mark → mk ≡ option_map (mark_at (placed_out m f cs ts)) (mark_after f.objects m.mark)
    mark_now mk e =
        e ∙ (ap (λ n. mark_left n s.mark) r.car_is ∙ (ap (mark_left f.number) r.stands.mark
        ∙ (marks_follow.left (locate m.trains) f m.mark tells ∙ mark_stays m.mark sound.mark)))
      where
        both : TrainsStand M code (locate m.trains) s.words ((f ∷ cs) ∷ ts)
        both = subst (λ us. TrainsStand M code (locate m.trains) s.words us) r.trains r.stands.objects

        tells : AddressTells (locate m.trains) f
        tells = car_tells M code (locate m.trains) s.words f both.0.0 (subst (λ us. EachCar (HoldsItsOwn (locate m.trains)) us) r.trains (seated_own m.trains halt.seated)).0.0

    pub is-emptied : (w₁ w₂ roots : List ℕ) (mk : Option Mark) → w₁ ≡ fix_each car forward (moved_references decoded v forward car order) v → w₂ ≡ fix_each car forward addresses w₁
        → length w₂ ≡ 8192 → roots ≡ map (fixed car forward) s.roots → length roots ≡ 32 → mk ≡ mark_left car s.mark
        → IsEmptied M code m f cs ts forward (record { words = w₂; roots = roots; trains = p; mark = mk; used = s.used })
    is-emptied w₁ w₂ roots mk first then-is wide fixes few mark_is = record {
      word_count = wide;
      root_word_count = few;
      stand = stand w₁ w₂ first then-is wide;
      trains = moved.placement ∙ ap (emptying f) placed_is;
      roots = λ k l. ap (λ xs. get_or xs k 0) (roots_now roots fixes) ∙ get_or-map (word_of (locate (placed_out m f cs ts))) m.roots k None 0 (omega (arith, l, r.stands.root_count));
      mark = mark_now mk mark_is;
      used = r.stands.used;
      forwards = forwards;
    }

    references_by : (w : List ℕ) → ((k : ℕ) → k / car_words ≡ f.number → get_or w k 0 ≡ get_or v k 0)
        → moved_references decoded w forward car order ≡ flat_map (own_references M (locate (moved_out (carrying_of m f cs ts)))) (claimed (carried f cs ts m).taken)
    references_by w same =
        ap (λ n. moved_references decoded w forward n order) r.car_is ∙ (ap (moved_references decoded w forward f.number) r.order_is
        ∙ headers M code decoded law coded (carrying_of m f cs ts) s.words p₀ (can_move p₀ start) can_fix v forward p moved w same)

    abbrev own : List ℕ
    own = flat_map (own_references M (locate (moved_out (carrying_of m f cs ts)))) (claimed (carried f cs ts m).taken)

    abbrev others : List ℕ
    others = addresses_of (filter (corrected (claimed (carried f cs ts m).taken)) (slots M 0 (moved_out (carrying_of m f cs ts))))

    fixed_are : (w₁ w₂ : List ℕ) → w₁ ≡ fix_each car forward (moved_references decoded v forward car order) v → w₂ ≡ fix_each car forward addresses w₁
        → w₂ ≡ fix_each f.number forward others (fix_each f.number forward own v)
    fixed_are w₁ w₂ first then-is =
        then-is ∙ (ap (fix_each car forward addresses) first
        ∙ (ap (λ xs. fix_each car forward addresses (fix_each car forward xs v)) (references_by v (λ k e. refl))
        ∙ (ap (λ xs. fix_each car forward xs (fix_each car forward own v)) slots_are
        ∙ ap (λ n. fix_each n forward others (fix_each n forward own v)) r.car_is)))

    -- the emptied car is as it was
    car_kept : (k : ℕ) → k / car_words ≡ f.number → get_or (fix_each f.number forward others (fix_each f.number forward own v)) k 0 ≡ get_or v k 0
    car_kept k e =
        fix_each_outside f.number forward others (fix_each f.number forward own v) k (others_outside M code decoded law coded (carrying_of m f cs ts) s.words p₀ (can_move p₀ start) can_fix v forward p moved) e
        ∙ fix_each_outside f.number forward own v k (own_outside M code decoded law coded (carrying_of m f cs ts) s.words p₀ (can_move p₀ start) can_fix v forward p moved) e

    -- what the rest of a step has to know
    pub can-finish : (w₁ w₂ : List ℕ) → w₁ ≡ fix_each car forward (moved_references decoded v forward car order) v → w₂ ≡ fix_each car forward addresses w₁
        → CanFinishFrom M decoded m f cs ts forward car order addresses w₂
    can-finish w₁ w₂ first then-is = record {
      trains = r.trains;
      root_count = r.stands.root_count;
      car_is = r.car_is;
      slots_are = subst (λ us. addresses ≡ addresses_of (filter (corrected (claimed (carried f cs ts m).taken)) (slots M 0 us))) placed_is slots_are;
      references_are = subst (λ us. moved_references decoded w₂ forward car order ≡ flat_map (own_references M (locate us)) (claimed (carried f cs ts m).taken)) placed_is
          (references_by w₂ (λ k e. ap (λ w. get_or w k 0) (fixed_are w₁ w₂ first then-is) ∙ car_kept k e));
    }
