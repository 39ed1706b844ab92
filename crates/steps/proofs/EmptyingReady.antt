-- What a step knows as it begins to move what was claimed out of the first car.
use Rattle.std.proofs.Common.{◌≡◌, ℕ, suc, ◌+◌, ◌*◌, ◌<◌, ◌≤◌, List, [], ◌∷◌, ◌++◌, length, get_or, map, filter, Option, Some, None, sym, refl, ap, ◌∙◌, subst, arith}
use Rattle.std.proofs.lemmas.List.{take_all}
use Rattle.std.specs.List.{AllByRecursion, Contains}
use Rattle.layout.specs.ShapeTable.{ShapeTable}
use Rattle.layout.specs.declared.Shape.{Shape}
use Rattle.model.specs.Claims.{MoveRequest, Claim as ObjectClaim, claim, all_to, claims, train_requests}
use Rattle.model.specs.Notes.{train_slots, slots, corrected}
use Rattle.model.specs.Remembered.{slots_into}
use Rattle.model.specs.Sound.{SoundAt, Points, Sized}
use Rattle.model.specs.Space.{Model, carried}
use Rattle.model.specs.Step.{requests, claimed, placing}
use Rattle.model.specs.Trains.{Obj, Car, Train, Trains, train_objects, objects, times, words_of, car_words}
use Rattle.model.proofs.Alls.{all_++, all_left, all_map, all_with, claims_all}
use Rattle.model.proofs.Cars.{free_at_moment}
use Rattle.model.proofs.Keeps.{step_all, roots_kept, refs_kept, times_self}
use Rattle.model.proofs.Outside.{Ranks, away, away_ranks, requests_split, train_ranks, claims_below, requests_below}
use Rattle.model.proofs.RememberCars.{cars_in_row, Numbered}
use Rattle.model.proofs.Totals.{is, sums, claims-total, place_all-total, trim-objects}
use Rattle.objects.specs.Lies.{CarStands, CarLies, word_of}
use Rattle.objects.specs.Locate.{address_in, locate}
use Rattle.objects.specs.Stand.{TrainsStand}
use Rattle.objects.proofs.Locates.{address_from-out}
use Rattle.objects.proofs.Places.{row_each}
use Rattle.moves.specs.Fills.{emptying}
use Rattle.moves.specs.Fixes.{CanFix, moved_out, addresses_of}
use Rattle.moves.specs.Moves.{CanMove}
use Rattle.moves.proofs.Gathered.{placing_has}
use Rattle.steps.specs.Emptying.{placed_out}
use Rattle.steps.proofs.EmptyingSlots.{corrected_are}

-- each element is one of a list
contains_more : {X : Type 0} (x y : X) (xs : List X) → Contains xs x → Contains (y ∷ xs) x
contains_more x y xs c = (suc c.0, omega (arith, c.1), c.2)

contains_self : (os : List Obj) → AllByRecursion (λ o. Contains os o) os
contains_self [] = tt
contains_self (o ∷ os) = ((0, omega arith, refl), all_map (λ p. Contains os p) (λ p. Contains (o ∷ os) p) (λ p c. contains_more p o os c) os (contains_self os))

-- a claim has the rank of its request
all_to_ranks : (P : ℕ → Type 0) (k : ℕ) (os : List Obj) (row : List ObjectClaim) → P k → AllByRecursion (λ c. P c.rank) row → AllByRecursion (λ c. P c.rank) (all_to k os ++ row)
all_to_ranks P k [] row h r = r
all_to_ranks P k (o ∷ os) row h r = (h, all_to_ranks P k os row h r)

claims_ranks : (P : ℕ → Type 0) (ws : List MoveRequest) (left : List Obj) → Ranks P ws → AllByRecursion (λ c. P c.rank) (claims ws left).taken
claims_ranks P [] left h = tt
claims_ranks P (w ∷ ws) left h =
    let t = claim w.who left in
    all_to_ranks P w.rank t.taken (claims ws t.left).taken h.0 (claims_ranks P ws t.left h.1)

-- what holds of what each reference holds
all_held : (P : ℕ → Type 0) (hs : List (Option ℕ)) → ((i y : ℕ) → get_or hs i None ≡ Some y → P y) → AllByRecursion (λ h. (y : ℕ) → h ≡ Some y → P y) hs
all_held P [] f = tt
all_held P (h ∷ hs) f = ((λ y e. f 0 y e), all_held P hs (λ i y e. f (suc i) y e))

-- the words of roots, one after another or all at once
pub words_by_number : (at : ℕ → ℕ) (words : List ℕ) (hs : List (Option ℕ)) → length words ≡ length hs → ((r : ℕ) → r < length hs → get_or words r 0 ≡ word_of at (get_or hs r None)) → words ≡ map (word_of at) hs
words_by_number at [] [] e f = refl
words_by_number at [] (h ∷ hs) e f = absurd (omega (arith, e))
words_by_number at (w ∷ words) [] e f = absurd (omega (arith, e))
words_by_number at (w ∷ words) (h ∷ hs) e f =
    ap (λ v. v ∷ words) (f 0 (omega arith)) ∙ ap (λ vs. word_of at h ∷ vs) (words_by_number at words hs (omega (arith, e)) (λ r l. f (suc r) (omega (arith, l))))

module _ (m : Model) (f : Car) (cs : Train) (ts : Trains) (s : SoundAt m.made m.roots ((f ∷ cs) ∷ ts) m.mark) where
  row : List ObjectClaim
  row = (carried f cs ts m).taken

  pub from_car : (x : ℕ) → times x (claimed (carried f cs ts m).taken) + times x (carried f cs ts m).left ≡ times x f.objects
  from_car x = claims-total (is x) (requests m.roots m.mark f cs ts) f.objects

  all_are : (x : ℕ) → times x (objects ((f ∷ cs) ∷ ts)) ≡ times x f.objects + times x (objects (cs ∷ ts))
  all_are x = omega (arith, sums)

  pub once_taken : (x : ℕ) → times x (claimed (carried f cs ts m).taken) + times x (objects (cs ∷ ts)) ≤ 1
  once_taken x = omega (arith, all_are x, s.once x, from_car x)

  pub placed_are : (x : ℕ) → times x (objects (placed_out m f cs ts)) ≡ times x (objects (cs ∷ ts)) + times x (claimed (carried f cs ts m).taken)
  placed_are x = place_all-total (is x) (f.number ∷ []) (carried f cs ts m).taken (cs ∷ ts)

  -- what was there and is not left is there still
  kept : (x : ℕ) → 1 ≤ times x (objects ((f ∷ cs) ∷ ts)) → times x (carried f cs ts m).left ≡ 0 → 1 ≤ times x (objects (placed_out m f cs ts))
  kept x h e = omega (arith, all_are x, from_car x, placed_are x, h, e)

  ranks : AllByRecursion (λ c. (c.rank ≤ length (cs ∷ ts)) × (c.rank < 8)) (carried f cs ts m).taken
  ranks =
      let P : ℕ → Type 0 = λ k. (k ≤ length (cs ∷ ts)) × (k < 8) in
      claims_ranks P (requests m.roots m.mark f cs ts) f.objects
      (subst (λ ws. Ranks P ws) (sym (requests_split m.roots m.mark f cs ts))
      (all_++ (λ w. P w.rank) (away m.roots m.mark f cs ts) (train_requests 0 cs)
      (all_map _ _ (λ w a. (omega (arith, a.1), a.2)) (away m.roots m.mark f cs ts) (away_ranks m.roots m.mark f cs ts s.few s.mark))
      (train_ranks P 0 (omega arith, omega arith) cs)))

  module _ (M : ShapeTable) (code : Shape → ℕ) (at : ℕ → ℕ) (words : List ℕ) (stand : TrainsStand M code at words ((f ∷ cs) ∷ ts)) (num : Numbered (cars_in_row ((f ∷ cs) ∷ ts))) where
    each : AllByRecursion (CarStands M code at words) (f ∷ cars_in_row (cs ∷ ts))
    each = row_each (CarStands M code at words) ((f ∷ cs) ∷ ts) stand

    pub can_move : CanMove M code (record { at = at; emptied = f; row = (carried f cs ts m).taken; trains = cs ∷ ts }) words (emptying f (cs ∷ ts))
    can_move = record {
      lies = record {
        lies = all_map (CarStands M code at words) (CarLies M code at words) (λ c h. h.lies) (f ∷ cars_in_row (cs ∷ ts)) each;
        within = all_map (CarStands M code at words) (λ c. words_of c.objects ≤ car_words) (λ c h. h.within) (f ∷ cars_in_row (cs ∷ ts)) each;
        below = num.0;
        differ = num.1;
      };
      placed = each.0.placed;
      of_car = (claims_all (λ o. Contains f.objects o) (requests m.roots m.mark f cs ts) f.objects (contains_self f.objects)).0;
      once = once_taken;
      ranks = ranks;
      free = λ k. free_at_moment f cs ts m s.filled s.room s.few (all_left Sized f.objects (train_objects cs) (all_left Sized (f.objects ++ train_objects cs) (objects ts) s.sized))
          (claims_below (requests m.roots m.mark f cs ts) f.objects (requests_below m.roots m.mark f cs ts s.few s.mark)) k;
      placement = refl;
    }

  -- all of the claims were placed
  pub all_placed : (at : ℕ → ℕ) → moved_out (record { at = at; emptied = f; row = (carried f cs ts m).taken; trains = cs ∷ ts }) ≡ placed_out m f cs ts
  all_placed at = ap (λ r. placing f r (cs ∷ ts)) (take_all (length (carried f cs ts m).taken) (carried f cs ts m).taken (omega arith))

  pub closed : AllByRecursion (Points (λ y. 1 ≤ times y (objects (placed_out m f cs ts)))) (objects (placed_out m f cs ts))
  closed =
      all_with (Points (λ y. 1 ≤ times y (objects ((f ∷ cs) ∷ ts)))) (Points (λ y. times y (carried f cs ts m).left ≡ 0)) (Points (λ y. 1 ≤ times y (objects (placed_out m f cs ts))))
      (λ o p k i y e. kept y (p i y e) (k i y e)) (objects (placed_out m f cs ts))
      (subst (AllByRecursion (Points (λ y. 1 ≤ times y (objects ((f ∷ cs) ∷ ts))))) (trim-objects (placed_out m f cs ts)) (step_all (Points (λ y. 1 ≤ times y (objects ((f ∷ cs) ∷ ts)))) f cs ts m s.refs))
      (subst (AllByRecursion (Points (λ y. times y (carried f cs ts m).left ≡ 0))) (trim-objects (placed_out m f cs ts)) (refs_kept f cs ts m))

  -- an object that does not lie in the car is where the other cars say
  pub other_at : (y : ℕ) → 1 ≤ times y (objects (cs ∷ ts)) → locate ((f ∷ cs) ∷ ts) y ≡ locate (cs ∷ ts) y
  other_at y h = address_from-out (car_words * f.number) f.objects y (address_in cs y (locate ts y)) (omega (arith, all_are y, s.once y, h))

  pub can_fix : (at : ℕ → ℕ) → ((y : ℕ) → at y ≡ locate ((f ∷ cs) ∷ ts) y) → CanFix (record { at = at; emptied = f; row = (carried f cs ts m).taken; trains = cs ∷ ts })
  can_fix at e = record {
    closed = subst (λ us. AllByRecursion (Points (λ y. 1 ≤ times y (objects us))) (objects us)) (sym (all_placed at)) closed;
    others = λ y h. e y ∙ other_at y h;
  }

  -- what the roots hold is placed
  pub roots_placed : AllByRecursion (λ h. (y : ℕ) → h ≡ Some y → 1 ≤ times y (objects (placed_out m f cs ts))) m.roots
  roots_placed = all_held (λ y. 1 ≤ times y (objects (placed_out m f cs ts))) m.roots (λ r y e. kept y (s.roots r y e) (roots_kept f cs ts m r y e))

  -- what a reference of an object outside the car holds of the car is claimed
  stays : AllByRecursion (λ o. AllByRecursion (λ h. (times o.id (claimed (carried f cs ts m).taken) ≡ 0) × ((y : ℕ) → h ≡ Some y → times y (claimed (carried f cs ts m).taken) ≡ times y f.objects)) o.body.refs) (objects (cs ∷ ts))
  stays = all_with (λ o. 1 ≤ times o.id (objects (cs ∷ ts))) (Points (λ y. times y (carried f cs ts m).left ≡ 0)) _
      (λ o here k. all_map (λ h. (y : ℕ) → h ≡ Some y → times y (carried f cs ts m).left ≡ 0) _
      (λ h g. (omega (arith, once_taken o.id, here), λ y e. omega (arith, from_car y, g y e))) o.body.refs (all_held (λ y. times y (carried f cs ts m).left ≡ 0) o.body.refs k))
      (objects (cs ∷ ts)) (times_self (objects (cs ∷ ts))) others_kept
    where
      others_kept : AllByRecursion (Points (λ y. times y (carried f cs ts m).left ≡ 0)) (objects (cs ∷ ts))
      others_kept = (placing_has (Points (λ y. times y (carried f cs ts m).left ≡ 0)) (f.number ∷ []) (carried f cs ts m).taken (cs ∷ ts)
          (subst (AllByRecursion (Points (λ y. times y (carried f cs ts m).left ≡ 0))) (trim-objects (placed_out m f cs ts)) (refs_kept f cs ts m))).1

  pub slots_same : (M : ShapeTable) (at : ℕ → ℕ) → addresses_of (slots_into f (train_slots M 1 cs ++ slots M (length (f ∷ cs)) ts))
      ≡ addresses_of (filter (corrected (claimed (carried f cs ts m).taken)) (slots M 0 (moved_out (record { at = at; emptied = f; row = (carried f cs ts m).taken; trains = cs ∷ ts }))))
  slots_same M at =
      let long : length (f ∷ cs) ≡ 1 + length cs = omega arith in
      ap (λ n. addresses_of (slots_into f (train_slots M 1 cs ++ slots M n ts))) long
      ∙ (sym (corrected_are M (claimed (carried f cs ts m).taken) f.objects (f.number ∷ []) (carried f cs ts m).taken cs ts (times_self (claimed (carried f cs ts m).taken)) stays)
      ∙ ap (λ us. addresses_of (filter (corrected (claimed (carried f cs ts m).taken)) (slots M 0 us))) (sym (all_placed at)))
