-- The memory once a car was emptied and is free again.
use Rattle.std.proofs.Common.{◌≡◌, ℕ, zero, suc, ◌+◌, ◌-◌, ◌*◌, ◌≤◌, Bool, cond, not, eqb, List, [], ◌∷◌, length, count_by, Option, Some, None, option_map, refl, sym, ap, ◌∙◌, subst, arith, eq-eqb}
use Rattle.std.proofs.lemmas.List.{length-map}
use Rattle.std.proofs.lemmas.List.Sums.{count_by-le-length}
use Rattle.std.specs.List.{AllByRecursion}
use Rattle.layout.specs.ShapeTable.{ShapeTable, Lawful}
use Rattle.layout.specs.declared.Shape.{Shape}
use Rattle.remembered.specs.Updates.{no_pairs}
use Rattle.calls.specs.declared.call.Call.TheVariants.{Step}
use Rattle.model.specs.Bodies.{held}
use Rattle.model.specs.Calls.{Event, History, done}
use Rattle.model.specs.Claims.{MoveRequest, Claim as ObjectClaim}
use Rattle.model.specs.Sound.{Marked, Sized}
use Rattle.model.specs.Space.{Model, carried, free_car, space_of, step_by, step_on, trains_after}
use Rattle.model.specs.Step.{first_to, outside, requests, claimed, out_of, back_of, copied_of, mark_after, guard, trim}
use Rattle.model.specs.Trains.{Obj, Car, Train, Trains, train_objects, objects, obj_size, times, words_of, words_in_use}
use Rattle.model.proofs.Alls.{all_left, claims_all}
use Rattle.model.proofs.Totals.{sums, claims-total, place_all-total, trim-objects}
use Rattle.objects.specs.Lies.{CarStands, word_of}
use Rattle.objects.specs.Locate.{locate}
use Rattle.objects.proofs.Frames.{trains_stand_same}
use Rattle.objects.proofs.Locates.{locate-trim, each_trim}
use Rattle.trains.specs.Fills.{Placement, TrainFill, released}
use Rattle.trains.specs.Orders.{filled_of}
use Rattle.trains.proofs.Follow.{fills_follow}
use Rattle.memory.specs.declared.Mark.{Mark}
use Rattle.memory.specs.Heap.{Heap}
use Rattle.memory.specs.Stands.{Stands, halted, mark_at}
use Rattle.memory.proofs.Held.{Halt, halt_at}
use Rattle.moves.specs.Fills.{emptying}
use Rattle.moves.specs.Fixes.{fixed}
use Rattle.steps.specs.Emptying.{IsEmptied, placed_out}
use Rattle.steps.specs.Marks.{guarded}

-- where the first train is reached from outside, the space after a step is that of its first car freed
pub halt_after : (M : ShapeTable) → Lawful M → (h : History) (f : Car) (cs : Train) (ts : Trains) (w : MoveRequest) → (space_of M h).trains ≡ (f ∷ cs) ∷ ts
    → first_to (train_objects (f ∷ cs)) (outside (space_of M h).roots ((f ∷ cs) ∷ ts) ts) ≡ Some w → Halt (free_car M w f cs ts (space_of M h)).state
halt_after M law h f cs ts w e q =
    let m = space_of M h in
    let step : Event = record { call = Step; reply = done; pairs = no_pairs } in
    let halt : Halt (step_on M m.trains m).state = halt_at M law (step ∷ h) in
    subst (λ v. Halt (step_by M v (f ∷ cs) ts m).state) q (subst (λ us. Halt (step_on M us m).state) e halt)

-- words of references, and marks, where no address changes
word_same : (at to : ℕ → ℕ) → ((x : ℕ) → at x ≡ to x) → (h : Option ℕ) → word_of at h ≡ word_of to h
word_same at to same None = refl
word_same at to same (Some x) = same x

mark_trim : (ts : Trains) (mk : Option MoveRequest) → option_map (mark_at ts) mk ≡ option_map (mark_at (trim ts)) mk
mark_trim ts None = refl
mark_trim ts (Some w) = ap (λ a. Some (record { object = a; rank = w.rank })) (sym (locate-trim ts w.who))

-- what the guard sets is only asked for where it sets it
guard_by : (ts : Trains) (mk : Option MoveRequest) (out : ℕ) (w : MoveRequest) (a : Mark) → (guard mk out w ≡ Some w → a ≡ mark_at ts w)
    → guarded (option_map (mark_at ts) mk) out a ≡ option_map (mark_at ts) (guard mk out w)
guard_by ts (Some v) out w a p = refl
guard_by ts None zero w a p = ap (λ b. Some b) (p refl)
guard_by ts None (suc n) w a p = refl

-- the marked object lies in a car
marked_lies : (w : MoveRequest) (ts : Trains) → Marked w ts → 1 ≤ times w.who (objects ts)
marked_lies w [] k = k.lies
marked_lies w (t ∷ ts) k = omega (arith, sums, k.lies)

-- the words of the car that is being emptied
pub emptied_words : (f : Car) (ts : Trains) (p : Placement) → p ≡ emptying f ts → filled_of f.number p ≡ words_of f.objects
emptied_words f ts p e =
    ap (filled_of f.number) e ∙ ap (λ b. cond b (words_of f.objects) (filled_of f.number (halted ts))) (eq-eqb f.number f.number refl)

module _ (M : ShapeTable) (code : Shape → ℕ) (m : Model) (f : Car) (cs : Train) (ts : Trains) (forward : List ℕ) (s : Heap) where
  -- the words in use, without those of the emptied car and with those that were copied
  words_after : m.trains ≡ (f ∷ cs) ∷ ts → s.used ≡ words_in_use m.trains → s.used - words_of f.objects + copied_of (carried f cs ts m).taken ≡ words_in_use (trains_after f cs ts m)
  words_after e u =
      omega (arith, sums, u, ap words_in_use e, ap words_of (trim-objects (placed_out m f cs ts)), place_all-total obj_size (f.number ∷ []) (carried f cs ts m).taken (cs ∷ ts))

  -- the car is free, its words are not in use, and the mark is set by the guard
  abbrev pub car_freed : (asked : Mark) → Heap
  car_freed asked = record {
    words = s.words;
    roots = s.roots;
    trains = released s.trains;
    mark = guarded s.mark (out_of (carried f cs ts m).taken) (record { object = fixed f.number forward asked.object; rank = asked.rank });
    used = s.used - words_of f.objects + copied_of (carried f cs ts m).taken;
  }

  module _ (w : MoveRequest) (asked : Mark) (halt : Halt (free_car M w f cs ts m).state) (e : m.trains ≡ (f ∷ cs) ∷ ts) (long : length m.roots ≡ 32) (emp : IsEmptied M code m f cs ts forward s)
      (asks : asked ≡ mark_at m.trains w) where
    asked_after : guard (mark_after f.objects m.mark) (out_of (carried f cs ts m).taken) w ≡ Some w
        → record { object = fixed f.number forward asked.object; rank = asked.rank } ≡ mark_at (trains_after f cs ts m) w
    asked_after g =
        let lies = marked_lies w (trains_after f cs ts m) (halt.sound.mark w g) in
        let there : 1 ≤ times w.who (objects (placed_out m f cs ts)) = subst (λ os. 1 ≤ times w.who os) (trim-objects (placed_out m f cs ts)) lies in
        ap (λ (a : Mark). record { object = fixed f.number forward a.object; rank = a.rank }) asks
        ∙ ap (λ a. record { object = a; rank = w.rank }) (emp.forwards w.who there ∙ sym (locate-trim (placed_out m f cs ts) w.who))

    pub car_freed_stands : Stands M code (free_car M w f cs ts m).state (car_freed asked)
    car_freed_stands =
        let before = placed_out m f cs ts in
        let after = trains_after f cs ts m in
        let same : (x : ℕ) → locate before x ≡ locate after x = λ x. sym (locate-trim before x) in
        record {
          word_count = emp.word_count;
          root_word_count = emp.root_word_count;
          root_count = long;
          objects = trains_stand_same M code (locate before) (locate after) s.words after same (each_trim (CarStands M code (locate before) s.words) before emp.stand);
          trains = ap released emp.trains ∙ ap (λ (us : List TrainFill). record { trains = us; busy = None }) (sym (fills_follow.trimmed before));
          roots = λ r l. emp.roots r l ∙ word_same (locate before) (locate after) same (held m.roots r);
          mark =
              ap (λ mk. guarded mk (out_of (carried f cs ts m).taken) (record { object = fixed f.number forward asked.object; rank = asked.rank })) (emp.mark ∙ mark_trim before (mark_after f.objects m.mark))
              ∙ guard_by after (mark_after f.objects m.mark) (out_of (carried f cs ts m).taken) w _ asked_after;
          used = words_after e emp.used;
        }

-- each object of a car has two words or more
two_words : (os : List Obj) → AllByRecursion Sized os → 2 * length os ≤ words_of os
two_words [] k = omega arith
two_words (o ∷ os) k = omega (arith, sums, k.0.0, two_words os k.1)

count_most : (p : ObjectClaim → Bool) (row : List ObjectClaim) → count_by p row ≤ length (claimed row)
count_most p row = omega (arith, count_by-le-length p row, length-map row (λ (c : ObjectClaim). c.object))

-- the numbers that a report says of a car
pub record Few (row : List ObjectClaim) : Type 0 where
  pub out : out_of row ≤ 128
  pub back : back_of row ≤ 128
  pub copied : copied_of row ≤ 128

pub few_carried : (f : Car) (cs : Train) (ts : Trains) (m : Model) → Halt m → m.trains ≡ (f ∷ cs) ∷ ts → words_of f.objects ≤ 128 → Few (carried f cs ts m).taken
few_carried f cs ts m halt e within =
    let ws = requests m.roots m.mark f cs ts in
    let row = (carried f cs ts m).taken in
    let sized : AllByRecursion Sized f.objects = all_left Sized f.objects (train_objects cs) (all_left Sized (train_objects (f ∷ cs)) (objects ts) (subst (λ us. AllByRecursion Sized (objects us)) e halt.sound.sized)) in
    let two = two_words (claimed row) (claims_all Sized ws f.objects sized).0 in
    let total = claims-total obj_size ws f.objects in
    record {
      out = omega (arith, two, total, count_most (λ c. not (eqb c.rank 0)) row);
      back = omega (arith, two, total, count_most (λ c. eqb c.rank 0) row);
      copied = omega (arith, total);
    }
