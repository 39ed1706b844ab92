-- The memory once the first train has ended.
use Rattle.std.proofs.Common.{◌≡◌, ℕ, ◌-◌, ◌<◌, ◌≤◌, eqb, List, [], ◌∷◌, length, get_or, map, reverse, Option, Some, None, refl, sym, ap, ◌∙◌, subst, arith}
use Rattle.std.specs.List.{AllByRecursion, IsDistinct}
use Rattle.std.specs.Prelude.{sum_by}
use Rattle.std.proofs.lemmas.List.{append-nil}
use Rattle.calls.specs.declared.answer.StepKind.TheVariants.{Train as train}
use Rattle.layout.specs.ShapeTable.{ShapeTable, Lawful}
use Rattle.layout.specs.declared.Shape.{Shape}
use Rattle.remembered.specs.declared.Update.{Update}
use Rattle.remembered.specs.declared.Update.TheVariants.{Forget}
use Rattle.remembered.specs.Leads.{Leads}
use Rattle.remembered.specs.Updates.{Pairs}
use Rattle.model.specs.Bodies.{held}
use Rattle.model.specs.Sound.{Points, Sound, SoundAt}
use Rattle.model.specs.Space.{Model, free_train, looked, reported, space_of, step_by}
use Rattle.model.specs.Step.{first_to, outside}
use Rattle.model.specs.Trains.{Train, Trains, train_objects, objects, times, words_of, words_in_use, car_numbers}
use Rattle.model.proofs.Alls.{all_map, all_with}
use Rattle.model.proofs.Cars.{few_cars}
use Rattle.model.proofs.Keeps.{step_sound, times_self}
use Rattle.model.proofs.RememberCars.{row_numbers}
use Rattle.model.proofs.Totals.{sums}
use Rattle.objects.specs.Lies.{CarStands, word_of}
use Rattle.objects.specs.Locate.{locate}
use Rattle.objects.specs.Stand.{TrainsStand}
use Rattle.objects.proofs.Frames.{trains_stand_at}
use Rattle.objects.proofs.Locates.{address_in-out}
use Rattle.trains.specs.Fills.{Placement, fill_numbers, with_trains, tail_fills}
use Rattle.trains.specs.Orders.{filled_of}
use Rattle.memory.specs.Heap.{Heap}
use Rattle.memory.specs.Stands.{Stands, Known, halted}
use Rattle.memory.proofs.Held.{Halt, halt_at}
use Rattle.steps.specs.Steps.{Steps}
use Rattle.steps.proofs.Rows.{first_train, first_numbers, first_in_row, first_of_each, halted_filled, length-car_numbers, first_few, first_words, train_words, all_numbers}

-- the first train has ended, and its words are not in use
abbrev pub train_freed : Train → Heap → Heap
train_freed t s = record { words = s.words; roots = s.roots; trains = with_trains (tail_fills s.trains.trains) s.trains; mark = None; used = s.used - words_of (train_objects t) }

-- with no outside reference a first train ends, and all is sound
pub freed_sound : (M : ShapeTable) (t : Train) (ts : Trains) (m : Model) → Sound m → m.trains ≡ t ∷ ts → first_to (train_objects t) (outside m.roots (t ∷ ts) ts) ≡ None → Sound (free_train t ts m).state
freed_sound M t ts m s e q =
    subst (λ w. Sound (step_by M w t ts m).state) q (step_sound M (t ∷ ts) m (subst (λ us. SoundAt m.made m.roots us m.mark) e s) e)

module _ (M : ShapeTable) (code : Shape → ℕ) (t : Train) (ts : Trains) (m : Model) (s : Heap) where
  pub train_freed_stands : Sound m → Stands M code m s → m.trains ≡ t ∷ ts → first_to (train_objects t) (outside m.roots (t ∷ ts) ts) ≡ None
      → Stands M code (free_train t ts m).state (train_freed t s)
  train_freed_stands sound st e q =
      let after = freed_sound M t ts m sound e q in
      let once : (x : ℕ) → times x (objects (t ∷ ts)) ≤ 1 = λ x. subst (λ us. times x (objects us) ≤ 1) e (sound.once x) in
      let same : (y : ℕ) → 1 ≤ times y (objects ts) → locate (t ∷ ts) y ≡ locate ts y = λ y l. address_in-out t y (locate ts y) (omega (arith, sums, once y, l)) in
      let stand : TrainsStand M code (locate (t ∷ ts)) s.words (t ∷ ts) = subst (λ us. TrainsStand M code (locate us) s.words us) e st.objects in
      record {
        word_count = st.word_count;
        root_word_count = st.root_word_count;
        root_count = st.root_count;
        objects = trains_stand_at M code (locate (t ∷ ts)) (locate ts) s.words ts stand.1
            (all_map (Points (λ y. 1 ≤ times y (objects ts))) (Points (λ y. locate (t ∷ ts) y ≡ locate ts y)) (λ o p i y k. same y (p i y k)) (objects ts) after.refs)
            (all_map (λ o. 1 ≤ times o.id (objects ts)) (λ o. locate (t ∷ ts) o.id ≡ locate ts o.id) (λ o l. same o.id l) (objects ts) (times_self (objects ts)));
        trains = ap (λ (p : Placement). with_trains (tail_fills p.trains) p) (st.trains ∙ ap halted e);
        roots = λ r l. st.roots r l ∙ (ap (λ us. word_of (locate us) (held m.roots r)) e ∙ root_same after same (held m.roots r) (λ x k. after.roots r x k));
        mark = refl;
        used = omega (arith, sums, st.used, ap words_in_use e);
      }
    where
      root_same : Sound (free_train t ts m).state → ((y : ℕ) → 1 ≤ times y (objects ts) → locate (t ∷ ts) y ≡ locate ts y) → (h : Option ℕ)
          → ((x : ℕ) → h ≡ Some x → 1 ≤ times x (objects ts)) → word_of (locate (t ∷ ts)) h ≡ word_of (locate ts) h
      root_same after same None p = refl
      root_same after same (Some x) p = same x (p x refl)

-- what is known of the cars of the first train, by their numbers
pub record FirstCars (p : Placement) (used : ℕ) (cars : List ℕ) : Type 0 where
  pub low : (k d : ℕ) → k < length cars → get_or cars k d < 64
  pub filled : (k d : ℕ) → k < length cars → filled_of (get_or cars k d) p ≤ 128
  pub few : length cars ≤ 64
  pub words : sum_by (λ n. filled_of n p) cars ≤ used

pub first_cars : (M : ShapeTable) (code : Shape → ℕ) (m : Model) → Halt m → (s : Heap) → Stands M code m s → (cars : List ℕ) → cars ≡ fill_numbers (get_or s.trains.trains 0 []) → FirstCars s.trains s.used cars
first_cars M code m halt s st cars e =
    let t = first_train m.trains in
    let is : cars ≡ car_numbers t = e ∙ ap (λ (p : Placement). fill_numbers (get_or p.trains 0 [])) st.trains ∙ first_numbers m.trains in
    let stand = first_of_each (CarStands M code (locate m.trains) s.words) m.trains st.objects in
    let full : AllByRecursion (λ c. filled_of c.number (halted m.trains) ≡ words_of c.objects) t =
    first_in_row (λ c. filled_of c.number (halted m.trains) ≡ words_of c.objects) m.trains (halted_filled m.trains (subst (IsDistinct eqb) (sym (row_numbers m.trains)) halt.seated.apart.differ)) in
    subst (λ p. FirstCars p s.used cars) (sym st.trains)
    (subst (FirstCars (halted m.trains) s.used) (sym is) (record {
      low = all_numbers (λ n. n < 64) t (all_map (CarStands M code (locate m.trains) s.words) (λ c. c.number < 64) (λ c p. p.number) t stand);
      filled = all_numbers (λ n. filled_of n (halted m.trains) ≤ 128) t
          (all_with (CarStands M code (locate m.trains) s.words) (λ c. filled_of c.number (halted m.trains) ≡ words_of c.objects) (λ c. filled_of c.number (halted m.trains) ≤ 128)
          (λ c p q. omega (arith, p.within, q)) t stand full);
      few = omega (arith, first_few m.trains, few_cars m.trains halt.sound.filled halt.sound.room halt.sound.few);
      words = omega (arith, train_words (λ n. filled_of n (halted m.trains)) t full, first_words m.trains, st.used);
    }))

-- of a memory that stands for some space
pub known_first_cars : (M : ShapeTable) (code : Shape → ℕ) → Lawful M → (s : Heap) → Known M code s → (cars : List ℕ) → cars ≡ fill_numbers (get_or s.trains.trains 0 []) → FirstCars s.trains s.used cars
known_first_cars M code law s k = first_cars M code (space_of M k.0) (halt_at M law k.0) s k.1

-- what is known of the first train itself
pub record FirstTrain (M : ShapeTable) (code : Shape → ℕ) (ts : Trains) (t : Train) (words : List ℕ) (p : Placement) (cars : List ℕ) : Type 0 where
  pub numbers : car_numbers t ≡ cars
  pub stand : AllByRecursion (CarStands M code (locate ts) words) t
  pub filled : AllByRecursion (λ c. filled_of c.number p ≡ words_of c.objects) t

pub first_train_is : (M : ShapeTable) (code : Shape → ℕ) (m : Model) → Halt m → (s : Heap) → Stands M code m s → (t : Train) (ts : Trains) → m.trains ≡ t ∷ ts
    → (cars : List ℕ) → cars ≡ fill_numbers (get_or s.trains.trains 0 []) → FirstTrain M code m.trains t s.words s.trains cars
first_train_is M code m halt s st t ts e cars k = record {
  numbers = sym (k ∙ ap (λ (p : Placement). fill_numbers (get_or p.trains 0 [])) st.trains ∙ first_numbers m.trains ∙ ap (λ us. car_numbers (first_train us)) e);
  stand = subst (λ us. AllByRecursion (CarStands M code (locate m.trains) s.words) (first_train us)) e (first_of_each (CarStands M code (locate m.trains) s.words) m.trains st.objects);
  filled = subst (λ us. AllByRecursion (λ c. filled_of c.number s.trains ≡ words_of c.objects) (first_train us)) e
      (subst (λ p. AllByRecursion (λ c. filled_of c.number p ≡ words_of c.objects) (first_train m.trains)) (sym st.trains)
      (first_in_row (λ c. filled_of c.number (halted m.trains) ≡ words_of c.objects) m.trains (halted_filled m.trains (subst (IsDistinct eqb) (sym (row_numbers m.trains)) halt.seated.apart.differ))));
}

module _ {S : Type 0} (M : ShapeTable) (code : Shape → ℕ) (has : S → Pairs) (says : S → Update → S → Type 0) (m : Model) (t : Train) (ts : Trains) (s : Heap) (set after : S) where
  -- a step that ended the first train, by what it did
  pub train_steps : Sound m → Stands M code m s → m.trains ≡ t ∷ ts → first_to (train_objects t) (outside m.roots (t ∷ ts) ts) ≡ None
      → (cars : List ℕ) → car_numbers t ≡ cars → (words : ℕ) → words ≡ words_of (train_objects t) → (lost : ℕ) → lost ≡ length (train_objects t) → (seen : ℕ) → seen ≡ looked (has set) t
      → (p : Placement) → p ≡ with_trains (tail_fills s.trains.trains) s.trains → Leads has says set (reverse (map Forget cars)) after
      → Steps M code has says (free_train t ts m) (record { kind = train; out = 0; back = 0; copied = 0; lost = lost; looked = seen; cars = length cars })
      (record { words = s.words; roots = s.roots; trains = p; mark = None; used = s.used - words }) set after
  train_steps sound st e q cars nums words we lost le seen ke p pe lead = record {
    stands = rw (we, pe) (train_freed_stands M code t ts m s sound st e q);
    reply = rw (le, ke) (ap (λ (n : ℕ). reported (record { kind = train; out = 0; back = 0; copied = 0; lost = length (train_objects t); looked = looked (has set) t; cars = n })) (sym (length-car_numbers t) ∙ ap length nums));
    told = subst (λ us. Leads has says set us after) (ap (λ ns. reverse (map Forget ns)) (sym nums) ∙ sym (append-nil (reverse (map Forget (car_numbers t))))) lead;
  }
