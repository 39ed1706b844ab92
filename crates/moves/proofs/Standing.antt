-- Once the claimed objects were moved and what held them was fixed, all cars stand by the new addresses.
use Rattle.std.proofs.Common.{◌≡◌, ℕ, ◌+◌, ◌*◌, ◌<◌, ◌≤◌, true, eqb, List, [], ◌∷◌, length, Option, Some, None, sym, refl, subst, arith, inl, inr, ◌⊎◌}
use Rattle.std.proofs.lemmas.Bool.{cases_Bool, ltb-false}
use Rattle.std.proofs.lemmas.Map.Keys.{IsDistinct-tail}
use Rattle.std.specs.List.{AllByRecursion}
use Rattle.layout.specs.ShapeTable.{ShapeTable, Lawful}
use Rattle.layout.specs.declared.Shape.{Shape}
use Rattle.model.specs.Bodies.{size}
use Rattle.model.specs.Notes.{ref_slots, object_slots, train_slots, target_among}
use Rattle.model.specs.Sound.{Points}
use Rattle.model.specs.Step.{claimed}
use Rattle.model.specs.Trains.{Obj, Train, Trains, train_objects, objects, times, among, words_of, car_numbers, one_of, car_words}
use Rattle.model.proofs.Alls.{all_++, all_left, all_right, all_with}
use Rattle.model.proofs.RememberCars.{cars_in_row, row_objects, row_slots}
use Rattle.objects.specs.Lies.{CarLies, ArePlaced, CarStands, word_of}
use Rattle.objects.specs.Locate.{locate}
use Rattle.objects.specs.Stand.{TrainsStand}
use Rattle.objects.proofs.Locates.{locate-placed}
use Rattle.objects.proofs.Places.{each_row, row_each}
use Rattle.trains.specs.Fills.{Placement}
use Rattle.moves.specs.Moves.{Carrying, CanMove, AreMoved}
use Rattle.moves.specs.Fixes.{fixed, Corrected, addresses_of, moved_out, CanFix, Suffices}
use Rattle.moves.proofs.Correcting.{refs_each, cars_fixed}
use Rattle.moves.proofs.Fixing.{total, fixed-nothing, fixed-other, fixed-word_of}

-- what a slot of the row holds is known if what each reference holds is
pub slots_known : (M : ShapeTable) (K : ℕ → Type 0) (n : ℕ) (t : Train) → AllByRecursion (Points K) (train_objects t)
    → AllByRecursion (λ s. (y : ℕ) → s.target ≡ Some y → K y) (train_slots M n t)
slots_known M K n [] p = tt
slots_known M K n (c ∷ t) p =
    all_++ _ (object_slots M n (car_words * c.number) c.objects) (train_slots M (n + 1) t)
    (of_objects (car_words * c.number) c.objects (all_left (Points K) c.objects (train_objects t) p))
    (slots_known M K (n + 1) t (all_right (Points K) c.objects (train_objects t) p))
  where
    of_objects : (a : ℕ) (os : List Obj) → AllByRecursion (Points K) os → AllByRecursion (λ s. (y : ℕ) → s.target ≡ Some y → K y) (object_slots M n a os)
    of_objects a [] p = tt
    of_objects a (o ∷ os) p =
        all_++ _ (ref_slots M o.body.shape n o.id a 0 o.body.refs) (object_slots M n (a + size o.body) os)
        (refs_each M (λ s. (y : ℕ) → s.target ≡ Some y → K y) o.body.shape n o.id a 0 o.body.refs (λ j lt y e. p.0 j y e))
        (of_objects (a + size o.body) os p.1)

numbers_below : (t : Train) → AllByRecursion (λ n. n < 64) (car_numbers t) → AllByRecursion (λ c. c.number < 64) t
numbers_below [] p = tt
numbers_below (c ∷ t) p = (p.0, numbers_below t p.1)

pub fixed-stand : (M : ShapeTable) (code : Shape → ℕ) → Lawful M → (q : Carrying) (v₀ : List ℕ) (p₀ : Placement) → CanMove M code q v₀ p₀ → CanFix q
    → (v forward : List ℕ) (p : Placement) → AreMoved M code q (length q.row) v forward p
    → (addresses w : List ℕ) → Suffices M q addresses → Corrected q.emptied.number forward addresses v w → TrainsStand M code (locate (moved_out q)) w (moved_out q)
fixed-stand M code law q v₀ p₀ m c v forward p r addresses w enough fix =
    each_row (CarStands M code to w) ts
    (all_with (λ d. CarLies M code to w d × ArePlaced to (car_words * d.number) d.objects) (λ d. (d.number < 64) × (words_of d.objects ≤ car_words)) _
    (λ d a b. record { lies = a.0; placed = a.1; number = b.0; within = b.1 }) row
    (all_with (CarLies M code to w) (λ d. ArePlaced to (car_words * d.number) d.objects) _ (λ d a b. (a, b)) row
    (cars_fixed M code law q.at to q.emptied.number forward addresses v w fix Known (fixed-word_of M code q v₀ p₀ m c v forward p r) 0 row
    r.lies.lies.1 r.lies.within.1 (IsDistinct-tail eqb q.emptied.number (car_numbers row) r.lies.differ) (subst (AllByRecursion (Points Known)) (sym (row_objects ts)) c.closed)
    (λ k _ e. subst (λ ss. one_of k (addresses_of ss) ≡ true) (row_slots M 0 ts) (enough.only k e))
    (all_with (λ s. target_among (claimed q.row) s.target ≡ true → one_of s.address addresses ≡ true) (λ s. (y : ℕ) → s.target ≡ Some y → Known y) _
    (λ s a k. either s.address s.target a k) (train_slots M 0 row) (subst (AllByRecursion _) (row_slots M 0 ts) enough.all)
    (slots_known M Known 0 row (subst (AllByRecursion (Points Known)) (sym (row_objects ts)) c.closed))))
    (row_each _ ts (locate-placed ts (λ x. omega (arith, total M code q v₀ p₀ m c v forward p r x, m.once x)))))
    (all_with (λ d. d.number < 64) (λ d. words_of d.objects ≤ car_words) _ (λ d a b. (a, b)) row (numbers_below row r.lies.below.1) r.lies.within.1))
  where
    ts : Trains
    ts = moved_out q

    row : Train
    row = cars_in_row ts

    to : ℕ → ℕ
    to = locate ts

    Known : ℕ → Type 0
    Known y = 1 ≤ times y (objects ts)

    either : (a : ℕ) (h : Option ℕ) → (target_among (claimed q.row) h ≡ true → one_of a addresses ≡ true) → ((y : ℕ) → h ≡ Some y → Known y)
        → (one_of a addresses ≡ true) ⊎ (fixed q.emptied.number forward (word_of q.at h) ≡ word_of q.at h)
    either a None f k = inr (fixed-nothing M code q v₀ p₀ m c v forward p r)
    either a (Some y) f k = elim (cases_Bool (among y (claimed q.row))) [
      | inl e ↦ inl (f e)
      | inr e ↦ inr (fixed-other M code q v₀ p₀ m c v forward p r y
          (omega (arith, total M code q v₀ p₀ m c v forward p r y, k y refl, ltb-false 0 (times y (claimed q.row)) e))).0
    ]
