-- What a step finds by the pairs, slot by slot and car by car.
use Rattle.std.proofs.Common.{◌≡◌, ℕ, ◌+◌, ◌*◌, ◌≤◌, Bool, true, false, cond, List, [], ◌∷◌, length, refl, sym, ap, ◌∙◌, arith, filter}
use Rattle.std.specs.List.{AllByRecursion}
use Rattle.layout.specs.ShapeTable.{ShapeTable}
use Rattle.remembered.specs.Updates.{Pairs}
use Rattle.model.specs.Notes.{Slot, object_slots, train_slots, slots, target_among}
use Rattle.model.specs.Remembered.{FindsAll, StepFinds}
use Rattle.model.specs.Trains.{Car, Train, Trains, car_words}
use Rattle.model.proofs.Alls.{all_left, all_right, all_map}
use Rattle.slots.specs.Slots.{ArePaired}

length-filter_both : (p q : Slot → Bool) (ss : List Slot) → length (filter q (filter p ss)) ≤ length (filter q ss)
length-filter_both p q [] = omega arith
length-filter_both p q (s ∷ ss) = go (length-filter_both p q ss) (p s) (q s) refl
  where
    go : length (filter q (filter p ss)) ≤ length (filter q ss) → (b c : Bool) → q s ≡ c → length (filter q (cond b (s ∷ filter p ss) (filter p ss))) ≤ length (cond c (s ∷ filter q ss) (filter q ss))
    go more true true e = rw e (omega (arith, more))
    go more true false e = rw e more
    go more false true e = omega (arith, more)
    go more false false e = more

-- a test that takes nothing from what another picks holds wherever the other does
filter_picks : (p q : Slot → Bool) (ss : List Slot) → filter q (filter p ss) ≡ filter q ss → AllByRecursion (λ s. q s ≡ true → p s ≡ true) ss
filter_picks p q [] e = tt
filter_picks p q (s ∷ ss) e = go (length-filter_both p q ss) (λ k. filter_picks p q ss k) (p s) (q s) refl refl e
  where
    go : length (filter q (filter p ss)) ≤ length (filter q ss) → (filter q (filter p ss) ≡ filter q ss → AllByRecursion (λ s. q s ≡ true → p s ≡ true) ss)
        → (b c : Bool) → p s ≡ b → q s ≡ c → filter q (cond b (s ∷ filter p ss) (filter p ss)) ≡ cond c (s ∷ filter q ss) (filter q ss)
        → (q s ≡ true → p s ≡ true) × AllByRecursion (λ s. q s ≡ true → p s ≡ true) ss
    go short more true true d i k = ((λ h. d), more (let j : s ∷ filter q (filter p ss) ≡ s ∷ filter q ss = rw i at k in cc))
    go short more true false d i k = ((λ h. d), more (rw i at k))
    go short more false true d i k = absurd (omega (arith, short, ap length k))
    go short more false false d i k = ((λ h. absurd (let z : true ≡ false = sym h ∙ i in let w : ◌≡◌ {A = ℕ} 0 1 = cc in omega arith)), more k)

-- what is found is paired, slot by slot
pub found_paired : (P : Pairs) (c : Car) (ss : List Slot) → FindsAll P c ss → ArePaired P c ss
found_paired P c ss found = filter_picks (λ s. P c.number s.address) (λ s. target_among c.objects s.target) ss found

-- what a survey of the first train asks of the pairs
pub train_paired : (M : ShapeTable) (P : Pairs) (f : Car) (cs : Train) (ts : Trains) → StepFinds M P ((f ∷ cs) ∷ ts)
    → AllByRecursion (λ c. ArePaired P c (slots M (length (f ∷ cs)) ts)) (f ∷ cs)
train_paired M P f cs ts finds =
    all_map (λ c. FindsAll P c (slots M (length (f ∷ cs)) ts)) (λ c. ArePaired P c (slots M (length (f ∷ cs)) ts)) (λ c. found_paired P c (slots M (length (f ∷ cs)) ts)) (f ∷ cs) finds.1

-- what is asked of the pairs of the car that is emptied, for the cars of its own train behind it and for those of other trains
pub own_paired : (M : ShapeTable) (P : Pairs) (f : Car) (cs : Train) (ts : Trains) → StepFinds M P ((f ∷ cs) ∷ ts) → ArePaired P f (train_slots M 1 cs)
own_paired M P f cs ts finds = all_left _ (train_slots M 1 cs) (slots M (length (f ∷ cs)) ts) (found_paired P f _ finds.0)

pub other_paired : (M : ShapeTable) (P : Pairs) (f : Car) (cs : Train) (ts : Trains) → StepFinds M P ((f ∷ cs) ∷ ts) → ArePaired P f (slots M (length (f ∷ cs)) ts)
other_paired M P f cs ts finds = all_right _ (train_slots M 1 cs) (slots M (length (f ∷ cs)) ts) (found_paired P f _ finds.0)

-- and for each of them by itself
pub car_paired : (M : ShapeTable) (P : Pairs) (f c : Car) (n : ℕ) (cs : Train) → ArePaired P f (train_slots M n (c ∷ cs))
    → ArePaired P f (object_slots M n (car_words * c.number) c.objects) × ArePaired P f (train_slots M (n + 1) cs)
car_paired M P f c n cs p = (
  all_left _ (object_slots M n (car_words * c.number) c.objects) (train_slots M (n + 1) cs) p,
  all_right _ (object_slots M n (car_words * c.number) c.objects) (train_slots M (n + 1) cs) p,
)
