-- Gathering slots car by car and train by train.
use Rattle.std.proofs.Common.{◌≡◌, ℕ, zero, suc, ◌+◌, ◌*◌, ◌<◌, List, [], ◌∷◌, ◌++◌, length, take, get_or, refl, sym, ap, ◌∙◌, append_assoc, append-nil, arith}
use Rattle.std.specs.List.{AllByRecursion}
use Rattle.std.proofs.lemmas.List.Elements.{filter-append}
use Rattle.layout.specs.declared.Shape.{Shape}
use Rattle.layout.specs.ShapeTable.{ShapeTable}
use Rattle.remembered.specs.Updates.{Pairs}
use Rattle.model.specs.Notes.{Slot, object_slots, train_slots, slots, target_among}
use Rattle.model.specs.Remembered.{slots_into}
use Rattle.model.specs.Trains.{Car, Train, Trains, car_words, car_numbers, words_of}
use Rattle.model.proofs.Alls.{all_left, all_right}
use Rattle.objects.specs.Lies.{CarStands}
use Rattle.objects.specs.Stand.{TrainsStand, EachCar}
use Rattle.slots.specs.Slots.{addresses, ArePaired}
use Rattle.slots.proofs.Walking.{addresses-append}
use Rattle.trains.specs.Fills.{fill_numbers}
use Rattle.trains.specs.Ties.{fills}
use Rattle.steps.proofs.Rows.{fill-numbers}

-- some slots are gathered, and those of one car or train more
pub gathered_more : (f : Car) (old out new : List ℕ) (xs ys all : List Slot) → all ≡ xs ++ ys → out ≡ old ++ addresses (slots_into f xs) → new ≡ out ++ addresses (slots_into f ys)
    → new ≡ old ++ addresses (slots_into f all)
gathered_more f old out new xs ys all e so_far more =
    more ∙ (ap (λ zs. zs ++ addresses (slots_into f ys)) so_far
    ∙ (append_assoc old (addresses (slots_into f xs)) (addresses (slots_into f ys))
    ∙ ap (λ zs. old ++ zs) (sym (addresses-append (slots_into f xs) (slots_into f ys))
    ∙ ap addresses (sym (filter-append (λ s. target_among f.objects s.target) xs ys) ∙ ap (slots_into f) (sym e)))))

module _ (M : ShapeTable) (code : Shape → ℕ) (at : ℕ → ℕ) (words : List ℕ) (full : ℕ → ℕ) (P : Pairs) (f : Car) where
  -- the car at a place of a train
  pub record CarAt (n : ℕ) (t : Train) (i : ℕ) : Type 0 where
    pub order : ℕ
    pub car : Car
    pub number : get_or (car_numbers t) i 0 ≡ car.number
    pub stands : CarStands M code at words car
    pub filled : full car.number ≡ words_of car.objects
    pub paired : ArePaired P f (object_slots M order (car_words * car.number) car.objects)
    pub slots : train_slots M n (take (i + 1) t) ≡ train_slots M n (take i t) ++ object_slots M order (car_words * car.number) car.objects

  pub car_at : (n : ℕ) (t : Train) (i : ℕ) → i < length (car_numbers t) → AllByRecursion (CarStands M code at words) t → AllByRecursion (λ c. full c.number ≡ words_of c.objects) t
      → ArePaired P f (train_slots M n t) → CarAt n t i
  car_at n [] i l s w p = absurd (omega arith)
  car_at n (c ∷ cs) zero l s w p = record {
    order = n;
    car = c;
    number = refl;
    stands = s.0;
    filled = w.0;
    paired = all_left _ (object_slots M n (car_words * c.number) c.objects) (train_slots M (n + 1) cs) p;
    slots = append-nil (object_slots M n (car_words * c.number) c.objects);
  }
  car_at n (c ∷ cs) (suc i) l s w p =
      let here = object_slots M n (car_words * c.number) c.objects in
      let r = car_at (n + 1) cs i (omega (arith, l)) s.1 w.1 (all_right _ here (train_slots M (n + 1) cs) p) in
      let e : suc i + 1 ≡ suc (i + 1) = omega arith in
      record {
        order = r.order;
        car = r.car;
        number = r.number;
        stands = r.stands;
        filled = r.filled;
        paired = r.paired;
        slots = ap (λ k. train_slots M n (take k (c ∷ cs))) e
            ∙ (ap (λ ss. here ++ ss) r.slots ∙ sym (append_assoc here (train_slots M (n + 1) (take i cs)) (object_slots M r.order (car_words * r.car.number) r.car.objects)));
      }

  -- the train of a rank
  pub record TrainAt (n : ℕ) (ts : Trains) (k : ℕ) : Type 0 where
    pub order : ℕ
    pub train : Train
    pub numbers : car_numbers train ≡ fill_numbers (get_or (fills ts) k [])
    pub stand : AllByRecursion (CarStands M code at words) train
    pub filled : AllByRecursion (λ c. full c.number ≡ words_of c.objects) train
    pub paired : ArePaired P f (train_slots M order train)
    pub slots_are : slots M n (take (suc k) ts) ≡ slots M n (take k ts) ++ train_slots M order train

  pub train_at : (n : ℕ) (ts : Trains) (k : ℕ) → k < length ts → TrainsStand M code at words ts → EachCar (λ c. full c.number ≡ words_of c.objects) ts
      → ArePaired P f (slots M n ts) → TrainAt n ts k
  train_at n [] k l s w p = absurd (omega arith)
  train_at n (t ∷ ts) zero l s w p = record {
    order = n;
    train = t;
    numbers = sym (fill-numbers t);
    stand = s.0;
    filled = w.0;
    paired = all_left _ (train_slots M n t) (slots M (n + length t) ts) p;
    slots_are = append-nil (train_slots M n t);
  }
  train_at n (t ∷ ts) (suc k) l s w p =
      let r = train_at (n + length t) ts k (omega (arith, l)) s.1 w.1 (all_right _ (train_slots M n t) (slots M (n + length t) ts) p) in
      record {
        order = r.order;
        train = r.train;
        numbers = r.numbers;
        stand = r.stand;
        filled = r.filled;
        paired = r.paired;
        slots_are = ap (λ ss. train_slots M n t ++ ss) r.slots_are ∙ sym (append_assoc (train_slots M n t) (slots M (n + length t) (take k ts)) (train_slots M r.order r.train));
      }
