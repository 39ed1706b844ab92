-- What stands in memory stands in any other that has the same words there, and for any other addresses that agree where it matters.
use Rattle.std.proofs.Common.{◌≡◌, ℕ, ◌+◌, ◌*◌, List, [], ◌∷◌, sym, ◌∙◌, arith}
use Rattle.std.specs.List.{AllByRecursion}
use Rattle.layout.specs.ShapeTable.{ShapeTable, Lawful}
use Rattle.layout.specs.declared.Shape.{Shape}
use Rattle.model.specs.Bodies.{size}
use Rattle.model.specs.Trains.{Obj, Car, Train, Trains, train_objects, objects, words_of, car_words}
use Rattle.model.specs.Sound.{Points}
use Rattle.model.proofs.Alls.{all_left, all_right, all_with}
use Rattle.model.proofs.Totals.{sums}
use Rattle.objects.specs.Lies.{LieFrom, CarLies, ArePlaced, CarStands}
use Rattle.objects.specs.Words.{SameWithin}
use Rattle.objects.specs.Stand.{EachCar, TrainsStand}
use Rattle.objects.proofs.Objects.{lies_frame, lies_at}

-- from what holds of each car of each train, and of each object in them
pub each_with : (P Q R : Car → Type 0) → ((c : Car) → P c → Q c → R c) → (ts : Trains) → EachCar P ts → EachCar Q ts → EachCar R ts
each_with P Q R f ts p q = all_with (AllByRecursion P) (AllByRecursion Q) (AllByRecursion R) (all_with P Q R f) ts p q

pub each_map : (P R : Car → Type 0) → ((c : Car) → P c → R c) → (ts : Trains) → EachCar P ts → EachCar R ts
each_map P R f ts p = each_with P P R (λ c a b. f c a) ts p p

pub train_all : (P : Obj → Type 0) (t : Train) → AllByRecursion P (train_objects t) → AllByRecursion (λ c. AllByRecursion P c.objects) t
train_all P [] p = tt
train_all P (c ∷ cs) p = (all_left P c.objects (train_objects cs) p, train_all P cs (all_right P c.objects (train_objects cs) p))

pub each_all : (P : Obj → Type 0) (ts : Trains) → AllByRecursion P (objects ts) → EachCar (λ c. AllByRecursion P c.objects) ts
each_all P [] p = tt
each_all P (t ∷ ts) p = (train_all P t (all_left P (train_objects t) (objects ts) p), each_all P ts (all_right P (train_objects t) (objects ts) p))

pub placed_at : (at to : ℕ → ℕ) (a : ℕ) (os : List Obj) → ArePlaced at a os → AllByRecursion (λ o. at o.id ≡ to o.id) os → ArePlaced to a os
placed_at at to a [] p e = tt
placed_at at to a (o ∷ os) p e = (sym e.0 ∙ p.0, placed_at at to (a + size o.body) os p.1 e.1)

module _ (M : ShapeTable) (code : Shape → ℕ) where
  pub lie_from_frame : Lawful M → (at : ℕ → ℕ) (v w : List ℕ) (a : ℕ) (os : List Obj) → LieFrom M code at v a os → SameWithin v w a (words_of os) → LieFrom M code at w a os
  lie_from_frame law at v w a [] l s = tt
  lie_from_frame law at v w a (o ∷ os) l s = (
    lies_frame M code law at v w a o.body l.0 (record { same = λ k g h. s.same k g (omega (arith, sums, h)) }),
    lie_from_frame law at v w (a + size o.body) os l.1 (record { same = λ k g h. s.same k (omega (arith, g)) (omega (arith, sums, h)) }),
  )

  pub lie_from_at : (at to : ℕ → ℕ) (v : List ℕ) (a : ℕ) (os : List Obj) → LieFrom M code at v a os → AllByRecursion (Points (λ y. at y ≡ to y)) os → LieFrom M code to v a os
  lie_from_at at to v a [] l p = tt
  lie_from_at at to v a (o ∷ os) l p = (lies_at M code at to v a o.body l.0 p.0, lie_from_at at to v (a + size o.body) os l.1 p.1)

  pub car_lies_frame : Lawful M → (at : ℕ → ℕ) (v w : List ℕ) (c : Car) → CarLies M code at v c → SameWithin v w (car_words * c.number) (words_of c.objects) → CarLies M code at w c
  car_lies_frame law at v w c l s = lie_from_frame law at v w (car_words * c.number) c.objects l s

  pub car_lies_at : (at to : ℕ → ℕ) (v : List ℕ) (c : Car) → CarLies M code at v c → AllByRecursion (Points (λ y. at y ≡ to y)) c.objects → CarLies M code to v c
  car_lies_at at to v c l p = lie_from_at at to v (car_words * c.number) c.objects l p

  pub car_stands_frame : Lawful M → (at : ℕ → ℕ) (v w : List ℕ) (c : Car) → CarStands M code at v c → SameWithin v w (car_words * c.number) (words_of c.objects) → CarStands M code at w c
  car_stands_frame law at v w c l s = record { lies = car_lies_frame law at v w c l.lies s; placed = l.placed; number = l.number; within = l.within }

  pub car_stands_at : (at to : ℕ → ℕ) (v : List ℕ) (c : Car) → CarStands M code at v c → AllByRecursion (Points (λ y. at y ≡ to y)) c.objects
      → AllByRecursion (λ o. at o.id ≡ to o.id) c.objects → CarStands M code to v c
  car_stands_at at to v c l p e =
      record {
        lies = car_lies_at at to v c l.lies p;
        placed = placed_at at to (car_words * c.number) c.objects l.placed e;
        number = l.number;
        within = l.within;
      }

  pub trains_stand_frame : Lawful M → (at : ℕ → ℕ) (v w : List ℕ) (ts : Trains) → TrainsStand M code at v ts
      → EachCar (λ c. SameWithin v w (car_words * c.number) (words_of c.objects)) ts → TrainsStand M code at w ts
  trains_stand_frame law at v w ts l s = each_with (CarStands M code at v) _ (CarStands M code at w) (car_stands_frame law at v w) ts l s

  pub trains_stand_at : (at to : ℕ → ℕ) (v : List ℕ) (ts : Trains) → TrainsStand M code at v ts → AllByRecursion (Points (λ y. at y ≡ to y)) (objects ts)
      → AllByRecursion (λ o. at o.id ≡ to o.id) (objects ts) → TrainsStand M code to v ts
  trains_stand_at at to v ts l p e =
      each_with (λ c. CarStands M code at v c × AllByRecursion (Points (λ y. at y ≡ to y)) c.objects) (λ c. AllByRecursion (λ o. at o.id ≡ to o.id) c.objects) (CarStands M code to v)
      (λ c q r. car_stands_at at to v c q.0 q.1 r) ts
      (each_with (CarStands M code at v) (λ c. AllByRecursion (Points (λ y. at y ≡ to y)) c.objects) (λ c. CarStands M code at v c × AllByRecursion (Points (λ y. at y ≡ to y)) c.objects)
      (λ c q r. (q, r)) ts l (each_all (Points (λ y. at y ≡ to y)) ts p))
      (each_all (λ o. at o.id ≡ to o.id) ts e)

  -- the same addresses, told in another way
  pub trains_stand_same : (at to : ℕ → ℕ) (v : List ℕ) (ts : Trains) → ((y : ℕ) → at y ≡ to y) → TrainsStand M code at v ts → TrainsStand M code to v ts
  trains_stand_same at to v ts e l = trains_stand_at at to v ts l (points (objects ts)) (own (objects ts))
    where
      points : (os : List Obj) → AllByRecursion (Points (λ y. at y ≡ to y)) os
      points [] = tt
      points (o ∷ os) = ((λ i y h. e y), points os)

      own : (os : List Obj) → AllByRecursion (λ o. at o.id ≡ to o.id) os
      own [] = tt
      own (o ∷ os) = (e o.id, own os)
