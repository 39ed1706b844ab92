-- What stands at the address of a slot: the word of the object that it holds.
use Rattle.std.proofs.Common.{◌≡◌, ℕ, zero, suc, ◌+◌, ◌*◌, ◌<◌, List, [], ◌∷◌, Option, None, get_or, length, ◌∙◌, ap, arith}
use Rattle.std.specs.List.{AllByRecursion}
use Rattle.layout.specs.ShapeTable.{ShapeTable}
use Rattle.layout.specs.declared.Shape.{Shape}
use Rattle.model.specs.Bodies.{size}
use Rattle.model.specs.Notes.{ref_offset, ref_slots, object_slots, train_slots, slots}
use Rattle.model.specs.Trains.{Obj, Car, Train, Trains, car_words}
use Rattle.model.proofs.Alls.{all_++}
use Rattle.objects.specs.Lies.{LieFrom, CarStands, word_of}
use Rattle.objects.specs.Stand.{TrainsStand}
use Rattle.objects.specs.Words.{HasItsWord}
use Rattle.objects.proofs.Objects.{word_at-ref}

module _ (M : ShapeTable) (code : Shape → ℕ) (at : ℕ → ℕ) (w : List ℕ) where
  refs_words : (s : Shape) (n x a i : ℕ) (hs : List (Option ℕ)) → ((k : ℕ) → k < length hs → get_or w (a + ref_offset M s (i + k)) 0 ≡ word_of at (get_or hs k None))
      → AllByRecursion (HasItsWord at w) (ref_slots M s n x a i hs)
  refs_words s n x a i [] f = tt
  refs_words s n x a i (h ∷ hs) f = (
    ap (λ (j : ℕ). get_or w (a + ref_offset M s j) 0) (let e : i ≡ i + 0 = omega arith in e) ∙ f zero (omega arith),
    refs_words s n x a (i + 1) hs (λ k g. ap (λ (j : ℕ). get_or w (a + ref_offset M s j) 0) (let e : i + 1 + k ≡ i + suc k = omega arith in e) ∙ f (suc k) (omega (arith, g))),
  )

  pub objects_words : (n a : ℕ) (os : List Obj) → LieFrom M code at w a os → AllByRecursion (HasItsWord at w) (object_slots M n a os)
  objects_words n a [] l = tt
  objects_words n a (o ∷ os) l =
      all_++ (HasItsWord at w) (ref_slots M o.body.shape n o.id a 0 o.body.refs) (object_slots M n (a + size o.body) os)
      (refs_words o.body.shape n o.id a 0 o.body.refs (λ k h. ap (λ (j : ℕ). get_or w (a + ref_offset M o.body.shape j) 0) (let e : 0 + k ≡ k = omega arith in e) ∙ word_at-ref M code at w a o.body l.0 k h))
      (objects_words n (a + size o.body) os l.1)

  -- of a car, of a train from the place n on, and of all trains
  pub car_words_at_slots : (n : ℕ) (c : Car) → CarStands M code at w c → AllByRecursion (HasItsWord at w) (object_slots M n (car_words * c.number) c.objects)
  car_words_at_slots n c s = objects_words n (car_words * c.number) c.objects s.lies

  pub train_words_at_slots : (n : ℕ) (t : Train) → AllByRecursion (CarStands M code at w) t → AllByRecursion (HasItsWord at w) (train_slots M n t)
  train_words_at_slots n [] s = tt
  train_words_at_slots n (c ∷ cs) s =
      all_++ (HasItsWord at w) (object_slots M n (car_words * c.number) c.objects) (train_slots M (n + 1) cs) (car_words_at_slots n c s.0) (train_words_at_slots (n + 1) cs s.1)

  pub words_at_slots : (n : ℕ) (ts : Trains) → TrainsStand M code at w ts → AllByRecursion (HasItsWord at w) (slots M n ts)
  words_at_slots n [] s = tt
  words_at_slots n (t ∷ ts) s = all_++ (HasItsWord at w) (train_slots M n t) (slots M (n + length t) ts) (train_words_at_slots n t s.0) (words_at_slots (n + length t) ts s.1)
