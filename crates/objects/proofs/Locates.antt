-- The addresses that a placement gives its objects are those that they stand at.
use Rattle.std.proofs.Common.{◌≡◌, ℕ, ◌+◌, ◌*◌, ◌/◌, ◌<◌, ◌≤◌, Bool, true, false, cond, eqb, ◌++◌, List, [], ◌∷◌, Option, Some, None, refl, sym, ◌∙◌, ap, subst, arith, inl, inr}
use Rattle.std.specs.List.{AllByRecursion}
use Rattle.std.proofs.Math.Decide.{ℕ_discrete}
use Rattle.std.proofs.lemmas.Bool.{eq-eqb, ne_eqb, eqb-false, cases_Bool}
use Rattle.model.specs.Bodies.{size}
use Rattle.model.specs.Laws.{CarsApart}
use Rattle.model.specs.Sound.{Sound, Filled}
use Rattle.model.specs.Space.{Model}
use Rattle.model.specs.Step.{trim}
use Rattle.model.specs.Trains.{Obj, Car, Train, Trains, train_objects, objects, words_of, times, car_numbers, numbers, one_of, car_words, car_count}
use Rattle.model.proofs.Alls.{all_map, all_left, all_right}
use Rattle.model.proofs.Distinct.{all_at}
use Rattle.model.proofs.Refuses.{inside_of}
use Rattle.model.proofs.RememberCars.{cars_in_row, row_objects}
use Rattle.model.proofs.Totals.{is, one_if, sums}
use Rattle.objects.specs.Lies.{ArePlaced, HoldsItsOwn, nothing, word_of}
use Rattle.objects.specs.Locate.{address_from, address_in, locate}
use Rattle.objects.specs.Stand.{EachCar, Seated, CarPlaced}
use Rattle.objects.proofs.Frames.{placed_at, each_with, each_map}
use Rattle.objects.proofs.Places.{each_row, cars_hold_their_own, address_number, addresses_differ, number_in_car}

address_in-++ : (t u : Train) (x other : ℕ) → address_in (t ++ u) x other ≡ address_in t x (address_in u x other)
address_in-++ [] u x other = refl
address_in-++ (c ∷ t) u x other = ap (address_from (car_words * c.number) c.objects x) (address_in-++ t u x other)

-- the address is looked for car by car
pub locate-row : (ts : Trains) (x : ℕ) → locate ts x ≡ address_in (cars_in_row ts) x nothing
locate-row [] x = refl
locate-row (t ∷ ts) x = ap (address_in t x) (locate-row ts x) ∙ sym (address_in-++ t (cars_in_row ts) x nothing)

-- an identity that is among no objects

eqb_swap : (x y : ℕ) → eqb x y ≡ false → eqb y x ≡ false
eqb_swap x y e = ne_eqb y x (λ (f : y ≡ x). eqb-false x y e (sym f))

none_is : (x : ℕ) (o : Obj) (os : List Obj) → times x (o ∷ os) ≡ 0 → (eqb x o.id ≡ false) × (times x os ≡ 0)
none_is x o os e = (
  elim (cases_Bool (eqb x o.id)) [
    | inl q ↦ absurd (let z : is x o ≡ 1 = ap one_if q in omega (arith, sums, e, z))
    | inr q ↦ q
  ],
  omega (arith, sums, e),
)

-- it differs from the identity of each of them
pub others : (x : ℕ) (os : List Obj) → times x os ≡ 0 → AllByRecursion (λ o. eqb x o.id ≡ false) os
others x [] e = tt
others x (o ∷ os) e = let n = none_is x o os e in (n.0, others x os n.1)

pub address_from-out : (a : ℕ) (os : List Obj) (x other : ℕ) → times x os ≡ 0 → address_from a os x other ≡ other
address_from-out a [] x other e = refl
address_from-out a (o ∷ os) x other e =
    let n = none_is x o os e in
    ap (λ (b : Bool). cond b a (address_from (a + size o.body) os x other)) n.0 ∙ address_from-out (a + size o.body) os x other n.1

pub address_in-out : (t : Train) (x other : ℕ) → times x (train_objects t) ≡ 0 → address_in t x other ≡ other
address_in-out [] x other e = refl
address_in-out (c ∷ cs) x other e =
    address_from-out (car_words * c.number) c.objects x (address_in cs x other) (omega (arith, sums, e)) ∙ address_in-out cs x other (omega (arith, sums, e))

-- what lies in no car has no address
pub locate-none : (ts : Trains) (x : ℕ) → times x (objects ts) ≡ 0 → locate ts x ≡ nothing
locate-none [] x e = refl
locate-none (t ∷ ts) x e = address_in-out t x (locate ts x) (omega (arith, sums, e)) ∙ locate-none ts x (omega (arith, sums, e))

from_placed : (a : ℕ) (os : List Obj) (other : ℕ → ℕ) → ((x : ℕ) → times x os ≤ 1) → ArePlaced (λ x. address_from a os x (other x)) a os
from_placed a [] other once = tt
from_placed a (o ∷ os) other once = (
  ap (λ (b : Bool). cond b a (address_from (a + size o.body) os o.id (other o.id))) (eq-eqb o.id o.id refl),
  placed_at (λ x. address_from (a + size o.body) os x (other x)) (λ x. address_from a (o ∷ os) x (other x)) (a + size o.body) os
      (from_placed (a + size o.body) os other (λ x. omega (arith, sums, once x)))
      (all_map (λ p. eqb o.id p.id ≡ false) (λ p. address_from (a + size o.body) os p.id (other p.id) ≡ address_from a (o ∷ os) p.id (other p.id))
      (λ p e. sym (ap (λ (b : Bool). cond b a (address_from (a + size o.body) os p.id (other p.id))) (eqb_swap o.id p.id e))) os
      (others o.id os (let z : is o.id o ≡ 1 = ap one_if (eq-eqb o.id o.id refl) in omega (arith, sums, once o.id, z)))),
)

row_placed : (row : Train) → ((x : ℕ) → times x (train_objects row) ≤ 1) → AllByRecursion (λ c. ArePlaced (λ x. address_in row x nothing) (car_words * c.number) c.objects) row
row_placed [] once = tt
row_placed (c ∷ cs) once = (
  from_placed (car_words * c.number) c.objects (λ x. address_in cs x nothing) (λ x. omega (arith, sums, once x)),
  later cs (λ x h. omega (arith, sums, once x, h)) (row_placed cs (λ x. omega (arith, sums, once x))),
)
  where
    -- in the cars behind the first, addresses are found as without it
    later : (ds : Train) → ((x : ℕ) → 1 ≤ times x (train_objects ds) → times x c.objects ≡ 0) → AllByRecursion (λ d. ArePlaced (λ x. address_in cs x nothing) (car_words * d.number) d.objects) ds
        → AllByRecursion (λ d. ArePlaced (λ x. address_in (c ∷ cs) x nothing) (car_words * d.number) d.objects) ds
    later [] out p = tt
    later (d ∷ ds) out p = (
      placed_at (λ x. address_in cs x nothing) (λ x. address_in (c ∷ cs) x nothing) (car_words * d.number) d.objects p.0
          (each d.objects (λ x h. out x (omega (arith, sums, h)))),
      later ds (λ x h. out x (omega (arith, sums, h))) p.1,
    )
      where
        each : (os : List Obj) → ((x : ℕ) → 1 ≤ times x os → times x c.objects ≡ 0) → AllByRecursion (λ o. address_in cs o.id nothing ≡ address_in (c ∷ cs) o.id nothing) os
        each [] f = tt
        each (o ∷ os) f = (
          sym (address_from-out (car_words * c.number) c.objects o.id (address_in cs o.id nothing) (f o.id (let z : is o.id o ≡ 1 = ap one_if (eq-eqb o.id o.id refl) in omega (arith, sums, z)))),
          each os (λ x h. f x (omega (arith, sums, h))),
        )

-- From a placement to the addresses of its objects.

pub locate-placed : (ts : Trains) → ((x : ℕ) → times x (objects ts) ≤ 1) → EachCar (λ c. ArePlaced (locate ts) (car_words * c.number) c.objects) ts
locate-placed ts once =
    each_row (λ c. ArePlaced (locate ts) (car_words * c.number) c.objects) ts
    (all_map (λ c. ArePlaced (λ x. address_in (cars_in_row ts) x nothing) (car_words * c.number) c.objects) (λ c. ArePlaced (locate ts) (car_words * c.number) c.objects)
    (λ c p. placed_at (λ x. address_in (cars_in_row ts) x nothing) (locate ts) (car_words * c.number) c.objects p (same c.objects)) (cars_in_row ts)
    (row_placed (cars_in_row ts) (λ x. subst (λ os. times x os ≤ 1) (sym (row_objects ts)) (once x))))
  where
    same : (os : List Obj) → AllByRecursion (λ o. address_in (cars_in_row ts) o.id nothing ≡ locate ts o.id) os
    same [] = tt
    same (o ∷ os) = (sym (locate-row ts o.id), same os)

-- what holds of each car's number, car by car
train_numbers_all : (P : ℕ → Type 0) (t : Train) → AllByRecursion P (car_numbers t) → AllByRecursion (λ c. P c.number) t
train_numbers_all P [] p = tt
train_numbers_all P (c ∷ cs) p = (p.0, train_numbers_all P cs p.1)

numbers_all : (P : ℕ → Type 0) (ts : Trains) → AllByRecursion P (numbers ts) → EachCar (λ c. P c.number) ts
numbers_all P [] p = tt
numbers_all P (t ∷ ts) p = (train_numbers_all P t (all_left P (car_numbers t) (numbers ts) p), numbers_all P ts (all_right P (car_numbers t) (numbers ts) p))

-- each car of a placement is placed by the addresses that it gives
pub seated_placed : (ts : Trains) → Seated ts → EachCar (CarPlaced (locate ts)) ts
seated_placed ts s =
    each_with (λ c. ArePlaced (locate ts) (car_words * c.number) c.objects) (λ c. (c.number < car_count) × (words_of c.objects ≤ car_words)) (CarPlaced (locate ts))
    (λ c p q. record { placed = p; number = q.0; within = q.1 }) ts
    (locate-placed ts s.once)
    (each_with (λ c. c.number < car_count) (λ c. words_of c.objects ≤ car_words) (λ c. (c.number < car_count) × (words_of c.objects ≤ car_words)) (λ c p q. (p, q)) ts
    (numbers_all (λ n. n < car_count) ts s.apart.below) s.within)

-- no address in a car of it is that of an object that does not lie there
pub seated_own : (ts : Trains) → Seated ts → EachCar (HoldsItsOwn (locate ts)) ts
seated_own ts s =
    cars_hold_their_own (locate ts) ts (seated_placed ts s) s.apart.differ
    (λ x e. elim (cases_Bool (one_of (locate ts x / car_words) (numbers ts))) [
      | inl q ↦ absurd (let h : locate ts x / car_words < car_count = all_at (λ n. n < car_count) (locate ts x / car_words) (numbers ts) s.apart.below q in omega (arith, h, locate-none ts x e))
      | inr q ↦ q
    ])

-- a sound space whose cars have numbers of their own is such a placement
filled_within : (t : Train) → Filled t → AllByRecursion (λ c. words_of c.objects ≤ car_words) t
filled_within [] f = tt
filled_within (c ∷ []) f = (f.1, tt)
filled_within (c ∷ d ∷ cs) f = (f.1, filled_within (d ∷ cs) f.2)

pub sound_seated : (m : Model) → Sound m → CarsApart m.trains → Seated m.trains
sound_seated m s a = record {
  once = s.once;
  sized = s.sized;
  within = all_map Filled (AllByRecursion (λ c. words_of c.objects ≤ car_words)) filled_within m.trains s.filled;
  apart = a;
}

-- What follows for addresses and for the words of references.

module _ (ts : Trains) (s : Seated ts) where
  -- what lies in a car has an address of memory, in a car of the placement
  pub located_number : (x : ℕ) → 1 ≤ times x (objects ts) → one_of (locate ts x / car_words) (numbers ts) ≡ true
  located_number x h = address_number (locate ts) ts (seated_placed ts s) s.apart.differ x h

  pub located_below : (x : ℕ) → 1 ≤ times x (objects ts) → locate ts x < 8192
  located_below x h =
      let n = all_at (λ n. n < car_count) (locate ts x / car_words) (numbers ts) s.apart.below (located_number x h) in
      omega (arith, n)

  -- two identities that lie in cars have one address only if they are one
  pub located_differ : (x y : ℕ) → 1 ≤ times x (objects ts) → 1 ≤ times y (objects ts) → locate ts x ≡ locate ts y → x ≡ y
  located_differ x y h g e =
      let b = inside_of (objects ts) x h in
      let c = inside_of (objects ts) y g in
      elim (ℕ_discrete x y) [
        | yes f ↦ f
        | no f ↦ absurd (addresses_differ (locate ts) ts (seated_placed ts s) s.apart.differ x y b.0 c.0 b.1 c.1 f e)
      ]

  -- so words of references tell whether both hold one object or nothing
  pub word_of-same : (h g : Option ℕ) → ((x : ℕ) → h ≡ Some x → 1 ≤ times x (objects ts)) → ((y : ℕ) → g ≡ Some y → 1 ≤ times y (objects ts))
      → word_of (locate ts) h ≡ word_of (locate ts) g → h ≡ g
  word_of-same None None p q e = refl
  word_of-same (Some x) None p q e = absurd (omega (arith, located_below x (p x refl), e))
  word_of-same None (Some y) p q e = absurd (omega (arith, located_below y (q y refl), e))
  word_of-same (Some x) (Some y) p q e = ap (λ (z : ℕ). Some z) (located_differ x y (p x refl) (q y refl) e)

  -- the number of the car that an object lies in is its address by 128
  pub located_in_car : EachCar (λ c. (x : ℕ) → 1 ≤ times x c.objects → locate ts x / car_words ≡ c.number) ts
  located_in_car = each_map (CarPlaced (locate ts)) (λ c. (x : ℕ) → 1 ≤ times x c.objects → locate ts x / car_words ≡ c.number) (number_in_car (locate ts)) ts (seated_placed ts s)

-- a first train without cars that goes changes no address
pub locate-trim : (ts : Trains) (x : ℕ) → locate (trim ts) x ≡ locate ts x
locate-trim [] x = refl
locate-trim ([] ∷ ts) x = refl
locate-trim ((c ∷ cs) ∷ ts) x = refl

pub each_trim : (P : Car → Type 0) (ts : Trains) → EachCar P ts → EachCar P (trim ts)
each_trim P [] p = tt
each_trim P ([] ∷ ts) p = p.1
each_trim P ((c ∷ cs) ∷ ts) p = p
