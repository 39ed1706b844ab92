-- Where objects are once one more was placed.
use Rattle.std.proofs.Common.{◌≡◌, ℕ, ◌+◌, ◌*◌, ◌≢◌, Bool, true, false, eqb, cond, List, [], ◌∷◌, ◌++◌, sym, refl, ap, ◌∙◌, arith}
use Rattle.std.proofs.lemmas.Bool.{ne_eqb, eq-eqb}
use Rattle.model.specs.Bodies.{size}
use Rattle.model.specs.Trains.{Obj, Train, Trains, train_objects, objects, words_of, times, place_at, car_words}
use Rattle.model.proofs.RememberCars.{cars_in_row, row_objects}
use Rattle.model.proofs.Totals.{is, one_if, sums}
use Rattle.objects.specs.Lies.{nothing}
use Rattle.objects.specs.Locate.{address_from, address_in, locate}
use Rattle.objects.specs.Stand.{next_address_at}
use Rattle.moves.specs.Seats.{Seat, opens, joins, later}
use Rattle.moves.proofs.Seating.{seat_at}

address_in-++ : (t u : Train) (x other : ℕ) → address_in (t ++ u) x other ≡ address_in t x (address_in u x other)
address_in-++ [] u x other = refl
address_in-++ (c ∷ t) u x other = ap (λ e. address_from (car_words * c.number) c.objects x e) (address_in-++ t u x other)

-- by the cars in one row
pub row_locate : (ts : Trains) (x : ℕ) → locate ts x ≡ address_in (cars_in_row ts) x nothing
row_locate [] x = refl
row_locate (t ∷ ts) x = ap (address_in t x) (row_locate ts x) ∙ sym (address_in-++ t (cars_in_row ts) x nothing)

-- one object more behind the others
address_from-more : (a : ℕ) (os : List Obj) (o : Obj) (x other : ℕ)
    → address_from a (os ++ o ∷ []) x other ≡ address_from a os x (cond (eqb x o.id) (a + words_of os) other)
address_from-more a [] o x other = grind arith
address_from-more a (p ∷ os) o x other =
    let far : a + size p.body + words_of os ≡ a + words_of (p ∷ os) = omega (arith, sums) in
    ap (λ e. cond (eqb x p.id) a e) (address_from-more (a + size p.body) os o x other ∙ ap (λ b. address_from (a + size p.body) os x (cond (eqb x o.id) b other)) far)

-- what is not among the objects
pub address_from-absent : (a : ℕ) (os : List Obj) (x other : ℕ) → times x os ≡ 0 → address_from a os x other ≡ other
address_from-absent a [] x other h = refl
address_from-absent a (o ∷ os) x other h = go (eqb x o.id) refl (address_from-absent (a + size o.body) os x other (omega (arith, sums, h)))
  where
    go : (b : Bool) → eqb x o.id ≡ b → address_from (a + size o.body) os x other ≡ other → cond b a (address_from (a + size o.body) os x other) ≡ other
    go true e r = let z : is x o ≡ 1 = ap one_if e in absurd (omega (arith, sums, h, z))
    go false e r = r

pub address_in-absent : (t : Train) (x other : ℕ) → times x (train_objects t) ≡ 0 → address_in t x other ≡ other
address_in-absent [] x other h = refl
address_in-absent (c ∷ t) x other h =
    address_from-absent (car_words * c.number) c.objects x (address_in t x other) (omega (arith, sums, h)) ∙ address_in-absent t x other (omega (arith, sums, h))

module _ (n : ℕ) (o : Obj) where
  seat_other : {a : ℕ} {t u : Train} → Seat n o a t u → (x other : ℕ) → x ≢ o.id → address_in u x other ≡ address_in t x other
  seat_other (opens t) x other ne = grind (arith, ne_eqb x o.id ne)
  seat_other (joins c t e) x other ne = address_from-more (car_words * c.number) c.objects o x (address_in t x other) ∙ grind (arith, ne_eqb x o.id ne)
  seat_other (later a c t u s) x other ne = ap (λ e. address_from (car_words * c.number) c.objects x e) (seat_other s x other ne)

  seat_new : {a : ℕ} {t u : Train} → Seat n o a t u → (other : ℕ) → times o.id (train_objects t) ≡ 0 → address_in u o.id other ≡ a
  seat_new (opens t) other h = grind (arith, eq-eqb o.id o.id refl)
  seat_new (joins c t e) other h =
      address_from-more (car_words * c.number) c.objects o o.id (address_in t o.id other)
      ∙ address_from-absent (car_words * c.number) c.objects o.id _ (omega (arith, sums, h)) ∙ grind (arith, eq-eqb o.id o.id refl)
  seat_new (later a c t u s) other h =
      address_from-absent (car_words * c.number) c.objects o.id (address_in u o.id other) (omega (arith, sums, h)) ∙ seat_new s other (omega (arith, sums, h))

pub locate-other : (k n : ℕ) (o : Obj) (ts : Trains) (x : ℕ) → x ≢ o.id → locate (place_at k n o ts) x ≡ locate ts x
locate-other k n o ts x ne = row_locate (place_at k n o ts) x ∙ seat_other n o (seat_at k n o ts) x nothing ne ∙ sym (row_locate ts x)

pub locate-new : (k n : ℕ) (o : Obj) (ts : Trains) → times o.id (objects ts) ≡ 0 → locate (place_at k n o ts) o.id ≡ next_address_at k n o ts
locate-new k n o ts h = row_locate (place_at k n o ts) o.id ∙ seat_new n o (seat_at k n o ts) nothing (ap (times _) (row_objects ts) ∙ h)

pub locate-absent : (ts : Trains) (x : ℕ) → times x (objects ts) ≡ 0 → locate ts x ≡ nothing
locate-absent ts x h = row_locate ts x ∙ address_in-absent (cars_in_row ts) x nothing (ap (times _) (row_objects ts) ∙ h)
