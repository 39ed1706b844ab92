-- Fixed words are those of the objects' new addresses.
use Rattle.std.proofs.Common.{◌≡◌, ℕ, ◌+◌, ◌-◌, ◌*◌, ◌/◌, ◌%◌, ◌<◌, ◌≤◌, ◌≢◌, Bool, true, false, cond, eqb, List, [], ◌∷◌, ◌++◌, length, get_or, take, Option, Some, None, sym, refl, ap, ◌∙◌, subst, arith, inl, inr, ◌⊎◌}
use Rattle.std.proofs.lemmas.Bool.{cases_lt, cases_Bool, eqb-false, ne_eqb, eqb-true, eq-eqb}
use Rattle.std.proofs.lemmas.List.{take_all}
use Rattle.std.specs.List.{AllByRecursion, Contains}
use Rattle.layout.specs.ShapeTable.{ShapeTable}
use Rattle.layout.specs.declared.Shape.{Shape}
use Rattle.model.specs.Bodies.{size}
use Rattle.model.specs.Claims.{Claim as ObjectClaim}
use Rattle.model.specs.Step.{place_all, claimed}
use Rattle.model.specs.Trains.{Obj, Train, Trains, train_objects, objects, times, words_of, place_at, car_numbers, numbers, one_of, lowest_free, car_words}
use Rattle.model.proofs.Alls.{all_with}
use Rattle.model.proofs.Distinct.{one_of_here, one_of_there, one_of_apart, distinct_head}
use Rattle.model.proofs.RememberCars.{cars_in_row, row_objects}
use Rattle.model.proofs.Totals.{is, one_if, sums, place_all-total}
use Rattle.objects.specs.Lies.{word_of, nothing}
use Rattle.objects.specs.Locate.{address_from, address_in, locate}
use Rattle.claims.specs.Claimed.{place_of}
use Rattle.trains.specs.Fills.{Placement}
use Rattle.moves.specs.Moves.{Carrying, CanMove, AreMoved}
use Rattle.moves.specs.Fixes.{fixed, moved_out, CanFix}
use Rattle.moves.proofs.Locating.{row_locate, locate-other, address_from-absent}
use Rattle.moves.proofs.Steps.{all_contained, all_lie, LiesIn}

-- what holds of the identity of each object holds of any that is among them
pub of_times : (P : ℕ → Type 0) (x : ℕ) (os : List Obj) → AllByRecursion (λ o. P o.id) os → 1 ≤ times x os → P x
of_times P x [] p h = absurd (omega (arith, h))
of_times P x (o ∷ os) p h = go (eqb x o.id) refl (of_times P x os p.1)
  where
    go : (b : Bool) → eqb x o.id ≡ b → (1 ≤ times x os → P x) → P x
    go true e more = subst P (sym (eqb-true x o.id e)) p.0
    go false e more = more (let z : is x o ≡ 0 = ap one_if e in omega (arith, sums, h, z))

-- what is among the objects of a car lies in its words
address_from-low : (a : ℕ) (os : List Obj) (x other : ℕ) → 1 ≤ times x os → (a ≤ address_from a os x other) × (address_from a os x other < a + words_of os)
address_from-low a [] x other h = absurd (omega (arith, h))
address_from-low a (o ∷ os) x other h = go (eqb x o.id) refl (address_from-low (a + size o.body) os x other)
  where
    go : (b : Bool) → eqb x o.id ≡ b
        → (1 ≤ times x os → (a + size o.body ≤ address_from (a + size o.body) os x other) × (address_from (a + size o.body) os x other < a + size o.body + words_of os))
        → (a ≤ cond b a (address_from (a + size o.body) os x other)) × (cond b a (address_from (a + size o.body) os x other) < a + words_of (o ∷ os))
    go true e r = (omega arith, omega (arith, sums))
    go false e r = let z : is x o ≡ 0 = ap one_if e in let m = r (omega (arith, sums, h, z)) in (omega (arith, m.0), omega (arith, sums, m.1))

-- where an object lies, by cars in a row
pub record InACar (a : ℕ) (t : Train) : Type 0 where
  pub car : ℕ
  pub known : one_of car (car_numbers t) ≡ true
  pub low : car_words * car ≤ a
  pub high : a < car_words * car + car_words

address_in-a_car : (t : Train) (x other : ℕ) → AllByRecursion (λ c. words_of c.objects ≤ car_words) t → 1 ≤ times x (train_objects t) → InACar (address_in t x other) t
address_in-a_car [] x other w h = absurd (omega (arith, h))
address_in-a_car (c ∷ t) x other w h = go (cases_lt 0 (times x c.objects)) (address_in-a_car t x other w.1)
  where
    later : InACar (address_in t x other) t → times x c.objects ≡ 0 → InACar (address_in (c ∷ t) x other) (c ∷ t)
    later r z = subst (λ a. InACar a (c ∷ t)) (sym (address_from-absent (car_words * c.number) c.objects x (address_in t x other) z))
        (record { car = r.car; known = one_of_there r.car c.number (car_numbers t) r.known; low = r.low; high = r.high })

    go : (0 < times x c.objects) ⊎ (times x c.objects ≤ 0) → (1 ≤ times x (train_objects t) → InACar (address_in t x other) t) → InACar (address_in (c ∷ t) x other) (c ∷ t)
    go (inl q) r = let m = address_from-low (car_words * c.number) c.objects x (address_in t x other) q in
        record { car = c.number; known = one_of_here c.number (car_numbers t); low = m.0; high = omega (arith, m.1, w.0) }
    go (inr q) r = later (r (omega (arith, sums, h, q))) (omega (arith, q))

-- what is not placed stays where it is
locate-placing : (busy : List ℕ) (row : List ObjectClaim) (ts : Trains) (x : ℕ) → times x (claimed row) ≡ 0 → locate (place_all busy row ts) x ≡ locate ts x
locate-placing busy [] ts x h = refl
locate-placing busy (c ∷ row) ts x h =
    let n = lowest_free (busy ++ numbers ts) in
    let ne : x ≢ c.object.id = λ e. let z : is x c.object ≡ 1 = ap one_if (eq-eqb x c.object.id e) in omega (arith, sums, h, z) in
    locate-placing busy row (place_at c.rank n c.object ts) x (omega (arith, sums, h)) ∙ locate-other c.rank n c.object ts x ne

-- a word that leads out of the car stays, and one that leads into it is looked up
pub fixed-out : (car : ℕ) (forward : List ℕ) (w : ℕ) → w / car_words ≢ car → fixed car forward w ≡ w
fixed-out car forward w ne = ap (λ b. cond b (get_or forward (w % car_words) 0) w) (ne_eqb (w / car_words) car ne)

pub fixed-in : (car : ℕ) (forward : List ℕ) (w : ℕ) → w / car_words ≡ car → fixed car forward w ≡ get_or forward (w % car_words) 0
fixed-in car forward w e = ap (λ b. cond b (get_or forward (w % car_words) 0) w) (eq-eqb (w / car_words) car e)

module _ (M : ShapeTable) (code : Shape → ℕ) (q : Carrying) (v₀ : List ℕ) (p₀ : Placement) (m : CanMove M code q v₀ p₀) (c : CanFix q)
    (words forward : List ℕ) (p : Placement) (r : AreMoved M code q (length q.row) words forward p) where
  pub all_taken : take (length q.row) q.row ≡ q.row
  all_taken = take_all (length q.row) q.row (omega arith)

  pub total : (x : ℕ) → times x (objects (moved_out q)) ≡ times x (objects q.trains) + times x (claimed q.row)
  total x = place_all-total (is x) (q.emptied.number ∷ []) (take (length q.row) q.row) q.trains ∙ ap (λ row. times x (objects q.trains) + times x (claimed row)) all_taken

  pub number : q.emptied.number < 64
  number = r.lies.below.0

  pub fixed-nothing : fixed q.emptied.number forward nothing ≡ nothing
  fixed-nothing = fixed-out q.emptied.number forward nothing (λ e. omega (arith, e, number))

  -- an object that was not moved
  pub fixed-other : (y : ℕ) → 1 ≤ times y (objects q.trains) → (fixed q.emptied.number forward (q.at y) ≡ q.at y) × (q.at y ≡ locate (moved_out q) y)
  fixed-other y h =
      let e : q.at y ≡ address_in (cars_in_row q.trains) y nothing = c.others y h ∙ row_locate q.trains y in
      let a = address_in-a_car (cars_in_row q.trains) y nothing m.lies.within.1 (omega (arith, ap (times y) (row_objects q.trains), h)) in
      let apart = eqb-false a.car q.emptied.number (one_of_apart a.car q.emptied.number (car_numbers (cars_in_row q.trains)) a.known
      (distinct_head q.emptied.number (car_numbers (cars_in_row q.trains)) m.lies.differ)) in (
        fixed-out q.emptied.number forward (q.at y) (λ z. apart (omega (arith, z, e, a.low, a.high))),
        c.others y h ∙ sym (locate-placing (q.emptied.number ∷ []) (take (length q.row) q.row) q.trains y (ap (λ row. times y (claimed row)) all_taken ∙ omega (arith, m.once y, h))),
      )

  -- an object that was
  pub fixed-moved : (y : ℕ) → 1 ≤ times y (claimed q.row) → fixed q.emptied.number forward (q.at y) ≡ locate (moved_out q) y
  fixed-moved y h =
      let forwards = subst (λ row. AllByRecursion (λ o. get_or forward (place_of q.at q.emptied o) 0 ≡ locate (moved_out q) o.id) (claimed row)) all_taken r.forwards in
      let low = car_words * q.emptied.number in
      let all = all_lie M code q.at words low (low + car_words) low q.emptied.objects r.lies.lies.0 m.placed (omega arith) (omega (arith, r.lies.within.0)) in
      let found = of_times (λ y. (get_or forward (q.at y - low) 0 ≡ locate (moved_out q) y) × (low ≤ q.at y) × (q.at y < low + car_words)) y (claimed q.row)
      (all_with (λ o. get_or forward (q.at o.id - low) 0 ≡ locate (moved_out q) o.id) (λ o. Contains q.emptied.objects o) _
      (λ o e d. let l = all_contained (LiesIn M code q.at words low (low + car_words)) q.emptied.objects o all d in (e, l.above, omega (arith, l.below)))
      (claimed q.row) forwards m.of_car) h in
      let here : q.at y / car_words ≡ q.emptied.number = omega (arith, found.1, found.2) in
      let place : q.at y % car_words ≡ q.at y - low = omega (arith, found.1, found.2, here) in
      fixed-in q.emptied.number forward (q.at y) here ∙ ap (λ i. get_or forward i 0) place ∙ found.0

  pub fixed-at : (y : ℕ) → 1 ≤ times y (objects (moved_out q)) → fixed q.emptied.number forward (q.at y) ≡ locate (moved_out q) y
  fixed-at y h = elim (cases_lt 0 (times y (claimed q.row))) [
    | inl k ↦ fixed-moved y k
    | inr k ↦ let d = fixed-other y (omega (arith, total y, h, k)) in d.0 ∙ d.1
  ]

  -- a reference or a root that holds what lies in the trains, or nothing
  pub fixed-word_of : (held : Option ℕ) → ((y : ℕ) → held ≡ Some y → 1 ≤ times y (objects (moved_out q)))
      → fixed q.emptied.number forward (word_of q.at held) ≡ word_of (locate (moved_out q)) held
  fixed-word_of None f = fixed-nothing
  fixed-word_of (Some y) f = fixed-at y (f y refl)

  -- a word that was fixed leads out of the car, so that fixing it again does no harm
  pub fixed-twice : (w : ℕ) → fixed q.emptied.number forward (fixed q.emptied.number forward w) ≡ fixed q.emptied.number forward w
  fixed-twice w = elim (cases_Bool (eqb (w / car_words) q.emptied.number)) [
    | inl e ↦
        let f = fixed-in q.emptied.number forward w (eqb-true (w / car_words) q.emptied.number e) in
        fixed-out q.emptied.number forward (fixed q.emptied.number forward w) (λ z. r.away (w % car_words) (omega arith) (ap (λ u. u / car_words) (sym f) ∙ z))
    | inr e ↦ let f = fixed-out q.emptied.number forward w (eqb-false (w / car_words) q.emptied.number e) in ap (fixed q.emptied.number forward) f
  ]
