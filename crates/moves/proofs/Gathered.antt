-- The references of the moved objects, and the slots that held one, are all that has to be fixed.
use Rattle.std.proofs.Common.{◌≡◌, ℕ, ◌+◌, ◌*◌, true, ◌||◌, eqb, List, [], ◌∷◌, ◌++◌, Option, sym, refl, ap, ◌∙◌, subst}
use Rattle.std.proofs.lemmas.Bool.{or_left, or_right, eq-eqb}
use Rattle.std.proofs.lemmas.List.{map-append}
use Rattle.std.proofs.lemmas.List.Folds.{list_any-append}
use Rattle.std.specs.List.{AllByRecursion}
use Rattle.layout.specs.ShapeTable.{ShapeTable}
use Rattle.layout.specs.declared.Shape.{Shape}
use Rattle.model.specs.Bodies.{size}
use Rattle.model.specs.Claims.{Claim as ObjectClaim}
use Rattle.model.specs.Notes.{Slot, ref_offset, ref_slots, object_slots, train_slots}
use Rattle.model.specs.Step.{claimed, place_all}
use Rattle.model.specs.Trains.{Obj, Train, Trains, train_objects, objects, place_at, numbers, lowest_free, one_of, car_words}
use Rattle.model.proofs.Alls.{all_++, all_left, all_right, all_map}
use Rattle.model.proofs.RememberCars.{row_objects, Placed, opens, joins, later, place_at-placed}
use Rattle.objects.specs.Lies.{ArePlaced}
use Rattle.moves.specs.Fixes.{addresses_of, own_references}

pub one_of-parts : (k : ℕ) (xs ys : List ℕ) → one_of k (xs ++ ys) ≡ (one_of k xs || one_of k ys)
one_of-parts k xs ys = list_any-append (λ (m : ℕ). eqb k m) xs ys

pub one_of-left : (k : ℕ) (xs ys : List ℕ) → one_of k xs ≡ true → one_of k (xs ++ ys) ≡ true
one_of-left k xs ys e = one_of-parts k xs ys ∙ or_left (one_of k xs) (one_of k ys) e

pub one_of-right : (k : ℕ) (xs ys : List ℕ) → one_of k ys ≡ true → one_of k (xs ++ ys) ≡ true
one_of-right k xs ys e = one_of-parts k xs ys ∙ or_right (one_of k xs) (one_of k ys) e

pub addresses-++ : (ss ts : List Slot) → addresses_of (ss ++ ts) ≡ addresses_of ss ++ addresses_of ts
addresses-++ ss ts = map-append (λ (s : Slot). s.address) ss ts

-- what holds of the objects of the trains holds of those that were placed
module _ (P : Obj → Type 0) where
  placed_has : {n : ℕ} {o : Obj} {t u : Train} → Placed n o t u → AllByRecursion P (train_objects u) → P o × AllByRecursion P (train_objects t)
  placed_has {o = o} (opens t) p = (p.0, p.1)
  placed_has {o = o} (joins c t) p =
      let a = all_left P (c.objects ++ o ∷ []) (train_objects t) p in
      ((all_right P c.objects (o ∷ []) a).0, all_++ P c.objects (train_objects t) (all_left P c.objects (o ∷ []) a) (all_right P (c.objects ++ o ∷ []) (train_objects t) p))
  placed_has (later c t u q) p =
      let r = placed_has q (all_right P c.objects (train_objects u) p) in
      (r.0, all_++ P c.objects (train_objects t) (all_left P c.objects (train_objects u) p) r.1)

  pub placing_has : (busy : List ℕ) (row : List ObjectClaim) (ts : Trains) → AllByRecursion P (objects (place_all busy row ts)) → AllByRecursion P (claimed row) × AllByRecursion P (objects ts)
  placing_has busy [] ts p = (tt, p)
  placing_has busy (c ∷ row) ts p =
      let n = lowest_free (busy ++ numbers ts) in
      let r = placing_has busy row (place_at c.rank n c.object ts) p in
      let q = placed_has (place_at-placed c.rank n c.object ts) (subst (AllByRecursion P) (sym (row_objects (place_at c.rank n c.object ts))) r.1) in
      ((q.0, r.0), subst (AllByRecursion P) (row_objects ts) q.1)

module _ (M : ShapeTable) (to : ℕ → ℕ) where
  -- the order and the holder do not matter
  pub refs_addresses : (s : Shape) (n m x y a i : ℕ) (hs : List (Option ℕ)) → addresses_of (ref_slots M s n x a i hs) ≡ addresses_of (ref_slots M s m y a i hs)
  refs_addresses s n m x y a i [] = refl
  refs_addresses s n m x y a i (h ∷ hs) = ap (λ as'. (a + ref_offset M s i) ∷ as') (refs_addresses s n m x y a (i + 1) hs)

  -- each reference of an object in the row is one of the row's slots
  Among : List ℕ → Obj → Type 0
  Among xs o = (k : ℕ) → one_of k (own_references M to o) ≡ true → one_of k xs ≡ true

  objects_among : (n a : ℕ) (os : List Obj) → ArePlaced to a os → AllByRecursion (λ o. (k : ℕ) → one_of k (own_references M to o) ≡ true → one_of k (addresses_of (object_slots M n a os)) ≡ true) os
  objects_among n a [] p = tt
  objects_among n a (o ∷ os) p =
      let here = ref_slots M o.body.shape n o.id a 0 o.body.refs in
      let rest = object_slots M n (a + size o.body) os in
      let same : own_references M to o ≡ addresses_of here =
      refs_addresses o.body.shape 0 n o.id o.id (to o.id) 0 o.body.refs ∙ ap (λ b. addresses_of (ref_slots M o.body.shape n o.id b 0 o.body.refs)) p.0 in (
        (λ k e. subst (λ xs. one_of k xs ≡ true) (sym (addresses-++ here rest)) (one_of-left k (addresses_of here) (addresses_of rest) (subst (λ xs. one_of k xs ≡ true) same e))),
        all_map _ _ (λ x f k e. subst (λ xs. one_of k xs ≡ true) (sym (addresses-++ here rest)) (one_of-right k (addresses_of here) (addresses_of rest) (f k e))) os (objects_among n (a + size o.body) os p.1),
      )

  pub cars_among : (n : ℕ) (t : Train) → AllByRecursion (λ c. ArePlaced to (car_words * c.number) c.objects) t
      → AllByRecursion (λ o. (k : ℕ) → one_of k (own_references M to o) ≡ true → one_of k (addresses_of (train_slots M n t)) ≡ true) (train_objects t)
  cars_among n [] p = tt
  cars_among n (c ∷ t) p =
      let here = object_slots M n (car_words * c.number) c.objects in
      let rest = train_slots M (n + 1) t in
      all_++ _ c.objects (train_objects t)
      (all_map _ _ (λ x f k e. subst (λ xs. one_of k xs ≡ true) (sym (addresses-++ here rest)) (one_of-left k (addresses_of here) (addresses_of rest) (f k e))) c.objects (objects_among n (car_words * c.number) c.objects p.0))
      (all_map _ _ (λ x f k e. subst (λ xs. one_of k xs ≡ true) (sym (addresses-++ here rest)) (one_of-right k (addresses_of here) (addresses_of rest) (f k e))) (train_objects t) (cars_among (n + 1) t p.1))

  -- what holds of an object's references, by its identity, holds of each slot that it has
  own_each : (n : ℕ) (o : Obj) → AllByRecursion (λ s. (s.holder ≡ o.id) × (one_of s.address (own_references M to o) ≡ true)) (ref_slots M o.body.shape n o.id (to o.id) 0 o.body.refs)
  own_each n o = go 0 o.body.refs
    where
      go : (i : ℕ) (hs : List (Option ℕ)) → AllByRecursion (λ s. (s.holder ≡ o.id) × (one_of s.address (addresses_of (ref_slots M o.body.shape 0 o.id (to o.id) i hs)) ≡ true)) (ref_slots M o.body.shape n o.id (to o.id) i hs)
      go i [] = tt
      go i (h ∷ hs) = (
        (refl, or_left (eqb (to o.id + ref_offset M o.body.shape i) (to o.id + ref_offset M o.body.shape i)) _ (eq-eqb (to o.id + ref_offset M o.body.shape i) _ refl)),
        all_map _ _ (λ s p. (p.0, or_right (eqb s.address (to o.id + ref_offset M o.body.shape i)) _ p.1)) (ref_slots M o.body.shape n o.id (to o.id) (i + 1) hs) (go (i + 1) hs),
      )

  objects_own : (Q : ℕ → ℕ → Type 0) (n a : ℕ) (os : List Obj) → ArePlaced to a os → AllByRecursion (λ o. (k : ℕ) → one_of k (own_references M to o) ≡ true → Q o.id k) os
      → AllByRecursion (λ s. Q s.holder s.address) (object_slots M n a os)
  objects_own Q n a [] p f = tt
  objects_own Q n a (o ∷ os) p f =
      all_++ _ (ref_slots M o.body.shape n o.id a 0 o.body.refs) (object_slots M n (a + size o.body) os)
      (subst (λ b. AllByRecursion (λ s. Q s.holder s.address) (ref_slots M o.body.shape n o.id b 0 o.body.refs)) p.0
      (all_map _ _ (λ s g. subst (λ x. Q x s.address) (sym g.0) (f.0 s.address g.1)) (ref_slots M o.body.shape n o.id (to o.id) 0 o.body.refs) (own_each n o)))
      (objects_own Q n (a + size o.body) os p.1 f.1)

  pub cars_own : (Q : ℕ → ℕ → Type 0) (n : ℕ) (t : Train) → AllByRecursion (λ c. ArePlaced to (car_words * c.number) c.objects) t
      → AllByRecursion (λ o. (k : ℕ) → one_of k (own_references M to o) ≡ true → Q o.id k) (train_objects t) → AllByRecursion (λ s. Q s.holder s.address) (train_slots M n t)
  cars_own Q n [] p f = tt
  cars_own Q n (c ∷ t) p f =
      all_++ _ (object_slots M n (car_words * c.number) c.objects) (train_slots M (n + 1) t)
      (objects_own Q n (car_words * c.number) c.objects p.0 (all_left _ c.objects (train_objects t) f)) (cars_own Q (n + 1) t p.1 (all_right _ c.objects (train_objects t) f))
