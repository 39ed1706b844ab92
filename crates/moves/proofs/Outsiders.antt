-- The slots of others that hold a moved object are those that did so before, in the same order.
use Rattle.std.proofs.Common.{◌≡◌, ℕ, ◌+◌, ◌*◌, Bool, true, false, not, ◌&&◌, cond, List, [], ◌∷◌, ◌++◌, filter, Option, sym, refl, ap, ◌∙◌}
use Rattle.std.proofs.lemmas.List.Elements.{filter-append}
use Rattle.std.specs.List.{AllByRecursion}
use Rattle.layout.specs.ShapeTable.{ShapeTable}
use Rattle.layout.specs.declared.Shape.{Shape}
use Rattle.model.specs.Bodies.{size}
use Rattle.model.specs.Claims.{Claim as ObjectClaim}
use Rattle.model.specs.Notes.{Slot, ref_offset, ref_slots, object_slots, train_slots, slots, target_among, corrected}
use Rattle.model.specs.Step.{claimed, place_all}
use Rattle.model.specs.Trains.{Obj, Train, Trains, among, place_at, numbers, lowest_free, car_words}
use Rattle.model.proofs.RememberCars.{row_slots, Placed, opens, joins, later, place_at-placed}
use Rattle.moves.specs.Fixes.{addresses_of}
use Rattle.moves.proofs.Correcting.{refs_each}
use Rattle.moves.proofs.Gathered.{addresses-++}
use Rattle.moves.proofs.Telling.{filter_out}

module _ (M : ShapeTable) (os : List Obj) where
  -- by the slots of others that hold one of these objects
  abbrev pub held_from : List Slot → List ℕ
  held_from ss = addresses_of (filter (corrected os) ss)

  held-++ : (ss us : List Slot) → held_from (ss ++ us) ≡ held_from ss ++ held_from us
  held-++ ss us = ap addresses_of (filter-append (corrected os) ss us) ∙ addresses-++ (filter (corrected os) ss) (filter (corrected os) us)

  refs_order : (s : Shape) (n m x a i : ℕ) (hs : List (Option ℕ)) → held_from (ref_slots M s n x a i hs) ≡ held_from (ref_slots M s m x a i hs)
  refs_order s n m x a i [] = refl
  refs_order s n m x a i (h ∷ hs) = go (target_among os h && not (among x os)) (refs_order s n m x a (i + 1) hs)
    where
      go : (b : Bool) → held_from (ref_slots M s n x a (i + 1) hs) ≡ held_from (ref_slots M s m x a (i + 1) hs)
          → addresses_of (cond b (record { order = n; address = a + ref_offset M s i; holder = x; index = i; target = h } ∷ filter (corrected os) (ref_slots M s n x a (i + 1) hs)) (filter (corrected os) (ref_slots M s n x a (i + 1) hs)))
          ≡ addresses_of (cond b (record { order = m; address = a + ref_offset M s i; holder = x; index = i; target = h } ∷ filter (corrected os) (ref_slots M s m x a (i + 1) hs)) (filter (corrected os) (ref_slots M s m x a (i + 1) hs)))
      go true e = ap (λ bs. (a + ref_offset M s i) ∷ bs) e
      go false e = e

  objects_order : (n m a : ℕ) (ps : List Obj) → held_from (object_slots M n a ps) ≡ held_from (object_slots M m a ps)
  objects_order n m a [] = refl
  objects_order n m a (p ∷ ps) =
      held-++ (ref_slots M p.body.shape n p.id a 0 p.body.refs) (object_slots M n (a + size p.body) ps)
      ∙ ap (λ xs. xs ++ held_from (object_slots M n (a + size p.body) ps)) (refs_order p.body.shape n m p.id a 0 p.body.refs)
      ∙ ap (λ xs. held_from (ref_slots M p.body.shape m p.id a 0 p.body.refs) ++ xs) (objects_order n m (a + size p.body) ps)
      ∙ sym (held-++ (ref_slots M p.body.shape m p.id a 0 p.body.refs) (object_slots M m (a + size p.body) ps))

  train_order : (n m : ℕ) (t : Train) → held_from (train_slots M n t) ≡ held_from (train_slots M m t)
  train_order n m [] = refl
  train_order n m (c ∷ t) =
      held-++ (object_slots M n (car_words * c.number) c.objects) (train_slots M (n + 1) t)
      ∙ ap (λ xs. xs ++ held_from (train_slots M (n + 1) t)) (objects_order n m (car_words * c.number) c.objects)
      ∙ ap (λ xs. held_from (object_slots M m (car_words * c.number) c.objects) ++ xs) (train_order (n + 1) (m + 1) t)
      ∙ sym (held-++ (object_slots M m (car_words * c.number) c.objects) (train_slots M (m + 1) t))

  -- an object that is among these adds none
  none_of_its : (o : Obj) (n a : ℕ) → among o.id os ≡ true → held_from (object_slots M n a (o ∷ [])) ≡ []
  none_of_its o n a e =
      held-++ (ref_slots M o.body.shape n o.id a 0 o.body.refs) []
      ∙ ap (λ (ss : List Slot). addresses_of ss ++ []) (filter_out (corrected os) (ref_slots M o.body.shape n o.id a 0 o.body.refs)
      (refs_each M (λ s. corrected os s ≡ false) o.body.shape n o.id a 0 o.body.refs (λ j lt. both_false (target_among os _) (among o.id os) e)))
    where
      both_false : (b d : Bool) → d ≡ true → (b && not d) ≡ false
      both_false true d e = ap not e
      both_false false d e = refl

  objects_more : (n a : ℕ) (ps : List Obj) (o : Obj) → among o.id os ≡ true → held_from (object_slots M n a (ps ++ o ∷ [])) ≡ held_from (object_slots M n a ps)
  objects_more n a [] o e = none_of_its o n a e
  objects_more n a (p ∷ ps) o e =
      held-++ (ref_slots M p.body.shape n p.id a 0 p.body.refs) (object_slots M n (a + size p.body) (ps ++ o ∷ []))
      ∙ ap (λ xs. held_from (ref_slots M p.body.shape n p.id a 0 p.body.refs) ++ xs) (objects_more n (a + size p.body) ps o e)
      ∙ sym (held-++ (ref_slots M p.body.shape n p.id a 0 p.body.refs) (object_slots M n (a + size p.body) ps))

  placed_more : {n : ℕ} {o : Obj} {t u : Train} → Placed n o t u → among o.id os ≡ true → (k m : ℕ) → held_from (train_slots M k u) ≡ held_from (train_slots M m t)
  placed_more {n = n} {o = o} (opens t) e k m =
      held-++ (object_slots M k (car_words * n) (o ∷ [])) (train_slots M (k + 1) t)
      ∙ ap (λ xs. xs ++ held_from (train_slots M (k + 1) t)) (none_of_its o k (car_words * n) e) ∙ train_order (k + 1) m t
  placed_more {o = o} (joins c t) e k m =
      held-++ (object_slots M k (car_words * c.number) (c.objects ++ o ∷ [])) (train_slots M (k + 1) t)
      ∙ ap (λ xs. xs ++ held_from (train_slots M (k + 1) t)) (objects_more k (car_words * c.number) c.objects o e)
      ∙ sym (held-++ (object_slots M k (car_words * c.number) c.objects) (train_slots M (k + 1) t)) ∙ train_order k m (c ∷ t)
  placed_more (later c t u q) e k m =
      held-++ (object_slots M k (car_words * c.number) c.objects) (train_slots M (k + 1) u)
      ∙ ap (λ xs. xs ++ held_from (train_slots M (k + 1) u)) (objects_order k m (car_words * c.number) c.objects)
      ∙ ap (λ xs. held_from (object_slots M m (car_words * c.number) c.objects) ++ xs) (placed_more q e (k + 1) (m + 1))
      ∙ sym (held-++ (object_slots M m (car_words * c.number) c.objects) (train_slots M (m + 1) t))

  pub placing_more : (busy : List ℕ) (row : List ObjectClaim) (ts : Trains) → AllByRecursion (λ o. among o.id os ≡ true) (claimed row)
      → held_from (slots M 0 (place_all busy row ts)) ≡ held_from (slots M 0 ts)
  placing_more busy [] ts p = refl
  placing_more busy (c ∷ row) ts p =
      let n = lowest_free (busy ++ numbers ts) in
      placing_more busy row (place_at c.rank n c.object ts) p.1
      ∙ ap held_from (row_slots M 0 (place_at c.rank n c.object ts)) ∙ placed_more (place_at-placed c.rank n c.object ts) p.0 0 0 ∙ ap held_from (sym (row_slots M 0 ts))
