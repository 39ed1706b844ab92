-- The slots that hold an object of the first car are, once what was claimed was placed, those that were corrected.
use Rattle.std.proofs.Common.{◌≡◌, ℕ, ◌+◌, ◌*◌, ◌≤◌, Bool, true, false, ◌&&◌, not, cond, List, [], ◌∷◌, ◌++◌, filter, Option, Some, None, sym, refl, ap, ap₂, ◌∙◌, subst, arith, ltb}
use Rattle.std.proofs.lemmas.Bool.{lt-ltb, le-ltb}
use Rattle.std.proofs.lemmas.List.{map-append}
use Rattle.std.proofs.lemmas.List.Elements.{filter-append}
use Rattle.std.specs.List.{AllByRecursion}
use Rattle.layout.specs.ShapeTable.{ShapeTable}
use Rattle.layout.specs.declared.Shape.{Shape}
use Rattle.model.specs.Bodies.{size}
use Rattle.model.specs.Claims.{Claim as ObjectClaim}
use Rattle.model.specs.Notes.{Slot, ref_offset, ref_slots, object_slots, train_slots, slots, corrected, target_among}
use Rattle.model.specs.Step.{claimed, place_all}
use Rattle.model.specs.Trains.{Obj, Train, Trains, train_objects, objects, times, among, place_at, numbers, lowest_free, car_words}
use Rattle.model.proofs.Alls.{all_left, all_right}
use Rattle.model.proofs.RememberCars.{cars_in_row, row_objects, row_slots, Placed, opens, joins, later, place_at-placed}
use Rattle.moves.specs.Fixes.{addresses_of}

module _ (M : ShapeTable) where
  -- two lists of slots, of which those that pass a test stand at the same addresses
  abbrev Same : (p q : Slot → Bool) (ss ts : List Slot) → Type 0
  Same p q ss ts = addresses_of (filter p ss) ≡ addresses_of (filter q ts)

  passed-++ : (p : Slot → Bool) (ss ts : List Slot) → addresses_of (filter p (ss ++ ts)) ≡ addresses_of (filter p ss) ++ addresses_of (filter p ts)
  passed-++ p ss ts = ap addresses_of (filter-append p ss ts) ∙ map-append (λ (s : Slot). s.address) (filter p ss) (filter p ts)

  same-++ : (p q : Slot → Bool) (ss ts us vs : List Slot) → Same p q ss us → Same p q ts vs → Same p q (ss ++ ts) (us ++ vs)
  same-++ p q ss ts us vs d e = passed-++ p ss ts ∙ (ap₂ (λ (xs ys : List ℕ). xs ++ ys) d e ∙ sym (passed-++ q us vs))

  same_one : (p q : Slot → Bool) (s t : Slot) (ss ts : List Slot) → p s ≡ q t → s.address ≡ t.address → Same p q ss ts → Same p q (s ∷ ss) (t ∷ ts)
  same_one p q s t ss ts d a e = go (p s) (q t) d
    where
      go : (b d : Bool) → b ≡ d → addresses_of (cond b (s ∷ filter p ss) (filter p ss)) ≡ addresses_of (cond d (t ∷ filter q ts) (filter q ts))
      go true true r = ap₂ (λ (x : ℕ) (xs : List ℕ). x ∷ xs) a e
      go false false r = e
      go true false r = absurd (cc)
      go false true r = absurd (cc)

  -- each reference of an object passes the one test just as it passes the other; the order does not matter
  refs_same : (p q : Slot → Bool) (P : Option ℕ → Type 0) (s : Shape) (n m x a i : ℕ) (hs : List (Option ℕ))
      → ((b j : ℕ) (h : Option ℕ) → P h → p (record { order = n; address = b; holder = x; index = j; target = h }) ≡ q (record { order = m; address = b; holder = x; index = j; target = h }))
      → AllByRecursion P hs → Same p q (ref_slots M s n x a i hs) (ref_slots M s m x a i hs)
  refs_same p q P s n m x a i [] f k = refl
  refs_same p q P s n m x a i (h ∷ hs) f k =
      same_one p q _ _ (ref_slots M s n x a (i + 1) hs) (ref_slots M s m x a (i + 1) hs) (f (a + ref_offset M s i) i h k.0) refl
      (refs_same p q P s n m x a (i + 1) hs f k.1)

  -- none of the references of a claimed object is corrected
  refs_none : (os : List Obj) (s : Shape) (n x a i : ℕ) (hs : List (Option ℕ)) → among x os ≡ true → addresses_of (filter (corrected os) (ref_slots M s n x a i hs)) ≡ []
  refs_none os s n x a i [] e = refl
  refs_none os s n x a i (h ∷ hs) e = go (target_among os h) (among x os) e (refs_none os s n x a (i + 1) hs e)
    where
      go : (b d : Bool) → d ≡ true → addresses_of (filter (corrected os) (ref_slots M s n x a (i + 1) hs)) ≡ []
          → addresses_of (cond (b && not d) (record { order = n; address = a + ref_offset M s i; holder = x; index = i; target = h } ∷ filter (corrected os) (ref_slots M s n x a (i + 1) hs)) (filter (corrected os) (ref_slots M s n x a (i + 1) hs))) ≡ []
      go true true r more = more
      go false true r more = more
      go b false r more = absurd (cc)

  -- what is known of an object, for each of whose references both tests are the same
  module _ (p q : Slot → Bool) (Q : ℕ → Option ℕ → Type 0)
      (tests : (n m b x j : ℕ) (h : Option ℕ) → Q x h → p (record { order = n; address = b; holder = x; index = j; target = h }) ≡ q (record { order = m; address = b; holder = x; index = j; target = h })) where
    objects_same : (n m a : ℕ) (os : List Obj) → AllByRecursion (λ o. AllByRecursion (Q o.id) o.body.refs) os → Same p q (object_slots M n a os) (object_slots M m a os)
    objects_same n m a [] k = refl
    objects_same n m a (o ∷ os) k =
        same-++ p q (ref_slots M o.body.shape n o.id a 0 o.body.refs) (object_slots M n (a + size o.body) os) (ref_slots M o.body.shape m o.id a 0 o.body.refs) (object_slots M m (a + size o.body) os)
        (refs_same p q (Q o.id) o.body.shape n m o.id a 0 o.body.refs (λ b j h e. tests n m b o.id j h e) k.0) (objects_same n m (a + size o.body) os k.1)

    cars_same : (n m : ℕ) (t : Train) → AllByRecursion (λ o. AllByRecursion (Q o.id) o.body.refs) (train_objects t) → Same p q (train_slots M n t) (train_slots M m t)
    cars_same n m [] k = refl
    cars_same n m (c ∷ t) k =
        same-++ p q (object_slots M n (car_words * c.number) c.objects) (train_slots M (n + 1) t) (object_slots M m (car_words * c.number) c.objects) (train_slots M (m + 1) t)
        (objects_same n m (car_words * c.number) c.objects (all_left _ c.objects (train_objects t) k)) (cars_same (n + 1) (m + 1) t (all_right _ c.objects (train_objects t) k))

  -- of all references the order alone differs
  any_refs : (hs : List (Option ℕ)) → AllByRecursion (λ h. Unit {0}) hs
  any_refs [] = tt
  any_refs (h ∷ hs) = (tt, any_refs hs)

  any : (os : List Obj) → AllByRecursion (λ o. AllByRecursion (λ h. Unit {0}) o.body.refs) os
  any [] = tt
  any (o ∷ os) = (any_refs o.body.refs, any os)

  order_same : (os : List Obj) (n m : ℕ) (t : Train) → Same (corrected os) (corrected os) (train_slots M n t) (train_slots M m t)
  order_same os n m t = cars_same (corrected os) (corrected os) (λ x h. Unit {0}) (λ n m b x j h e. refl) n m t (any (train_objects t))

  -- a claimed object behind the others of a car adds no corrected slot
  objects_more : (os : List Obj) (o : Obj) → among o.id os ≡ true → (n a : ℕ) (ps : List Obj) → Same (corrected os) (corrected os) (object_slots M n a (ps ++ o ∷ [])) (object_slots M n a ps)
  objects_more os o e n a [] =
      passed-++ (corrected os) (ref_slots M o.body.shape n o.id a 0 o.body.refs) [] ∙ ap (λ xs. xs ++ []) (refs_none os o.body.shape n o.id a 0 o.body.refs e)
  objects_more os o e n a (p ∷ ps) =
      same-++ (corrected os) (corrected os) (ref_slots M p.body.shape n p.id a 0 p.body.refs) (object_slots M n (a + size p.body) (ps ++ o ∷ [])) (ref_slots M p.body.shape n p.id a 0 p.body.refs) (object_slots M n (a + size p.body) ps)
      refl (objects_more os o e n (a + size p.body) ps)

  placed_same : (os : List Obj) (k : ℕ) (o : Obj) → among o.id os ≡ true → {t u : Train} → Placed k o t u → (n : ℕ) → Same (corrected os) (corrected os) (train_slots M n u) (train_slots M n t)
  placed_same os k o e (opens t) n =
      passed-++ (corrected os) (object_slots M n (car_words * k) (o ∷ [])) (train_slots M (n + 1) t)
      ∙ (ap (λ xs. xs ++ addresses_of (filter (corrected os) (train_slots M (n + 1) t))) (objects_more os o e n (car_words * k) [])
      ∙ order_same os (n + 1) n t)
  placed_same os k o e (joins c t) n =
      same-++ (corrected os) (corrected os) (object_slots M n (car_words * c.number) (c.objects ++ o ∷ [])) (train_slots M (n + 1) t) (object_slots M n (car_words * c.number) c.objects) (train_slots M (n + 1) t)
      (objects_more os o e n (car_words * c.number) c.objects) refl
  placed_same os k o e (later c t u q) n =
      same-++ (corrected os) (corrected os) (object_slots M n (car_words * c.number) c.objects) (train_slots M (n + 1) u) (object_slots M n (car_words * c.number) c.objects) (train_slots M (n + 1) t)
      refl (placed_same os k o e q (n + 1))

  placing_same : (os : List Obj) (busy : List ℕ) (row : List ObjectClaim) (ts : Trains) → AllByRecursion (λ o. 1 ≤ times o.id os) (claimed row)
      → Same (corrected os) (corrected os) (slots M 0 (place_all busy row ts)) (slots M 0 ts)
  placing_same os busy [] ts k = refl
  placing_same os busy (c ∷ row) ts k =
      let n = lowest_free (busy ++ numbers ts) in
      let us = place_at c.rank n c.object ts in
      placing_same os busy row us k.1
      ∙ (ap (λ ss. addresses_of (filter (corrected os) ss)) (row_slots M 0 us)
      ∙ (placed_same os n c.object (lt-ltb 0 (times c.object.id os) k.0) (place_at-placed c.rank n c.object ts) 0
      ∙ ap (λ ss. addresses_of (filter (corrected os) ss)) (sym (row_slots M 0 ts))))

  -- a slot of an object that is not claimed is corrected just if it holds an object of the car
  abbrev pub Stays : (os ps : List Obj) (x : ℕ) (h : Option ℕ) → Type 0
  Stays os ps x h = (times x os ≡ 0) × ((y : ℕ) → h ≡ Some y → times y os ≡ times y ps)

  test_same : (os ps : List Obj) (x : ℕ) (h : Option ℕ) → Stays os ps x h → (target_among os h && not (among x os)) ≡ target_among ps h
  test_same os ps x None s = refl
  test_same os ps x (Some y) s =
      ap (λ b. among y os && not b) (le-ltb 0 (times x os) (omega (arith, s.0))) ∙ (both (among y os) ∙ ap (ltb 0) (s.1 y refl))
    where
      both : (b : Bool) → (b && true) ≡ b
      both true = refl
      both false = refl

  pub corrected_are : (os ps : List Obj) (busy : List ℕ) (row : List ObjectClaim) (cs : Train) (ts : Trains) → AllByRecursion (λ o. 1 ≤ times o.id os) (claimed row)
      → AllByRecursion (λ o. AllByRecursion (Stays os ps o.id) o.body.refs) (objects (cs ∷ ts))
      → addresses_of (filter (corrected os) (slots M 0 (place_all busy row (cs ∷ ts)))) ≡ addresses_of (filter (λ s. target_among ps s.target) (slots M 1 (cs ∷ ts)))
  corrected_are os ps busy row cs ts k all =
      placing_same os busy row (cs ∷ ts) k
      ∙ (ap (λ ss. addresses_of (filter (corrected os) ss)) (row_slots M 0 (cs ∷ ts))
      ∙ (cars_same (corrected os) (λ s. target_among ps s.target) (Stays os ps) (λ n m b x j h e. test_same os ps x h e) 0 1 (cars_in_row (cs ∷ ts))
      (subst (AllByRecursion (λ o. AllByRecursion (Stays os ps o.id) o.body.refs)) (sym (row_objects (cs ∷ ts))) all)
      ∙ ap (λ ss. addresses_of (filter (λ s. target_among ps s.target) ss)) (sym (row_slots M 1 (cs ∷ ts)))))
