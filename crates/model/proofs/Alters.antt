-- A changed reference or data word moves no object and changes no size.
use Rattle.std.proofs.Common.{◌≡◌, ℕ, zero, suc, Bool, true, false, cond, eqb, List, [], ◌∷◌, ◌++◌, get_or, set, Some, None, Option, sym, refl, ap, ◌∙◌, ap₂, arith, length-set, sum_by}
use Rattle.std.specs.List.{AllByRecursion}
use Rattle.std.specs.Prelude.{map}
use Rattle.std.proofs.lemmas.List.{map-append, length-map}
use Rattle.model.specs.Bodies.{Body, size, with_ref, with_value}
use Rattle.model.specs.Trains.{Obj, Train, Trains, train_objects, objects, obj_size, words_of, times, alter_object, alter_train, alter, alter_car}
use Rattle.model.specs.Sound.{Filled, first_objects, HasCars}
use Rattle.model.proofs.Totals.{is, sums}

pub ref_size : (i : ℕ) (h : Option ℕ) (b : Body) → size (with_ref i h b) ≡ size b
ref_size i h b = omega (arith, length-set b.refs i h)

pub value_size : (w v : ℕ) (b : Body) → size (with_value w v b) ≡ size b
value_size w v b = omega (arith, length-set b.values w v)

module _ (x : ℕ) (g : Body → Body) where
  pub train_alter : (t : Train) → train_objects (alter_train x g t) ≡ map (alter_object x g) (train_objects t)
  train_alter [] = refl
  train_alter (c ∷ cs) = ap (λ os. map (alter_object x g) c.objects ++ os) (train_alter cs) ∙ sym (map-append (alter_object x g) c.objects (train_objects cs))

  pub objects-alter : (ts : Trains) → objects (alter x g ts) ≡ map (alter_object x g) (objects ts)
  objects-alter [] = refl
  objects-alter (t ∷ ts) = ap₂ (λ os ps. os ++ ps) (train_alter t) (objects-alter ts) ∙ sym (map-append (alter_object x g) (train_objects t) (objects ts))

  pub first-alter : (ts : Trains) → first_objects (alter x g ts) ≡ map (alter_object x g) (first_objects ts)
  first-alter [] = refl
  first-alter (t ∷ ts) = train_alter t

  pub alter-total : (f : Obj → ℕ) → ((o : Obj) → f (alter_object x g o) ≡ f o) → (os : List Obj) → sum_by f (map (alter_object x g) os) ≡ sum_by f os
  alter-total f h [] = refl
  alter-total f h (o ∷ os) = omega (arith, sums, h o, alter-total f h os)

  pub alter-times : (y : ℕ) (os : List Obj) → times y (map (alter_object x g) os) ≡ times y os
  alter-times y = alter-total (is y) (λ o. refl)

  pub alter_all : (P Q : Obj → Type 0) → ((o : Obj) → P o → Q (alter_object x g o)) → (os : List Obj) → AllByRecursion P os → AllByRecursion Q (map (alter_object x g) os)
  alter_all P Q h [] a = tt
  alter_all P Q h (o ∷ os) a = (h o a.0, alter_all P Q h os a.1)

  module _ (keeps : (b : Body) → size (g b) ≡ size b) where
    pub alter-size : (o : Obj) → obj_size (alter_object x g o) ≡ obj_size o
    alter-size o = go (eqb x o.id)
      where
        go : (b : Bool) → size (cond b (g o.body) o.body) ≡ size o.body
        go true = keeps o.body
        go false = refl

    pub alter-words : (os : List Obj) → words_of (map (alter_object x g) os) ≡ words_of os
    alter-words = alter-total obj_size alter-size

    filled_alter : (t : Train) → Filled t → Filled (alter_train x g t)
    filled_alter [] h = tt
    filled_alter (c ∷ []) h = (omega (arith, alter-words c.objects, h.0), omega (arith, alter-words c.objects, h.1))
    filled_alter (c ∷ d ∷ cs) h =
        (omega (arith, alter-words c.objects, h.0), omega (arith, alter-words c.objects, h.1), filled_alter (d ∷ cs) h.2)

    pub all_filled_alter : (ts : Trains) → AllByRecursion Filled ts → AllByRecursion Filled (alter x g ts)
    all_filled_alter [] h = tt
    all_filled_alter (t ∷ ts) h = (filled_alter t h.0, all_filled_alter ts h.1)

  pub standing_alter : (ts : Trains) → AllByRecursion HasCars ts → AllByRecursion HasCars (alter x g ts)
  standing_alter [] h = tt
  standing_alter (t ∷ ts) h = (omega (arith, length-map t (alter_car x g), h.0), standing_alter ts h.1)

-- the references of a body after one was set
pub set_either : (hs : List (Option ℕ)) (i j : ℕ) (h : Option ℕ) (y : ℕ) (Q : Type 0) → (get_or hs j None ≡ Some y → Q) → (h ≡ Some y → Q) → get_or (set hs i h) j None ≡ Some y → Q
set_either [] i j h y Q a b e = a e
set_either (k ∷ hs) zero zero h y Q a b e = b e
set_either (k ∷ hs) zero (suc j) h y Q a b e = a e
set_either (k ∷ hs) (suc i) zero h y Q a b e = a e
set_either (k ∷ hs) (suc i) (suc j) h y Q a b e = set_either hs i j h y Q a b e
