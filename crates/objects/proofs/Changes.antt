-- One object changed in place: a reference or a data word that is set stands for the placement with the changed object.
use Rattle.std.proofs.Common.{◌≡◌, ℕ, ◌+◌, ◌*◌, ◌<◌, ◌≤◌, ◌≢◌, Bool, true, false, cond, eqb, ◌++◌, List, [], ◌∷◌, Option, Some, None, get_or, set, length, refl, sym, ◌∙◌, ap, subst, inl, inr, arith, length-set}
use Rattle.std.specs.List.{AllByRecursion, IsDistinct}
use Rattle.std.specs.Option.{option_map_or}
use Rattle.std.specs.Prelude.{map}
use Rattle.std.proofs.Math.Decide.{ℕ_discrete}
use Rattle.std.proofs.lemmas.Bool.{eqb-true, eqb-false, cases_lt}
use Rattle.std.proofs.lemmas.List.{get_or-set_same, get_or-set_other}
use Rattle.layout.specs.ShapeTable.{ShapeTable, Offsets, Lawful, Apart}
use Rattle.layout.specs.declared.Shape.{Shape}
use Rattle.model.specs.Bodies.{Body, size, with_ref, with_value}
use Rattle.model.specs.Laws.{CarsApart}
use Rattle.model.specs.Notes.{ref_offset}
use Rattle.model.specs.Sound.{Sized}
use Rattle.model.specs.Trains.{Obj, Car, Train, Trains, train_objects, objects, words_of, times, inside, car_numbers, numbers, car_words, alter_object, alter_car, alter_train, alter}
use Rattle.model.proofs.Alls.{all_left, all_right, all_map}
use Rattle.model.proofs.Alters.{ref_size, value_size, alter-size, alter-words, alter-times, alter_all, objects-alter}
use Rattle.model.proofs.RememberCars.{alter-numbers}
use Rattle.model.proofs.WasteLaws.{inside_self}
use Rattle.objects.specs.Lies.{Lies, LieFrom, ArePlaced, CarStands, word_of}
use Rattle.objects.specs.Locate.{address_from, address_in, locate}
use Rattle.objects.specs.Words.{SameWithin, SameOutside, word_offset}
use Rattle.objects.specs.Stand.{EachCar, TrainsStand, Disjoint, Seated}
use Rattle.objects.proofs.Frames.{trains_stand_same}
use Rattle.objects.proofs.Objects.{lies_frame}
use Rattle.objects.proofs.Places.{same_apart, objects_disjoint, cars_placed, object_stands, object_ends}

-- A change in place moves no object.

module _ (x : ℕ) (g : Body → Body) (keeps : (b : Body) → size (g b) ≡ size b) where
  address_from-alter : (a : ℕ) (os : List Obj) (y other : ℕ) → address_from a (map (alter_object x g) os) y other ≡ address_from a os y other
  address_from-alter a [] y other = refl
  address_from-alter a (o ∷ os) y other =
      let s = ap (λ (n : ℕ). address_from (a + n) (map (alter_object x g) os) y other) (alter-size x g keeps o) in
      ap (λ (z : ℕ). cond (eqb y o.id) a z) (s ∙ address_from-alter (a + size o.body) os y other)

  address_in-alter : (t : Train) (y other : ℕ) → address_in (alter_train x g t) y other ≡ address_in t y other
  address_in-alter [] y other = refl
  address_in-alter (c ∷ cs) y other =
      address_from-alter (car_words * c.number) c.objects y (address_in (alter_train x g cs) y other)
      ∙ ap (address_from (car_words * c.number) c.objects y) (address_in-alter cs y other)

  pub locate-alter : (ts : Trains) (y : ℕ) → locate (alter x g ts) y ≡ locate ts y
  locate-alter [] y = refl
  locate-alter (t ∷ ts) y = address_in-alter t y (locate (alter x g ts) y) ∙ ap (address_in t y) (locate-alter ts y)

  pub numbers-alter : (ts : Trains) → numbers (alter x g ts) ≡ numbers ts
  numbers-alter [] = refl
  numbers-alter (t ∷ ts) = ap (λ ns. ns ++ numbers (alter x g ts)) (alter-numbers x g t) ∙ ap (λ ns. car_numbers t ++ ns) (numbers-alter ts)

  within_train : (t : Train) → AllByRecursion (λ c. words_of c.objects ≤ car_words) t → AllByRecursion (λ c. words_of c.objects ≤ car_words) (alter_train x g t)
  within_train [] p = tt
  within_train (c ∷ cs) p = (omega (arith, alter-words x g keeps c.objects, p.0), within_train cs p.1)

  within_alter : (ts : Trains) → EachCar (λ c. words_of c.objects ≤ car_words) ts → EachCar (λ c. words_of c.objects ≤ car_words) (alter x g ts)
  within_alter [] p = tt
  within_alter (t ∷ ts) p = (within_train t p.0, within_alter ts p.1)

  pub seated_alter : (ts : Trains) → Seated ts → Seated (alter x g ts)
  seated_alter ts s = record {
    once = λ y. subst (λ n. n ≤ 1) (sym (ap (times y) (objects-alter x g ts) ∙ alter-times x g y (objects ts))) (s.once y);
    sized = subst (AllByRecursion Sized) (sym (objects-alter x g ts))
        (alter_all x g Sized Sized (λ o p. (omega (arith, alter-size x g keeps o, p.0), omega (arith, alter-size x g keeps o, p.1))) (objects ts) s.sized);
    within = within_alter ts s.within;
    apart = subst (λ (ns : List ℕ). AllByRecursion (λ n. n < 64) ns × IsDistinct eqb ns → CarsApart (alter x g ts)) (numbers-alter ts) (λ p. record { below = p.0; differ = p.1 }) (s.apart.below, s.apart.differ);
  }

  module _ (M : ShapeTable) (code : Shape → ℕ) (law : Lawful M) (at : ℕ → ℕ) (v w : List ℕ) (b : Body)
      (outside : SameOutside v w (at x) (size b)) (changed : Lies M code at w (at x) (g b)) where
    -- an object is the one that changed, or lies elsewhere
    abbrev Spared : Obj → Type 0
    Spared o = (eqb x o.id ≡ true → o.body ≡ b) × (eqb x o.id ≡ false → Disjoint (at x) (size b) (at o.id) (size o.body))

    lies_altered : (a : ℕ) (o : Obj) → Lies M code at v a o.body → at o.id ≡ a → Spared o → Lies M code at w a (alter_object x g o).body
    lies_altered a o l p s = go (eqb x o.id) refl
      where
        go : (t : Bool) → eqb x o.id ≡ t → Lies M code at w a (cond t (g o.body) o.body)
        go true e =
            let i : at x ≡ a = ap at (eqb-true x o.id e) ∙ p in
            subst (λ (c : Body). Lies M code at w a (g c)) (sym (s.0 e)) (subst (λ (z : ℕ). Lies M code at w z (g b)) i changed)
        go false e = lies_frame M code law at v w a o.body l (subst (λ (z : ℕ). SameWithin v w z (size o.body)) p (same_apart v w (at x) (size b) (at o.id) (size o.body) outside (s.1 e)))

    lie_altered : (a : ℕ) (os : List Obj) → LieFrom M code at v a os → ArePlaced at a os → AllByRecursion Spared os → LieFrom M code at w a (map (alter_object x g) os)
    lie_altered a [] l p s = tt
    lie_altered a (o ∷ os) l p s = (
      lies_altered a o l.0 p.0 s.0,
      subst (λ (n : ℕ). LieFrom M code at w (a + n) (map (alter_object x g) os)) (sym (alter-size x g keeps o)) (lie_altered (a + size o.body) os l.1 p.1 s.1),
    )

    placed_altered : (a : ℕ) (os : List Obj) → ArePlaced at a os → ArePlaced at a (map (alter_object x g) os)
    placed_altered a [] p = tt
    placed_altered a (o ∷ os) p = (
      p.0,
      subst (λ (n : ℕ). ArePlaced at (a + n) (map (alter_object x g) os)) (sym (alter-size x g keeps o)) (placed_altered (a + size o.body) os p.1),
    )

    car_altered : (c : Car) → CarStands M code at v c → AllByRecursion Spared c.objects → CarStands M code at w (alter_car x g c)
    car_altered c l s = record {
      lies = lie_altered (car_words * c.number) c.objects l.lies l.placed s;
      placed = placed_altered (car_words * c.number) c.objects l.placed;
      number = l.number;
      within = omega (arith, alter-words x g keeps c.objects, l.within);
    }

    train_altered : (t : Train) → AllByRecursion (CarStands M code at v) t → AllByRecursion Spared (train_objects t) → AllByRecursion (CarStands M code at w) (alter_train x g t)
    train_altered [] l s = tt
    train_altered (c ∷ cs) l s = (car_altered c l.0 (all_left Spared c.objects (train_objects cs) s), train_altered cs l.1 (all_right Spared c.objects (train_objects cs) s))

    trains_altered : (ts : Trains) → TrainsStand M code at v ts → AllByRecursion Spared (objects ts) → TrainsStand M code at w (alter x g ts)
    trains_altered [] l s = tt
    trains_altered (t ∷ ts) l s = (train_altered t l.0 (all_left Spared (train_objects t) (objects ts) s), trains_altered ts l.1 (all_right Spared (train_objects t) (objects ts) s))

    -- if the words of one object alone change, so that it stands there changed, the placement stands with it changed
    pub stand_altered : (ts : Trains) → Seated ts → inside (objects ts) x ≡ Some b → TrainsStand M code at v ts → TrainsStand M code at w (alter x g ts)
    stand_altered ts s e l =
        trains_altered ts l
        (all_map (λ o. inside (objects ts) o.id ≡ Some o.body) Spared (λ o f. (
          (λ q. let i : ◌≡◌ {A = Option Body} (Some o.body) (Some b) = sym f ∙ ap (inside (objects ts)) (sym (eqb-true x o.id q)) ∙ e in let j : o.body ≡ b = cc in j),
          (λ q. objects_disjoint at ts (cars_placed M code at v ts l) s.apart.differ x o.id b o.body e f (eqb-false x o.id q)),
        )) (objects ts) (inside_self (objects ts) s.once))

-- One word of an object is set.

-- all but the words of a range that one word lies in stay as they were
pub set_outside : (w : List ℕ) (a n p u : ℕ) → a ≤ p → p < a + n → SameOutside w (set w p u) a n
set_outside w a n p u h k = record {
  before = λ j e. get_or-set_other w p j u 0 (λ (f : j ≡ p). omega (arith, h, e, f));
  behind = λ j e. get_or-set_other w p j u 0 (λ (f : j ≡ p). omega (arith, k, e, f));
}

module _ (M : ShapeTable) (code : Shape → ℕ) (law : Lawful M) where
  pub ref_offset-is : (at : ℕ → ℕ) (w : List ℕ) (a : ℕ) (b : Body) (l : Lies M code at w a b) (i : ℕ) → ref_offset M b.shape i ≡ l.offsets.ref_at i
  ref_offset-is at w a b l i = ap (λ o. option_map_or (λ (p : Offsets). p.ref_at i) o 0) l.admitted

  pub word_offset-is : (at : ℕ → ℕ) (w : List ℕ) (a : ℕ) (b : Body) (l : Lies M code at w a b) (j : ℕ) → word_offset M b.shape j ≡ l.offsets.word_at j
  word_offset-is at w a b l j = ap (λ o. option_map_or (λ (p : Offsets). p.word_at j) o 0) l.admitted

  -- the word of a reference, or a data word, is one of the object's, behind its header
  pub ref_offset_within : (at : ℕ → ℕ) (w : List ℕ) (a : ℕ) (b : Body) → Lies M code at w a b → (i : ℕ) → i < length b.refs
      → (1 ≤ ref_offset M b.shape i) × (ref_offset M b.shape i < size b)
  ref_offset_within at w a b l i h =
      let p = (law.apart b.shape l.offsets l.admitted).ref_inside i (omega (arith, l.ref_count, h)) in
      (omega (arith, ref_offset-is at w a b l i, p.0), omega (arith, ref_offset-is at w a b l i, l.ref_count, l.word_count, p.1))

  pub word_offset_within : (at : ℕ → ℕ) (w : List ℕ) (a : ℕ) (b : Body) → Lies M code at w a b → (j : ℕ) → j < length b.values
      → (1 ≤ word_offset M b.shape j) × (word_offset M b.shape j < size b)
  word_offset_within at w a b l j h =
      let p = (law.apart b.shape l.offsets l.admitted).word_inside j (omega (arith, l.word_count, h)) in
      (omega (arith, word_offset-is at w a b l j, p.0), omega (arith, word_offset-is at w a b l j, l.ref_count, l.word_count, p.1))

  -- an object whose reference i is set stands with that reference
  pub lies_with_ref : (at : ℕ → ℕ) (w : List ℕ) (a : ℕ) (b : Body) → Lies M code at w a b → a + size b ≤ length w → (i : ℕ) (h : Option ℕ) → i < length b.refs
      → Lies M code at (set w (a + ref_offset M b.shape i) (word_of at h)) a (with_ref i h b)
  lies_with_ref at w a b l room i h k =
      let p = law.apart b.shape l.offsets l.admitted in
      let o = l.offsets in
      let u = word_of at h in
      let e : ref_offset M b.shape i ≡ o.ref_at i = ref_offset-is at w a b l i in
      let inside_i = p.ref_inside i (omega (arith, l.ref_count, k)) in
      subst (λ (q : ℕ). Lies M code at (set w (a + q) u) a (with_ref i h b)) (sym e) (record {
        offsets = o;
        admitted = l.admitted;
        ref_count = length-set b.refs i h ∙ l.ref_count;
        word_count = l.word_count;
        header = get_or-set_other w (a + o.ref_at i) a u 0 (λ (f : a ≡ a + o.ref_at i). omega (arith, f, inside_i.0)) ∙ l.header;
        refs = λ j g. elim (ℕ_discrete j i) [
          | yes f ↦ subst (λ (z : ℕ). get_or (set w (a + o.ref_at i) u) (a + o.ref_at z) 0 ≡ word_of at (get_or (set b.refs i h) z None)) (sym f)
              (get_or-set_same w (a + o.ref_at i) u 0 (omega (arith, room, inside_i.1, l.ref_count, l.word_count)) ∙ ap (word_of at) (sym (get_or-set_same b.refs i h None k)))
          | no f ↦
              get_or-set_other w (a + o.ref_at i) (a + o.ref_at j) u 0 (λ (q : a + o.ref_at j ≡ a + o.ref_at i). apart_refs o p i j (omega (arith, l.ref_count, k)) g f (omega (arith, q)))
              ∙ l.refs j g ∙ ap (word_of at) (sym (get_or-set_other b.refs i j h None f))
        ];
        values = λ j g. get_or-set_other w (a + o.ref_at i) (a + o.word_at j) u 0 (λ (q : a + o.word_at j ≡ a + o.ref_at i). p.different i j (omega (arith, l.ref_count, k)) g (omega (arith, q))) ∙ l.values j g;
      })
    where
      apart_refs : (o : Offsets) → Apart o → (i j : ℕ) → i < o.refs → j < o.refs → j ≢ i → o.ref_at j ≢ o.ref_at i
      apart_refs o p i j g h ne q = elim (cases_lt i j) [
        | inl f ↦ omega (arith, p.refs_rise i j f h, q)
        | inr f ↦ omega (arith, p.refs_rise j i (omega (arith, ne, f)) g, q)
      ]

  pub lies_with_value : (at : ℕ → ℕ) (w : List ℕ) (a : ℕ) (b : Body) → Lies M code at w a b → a + size b ≤ length w → (j u : ℕ) → j < length b.values
      → Lies M code at (set w (a + word_offset M b.shape j) u) a (with_value j u b)
  lies_with_value at w a b l room j u k =
      let p = law.apart b.shape l.offsets l.admitted in
      let o = l.offsets in
      let e : word_offset M b.shape j ≡ o.word_at j = word_offset-is at w a b l j in
      let inside_j = p.word_inside j (omega (arith, l.word_count, k)) in
      subst (λ (q : ℕ). Lies M code at (set w (a + q) u) a (with_value j u b)) (sym e) (record {
        offsets = o;
        admitted = l.admitted;
        ref_count = l.ref_count;
        word_count = length-set b.values j u ∙ l.word_count;
        header = get_or-set_other w (a + o.word_at j) a u 0 (λ (f : a ≡ a + o.word_at j). omega (arith, f, inside_j.0)) ∙ l.header;
        refs = λ i g. get_or-set_other w (a + o.word_at j) (a + o.ref_at i) u 0 (λ (q : a + o.ref_at i ≡ a + o.word_at j). p.different i j g (omega (arith, l.word_count, k)) (omega (arith, q))) ∙ l.refs i g;
        values = λ i g. elim (ℕ_discrete i j) [
          | yes f ↦ subst (λ (z : ℕ). get_or (set w (a + o.word_at j) u) (a + o.word_at z) 0 ≡ get_or (set b.values j u) z 0) (sym f)
              (get_or-set_same w (a + o.word_at j) u 0 (omega (arith, room, inside_j.1, l.ref_count, l.word_count)) ∙ sym (get_or-set_same b.values j u 0 k))
          | no f ↦
              get_or-set_other w (a + o.word_at j) (a + o.word_at i) u 0 (λ (q : a + o.word_at i ≡ a + o.word_at j). apart_words o p i j g (omega (arith, l.word_count, k)) f (omega (arith, q)))
              ∙ l.values i g ∙ sym (get_or-set_other b.values j i u 0 f)
        ];
      })
    where
      apart_words : (o : Offsets) → Apart o → (i j : ℕ) → i < o.words → j < o.words → i ≢ j → o.word_at i ≢ o.word_at j
      apart_words o p i j g h ne q = elim (cases_lt i j) [
        | inl f ↦ omega (arith, p.words_rise i j f h, q)
        | inr f ↦ omega (arith, p.words_rise j i (omega (arith, ne, f)) g, q)
      ]

  module _ (at : ℕ → ℕ) (w : List ℕ) (ts : Trains) (seated : Seated ts) (full : length w ≡ 8192) (x : ℕ) (b : Body) (lies : inside (objects ts) x ≡ Some b)
      (stand : TrainsStand M code at w ts) where
    room : at x + size b ≤ length w
    room = omega (arith, full, object_ends M code at w x b (object_stands M code at w ts stand x b lies))

    -- a placement stands with a reference set, where its word was set
    pub stand_with_ref : (i : ℕ) (h : Option ℕ) → i < length b.refs → TrainsStand M code at (set w (at x + ref_offset M b.shape i) (word_of at h)) (alter x (with_ref i h) ts)
    stand_with_ref i h k =
        let l = (object_stands M code at w ts stand x b lies).lies in
        let q = ref_offset_within at w (at x) b l i k in
        stand_altered x (with_ref i h) (ref_size i h) M code law at w (set w (at x + ref_offset M b.shape i) (word_of at h)) b
        (set_outside w (at x) (size b) (at x + ref_offset M b.shape i) (word_of at h) (omega arith) (omega (arith, q.1)))
        (lies_with_ref at w (at x) b l room i h k) ts seated lies stand

    -- or with a data word set
    pub stand_with_value : (j u : ℕ) → j < length b.values → TrainsStand M code at (set w (at x + word_offset M b.shape j) u) (alter x (with_value j u) ts)
    stand_with_value j u k =
        let l = (object_stands M code at w ts stand x b lies).lies in
        let q = word_offset_within at w (at x) b l j k in
        stand_altered x (with_value j u) (value_size j u) M code law at w (set w (at x + word_offset M b.shape j) u) b
        (set_outside w (at x) (size b) (at x + word_offset M b.shape j) u (omega arith) (omega (arith, q.1)))
        (lies_with_value at w (at x) b l room j u k) ts seated lies stand

  -- the same at the addresses that the placement gives
  module _ (w : List ℕ) (ts : Trains) (seated : Seated ts) (full : length w ≡ 8192) (x : ℕ) (b : Body) (lies : inside (objects ts) x ≡ Some b)
      (stand : TrainsStand M code (locate ts) w ts) where
    pub located_with_ref : (i : ℕ) (h : Option ℕ) → i < length b.refs
        → TrainsStand M code (locate (alter x (with_ref i h) ts)) (set w (locate ts x + ref_offset M b.shape i) (word_of (locate ts) h)) (alter x (with_ref i h) ts)
    located_with_ref i h k =
        trains_stand_same M code (locate ts) (locate (alter x (with_ref i h) ts)) (set w (locate ts x + ref_offset M b.shape i) (word_of (locate ts) h)) (alter x (with_ref i h) ts)
        (λ y. sym (locate-alter x (with_ref i h) (ref_size i h) ts y)) (stand_with_ref (locate ts) w ts seated full x b lies stand i h k)

    pub located_with_value : (j u : ℕ) → j < length b.values
        → TrainsStand M code (locate (alter x (with_value j u) ts)) (set w (locate ts x + word_offset M b.shape j) u) (alter x (with_value j u) ts)
    located_with_value j u k =
        trains_stand_same M code (locate ts) (locate (alter x (with_value j u) ts)) (set w (locate ts x + word_offset M b.shape j) u) (alter x (with_value j u) ts)
        (λ y. sym (locate-alter x (with_value j u) (value_size j u) ts y)) (stand_with_value (locate ts) w ts seated full x b lies stand j u k)
