-- What a call on the roots' objects answers, and that a memory changed so stands for the space after it.
use Rattle.std.proofs.Common.{◌≡◌, ℕ, zero, suc, replicate, ◌+◌, ◌<◌, Bool, true, false, cond, eqb, ltb, List, [], ◌∷◌, length, get_or, set, length-set, Option, Some, None, refl, sym, ap, ap₂, ◌∙◌, subst, arith, ◌≤◌}
use Rattle.std.proofs.Math.Decide.{ℕ_discrete}
use Rattle.std.specs.Option.{option_map, option_eq}
use Rattle.std.proofs.lemmas.List.{get_or-set_same, get_or-set_other}
use Rattle.std.proofs.lemmas.Bool.{ltb-true, lt-ltb, ne_eqb, eqb-true, eqb-false, eq-eqb}
use Rattle.calls.specs.declared.answer.Refusal.{Refusal}
use Rattle.calls.specs.declared.answer.Refusal.TheVariants.{Missing}
use Rattle.calls.specs.declared.call.Access.{Access as OnRoots}
use Rattle.calls.specs.declared.call.Call.TheVariants.{Access}
use Rattle.layout.specs.declared.Shape.{Shape}
use Rattle.layout.specs.ShapeTable.{ShapeTable, Lawful}
use Rattle.model.specs.Calls.{Reply, refused}
use Rattle.model.specs.Bodies.{Body, held, is_root, Effect, hold, point, store, with_ref, with_value, Response, refuse, give, object_of, unless, on_object, size, response}
use Rattle.model.specs.Claims.{MoveRequest}
use Rattle.model.specs.Notes.{ref_offset}
use Rattle.model.specs.Trains.{Obj, Car, Train, Trains, inside, times, objects, words_of, words_in_use, alter, alter_train, alter_car, alter_object, obj_size}
use Rattle.model.specs.Space.{Model, all_objects, space_with, noted_by}
use Rattle.model.proofs.Alters.{ref_size, value_size, objects-alter, alter-total}
use Rattle.objects.specs.Lies.{word_of}
use Rattle.objects.specs.Locate.{locate}
use Rattle.objects.specs.Words.{word_offset}
use Rattle.objects.proofs.Changes.{locate-alter, located_with_ref, located_with_value}
use Rattle.objects.proofs.Locates.{located_below, located_differ}
use Rattle.trains.specs.Fills.{CarFill, TrainFill}
use Rattle.trains.specs.Ties.{car_fill, train_fills, fills}
use Rattle.memory.specs.Heap.{Heap}
use Rattle.memory.specs.Stands.{Stands, Acts, mark_at}
use Rattle.memory.specs.Found.{Found}
use Rattle.memory.proofs.Held.{Halt, on_held}

-- The words of a memory with one of them set.

abbrev pub with_root : ℕ → ℕ → Heap → Heap
with_root r w s = record { words = s.words; roots = set s.roots r w; trains = s.trains; mark = s.mark; used = s.used }

abbrev pub with_word : ℕ → ℕ → Heap → Heap
with_word a w s = record { words = set s.words a w; roots = s.roots; trains = s.trains; mark = s.mark; used = s.used }

-- A change in place leaves cars as full as they were.

module _ (x : ℕ) (g : Body → Body) (keeps : (b : Body) → size (g b) ≡ size b) where
  same_size : (o : Obj) → obj_size (alter_object x g o) ≡ obj_size o
  same_size o = go (eqb x o.id)
    where
      go : (t : Bool) → size (cond t (g o.body) o.body) ≡ size o.body
      go true = keeps o.body
      go false = refl

  car_fill-alter : (c : Car) → car_fill (alter_car x g c) ≡ car_fill c
  car_fill-alter c = ap (λ (n : ℕ). record { number = c.number; filled = n }) (alter-total x g obj_size same_size c.objects)

  train_fills-alter : (t : Train) → train_fills (alter_train x g t) ≡ train_fills t
  train_fills-alter [] = refl
  train_fills-alter (c ∷ cs) = ap₂ (λ (f : CarFill) (fs : TrainFill). f ∷ fs) (car_fill-alter c) (train_fills-alter cs)

  pub fills-alter : (ts : Trains) → fills (alter x g ts) ≡ fills ts
  fills-alter [] = refl
  fills-alter (t ∷ ts) = ap₂ (λ (f : TrainFill) (fs : List TrainFill). f ∷ fs) (train_fills-alter t) (fills-alter ts)

  pub used-alter : (ts : Trains) → words_in_use (alter x g ts) ≡ words_in_use ts
  used-alter ts = ap words_of (objects-alter x g ts) ∙ alter-total x g obj_size same_size (objects ts)

  pub marks-alter : (ts : Trains) (mk : Option MoveRequest) → option_map (mark_at (alter x g ts)) mk ≡ option_map (mark_at ts) mk
  marks-alter ts None = refl
  marks-alter ts (Some w) = ap (λ (a : ℕ). Some (record { object = a; rank = w.rank })) (locate-alter x g keeps ts w.who)

  pub words-alter : (ts : Trains) (h : Option ℕ) → word_of (locate (alter x g ts)) h ≡ word_of (locate ts) h
  words-alter ts None = refl
  words-alter ts (Some y) = locate-alter x g keeps ts y

module _ (M : ShapeTable) (code : Shape → ℕ) (m : Model) (s : Heap) (st : Stands M code m s) where
  pub refused_acts : (c : OnRoots) (e : Refusal) → response (inside (all_objects m)) m.roots c ≡ refuse e → Acts M code (Access c) m (refused e) [] s
  refused_acts c e q = record {
    answered = λ P. ap (λ (p : Response). p.reply) q;
    updates = ap (λ (p : Response). noted_by M p.effect (space_with p.effect m).trains) q;
    stands = subst (λ (p : Response). Stands M code (space_with p.effect m) s) (sym q) st;
  }

  pub gives_acts : (c : OnRoots) (p : Reply) (f : Effect) (t : Heap) → response (inside (all_objects m)) m.roots c ≡ give p f
      → noted_by M f (space_with f m).trains ≡ [] → Stands M code (space_with f m) t → Acts M code (Access c) m p [] t
  gives_acts c p f t q u a = record {
    answered = λ P. ap (λ (p : Response). p.reply) q;
    updates = ap (λ (p : Response). noted_by M p.effect (space_with p.effect m).trains) q ∙ u;
    stands = subst (λ (p : Response). Stands M code (space_with p.effect m) t) (sym q) a;
  }

  -- a root holds something else
  pub hold_stands : (r : ℕ) (h : Option ℕ) (w : ℕ) → is_root r ≡ true → w ≡ word_of (locate m.trains) h → Stands M code (space_with (hold r h) m) (with_root r w s)
  hold_stands r h w q e = record {
    word_count = st.word_count;
    root_word_count = length-set s.roots r w ∙ st.root_word_count;
    root_count = length-set m.roots r h ∙ st.root_count;
    objects = st.objects;
    trains = st.trains;
    roots = λ z l. elim (ℕ_discrete z r) [
      | yes f ↦ rw f (get_or-set_same s.roots r w 0 (omega (arith, st.root_word_count, ltb-true r 32 q)) ∙ e
          ∙ ap (word_of (locate m.trains)) (sym (get_or-set_same m.roots r h None (omega (arith, st.root_count, ltb-true r 32 q)))))
      | no f ↦ get_or-set_other s.roots r z w 0 f ∙ st.roots z l ∙ ap (word_of (locate m.trains)) (sym (get_or-set_other m.roots r z h None f))
    ];
    mark = st.mark;
    used = st.used;
  }

  module _ (law : Lawful M) (halt : Halt m) (x : ℕ) (b : Body) (lies : inside (all_objects m) x ≡ Some b) where
    -- a reference holds something else
    pub point_stands : (i : ℕ) (h : Option ℕ) (w : ℕ) → i < length b.refs → w ≡ word_of (locate m.trains) h
        → Stands M code (space_with (point x i h) m) (with_word (locate m.trains x + ref_offset M b.shape i) w s)
    point_stands i h w k e = record {
      word_count = length-set s.words (locate m.trains x + ref_offset M b.shape i) w ∙ st.word_count;
      root_word_count = st.root_word_count;
      root_count = st.root_count;
      objects = rw e (located_with_ref M code law s.words m.trains halt.seated st.word_count x b lies st.objects i h k);
      trains = st.trains ∙ ap (λ f. record { trains = f; busy = None }) (sym (fills-alter x (with_ref i h) (ref_size i h) m.trains));
      roots = λ r l. st.roots r l ∙ sym (words-alter x (with_ref i h) (ref_size i h) m.trains (held m.roots r));
      mark = st.mark ∙ sym (marks-alter x (with_ref i h) (ref_size i h) m.trains m.mark);
      used = st.used ∙ sym (used-alter x (with_ref i h) (ref_size i h) m.trains);
    }

    -- a data word has another value
    pub store_stands : (j v : ℕ) → j < length b.values → Stands M code (space_with (store x j v) m) (with_word (locate m.trains x + word_offset M b.shape j) v s)
    store_stands j v k = record {
      word_count = length-set s.words (locate m.trains x + word_offset M b.shape j) v ∙ st.word_count;
      root_word_count = st.root_word_count;
      root_count = st.root_count;
      objects = located_with_value M code law s.words m.trains halt.seated st.word_count x b lies st.objects j v k;
      trains = st.trains ∙ ap (λ f. record { trains = f; busy = None }) (sym (fills-alter x (with_value j v) (value_size j v) m.trains));
      roots = λ r l. st.roots r l ∙ sym (words-alter x (with_value j v) (value_size j v) m.trains (held m.roots r));
      mark = st.mark ∙ sym (marks-alter x (with_value j v) (value_size j v) m.trains m.mark);
      used = st.used ∙ sym (used-alter x (with_value j v) (value_size j v) m.trains);
    }

-- the response of a call for a word that was found
pub found_response : (m : Model) (count : Body → ℕ) (offset : Body → ℕ → ℕ) (r i a : ℕ) (f : Found m count offset r i a) (k : ℕ → Body → Response)
    → on_object (is_root r) (object_of (inside (all_objects m)) (held m.roots r)) (λ x b. unless (ltb i (count b)) Missing (k x b)) ≡ k f.object f.body
found_response m count offset r i a f k =
    on_held (is_root r) (inside (all_objects m)) (held m.roots r) f.object f.body (λ x b. unless (ltb i (count b)) Missing (k x b)) f.root f.held f.inside
    ∙ ap (λ t. unless t Missing (k f.object f.body)) (lt-ltb i (count f.body) f.there)

-- the words of two roots are one just where both hold one object, or neither holds any
pub same_words : (m : Model) → Halt m → (h g : Option ℕ) → ((x : ℕ) → h ≡ Some x → 1 ≤ times x (all_objects m)) → ((x : ℕ) → g ≡ Some x → 1 ≤ times x (all_objects m))
    → eqb (word_of (locate m.trains) h) (word_of (locate m.trains) g) ≡ option_eq eqb h g
same_words m halt None None p q = refl
same_words m halt (Some x) None p q = ne_eqb (locate m.trains x) 8192 (λ e. let l = located_below m.trains halt.seated x (p x refl) in omega (arith, e, l))
same_words m halt None (Some y) p q = ne_eqb 8192 (locate m.trains y) (λ e. let l = located_below m.trains halt.seated y (q y refl) in omega (arith, e, l))
same_words m halt (Some x) (Some y) p q = go (eqb x y) refl
  where
    go : (t : Bool) → eqb x y ≡ t → eqb (locate m.trains x) (locate m.trains y) ≡ t
    go true e = eq-eqb (locate m.trains x) (locate m.trains y) (ap (locate m.trains) (eqb-true x y e))
    go false e = ne_eqb (locate m.trains x) (locate m.trains y) (λ f. eqb-false x y e (located_differ m.trains halt.seated x y (p x refl) (q y refl) f))

-- the words of roots that hold nothing
pub empty_roots : (at : ℕ → ℕ) (n r : ℕ) → r < n → get_or (replicate n 8192) r 0 ≡ word_of at (get_or (replicate n None) r None)
empty_roots at zero r l = absurd (omega (arith, l))
empty_roots at (suc n) zero l = refl
empty_roots at (suc n) (suc r) l = empty_roots at n r (omega (arith, l))
