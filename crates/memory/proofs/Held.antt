-- What a memory's root words say of the space that it stands for.
use Rattle.std.proofs.Common.{◌≡◌, ℕ, ◌+◌, ◌<◌, Bool, true, false, cond, List, get_or, ltb, Option, Some, None, Result, Ok, Err, refl, sym, ap, ◌∙◌, subst, arith, eqb}
use Rattle.std.specs.List.{AllByRecursion, IsDistinct}
use Rattle.std.specs.Result.{IsErrAnd}
use Rattle.std.specs.Option.{ok_or, option_map}
use Rattle.std.proofs.lemmas.Bool.{ltb-true, lt-ltb, le-ltb}
use Rattle.calls.specs.declared.answer.Refusal.{Refusal}
use Rattle.calls.specs.declared.answer.Refusal.TheVariants.{Root, Empty, Missing}
use Rattle.layout.specs.declared.Shape.{Shape}
use Rattle.layout.specs.ShapeTable.{ShapeTable, Lawful}
use Rattle.layout.specs.Coding.{Nth}
use Rattle.model.specs.Calls.{History}
use Rattle.model.specs.Bodies.{Body, held, is_root, Response, refuse, object_of, unless, on_found, on_object}
use Rattle.model.specs.Sound.{Sound}
use Rattle.model.specs.Trains.{inside}
use Rattle.model.specs.Space.{Model, all_objects, space_of}
use Rattle.model.proofs.Keeps.{sound_of}
use Rattle.model.proofs.Refuses.{inside_of}
use Rattle.model.proofs.Remember.{numbered_at}
use Rattle.model.proofs.RememberCars.{row_numbers}
use Rattle.objects.specs.Lies.{Lies}
use Rattle.objects.specs.Locate.{locate}
use Rattle.objects.specs.Stand.{Seated}
use Rattle.objects.specs.Words.{OfObject}
use Rattle.objects.proofs.Locates.{sound_seated, located_below}
use Rattle.objects.proofs.Places.{object_stands, object_ends}
use Rattle.memory.specs.Heap.{Heap}
use Rattle.memory.specs.Stands.{Stands}
use Rattle.memory.specs.Found.{root_word, address_of, object_at, Finds}

-- what holds of a space at a halt
pub record Halt (m : Model) : Type 0 where
  pub sound : Sound m
  pub seated : Seated m.trains

pub halt_at : (M : ShapeTable) → Lawful M → (h : History) → Halt (space_of M h)
halt_at M law h =
    let m = space_of M h in
    let s = sound_of M law h in
    let n = numbered_at M law h in
    record {
      sound = s;
      seated = sound_seated m s (record {
        below = subst (AllByRecursion (λ z. z < 64)) (row_numbers m.trains) n.0;
        differ = subst (IsDistinct eqb) (row_numbers m.trains) n.1;
      });
    }

-- an error that `?` hands on is the same
pub handed : {A : Type 0} (r : Result A Refusal) (e : Refusal) → IsErrAnd r (λ x. x ≡ e) → r ≡ Err e
handed (Ok a) e p = absurd (p)
handed (Err x) e p = ap Err p

-- what the test of a root number tells
pub root_word_ok : (roots : List ℕ) (r w : ℕ) → root_word roots r ≡ Ok w → (is_root r ≡ true) × (w ≡ get_or roots r 0)
root_word_ok roots r w e = go (is_root r) refl e
  where
    go : (b : Bool) → is_root r ≡ b → ◌≡◌ {A = Result ℕ Refusal} (cond b (Ok (get_or roots r 0)) (Err Root)) (Ok w) → (is_root r ≡ true) × (w ≡ get_or roots r 0)
    go true p q = (p, cc)
    go false p q = absurd (cc)

pub root_word_err : (roots : List ℕ) (r : ℕ) (e : Refusal) → root_word roots r ≡ Err e → (is_root r ≡ false) × (Root ≡ e)
root_word_err roots r e q = go (is_root r) refl q
  where
    go : (b : Bool) → is_root r ≡ b → ◌≡◌ {A = Result ℕ Refusal} (cond b (Ok (get_or roots r 0)) (Err Root)) (Err e) → (is_root r ≡ false) × (Root ≡ e)
    go true p q = absurd (cc)
    go false p q = (p, cc)

-- a root holds the object that stands at the address a
pub record HeldAt (m : Model) (r a : ℕ) : Type 0 where
  pub object : ℕ
  pub body : Body
  pub root : is_root r ≡ true
  pub held : held m.roots r ≡ Some object
  pub inside : inside (all_objects m) object ≡ Some body
  pub address : a ≡ locate m.trains object

pub on_held : (ok : Bool) (look : ℕ → Option Body) (h : Option ℕ) (x : ℕ) (b : Body) (k : ℕ → Body → Response) → ok ≡ true → h ≡ Some x → look x ≡ Some b
    → on_object ok (object_of look h) k ≡ k x b
on_held ok look h x b k p q r = rw (p, q) (ap (λ (o : Option Body). on_found (option_map (λ d. (x, d)) o) k) r)

module _ (M : ShapeTable) (code : Shape → ℕ) (m : Model) (halt : Halt m) (s : Heap) (st : Stands M code m s) where
  abbrev at : ℕ → ℕ
  at = locate m.trains

  -- what a root holds lies in a car
  pub lies_held : (r x : ℕ) → held m.roots r ≡ Some x → (b : Body) × (inside (all_objects m) x ≡ Some b)
  lies_held r x e = inside_of (all_objects m) x (halt.sound.roots r x e)

  pub object_found : (r a : ℕ) → object_at s.roots r ≡ Ok a → HeldAt m r a
  object_found r a e = go (is_root r) refl (held m.roots r) refl e
    where
      go : (b : Bool) → is_root r ≡ b → (h : Option ℕ) → held m.roots r ≡ h
          → ◌≡◌ {A = Result ℕ Refusal} (cond b (address_of (get_or s.roots r 0)) (Err Root)) (Ok a) → HeldAt m r a
      go false p h q e = absurd (cc)
      go true p None q e =
          let w = rw q at (st.roots r (ltb-true r 32 p)) in
          let f = rw w at e in
          absurd (cc)
      go true p (Some x) q e =
          let w = rw q at (st.roots r (ltb-true r 32 p)) in
          let f = rw (w, lt-ltb (at x) 8192 (located_below m.trains halt.seated x (halt.sound.roots r x q))) at e in
          let l = lies_held r x q in
          record { object = x; body = l.0; root = p; held = q; inside = l.1; address = cc }

  pub object_refused : (r : ℕ) (e : Refusal) → object_at s.roots r ≡ Err e
      → (k : ℕ → Body → Response) → on_object (is_root r) (object_of (inside (all_objects m)) (held m.roots r)) k ≡ refuse e
  object_refused r e f k = go (is_root r) refl (held m.roots r) refl f
    where
      go : (b : Bool) → is_root r ≡ b → (h : Option ℕ) → held m.roots r ≡ h
          → ◌≡◌ {A = Result ℕ Refusal} (cond b (address_of (get_or s.roots r 0)) (Err Root)) (Err e)
          → on_object b (object_of (inside (all_objects m)) h) k ≡ refuse e
      go false p h q f = let g : Root ≡ e = cc in ap refuse g
      go true p None q f =
          let w = rw q at (st.roots r (ltb-true r 32 p)) in
          let g = rw w at f in
          let i : Empty ≡ e = cc in ap refuse i
      go true p (Some x) q f =
          let w = rw q at (st.roots r (ltb-true r 32 p)) in
          let g = rw (w, lt-ltb (at x) 8192 (located_below m.trains halt.seated x (halt.sound.roots r x q))) at f in
          absurd (cc)

  -- what is said of the object that stands there
  pub of_held : (r a : ℕ) (w : HeldAt m r a) (P : Body → Type 0) → OfObject M code s.words a P → P w.body
  of_held r a w P f =
      let o = object_stands M code at s.words m.trains st.objects w.object w.body w.inside in
      let ends = object_ends M code at s.words w.object w.body o in
      f at w.body (subst (λ (z : ℕ). Lies M code at s.words z w.body) (sym w.address) o.lies) (omega (arith, ends, w.address))

  pub finds_refused : (count : Body → ℕ) (offset : Body → ℕ → ℕ) (r i : ℕ) (e : Refusal) → object_at s.roots r ≡ Err e → Finds m count offset r i (Err e)
  finds_refused count offset r i e q k = object_refused r e q (λ x b. unless (ltb i (count b)) Missing (k x b))

  pub finds_at : (count : Body → ℕ) (offset : Body → ℕ → ℕ) (r i a : ℕ) (o : Option ℕ) → object_at s.roots r ≡ Ok a
      → OfObject M code s.words a (λ b. Nth (count b) (λ k. a + offset b k) i o) → Finds m count offset r i (ok_or o Missing)
  finds_at count offset r i a o e f =
      let w = object_found r a e in
      go o w (of_held r a w (λ b. Nth (count b) (λ k. a + offset b k) i o) f)
    where
      go : (o : Option ℕ) (w : HeldAt m r a) → Nth (count w.body) (λ k. a + offset w.body k) i o → Finds m count offset r i (ok_or o Missing)
      go None w n = λ k.
          on_held (is_root r) (inside (all_objects m)) (held m.roots r) w.object w.body (λ x b. unless (ltb i (count b)) Missing (k x b)) w.root w.held w.inside
          ∙ ap (λ t. unless t Missing (k w.object w.body)) (le-ltb i (count w.body) n)
      go (Some p) w n = record { object = w.object; body = w.body; root = w.root; held = w.held; inside = w.inside; there = n.0; address = omega (arith, n.1, w.address) }
