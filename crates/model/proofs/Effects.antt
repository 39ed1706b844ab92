-- What a call on the roots' objects changes: it brings in only what a root holds or a reference of a root's object.
use Rattle.std.proofs.Common.{subst, ◌∙◌, ◌≡◌, ℕ, ◌<◌, Bool, true, false, ◌&&◌, ltb, leb, length, get_or, Some, None, Option, refl, arith, option_map, ap}
use Rattle.std.proofs.lemmas.Bool.{ltb-true}
use Rattle.std.specs.Prelude.{find}
use Rattle.calls.specs.declared.answer.Refusal.{Refusal}
use Rattle.calls.specs.declared.answer.Refusal.TheVariants.{Root, Missing, Buffer}
use Rattle.calls.specs.declared.call.Access.{Access as OnRoots}
use Rattle.calls.specs.declared.call.Access.TheVariants.{Link, Follow, Drop, Put, Lift, Get, Words, Same}
use Rattle.model.specs.Bodies.{Body, Roots, held, is_root, Effect, leave, hold, point, store, Response, object_of, unless, on_object, lifted, store_lifted, response}

-- a root holds x, whose object has b inside
pub record Held (find : ℕ → Option Body) (rs : Roots) (x : ℕ) (b : Body) : Type 0 where
  pub at : ℕ
  pub is : held rs at ≡ Some x
  pub has : find x ≡ Some b

-- a root holds x, whose object has the reference i
pub record HasRef (find : ℕ → Option Body) (rs : Roots) (x i : ℕ) : Type 0 where
  pub body : Body
  pub holds : Held find rs x body
  pub inside : i < length body.refs

pub record HasWord (find : ℕ → Option Body) (rs : Roots) (x w : ℕ) : Type 0 where
  pub body : Body
  pub holds : Held find rs x body
  pub inside : w < length body.values

-- an effect changes an object that a root holds, and what it brings in is of Q
abbrev pub Brings : (ℕ → Option Body) → Roots → (ℕ → Type 0) → Effect → Type 0
Brings find rs Q leave = Unit {0}
Brings find rs Q (hold r h) = (y : ℕ) → h ≡ Some y → Q y
Brings find rs Q (point x i h) = HasRef find rs x i × ((y : ℕ) → h ≡ Some y → Q y)
Brings find rs Q (store x w v) = HasWord find rs x w

module _ (find : ℕ → Option Body) (rs : Roots) where
  none_some : {A : Type 0} {y : A} → None ≡ Some y → ⊥
  none_some e = let z : ◌≡◌ {A = ℕ} 0 1 = cc in omega arith

  object_of-is : (h : Option ℕ) (y : ℕ) (b : Body) → object_of find h ≡ Some (y, b) → (h ≡ Some y) × (find y ≡ Some b)
  object_of-is None y b e = absurd (none_some e)
  object_of-is (Some x) y b e = go (find x) refl e
    where
      go : (o : Option Body) → find x ≡ o → option_map {U = ℕ × Body} (λ c. (x, c)) o ≡ Some (y, b) → (Some x ≡ Some y) × (find y ≡ Some b)
      go None q e = absurd (none_some e)
      go (Some c) q e =
          let s : (x, c) ≡ (y, b) = cc in
          let i : x ≡ y = ap (λ (p : ℕ × Body). p.0) s in
          let j : c ≡ b = ap (λ (p : ℕ × Body). p.1) s in
          (ap Some i, subst (λ (z : ℕ). find z ≡ Some b) i (q ∙ ap Some j))

  on_object_any : (P : Effect → Type 0) (ok : Bool) (f : Option (ℕ × Body)) (k : ℕ → Body → Response)
      → P leave → ((x : ℕ) (b : Body) → f ≡ Some (x, b) → P (k x b).effect) → P (on_object ok f k).effect
  on_object_any P false f k l g = l
  on_object_any P true None k l g = l
  on_object_any P true (Some p) k l g = g p.0 p.1 refl

  unless_any : (P : Effect → Type 0) (ok : Bool) (n : Refusal) (r : Response) → P leave → (ok ≡ true → P r.effect) → P (unless ok n r).effect
  unless_any P false n r l g = l
  unless_any P true n r l g = g refl

  held_of : (r x : ℕ) (b : Body) → object_of find (held rs r) ≡ Some (x, b) → Held find rs x b
  held_of r x b e = let p = object_of-is (held rs r) x b e in record { at = r; is = p.0; has = p.1 }

  word_of : (r w x : ℕ) (b : Body) → object_of find (held rs r) ≡ Some (x, b) → ltb w (length b.values) ≡ true → HasWord find rs x w
  word_of r w x b e t = record { body = b; holds = held_of r x b e; inside = ltb-true w (length b.values) t }

  lifted_any : (Q : ℕ → Type 0) (x w : ℕ) (v : Option ℕ) → HasWord find rs x w → Brings find rs Q (store_lifted x w v).effect
  lifted_any Q x w None h = tt
  lifted_any Q x w (Some v) h = h

  module _ (Q : ℕ → Type 0) (of-roots : (r x : ℕ) → held rs r ≡ Some x → Q x)
      (of_refs : (x : ℕ) (b : Body) → Held find rs x b → (i y : ℕ) → get_or b.refs i None ≡ Some y → Q y) where
    pub brings : (c : OnRoots) → Brings find rs Q (response find rs c).effect
    brings (Link r i q) = on_object_any (Brings find rs Q) (is_root r && is_root q) (object_of find (held rs r)) _ tt
        (λ x b e. unless_any (Brings find rs Q) (ltb i (length b.refs)) Missing _ tt
        (λ t. (record { body = b; holds = held_of r x b e; inside = ltb-true i (length b.refs) t }, λ y. of-roots q y)))
    brings (Follow r q i) = on_object_any (Brings find rs Q) (is_root r && is_root q) (object_of find (held rs q)) _ tt
        (λ x b e. unless_any (Brings find rs Q) (ltb i (length b.refs)) Missing _ tt
        (λ t. of_refs x b (held_of q x b e) i))
    brings (Drop r) = unless_any (Brings find rs Q) (is_root r) Root _ tt (λ t y e. absurd (none_some e))
    brings (Put r w v) = on_object_any (Brings find rs Q) (is_root r) (object_of find (held rs r)) _ tt
        (λ x b e. unless_any (Brings find rs Q) (ltb w (length b.values)) Missing _ tt (word_of r w x b e))
    brings (Lift r w by) = on_object_any (Brings find rs Q) (is_root r) (object_of find (held rs r)) _ tt
        (λ x b e. unless_any (Brings find rs Q) (ltb w (length b.values)) Missing _ tt
        (λ t. lifted_any Q x w (lifted (get_or b.values w 0) by) (word_of r w x b e t)))
    brings (Get r w) = on_object_any (Brings find rs Q) (is_root r) (object_of find (held rs r)) _ tt
        (λ x b e. unless_any (Brings find rs Q) (ltb w (length b.values)) Missing _ tt (λ t. tt))
    brings (Words r n) = on_object_any (Brings find rs Q) (is_root r) (object_of find (held rs r)) _ tt
        (λ x b e. unless_any (Brings find rs Q) (leb (length b.values) n) Buffer _ tt (λ t. tt))
    brings (Same r q) = unless_any (Brings find rs Q) (is_root r && is_root q) Root _ tt (λ t. tt)
