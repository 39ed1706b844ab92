-- What a remembered set has after notes and forgets.
use Rattle.std.proofs.Common.{◌∙◌, ◌≡◌, ℕ, ◌<◌, Bool, true, false, eqb, ltb, List, [], ◌∷◌, ◌++◌, Some, None, Option, sym, refl, subst, cond, reverse, append_assoc, ap, arith, not, ◌||◌, ◌≢◌}
use Rattle.std.proofs.lemmas.Bool.Decides.{nat_tests}
use Rattle.std.proofs.lemmas.Bool.{both_ways, eqb-false, or_parts, or_from, and_from, lt-ltb, ltb-true}
use Rattle.std.specs.List.{AllByRecursion}
use Rattle.std.specs.Prelude.{map, filter, flat_map}
use Rattle.std.proofs.lemmas.List.{reverse-append}
use Rattle.remembered.specs.declared.Update.{Update}
use Rattle.remembered.specs.declared.Update.TheVariants.{Note, Forget}
use Rattle.remembered.specs.Laws.{Keeps}
use Rattle.remembered.specs.Updates.{Pairs, Updates, no_pairs, still_noted}
use Rattle.model.specs.Trains.{Obj, Trains, one_of, among, times}
use Rattle.model.specs.Notes.{CarPlace, car_place, Slot, note_by, note_of, notes, target_among, corrected, is_slot_of, notes_of_carried, tell}
use Rattle.model.proofs.Alls.{all_with}
use Rattle.model.proofs.Totals.{is, one_if, sums}

-- pairs that follow from updates: a pair that is noted is there, and stays until its car is forgotten
pub record KeepsNoted (has : Updates → Pairs) : Type 0 where
  pub keeps : (us : Updates) (d b c a : ℕ) → has us c a ≡ true → has (Note d b ∷ us) c a ≡ true
  pub gains : (us : Updates) (c a : ℕ) → c < 64 → a < 8192 → has (Note c a ∷ us) c a ≡ true
  pub keeps_others : (us : Updates) (d c a : ℕ) → (c ≢ d) → has us c a ≡ true → has (Forget d ∷ us) c a ≡ true

pub still_noted_keeps : KeepsNoted (still_noted no_pairs)
still_noted_keeps = record {
  keeps = λ us d b c a e. grind (arith, nat_tests, e);
  gains = λ us c a l m. grind (arith, nat_tests, l, m);
  keeps_others = λ us d c a ne e. grind (arith, nat_tests, ne, e);
}

-- pairs that a set came with take nothing away
pub still_noted_more : (P : Pairs) (us : Updates) → Keeps (still_noted no_pairs us) (still_noted P us)
still_noted_more P [] c a e = let z : ◌≡◌ {A = ℕ} 0 1 = cc in absurd (omega arith)
still_noted_more P (Note d b ∷ us) c a e = let more = still_noted_more P us c a in grind (arith, nat_tests, e, more)
still_noted_more P (Forget d ∷ us) c a e = let more = still_noted_more P us c a in grind (arith, nat_tests, e, more)

pub tell-++ : (xs ys : List Update) (r : Updates) → tell (xs ++ ys) r ≡ tell ys (tell xs r)
tell-++ xs ys r = ap (λ (ts : List Update). ts ++ r) (reverse-append xs ys) ∙ append_assoc (reverse ys) (reverse xs) r

module _ (has : Updates → Pairs) (law : KeepsNoted has) where
  note_by_keeps : (d : Option CarPlace) (s : Slot) (r : Updates) (n a : ℕ) → has r n a ≡ true → has (tell (note_by d s) r) n a ≡ true
  note_by_keeps None s r n a p = p
  note_by_keeps (Some c) s r n a p = go (ltb c.order s.order)
    where
      go : (b : Bool) → has (tell (cond b (Note c.number s.address ∷ []) []) r) n a ≡ true
      go true = law.keeps r c.number s.address n a p
      go false = p

  note_of_keeps : (ts : Trains) (s : Slot) (h : Option ℕ) (r : Updates) (n a : ℕ) → has r n a ≡ true → has (tell (note_of ts s h) r) n a ≡ true
  note_of_keeps ts s None r n a p = p
  note_of_keeps ts s (Some y) r n a p = note_by_keeps (car_place 0 y ts) s r n a p

  pub notes_keep : (ts : Trains) (test : Slot → Bool) (ss : List Slot) (r : Updates) (n a : ℕ) → has r n a ≡ true → has (tell (notes ts test ss) r) n a ≡ true
  notes_keep ts test [] r n a p = p
  notes_keep ts test (s ∷ ss) r n a p = go (λ q. notes_keep ts test ss q n a) (test s)
    where
      go : ((q : Updates) → has q n a ≡ true → has (tell (notes ts test ss) q) n a ≡ true) → (b : Bool) → has (tell (flat_map (λ v. note_of ts v v.target) (cond b (s ∷ filter test ss) (filter test ss))) r) n a ≡ true
      go more true =
          subst (λ (q : Updates). has q n a ≡ true) (sym (tell-++ (note_of ts s s.target) (notes ts test ss) r))
          (more (tell (note_of ts s s.target) r) (note_of_keeps ts s s.target r n a p))
      go more false = more r p

  note_gains : (ts : Trains) (s : Slot) (r : Updates) (y : ℕ) (c : CarPlace) → s.target ≡ Some y → car_place 0 y ts ≡ Some c → c.order < s.order → c.number < 64 → s.address < 8192
      → has (tell (note_of ts s s.target) r) c.number s.address ≡ true
  note_gains ts s r y c e q l m k =
      subst (λ (h : Option ℕ). has (tell (note_of ts s h) r) c.number s.address ≡ true) (sym e)
      (subst (λ (d : Option CarPlace). has (tell (note_by d s) r) c.number s.address ≡ true) (sym q)
      (subst (λ (b : Bool). has (tell (cond b (Note c.number s.address ∷ []) []) r) c.number s.address ≡ true)
      (sym (lt-ltb c.order s.order l)) (law.gains r c.number s.address m k)))

-- a slot of the test that is later is in the set
abbrev pub Gained : (Updates → Pairs) → Trains → (Slot → Bool) → Updates → Slot → Type 0
Gained has ts test r s =
    test s ≡ true → (y : ℕ) (c : CarPlace) → s.target ≡ Some y → car_place 0 y ts ≡ Some c → c.order < s.order → c.number < 64 → s.address < 8192
    → has r c.number s.address ≡ true

pub notes_gain : (has : Updates → Pairs) (law : KeepsNoted has) (ts : Trains) (test : Slot → Bool) (ss : List Slot) (r : Updates)
    → AllByRecursion (Gained has ts test (tell (notes ts test ss) r)) ss
notes_gain has law ts test [] r = tt
notes_gain has law ts test (s ∷ ss) r = go (test s) refl (notes_gain has law ts test ss (tell (note_of ts s s.target) r)) (notes_gain has law ts test ss r)
  where
    go : (b : Bool) → test s ≡ b
        → AllByRecursion (Gained has ts test (tell (notes ts test ss) (tell (note_of ts s s.target) r))) ss
        → AllByRecursion (Gained has ts test (tell (notes ts test ss) r)) ss
        → AllByRecursion (Gained has ts test (tell (flat_map (λ v. note_of ts v v.target) (cond b (s ∷ filter test ss) (filter test ss))) r)) (s ∷ ss)
    go true e more less =
        subst (λ (q : Updates). AllByRecursion (Gained has ts test q) (s ∷ ss)) (sym (tell-++ (note_of ts s s.target) (notes ts test ss) r)) (
          (λ t y c w q l m k.
              notes_keep has law ts test ss (tell (note_of ts s s.target) r) c.number s.address (note_gains has law ts s r y c w q l m k)),
          more,
        )
    go false e more less = ((λ t. absurd (both_ways (test s) e t)), less)

-- The notes of a step.

abbrev many : Trains → List Slot → List Obj → List Update
many ts ss os = flat_map (λ o. notes ts (is_slot_of o) ss) os

many_keep : (has : Updates → Pairs) (law : KeepsNoted has) (ts : Trains) (ss : List Slot) (os : List Obj) (r : Updates) (n a : ℕ) → has r n a ≡ true → has (tell (many ts ss os) r) n a ≡ true
many_keep has law ts ss [] r n a p = p
many_keep has law ts ss (o ∷ os) r n a p =
    subst (λ (q : Updates). has q n a ≡ true) (sym (tell-++ (notes ts (is_slot_of o) ss) (many ts ss os) r))
    (many_keep has law ts ss os (tell (notes ts (is_slot_of o) ss) r) n a (notes_keep has law ts (is_slot_of o) ss r n a p))

-- each slot of one of the objects is noted
many_gain : (has : Updates → Pairs) (law : KeepsNoted has) (ts : Trains) (ss : List Slot) (os : List Obj) (r : Updates)
    → AllByRecursion (Gained has ts (λ s. among s.holder os) (tell (many ts ss os) r)) ss
many_gain has law ts ss [] r = none ss
  where
    none : (xs : List Slot) → AllByRecursion (Gained has ts (λ s. among s.holder []) r) xs
    none [] = tt
    none (s ∷ xs) = ((λ t. absurd (both_ways false refl t)), none xs)
many_gain has law ts ss (o ∷ os) r =
    let q = tell (notes ts (is_slot_of o) ss) r in
    subst (λ (v : Updates). AllByRecursion (Gained has ts (λ s. among s.holder (o ∷ os)) v) ss) (sym (tell-++ (notes ts (is_slot_of o) ss) (many ts ss os) r))
    (all_with (Gained has ts (is_slot_of o) q) (Gained has ts (λ s. among s.holder os) (tell (many ts ss os) q)) (Gained has ts (λ s. among s.holder (o ∷ os)) (tell (many ts ss os) q))
    (λ s u v t y c e w l m k. either s u v y c e w l m k (eqb s.holder o.id) refl t) ss
    (notes_gain has law ts (is_slot_of o) ss r) (many_gain has law ts ss os q))
  where
    either : (s : Slot) → Gained has ts (is_slot_of o) (tell (notes ts (is_slot_of o) ss) r) s
        → Gained has ts (λ v. among v.holder os) (tell (many ts ss os) (tell (notes ts (is_slot_of o) ss) r)) s
        → (y : ℕ) (c : CarPlace) → s.target ≡ Some y → car_place 0 y ts ≡ Some c → c.order < s.order → c.number < 64 → s.address < 8192
        → (b : Bool) → eqb s.holder o.id ≡ b → among s.holder (o ∷ os) ≡ true → has (tell (many ts ss os) (tell (notes ts (is_slot_of o) ss) r)) c.number s.address ≡ true
    either s u v y c e w l m k true i t = many_keep has law ts ss os (tell (notes ts (is_slot_of o) ss) r) c.number s.address (u i y c e w l m k)
    either s u v y c e w l m k false i t =
        let z : is s.holder o ≡ 0 = ap one_if i in
        v (lt-ltb 0 (times s.holder os) (omega (arith, sums, z, ltb-true 0 (times s.holder (o ∷ os)) t))) y c e w l m k

-- a slot of a carried object, or one that holds one
abbrev pub touched : List Obj → Slot → Bool
touched os s = among s.holder os || target_among os s.target

pub carried_keep : (has : Updates → Pairs) (law : KeepsNoted has) (ts : Trains) (ss : List Slot) (os : List Obj) (r : Updates) (n a : ℕ) → has r n a ≡ true
    → has (tell (notes_of_carried ts os ss) r) n a ≡ true
carried_keep has law ts ss os r n a p =
    subst (λ (q : Updates). has q n a ≡ true) (sym (tell-++ (notes ts (corrected os) ss) (many ts ss os) r))
    (many_keep has law ts ss os (tell (notes ts (corrected os) ss) r) n a (notes_keep has law ts (corrected os) ss r n a p))

pub carried_gain : (has : Updates → Pairs) (law : KeepsNoted has) (ts : Trains) (ss : List Slot) (os : List Obj) (r : Updates)
    → AllByRecursion (Gained has ts (touched os) (tell (notes_of_carried ts os ss) r)) ss
carried_gain has law ts ss os r =
    let q = tell (notes ts (corrected os) ss) r in
    subst (λ (v : Updates). AllByRecursion (Gained has ts (touched os) v) ss) (sym (tell-++ (notes ts (corrected os) ss) (many ts ss os) r))
    (all_with (Gained has ts (corrected os) q) (Gained has ts (λ s. among s.holder os) (tell (many ts ss os) q)) (Gained has ts (touched os) (tell (many ts ss os) q))
    (λ s u v t y c e w l m k. either s u v y c e w l m k (among s.holder os) (target_among os s.target) refl refl t) ss
    (notes_gain has law ts (corrected os) ss r) (many_gain has law ts ss os q))
  where
    either : (s : Slot) → Gained has ts (corrected os) (tell (notes ts (corrected os) ss) r) s
        → Gained has ts (λ v. among v.holder os) (tell (many ts ss os) (tell (notes ts (corrected os) ss) r)) s
        → (y : ℕ) (c : CarPlace) → s.target ≡ Some y → car_place 0 y ts ≡ Some c → c.order < s.order → c.number < 64 → s.address < 8192
        → (a b : Bool) → among s.holder os ≡ a → target_among os s.target ≡ b → touched os s ≡ true → has (tell (many ts ss os) (tell (notes ts (corrected os) ss) r)) c.number s.address ≡ true
    either s u v y c e w l m k true b i j t = v i y c e w l m k
    either s u v y c e w l m k false true i j t =
        many_keep has law ts ss os (tell (notes ts (corrected os) ss) r) c.number s.address
        (u (and_from (target_among os s.target) (not (among s.holder os)) j (ap not i)) y c e w l m k)
    either s u v y c e w l m k false false i j t = absurd (both_ways (touched os s) (or_from (among s.holder os) (target_among os s.target) i j) t)

pub forgets_keep : (has : Updates → Pairs) → KeepsNoted has → (ns : List ℕ) (r : Updates) (n a : ℕ) → one_of n ns ≡ false → has r n a ≡ true
    → has (tell (map Forget ns) r) n a ≡ true
forgets_keep has law [] r n a o p = p
forgets_keep has law (m ∷ ns) r n a o p =
    let k = or_parts (eqb n m) (one_of n ns) o in
    subst (λ (q : Updates). has q n a ≡ true) (sym (tell-++ (Forget m ∷ []) (map Forget ns) r))
    (forgets_keep has law ns (Forget m ∷ r) n a k.1 (law.keeps_others r m n a (eqb-false n m k.0) p))
