-- The laws of waste.
use Rattle.std.proofs.Common.{◌≡◌, ℕ, zero, suc, ◌+◌, ◌-◌, ◌*◌, ◌<◌, ◌≤◌, Bool, true, false, eqb, ◌⊎◌, List, [], ◌∷◌, ◌++◌, length, get_or, Some, Option, sym, refl, ap, subst, inl, inr, arith, cond, map}
use lib.ListN.{get_or-eq_default}
use Rattle.std.proofs.lemmas.Bool.{eq-eqb, eqb-true, or_from, cases_lt, cases_Bool, both_ways}
use Rattle.std.specs.List.{AllByRecursion, range_with_len, IsDistinct}
use Rattle.std.specs.Prelude.{slice_get, option_map, find}
use Rattle.std.proofs.lemmas.List.Sums.{sum_by-cons}
use Rattle.layout.specs.ShapeTable.{ShapeTable, Lawful}
use Rattle.model.specs.Calls.{History, Event}
use Rattle.model.specs.Bodies.{Body, Roots, size}
use Rattle.model.specs.Plain.{graph_of}
use Rattle.model.specs.Trains.{Obj, Train, Trains, train_objects, objects, words_of, one_of, times, inside}
use Rattle.model.specs.Space.{Model, all_objects, space_of, Use}
use Rattle.model.specs.Reach.{by_root, by_ref, SpaceReaches, Unreachable}
use Rattle.model.specs.Laws.{steps, train_steps, WasteUpTo, GoneAfter, WasteNearTheFrontLeavesSooner, WasteLeavesInCountedSteps, size_of, sizes, ListsReachable, BoundedBy, enough_steps, GoesOn, is_step}
use Rattle.model.specs.Sound.{SoundAt, Sound}
use Rattle.model.proofs.Distinct.{sum_within, one_of_head, one_of_left, one_of_right, in_numbered, distinct_nil, distinct_cons}
use Rattle.model.proofs.Keeps.{sound_of, times_self}
use Rattle.model.proofs.Sim.{Twin, sim_of}
use Rattle.model.proofs.WasteClaims.{Leads}
use Rattle.model.proofs.WasteClean.{Not, Apart, apart_act, Clean}
use Rattle.model.proofs.WasteProgress.{toil_high}
use Rattle.model.proofs.WasteGoing.{GoingAt, Going, going_act, ended}
use Rattle.model.proofs.Alls.{all_map}
use Rattle.model.specs.Claims.{MoveRequest}
use Rattle.model.proofs.Totals.{is, one_if, sums}
use Rattle.model.proofs.Closure.{is_self}

pub inside_lies : (os : List Obj) (x : ℕ) (b : Body) → inside os x ≡ Some b → 1 ≤ times x os
inside_lies [] x b e = absurd (let z : ◌≡◌ {A = ℕ} 0 1 = cc in omega arith)
inside_lies (o ∷ os) x b e = omega (arith, sums, go (inside_lies os x b) (eqb x o.id) e)
  where
    go : (inside os x ≡ Some b → 1 ≤ times x os) → (t : Bool) → option_map (λ p. p.body) (cond t (Some o) (find (λ p. eqb x p.id) os)) ≡ Some b → 1 ≤ one_if t + times x os
    go more true e = omega arith
    go more false e = omega (arith, more e)

-- an object is found under its identity, if each identity is there once
pub inside_self : (os : List Obj) → ((x : ℕ) → times x os ≤ 1) → AllByRecursion (λ o. inside os o.id ≡ Some o.body) os
inside_self [] h = tt
inside_self (o ∷ os) h = (
  ap (λ (t : Bool). option_map (λ (p : Obj). p.body) (cond t (Some o) (find (λ (p : Obj). eqb o.id p.id) os))) (eq-eqb o.id o.id refl),
  all_map (λ p. inside os p.id ≡ Some p.body) (λ p. inside (o ∷ os) p.id ≡ Some p.body) (λ p e. go p e (eqb p.id o.id) refl) os
      (inside_self os (λ x. omega (arith, sums, h x))),
)
  where
    go : (p : Obj) → inside os p.id ≡ Some p.body → (t : Bool) → eqb p.id o.id ≡ t → option_map (λ q. q.body) (cond t (Some o) (find (λ q. eqb p.id q.id) os)) ≡ Some p.body
    go p e true q = absurd (let z : is p.id o ≡ 1 = ap one_if q in omega (arith, sums, z, h p.id, inside_lies os p.id p.body e))
    go p e false q = e

-- at the halt itself
apart_start : (m : Model) → Sound m → Apart (Unreachable m) m
apart_start m s = record {
  new = λ x l u. omega (arith, l, u.old);
  roots = λ r x e u. u.unreached (by_root r e);
  leads = leads (all_objects m) s.old (inside_self (all_objects m) s.once);
}
  where
    leads : (os : List Obj) → AllByRecursion (λ o. o.id < m.made) os → AllByRecursion (λ o. inside (all_objects m) o.id ≡ Some o.body) os → AllByRecursion (Leads (Not (Unreachable m))) os
    leads [] old found = tt
    leads (o ∷ os) old found =
        (λ n i y e u. n (record { old = old.0; unreached = λ r. u.unreached (by_ref i o.body r found.0 e) }), leads os old.1 found.1)

lies_all : (Q : ℕ → Type 0) (os : List Obj) → ((x : ℕ) → 1 ≤ times x os → Q x) → AllByRecursion (λ o. Q o.id) os
lies_all Q [] h = tt
lies_all Q (o ∷ os) h = (h o.id (omega (arith, sums, is_self o.id o refl)), lies_all Q os (λ x l. h x (omega (arith, sums, l))))

clean_start : (G : ℕ → Type 0) (b : ℕ) (ts : Trains) → ((k x : ℕ) → b ≤ k → 1 ≤ times x (train_objects (get_or ts k [])) → Not G x) → Clean G b ts
clean_start G b [] h = tt
clean_start G zero (t ∷ ts) h = (lies_all (Not G) (train_objects t) (λ x. h 0 x (omega arith)), clean_start G zero ts (λ k x l. h (suc k) x (omega arith)))
clean_start G (suc b) (t ∷ ts) h = clean_start G b ts (λ k x l. h (suc k) x (omega arith))

going_start : (G : ℕ → Type 0) (j made : ℕ) (rs : Roots) (mk : Option MoveRequest) (ts : Trains) → SoundAt made rs ts mk
    → ((k x : ℕ) → j < k → 1 ≤ times x (train_objects (get_or ts k [])) → Not G x) → ((w : MoveRequest) → mk ≡ Some w → j < w.rank → Not G w.who)
    → GoingAt G ((j + 1) * train_steps) 0 mk ts
going_start G j made rs mk [] s lies marked = record { rank = 0; clean = tt; marked = λ w e. absurd (omega (arith, (s.mark w e).lies)); due = tt }
going_start G j made rs mk (t ∷ ts) s lies marked = record {
  rank = suc j;
  clean = clean_start G (suc j) (t ∷ ts) (λ k x l. lies k x (omega arith));
  marked = λ w e l. marked w e (omega arith);
  due = (omega arith, omega (arith, toil_high made rs t ts mk s));
}

clean_none : (G : ℕ → Type 0) (x : ℕ) → G x → (ts : Trains) → Clean G 0 ts → times x (objects ts) ≡ 0
clean_none G x g [] h = refl
clean_none G x g (t ∷ ts) h = omega (arith, sums, clean_none G x g ts h.1, none (train_objects t) h.0)
  where
    none : (os : List Obj) → AllByRecursion (λ o. Not G o.id) os → times x os ≡ 0
    none [] h = refl
    none (o ∷ os) h = omega (arith, sums, other (eqb x o.id) refl, none os h.1)
      where
        other : (b : Bool) → eqb x o.id ≡ b → one_if b ≡ 0
        other true e = absurd (h.0 (subst G (eqb-true x o.id e) g))
        other false e = refl

module _ (M : ShapeTable) (law : Lawful M) (h : History) (j : ℕ) (waste : WasteUpTo j (space_of M h)) where
  record On (more : History) : Type 0 where
    apart : Apart (Unreachable (space_of M h)) (space_of M (more ++ h))
    going : Going (Unreachable (space_of M h)) ((j + 1) * train_steps) (steps more) (space_of M (more ++ h))

  on : (more : History) → On more
  on [] =
      let m = space_of M h in
      let s = sound_of M law h in
      record { apart = apart_start m s; going = going_start (Unreachable m) j m.made m.roots m.mark m.trains s waste.lies waste.marked }
  on (e ∷ more) =
      let G = Unreachable (space_of M h) in
      let n = space_of M (more ++ h) in
      let r = on more in
      record {
        apart = apart_act G M e.call n r.apart;
        going = subst (λ (s : ℕ). Going G ((j + 1) * train_steps) s (space_of M (e ∷ (more ++ h)))) (sym (sum_by-cons (λ (d : Event). cond (is_step d.call) 1 0) e more))
            (going_act G ((j + 1) * train_steps) (steps more) M e.call n r.apart (sound_of M law (more ++ h)) (sound_of M law (e ∷ (more ++ h))) r.going);
      }

  gone : GoneAfter M h ((j + 1) * train_steps)
  gone more on_use x g =
      let G = Unreachable (space_of M h) in
      let n = space_of M (more ++ h) in
      clean_none G x g n.trains (ended G ((j + 1) * train_steps) (steps more) n.made n.roots n.mark n.trains (sound_of M law (more ++ h)) on_use.many (on more).going)

pub waste_near_the_front : WasteNearTheFrontLeavesSooner
waste_near_the_front M law h u j waste = gone M law h j waste

-- no object lies, and no mark sends one, above as many ranks as there are trains
waste_in_trains : (m : Model) → Sound m → WasteUpTo (length m.trains) m
waste_in_trains m s = record {
  lies = λ k x l t u. let e : get_or m.trains k [] ≡ [] = get_or-eq_default m.trains [] {n = k} (omega arith) in
      let z : times x (train_objects (get_or m.trains k [])) ≡ 0 = ap (λ (t : Train). times x (train_objects t)) e in
      omega (arith, z, t);
  marked = λ w e l u. omega (arith, l, (s.mark w e).within);
}

pub waste_leaves : WasteLeavesInCountedSteps
waste_leaves M law h u = gone M law h (length (space_of M h).trains) (waste_in_trains (space_of M h) (sound_of M law h))

-- Words in use.
abbrev identities : List Obj → List ℕ
identities os = map (λ o. o.id) os

not_there : (x : ℕ) (os : List Obj) → times x os ≡ 0 → one_of x (identities os) ≡ false
not_there x [] h = refl
not_there x (o ∷ os) h = or_from (eqb x o.id) (one_of x (identities os)) (other (eqb x o.id) refl) (not_there x os (omega (arith, sums, h)))
  where
    other : (b : Bool) → eqb x o.id ≡ b → b ≡ false
    other true e = absurd (let z : is x o ≡ 1 = ap one_if e in omega (arith, sums, z, h))
    other false e = refl

distinct : (os : List Obj) → ((x : ℕ) → times x os ≤ 1) → IsDistinct eqb (identities os)
distinct [] h = distinct_nil
distinct (o ∷ os) h = distinct_cons o.id (identities os) (not_there o.id os (omega (arith, sums, is_self o.id o refl, h o.id))) (distinct os (λ x. omega (arith, sums, h x)))

words_by : (es : List Body) (os : List Obj) → AllByRecursion (Twin es) os → words_of os ≡ sizes es (identities os)
words_by es [] t = refl
words_by es (o ∷ os) t = let e : size_of (slice_get es o.id) ≡ size o.body = ap size_of t.0 in omega (arith, sums, e, words_by es os t.1)

all_one_of : (os : List Obj) (ys : List ℕ) → AllByRecursion (λ o. one_of o.id ys ≡ true) os → (x : ℕ) → one_of x (identities os) ≡ true → one_of x ys ≡ true
all_one_of [] ys h x e = absurd (both_ways false refl e)
all_one_of (o ∷ os) ys h x e =
    elim (one_of_head x o.id (identities os) e) [
      | inl q ↦ subst (λ (y : ℕ). one_of y ys ≡ true) (sym q) h.0
      | inr q ↦ all_one_of os ys h.1 x q
    ]

words-within : (es : List Body) (os : List Obj) (xs ys : List ℕ) → ((x : ℕ) → times x os ≤ 1) → AllByRecursion (Twin es) os → AllByRecursion (λ o. one_of o.id (xs ++ ys) ≡ true) os
    → words_of os ≤ sizes es xs + sizes es ys
words-within es os xs ys once twins known =
    omega (arith, sums, words_by es os twins, sum_within (λ x. size_of (slice_get es x)) (identities os) (xs ++ ys) (distinct os once) (all_one_of os (xs ++ ys) known))

-- each object in a car was reachable at the halt or is new
known_all : (m n : Model) (xs : List ℕ) → ((x : ℕ) → SpaceReaches m x → one_of x xs ≡ true) → ((x : ℕ) → Unreachable m x → times x (all_objects n) ≡ 0)
    → (os : List Obj) → AllByRecursion (λ o. o.id < n.made) os → AllByRecursion (λ o. 1 ≤ times o.id (all_objects n)) os
    → AllByRecursion (λ o. one_of o.id (xs ++ range_with_len m.made (n.made - m.made)) ≡ true) os
known_all m n xs reach gone [] old lies = tt
known_all m n xs reach gone (o ∷ os) old lies = (known (cases_lt o.id m.made), known_all m n xs reach gone os old.1 lies.1)
  where
    known : (o.id < m.made) ⊎ (m.made ≤ o.id) → one_of o.id (xs ++ range_with_len m.made (n.made - m.made)) ≡ true
    known (inl l) = elim (cases_Bool (one_of o.id xs)) [
      | inl e ↦ one_of_left o.id xs (range_with_len m.made (n.made - m.made)) e
      | inr e ↦ absurd (omega (arith, lies.0, gone o.id (record { old = l; unreached = λ r. both_ways (one_of o.id xs) e (reach o.id r) })))
    ]
    known (inr g) = one_of_right o.id xs (range_with_len m.made (n.made - m.made)) (in_numbered o.id m.made (n.made - m.made) g (omega (arith, old.0, g)))

-- with a list of the reachable objects the words in use are bounded
pub words_bounded : (M : ShapeTable) → Lawful M → (h : History) → Use M h → (xs : List ℕ) → ListsReachable (space_of M h) xs
    → (more : History) → GoesOn M h (enough_steps (space_of M h)) more → BoundedBy M h more xs
words_bounded M law h u xs list more on_use =
    let m = space_of M h in
    let n = space_of M (more ++ h) in
    let s = sound_of M law (more ++ h) in
    words-within (graph_of M (more ++ h)).entries (all_objects n) xs (range_with_len m.made (n.made - m.made)) s.once (sim_of M law (more ++ h) on_use.use_after).twins
    (known_all m n xs list.all (λ x g. waste_leaves M law h u more on_use x g) (all_objects n) s.old (times_self (all_objects n)))
