-- A call is refused exactly if a condition of the table holds, with the smallest number, and then nothing changes.
use Rattle.std.proofs.Common.{◌≡◌, ℕ, suc, ◌≤◌, Bool, true, false, ◌&&◌, ◌||◌, cond, not, eqb, leb, ltb, List, [], ◌∷◌, length, get_or, Some, None, Option, option_map, refl, sym, ap, ◌∙◌, arith, inl, inr, subst}
use Rattle.std.proofs.lemmas.Bool.{both_ways, ltb-true}
use Rattle.std.proofs.lemmas.Bool.Decides.{leb_tells}
use Rattle.std.proofs.lemmas.Option.{slice_get-get_or}
use Rattle.std.specs.Prelude.{find, option_and_then, slice_get, ℤ}
use Rattle.std.specs.Option.{option_map_or, is_none}
use Rattle.calls.specs.declared.call.Call.{Call}
use Rattle.calls.specs.declared.call.Call.TheVariants.{Make, Access, Step, Tally}
use Rattle.calls.specs.declared.call.Access.{Access as OnRoots}
use Rattle.calls.specs.declared.call.Access.TheVariants.{Link, Follow, Drop, Put, Lift, Get, Words, Same}
use Rattle.calls.specs.declared.answer.Refusal.{Refusal}
use Rattle.calls.specs.declared.answer.Refusal.TheVariants.{Root, Empty, Missing, Shape as NoShape, Full, Range, Buffer}
use Rattle.layout.specs.declared.Shape.{Shape}
use Rattle.layout.specs.ShapeTable.{ShapeTable, Offsets}
use Rattle.remembered.specs.Updates.{Pairs}
use Rattle.model.specs.Calls.{refused, refusal_in, done}
use Rattle.model.specs.Bodies.{Body, held, is_root, shape_of, fresh, Response, refuse, give, unless, on_object, on_found, object_of, store, lifted, store_lifted, response, Outcome, outcome, make_admitted, make_outcome}
use Rattle.model.specs.Trains.{Obj, Train, Trains, train_objects, times, inside}
use Rattle.model.specs.Claims.{MoveRequest}
use Rattle.model.specs.Step.{first_to, outside}
use Rattle.model.specs.Space.{Model, all_objects, act, space_of, space_with, noted_by, has_room, made_by, step_on, step_by}
use Rattle.model.specs.Sound.{Sound}
use Rattle.model.specs.Refusals.{first_refusal, RefusedAt, RefusalsFollowTheTable}
use Rattle.model.proofs.Totals.{is, one_if, sums}
use Rattle.model.proofs.Keeps.{sound_of}

-- a response refuses with this refusal alone, or does not refuse
pub record Fits (r : Response) (o : Option Refusal) : Type 0 where
  pub same : refusal_in r.reply.answer ≡ o
  pub alone : (n : Refusal) → o ≡ Some n → r ≡ refuse n

refuses : (n : Refusal) → Fits (refuse n) (Some n)
refuses n = record { same = refl; alone = λ k e. let s : n ≡ k = cc in ap refuse s }

accepts : (r : Response) → refusal_in r.reply.answer ≡ None → Fits r None
accepts r e = record { same = e; alone = λ k q. let z : ◌≡◌ {A = ℕ} 0 1 = cc in absurd (omega arith) }

-- the refusals behind the second, by tests of the wanted object
abbrev by_object : (lacks lifts short : Body → Bool) → Option Body → Option Refusal
by_object lacks lifts short b =
    cond (option_map_or lacks b false) (Some Missing)
    (cond (option_map_or lifts b false) (Some Range) (cond (option_map_or short b false) (Some Buffer) None))

abbrev by_wanted : (bad_root : Bool) → (h : Option ℕ) → Option Refusal → Option Refusal
by_wanted bad_root h rest = cond bad_root (Some Root) (cond (is_none h) (Some Empty) rest)

beyond : (i n : ℕ) → leb n i ≡ not (ltb i n)
beyond i n = elim (leb_tells n i) [
  | inl p ↦ grind (arith, p, leb_tells (suc i) n)
  | inr p ↦ grind (arith, p, leb_tells (suc i) n)
]

beyond_back : (n k : ℕ) → ltb n k ≡ not (leb k n)
beyond_back n k = elim (leb_tells k n) [
  | inl p ↦ grind (arith, p, leb_tells (suc n) k)
  | inr p ↦ grind (arith, p, leb_tells (suc n) k)
]

-- one test of an object, and what comes behind it
test_fits : (ok bad : Bool) (n : Refusal) (r : Response) (o : Option Refusal) → bad ≡ not ok → (ok ≡ true → Fits r o) → Fits (unless ok n r) (cond bad (Some n) o)
test_fits true true n r o e f = absurd (both_ways true e refl)
test_fits true false n r o e f = f refl
test_fits false true n r o e f = refuses n
test_fits false false n r o e f = absurd (both_ways false refl e)

-- what is in a root lies in a car
pub inside_of : (os : List Obj) (x : ℕ) → 1 ≤ times x os → (b : Body) × (inside os x ≡ Some b)
inside_of [] x h = absurd (omega (arith, h))
inside_of (o ∷ os) x h = go (eqb x o.id) refl (inside_of os x)
  where
    go : (t : Bool) → eqb x o.id ≡ t → (1 ≤ times x os → (b : Body) × (inside os x ≡ Some b))
        → (b : Body) × (option_map (λ p. p.body) (cond t (Some o) (find (λ p. eqb x p.id) os)) ≡ Some b)
    go true e more = (o.body, refl)
    go false e more = more (let z : is x o ≡ 0 = ap one_if e in omega (arith, sums, h, z))

-- the tests of the roots, then those of the object
object_fits : (look : ℕ → Option Body) (ok bad : Bool) (h : Option ℕ) (lacks lifts short : Body → Bool) (k : ℕ → Body → Response)
    → bad ≡ not ok → ((x : ℕ) → h ≡ Some x → (b : Body) × (look x ≡ Some b)) → ((x : ℕ) (b : Body) → Fits (k x b) (by_object lacks lifts short (Some b)))
    → Fits (on_object ok (object_of look h) k) (by_wanted bad h (by_object lacks lifts short (option_and_then look h)))
object_fits look true true h lacks lifts short k e l f = absurd (both_ways true e refl)
object_fits look false true h lacks lifts short k e l f = refuses Root
object_fits look false false h lacks lifts short k e l f = absurd (both_ways false refl e)
object_fits look true false None lacks lifts short k e l f = refuses Empty
object_fits look true false (Some x) lacks lifts short k e l f =
    let p = l x refl in
    subst (λ (o : Option Body). Fits (on_found (option_map (λ b. (x, b)) o) k) (by_object lacks lifts short o)) (sym p.1) (f x p.0)

one_root : (a : Bool) → (not a || false) ≡ not a
one_root true = refl
one_root false = refl

two_roots : (a b : Bool) → (not a || (not b || false)) ≡ not (a && b)
two_roots true true = refl
two_roots true false = refl
two_roots false b = refl

lift_fits : (x w v : ℕ) (by : ℤ) (o : Option ℕ) → o ≡ Some v
    → Fits (store_lifted x w (lifted v by)) (cond (option_map_or (λ u. is_none (lifted u by)) o false) (Some Range) None)
lift_fits x w v by o e = rw e (go (lifted v by))
  where
    go : (l : Option ℕ) → Fits (store_lifted x w l) (cond (is_none l) (Some Range) None)
    go None = refuses Range
    go (Some u) = accepts (give done (store x w u)) refl

module _ (M : ShapeTable) (m : Model) (s : Sound m) where
  lies : (r x : ℕ) → held m.roots r ≡ Some x → (b : Body) × (inside (all_objects m) x ≡ Some b)
  lies r x e = inside_of (all_objects m) x (s.roots r x e)

  access_fits : (c : OnRoots) → Fits (response (inside (all_objects m)) m.roots c) (first_refusal M m (Access c))
  access_fits (Link r i q) = object_fits (inside (all_objects m)) (is_root r && is_root q) _ (held m.roots r) _ _ _ _ (two_roots (is_root r) (is_root q)) (lies r)
      (λ x b. test_fits (ltb i (length b.refs)) _ Missing _ _ (beyond i (length b.refs)) (λ t. accepts _ refl))
  access_fits (Follow r q i) = object_fits (inside (all_objects m)) (is_root r && is_root q) _ (held m.roots q) _ _ _ _ (two_roots (is_root r) (is_root q)) (lies q)
      (λ x b. test_fits (ltb i (length b.refs)) _ Missing _ _ (beyond i (length b.refs)) (λ t. accepts _ refl))
  access_fits (Drop r) = test_fits (is_root r) _ Root _ _ (one_root (is_root r)) (λ t. accepts _ refl)
  access_fits (Put r w v) = object_fits (inside (all_objects m)) (is_root r) _ (held m.roots r) _ _ _ _ (one_root (is_root r)) (lies r)
      (λ x b. test_fits (ltb w (length b.values)) _ Missing _ _ (beyond w (length b.values)) (λ t. accepts _ refl))
  access_fits (Lift r w by) = object_fits (inside (all_objects m)) (is_root r) _ (held m.roots r) _ _ _ _ (one_root (is_root r)) (lies r)
      (λ x b. test_fits (ltb w (length b.values)) _ Missing _ _ (beyond w (length b.values))
      (λ t. lift_fits x w (get_or b.values w 0) by (slice_get b.values w) (slice_get-get_or b.values w 0 (ltb-true w (length b.values) t))))
  access_fits (Get r w) = object_fits (inside (all_objects m)) (is_root r) _ (held m.roots r) _ _ _ _ (one_root (is_root r)) (lies r)
      (λ x b. test_fits (ltb w (length b.values)) _ Missing _ _ (beyond w (length b.values)) (λ t. accepts _ refl))
  access_fits (Words r n) = object_fits (inside (all_objects m)) (is_root r) _ (held m.roots r) _ _ _ _ (one_root (is_root r)) (lies r)
      (λ x b. test_fits (leb (length b.values) n) _ Buffer _ _ (beyond_back n (length b.values)) (λ t. accepts _ refl))
  access_fits (Same r q) = test_fits (is_root r && is_root q) _ Root _ _ (two_roots (is_root r) (is_root q)) (λ t. accepts _ refl)

  access_refused : (c : OnRoots) → RefusedAt M m (Access c)
  access_refused c =
      let f = access_fits c in
      record {
        smallest = λ P. f.same;
        nothing_written = λ P n e. ap (λ (r : Response). r.reply) (f.alone n e);
        unchanged = λ n e. ap (λ (r : Response). space_with r.effect m) (f.alone n e);
        not_told = λ n e. ap (λ (r : Response). noted_by M r.effect (space_with r.effect m).trains) (f.alone n e);
      }

-- a make's tests: whether it is refused, and with which number
record MakeFits (o : Outcome Model) (m : Model) (n : Option Refusal) : Type 0 where
  same : refusal_in o.reply.answer ≡ n
  alone : (k : Refusal) → n ≡ Some k → o ≡ outcome m (refused k)

make_refuses : (m : Model) (n : Refusal) → MakeFits (outcome m (refused n)) m (Some n)
make_refuses m n = record { same = refl; alone = λ k e. let s : n ≡ k = cc in ap (λ (j : Refusal). outcome m (refused j)) s }

admitted_fits : (p : Shape) (room : Body → Bool) (m : Model) (after : Body → Model) (o : Option Offsets)
    → MakeFits (make_admitted (λ x. not (room x)) m after (option_map (fresh p) o)) m
    (cond (is_none o) (Some NoShape) (cond (option_map_or (λ x. not (room x)) (option_map (fresh p) o) false) (Some Full) None))
admitted_fits p room m after None = make_refuses m NoShape
admitted_fits p room m after (Some u) = go (room (fresh p u))
  where
    go : (b : Bool) → MakeFits (cond (not b) (outcome m (refused Full)) (outcome (after (fresh p u)) done)) m (cond (not b) (Some Full) None)
    go true = record { same = refl; alone = λ k e. let z : ◌≡◌ {A = ℕ} 0 1 = cc in absurd (omega arith) }
    go false = make_refuses m Full

make_fits : (ok bad : Bool) (p : Shape) (room : Body → Bool) (m : Model) (after : Body → Model) (o : Option Offsets) → bad ≡ not ok
    → MakeFits (make_outcome ok (option_map (fresh p) o) (λ x. not (room x)) m after) m
    (cond bad (Some Root) (cond (is_none o) (Some NoShape) (cond (option_map_or (λ x. not (room x)) (option_map (fresh p) o) false) (Some Full) None)))
make_fits true true p room m after o e = absurd (both_ways true e refl)
make_fits true false p room m after o e = admitted_fits p room m after o
make_fits false true p room m after o e = make_refuses m Root
make_fits false false p room m after o e = absurd (both_ways false refl e)

make_refused : (M : ShapeTable) (m : Model) (r k a b : ℕ) → RefusedAt M m (Make r k a b)
make_refused M m r k a b =
    let f = make_fits (is_root r) (not (is_root r) || false) (shape_of k a b) (λ x. has_room x m) m (λ x. made_by x r m) (M.offsets (shape_of k a b)) (one_root (is_root r)) in
    record {
      smallest = λ P. f.same;
      nothing_written = λ P n e. ap (λ (o : Outcome Model). o.reply) (f.alone n e);
      unchanged = λ n e. ap (λ (o : Outcome Model). o.state) (f.alone n e);
      not_told = λ n e. refl;
    }

-- a step is never refused
step_answers : (M : ShapeTable) (ts : Trains) (m : Model) (P : Pairs) → refusal_in ((step_on M ts m).reply P).answer ≡ None
step_answers M [] m P = refl
step_answers M (t ∷ ts) m P = go (first_to (train_objects t) (outside m.roots (t ∷ ts) ts)) t
  where
    go : (w : Option MoveRequest) (u : Train) → refusal_in ((step_by M w u ts m).reply P).answer ≡ None
    go None u = refl
    go (Some w) [] = refl
    go (Some w) (f ∷ cs) = refl

never : (M : ShapeTable) (m : Model) (c : Call) → first_refusal M m c ≡ None → ((P : Pairs) → refusal_in ((act M c m).reply P).answer ≡ None) → RefusedAt M m c
never M m c e f =
    let no : (n : Refusal) → first_refusal M m c ≡ Some n → ⊥ = λ n q. let z : ◌≡◌ {A = ℕ} 0 1 = cc in omega arith in
    record {
      smallest = λ P. f P ∙ sym e;
      nothing_written = λ P n q. absurd (no n q);
      unchanged = λ n q. absurd (no n q);
      not_told = λ n q. absurd (no n q);
    }

refused_at : (M : ShapeTable) (m : Model) → Sound m → (c : Call) → RefusedAt M m c
refused_at M m s (Make r k a b) = make_refused M m r k a b
refused_at M m s (Access c) = access_refused M m s c
refused_at M m s Step = never M m Step refl (step_answers M m.trains m)
refused_at M m s Tally = never M m Tally refl (λ P. refl)

pub refusals_law : RefusalsFollowTheTable
refusals_law = record {
  by_number = refl;
  refused_at = λ M law h c. refused_at M (space_of M h) (sound_of M law h) c;
}
