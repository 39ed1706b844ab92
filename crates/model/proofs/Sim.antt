-- The space and the plain graph go together.
use Rattle.std.proofs.Common.{◌≡◌, ℕ, zero, suc, ◌+◌, ◌≤◌, Bool, true, false, cond, eqb, List, [], ◌∷◌, ◌++◌, length, get_or, set, Some, None, Option, sym, refl, ap, ◌∙◌, subst, ap₂, arith, length-append, not}
use Rattle.std.proofs.lemmas.Bool.{eqb-true, eqb-false, leb-false, lt-leb, both_ways}
use Rattle.std.specs.List.{AllByRecursion}
use Rattle.std.specs.Prelude.{slice_get, option_map, find}
use Rattle.calls.specs.declared.answer.Refusal.TheVariants.{Shape as NoShape, Full}
use Rattle.layout.specs.ShapeTable.{ShapeTable, Lawful}
use Rattle.remembered.specs.Updates.{Pairs}
use Rattle.calls.specs.declared.call.Call.{Call}
use Rattle.calls.specs.declared.call.Call.TheVariants.{Make, Access, Step, Tally}
use Rattle.calls.specs.declared.call.Access.{Access as OnRoots}
use Rattle.calls.specs.declared.call.Access.TheVariants.{Link, Follow, Drop, Put, Lift, Get, Words, Same}
use Rattle.model.specs.Calls.{Reply, refused, done, History, is_full}
use Rattle.model.specs.Bodies.{Body, Roots, held, shape_of, new_body, size, with_ref, with_value, is_root, Effect, leave, hold, point, store, object_of, Response, response, Outcome, outcome, make_outcome}
use Rattle.model.specs.Plain.{Graph, no_entries, alter_entry, with_effect, plain, graph_of, with_entry}
use Rattle.model.specs.Trains.{Obj, Train, Trains, train_objects, objects, words_in_use, times, inside, alter, alter_object, arrival, numbers, lowest_free, capacity}
use Rattle.model.specs.Claims.{MoveRequest}
use Rattle.model.specs.Step.{first_to, outside}
use Rattle.model.specs.Space.{Model, opening, all_objects, made_by, has_room, space_with, step_by, step_on, act, space_of, Use}
use Rattle.model.specs.Reach.{by_root, by_ref, GraphReaches, SpaceReaches}
use Rattle.model.specs.Laws.{PlainReply, PlainReplies, FullExactly, FullExactlyWhen, SameReach, AnswersAreThePlainGraphs}
use Rattle.model.specs.Sound.{Sound}
use Rattle.model.proofs.Alls.{all_right, place_at_all, all_map}
use Rattle.model.proofs.Alters.{objects-alter, alter_all}
use Rattle.model.proofs.Keeps.{inside_body, step_all, sound_of}
use Rattle.model.proofs.Totals.{is, one_if, sums}

-- an object has inside what the entry of its identity has
abbrev pub Twin : List Body → Obj → Type 0
Twin es o = slice_get es o.id ≡ Some o.body

pub record Sim (g : Graph) (m : Model) : Type 0 where
  pub roots : m.roots ≡ g.roots
  pub made : m.made ≡ length g.entries
  pub twins : AllByRecursion (Twin g.entries) (all_objects m)

-- what is found in the cars is what the entry has
pub inside-entry : (es : List Body) (os : List Obj) (x : ℕ) → AllByRecursion (Twin es) os → 1 ≤ times x os → inside os x ≡ slice_get es x
inside-entry es [] x a h = absurd (omega (arith, h))
inside-entry es (o ∷ os) x a h = go (inside-entry es os x a.1) (eqb x o.id) refl
  where
    go : (1 ≤ times x os → inside os x ≡ slice_get es x) → (b : Bool) → eqb x o.id ≡ b → option_map (λ p. p.body) (cond b (Some o) (find (λ p. eqb x p.id) os)) ≡ slice_get es x
    go more true q = sym a.0 ∙ ap (slice_get es) (sym (eqb-true x o.id q))
    go more false q = let z : is x o ≡ 0 = ap one_if q in more (omega (arith, sums, h, z))

-- a call's answer and effect depend only on what is found for the roots' objects
module _ (find other : ℕ → Option Body) (rs : Roots) (agree : (r x : ℕ) → held rs r ≡ Some x → find x ≡ other x) where
  object_agrees : (r : ℕ) → object_of find (held rs r) ≡ object_of other (held rs r)
  object_agrees r = go (held rs r) refl
    where
      go : (h : Option ℕ) → held rs r ≡ h → object_of find h ≡ object_of other h
      go None e = refl
      go (Some x) e = ap (option_map (λ (b : Body). (x, b))) (agree r x e)

  pub reply_agrees : (c : OnRoots) → response find rs c ≡ response other rs c
  reply_agrees (Link r i q) = rw (object_agrees r)
  reply_agrees (Follow r q i) = rw (object_agrees q)
  reply_agrees (Drop r) = refl
  reply_agrees (Put r w v) = rw (object_agrees r)
  reply_agrees (Lift r w by) = rw (object_agrees r)
  reply_agrees (Get r w) = rw (object_agrees r)
  reply_agrees (Words r n) = rw (object_agrees r)
  reply_agrees (Same r q) = refl

entry_front : (es : List Body) (b c : Body) (x : ℕ) → slice_get es x ≡ Some c → slice_get (es ++ (b ∷ [])) x ≡ Some c
entry_front [] b c x e = let z : ◌≡◌ {A = ℕ} 0 1 = cc in absurd (omega arith)
entry_front (d ∷ es) b c zero e = e
entry_front (d ∷ es) b c (suc x) e = entry_front es b c x e

entry_last : (es : List Body) (b : Body) → slice_get (es ++ (b ∷ [])) (length es) ≡ Some b
entry_last [] b = refl
entry_last (d ∷ es) b = entry_last es b

alter_same : (es : List Body) (x : ℕ) (f : Body → Body) (b : Body) → slice_get es x ≡ Some b → slice_get (alter_entry x f es) x ≡ Some (f b)
alter_same [] x f b e = let z : ◌≡◌ {A = ℕ} 0 1 = cc in absurd (omega arith)
alter_same (d ∷ es) zero f b e = let q : d ≡ b = cc in ap (λ c. Some (f c)) q
alter_same (d ∷ es) (suc x) f b e = alter_same es x f b e

alter_other : (es : List Body) (x y : ℕ) (f : Body → Body) → (x ≡ y → ⊥) → slice_get (alter_entry x f es) y ≡ slice_get es y
alter_other [] x y f ne = refl
alter_other (d ∷ es) zero zero f ne = absurd (ne refl)
alter_other (d ∷ es) zero (suc y) f ne = refl
alter_other (d ∷ es) (suc x) zero f ne = refl
alter_other (d ∷ es) (suc x) (suc y) f ne = alter_other es x y f (λ e. ne (ap suc e))

alter-length : (es : List Body) (x : ℕ) (f : Body → Body) → length (alter_entry x f es) ≡ length es
alter-length [] x f = refl
alter-length (d ∷ es) zero f = refl
alter-length (d ∷ es) (suc x) f = omega (arith, alter-length es x f)

-- an object and its entry are changed alike
twin_alter : (es : List Body) (x : ℕ) (f : Body → Body) (o : Obj) → Twin es o → Twin (alter_entry x f es) (alter_object x f o)
twin_alter es x f o t = go (eqb x o.id) refl
  where
    go : (b : Bool) → eqb x o.id ≡ b → slice_get (alter_entry x f es) o.id ≡ Some (cond b (f o.body) o.body)
    go true q =
        let e : x ≡ o.id = eqb-true x o.id q in
        ap (λ y. slice_get (alter_entry y f es) o.id) e ∙ alter_same es o.id f o.body t
    go false q = alter_other es x o.id f (eqb-false x o.id q) ∙ t

twins_alter : (es : List Body) (x : ℕ) (f : Body → Body) (ts : Trains) → AllByRecursion (Twin es) (objects ts) → AllByRecursion (Twin (alter_entry x f es)) (objects (alter x f ts))
twins_alter es x f ts a = subst (AllByRecursion (Twin (alter_entry x f es))) (sym (objects-alter x f ts)) (alter_all x f (Twin es) (Twin (alter_entry x f es)) (twin_alter es x f) (objects ts) a)

effect_sim : (e : Effect) (g : Graph) (m : Model) → Sim g m → Sim (with_effect e g) (space_with e m)
effect_sim leave g m s = s
effect_sim (hold r h) g m s = record { roots = ap (λ rs. set rs r h) s.roots; made = s.made; twins = s.twins }
effect_sim (point x i h) g m s = record {
  roots = s.roots;
  made = s.made ∙ sym (alter-length g.entries x (with_ref i h));
  twins = twins_alter g.entries x (with_ref i h) m.trains s.twins;
}
effect_sim (store x w v) g m s = record {
  roots = s.roots;
  made = s.made ∙ sym (alter-length g.entries x (with_value w v));
  twins = twins_alter g.entries x (with_value w v) m.trains s.twins;
}

made_sim : (b : Body) (r : ℕ) (g : Graph) (m : Model) → Sim g m
    → Sim (with_entry b r g) (made_by b r m)
made_sim b r g m s =
    let o : Obj = record { id = m.made; body = b } in
    record {
      roots = ap₂ (λ rs n. set rs r (Some n)) s.roots s.made;
      made = simp length-append (omega (arith, s.made));
      twins = place_at_all (Twin (g.entries ++ (b ∷ []))) (arrival m.trains) (lowest_free (numbers m.trains)) o m.trains
          (all_map _ _ (λ p t. entry_front g.entries b p.body p.id t) (all_objects m) s.twins)
          (ap (slice_get (g.entries ++ (b ∷ []))) s.made ∙ entry_last g.entries b);
    }

-- the reply to a call is the graph's, and the graph goes with the space after it, told only whether the reply was full
pub record Together (M : ShapeTable) (c : Call) (P : Pairs) (p : Reply) (g : Graph) (m : Model) : Type 0 where
  pub sim : Sim (plain M (is_full p) c g).state (act M c m).state
  pub reply : PlainReply M c p g
  pub full_when : FullExactly M (record { call = c; reply = p; pairs = P }) m

no_make : (M : ShapeTable) (c : Call) (P : Pairs) (p : Reply) (m : Model) → ((r k x y : ℕ) → c ≡ Make r k x y → ⊥) → FullExactly M (record { call = c; reply = p; pairs = P }) m
no_make M c P p m h = record { only = λ r k x y e q. absurd (h r k x y e); always = λ r k x y b e u v l. absurd (h r k x y e) }

abbrev Made : (ok : Bool) (body : Option Body) (r : ℕ) → Graph → Model → Type 0
Made ok body r g m =
    let o = make_outcome ok body (λ x. not (has_room x m)) m (λ x. made_by x r m) in
    let p = make_outcome ok body (λ x. is_full o.reply) g (λ x. with_entry x r g) in
    Sim p.state o.state × (o.reply ≡ p.reply) × (o.reply ≡ refused Full → (x : Body) × (body ≡ Some x) × (has_room x m ≡ false))
    × ((x : Body) → ok ≡ true → body ≡ Some x → has_room x m ≡ false → o.reply ≡ refused Full)

no_shape : refused NoShape ≡ refused Full → ⊥
no_shape e = both_ways false refl (ap is_full e)

none_some : {x : Body} → None ≡ Some x → ⊥
none_some e = let z : ◌≡◌ {A = ℕ} 0 1 = cc in omega arith

made : (ok : Bool) (body : Option Body) (r : ℕ) (g : Graph) (m : Model) → Sim g m → Made ok body r g m
made false body r g m s = (s, refl, (λ e. absurd (both_ways false refl (ap is_full e))), λ x p q l. absurd (both_ways false refl p))
made true None r g m s = (s, refl, (λ e. absurd (no_shape e)), λ x p q l. absurd (none_some q))
made true (Some b) r g m s = go (has_room b m) refl
  where
    go : (v : Bool) → has_room b m ≡ v →
        let o : Outcome Model = cond (not v) (outcome m (refused Full)) (outcome (made_by b r m) done) in
        let p : Outcome Graph = cond (is_full o.reply) (outcome g (refused Full)) (outcome (with_entry b r g) done) in
        Sim p.state o.state × (o.reply ≡ p.reply) × (o.reply ≡ refused Full → (x : Body) × (Some b ≡ Some x) × (has_room x m ≡ false))
        × ((x : Body) → true ≡ true → Some b ≡ Some x → has_room x m ≡ false → o.reply ≡ refused Full)
    go false e = (s, refl, (λ q. (b, refl, e)), λ x p q l. refl)
    go true e = (
      made_sim b r g m s,
      refl,
      (λ q. absurd (both_ways false refl (ap is_full q))),
      λ x p q l. let i : b ≡ x = cc in absurd (both_ways (has_room x m) l (subst (λ y. has_room y m ≡ true) i e)),
    )

step_sim : (M : ShapeTable) (g : Graph) (ts : Trains) (m : Model) → Sim g m → m.trains ≡ ts → Sim g (step_on M ts m).state
step_sim M g [] m s e = s
step_sim M g (t ∷ ts) m s e = go (first_to (train_objects t) (outside m.roots (t ∷ ts) ts)) t (subst (λ us. AllByRecursion (Twin g.entries) (objects us)) e s.twins)
  where
    go : (w : Option MoveRequest) (u : Train) → AllByRecursion (Twin g.entries) (objects (u ∷ ts)) → Sim g (step_by M w u ts m).state
    go None u a = record { roots = s.roots; made = s.made; twins = all_right (Twin g.entries) (train_objects u) (objects ts) a }
    go (Some w) [] a = record { roots = s.roots; made = s.made; twins = a }
    go (Some w) (f ∷ cs) a = record { roots = s.roots; made = s.made; twins = step_all (Twin g.entries) f cs ts m a }

module _ (M : ShapeTable) (P : Pairs) where
  together_make : (r k x y : ℕ) (g : Graph) (m : Model) → Sim g m → Together M (Make r k x y) P ((act M (Make r k x y) m).reply P) g m
  together_make r k x y g m s =
      let body = new_body M (shape_of k x y) in
      let t = made (is_root r) body r g m s in
      record {
        sim = t.0;
        reply = t.1;
        full_when = record {
          only = λ r' k' x' y' e q.
              let same : new_body M (shape_of k' x' y') ≡ body = cc in
              let u = t.2 q in
              (u.0, (same ∙ u.1), leb-false (words_in_use m.trains + size u.0) capacity u.2);
          always = λ r' k' x' y' b e p q l.
              let er : is_root r ≡ true = cc in
              let same : body ≡ Some b = cc in
              t.3 b er same (lt-leb (words_in_use m.trains + size b) capacity l);
        };
      }

  together_access : (c : OnRoots) (g : Graph) (m : Model) → Sim g m → Sound m → (p : Reply) → p ≡ (act M (Access c) m).reply P → Together M (Access c) P p g m
  together_access c g m s ok p e =
      let es = g.entries in
      let agree : response (inside (all_objects m)) m.roots c ≡ response (slice_get es) m.roots c =
      reply_agrees (inside (all_objects m)) (slice_get es) m.roots (λ r x h. inside-entry es (all_objects m) x s.twins (ok.roots r x h)) c in
      let alike : response (inside (all_objects m)) m.roots c ≡ response (slice_get es) g.roots c = agree ∙ ap (λ rs. response (slice_get es) rs c) s.roots in
      record {
        sim = subst (λ (q : Response). Sim (with_effect q.effect g) (space_with (response (inside (all_objects m)) m.roots c).effect m)) alike
            (effect_sim (response (inside (all_objects m)) m.roots c).effect g m s);
        reply = e ∙ ap (λ (q : Response). q.reply) alike;
        full_when = no_make M (Access c) P p m (λ r k x y q. let z : ◌≡◌ {A = ℕ} 0 1 = cc in omega arith);
      }

  together : (c : Call) (p : Reply) (g : Graph) (m : Model) → Sim g m → Sound m → p ≡ (act M c m).reply P → Together M c P p g m
  together (Make r k x y) p g m s ok e = subst (λ q. Together M (Make r k x y) P q g m) (sym e) (together_make r k x y g m s)
  together (Access c) p g m s ok e = together_access c g m s ok p e
  together Step p g m s ok e = record { sim = step_sim M g m.trains m s refl; reply = tt; full_when = no_make M Step P p m (λ r k x y q. let z : ◌≡◌ {A = ℕ} 0 1 = cc in omega arith) }
  together Tally p g m s ok e = record { sim = s; reply = tt; full_when = no_make M Tally P p m (λ r k x y q. let z : ◌≡◌ {A = ℕ} 0 1 = cc in omega arith) }

opening_sim : Sim no_entries opening
opening_sim = record { roots = refl; made = refl; twins = tt }

module _ (M : ShapeTable) (law : Lawful M) where
  pub sim_of : (h : History) → Use M h → Sim (graph_of M h) (space_of M h)
  sim_of [] u = opening_sim
  sim_of (e ∷ h) u = (together M e.pairs e.call e.reply (graph_of M h) (space_of M h) (sim_of h u.1) (sound_of M law h) u.0).sim

  replies_of : (h : History) → Use M h → PlainReplies M h
  replies_of [] u = tt
  replies_of (e ∷ h) u = ((together M e.pairs e.call e.reply (graph_of M h) (space_of M h) (sim_of h u.1) (sound_of M law h) u.0).reply, replies_of h u.1)

  full_of : (h : History) → Use M h → FullExactlyWhen M h
  full_of [] u = tt
  full_of (e ∷ h) u = ((together M e.pairs e.call e.reply (graph_of M h) (space_of M h) (sim_of h u.1) (sound_of M law h) u.0).full_when, full_of h u.1)

-- what is reached lies in a car
pub reached_lies : (m : Model) → Sound m → (x : ℕ) → SpaceReaches m x → 1 ≤ times x (all_objects m)
reached_lies m s x (by_root r e) = s.roots r x e
reached_lies m s x (by_ref i b p f e) =
    inside_body (λ d. (i y : ℕ) → get_or d.refs i None ≡ Some y → 1 ≤ times y (all_objects m)) (all_objects m) _ b s.refs f i x e

module _ (g : Graph) (m : Model) (s : Sound m) (t : Sim g m) where
  forth : (x : ℕ) → GraphReaches g x → SpaceReaches m x
  forth x (by_root r e) = by_root r (ap (λ rs. held rs r) t.roots ∙ e)
  forth x (by_ref {x = w} i b p f e) =
      let q = forth w p in
      by_ref i b q (inside-entry g.entries (all_objects m) w t.twins (reached_lies m s w q) ∙ f) e

  back : (x : ℕ) → SpaceReaches m x → GraphReaches g x
  back x (by_root r e) = by_root r (sym (ap (λ rs. held rs r) t.roots) ∙ e)
  back x (by_ref {x = w} i b p f e) =
      by_ref i b (back w p) (sym (inside-entry g.entries (all_objects m) w t.twins (reached_lies m s w p)) ∙ f) e

  pub same_reach : SameReach g m
  same_reach = record {
    roots = t.roots;
    forth = forth;
    back = back;
    once = λ x p. omega (arith, s.once x, reached_lies m s x (forth x p));
    bodies = λ x p. inside-entry g.entries (all_objects m) x t.twins (reached_lies m s x (forth x p));
  }

pub graph_law : AnswersAreThePlainGraphs
graph_law M law h u = record {
  replies = replies_of M law h u;
  full_when = full_of M law h u;
  same = same_reach (graph_of M h) (space_of M h) (sound_of M law h) (sim_of M law h u);
}
