-- Waste stays behind: what was unreachable at a halt is never held again, and never lies in a later train than it may.
use Rattle.std.proofs.Common.{◌≡◌, ℕ, zero, suc, pred, ◌+◌, ◌-◌, ◌≤◌, Bool, true, false, cond, eqb, List, [], ◌∷◌, ◌++◌, get_or, Some, None, Option, sym, refl, subst, arith, not}
use Rattle.std.specs.List.{AllByRecursion}
use Rattle.layout.specs.declared.Shape.{Shape}
use Rattle.layout.specs.ShapeTable.{ShapeTable, Offsets}
use Rattle.calls.specs.declared.call.Call.{Call}
use Rattle.calls.specs.declared.call.Call.TheVariants.{Make, Access, Step, Tally}
use Rattle.model.specs.Bodies.{Body, Roots, fresh, shape_of, new_body, held, is_root, with_ref, with_value, Effect, leave, hold, point, store, response, make_outcome}
use Rattle.model.specs.Trains.{Obj, Car, Train, Trains, train_objects, objects, place_at, numbers, lowest_free, arrival, inside, among, alter_object, alter}
use Rattle.model.specs.Claims.{MoveRequest, ref_requests, train_requests, trains_requests, Claim, claims}
use Rattle.model.specs.Step.{first_to, outside, mark_requests, requests, place_all, mark_after, guard}
use Rattle.model.specs.Space.{Model, all_objects, act, step_on, step_by, space_with, has_room, made_by}
use Rattle.model.specs.Sound.{Points}
use Rattle.model.proofs.Alls.{all_left, all_right, place_train_all, place_at_all, all_++}
use Rattle.model.proofs.Alters.{objects-alter, train_alter, alter_all, set_either}
use Rattle.model.proofs.Cars.{fresh_is}
use Rattle.model.proofs.Effects.{Brings, brings}
use Rattle.model.proofs.Keeps.{step_all, inside_all, make_cases, no_ref}
use Rattle.model.proofs.WasteClaims.{Leads, Sent, Goes, claims_of, ref_sent, train_sent}

abbrev pub Not : (ℕ → Type 0) → ℕ → Type 0
Not G x = G x → ⊥

-- what a root holds is not of G, an object that is not of G points at none of G, and what is made later is not of G
pub record Apart (G : ℕ → Type 0) (m : Model) : Type 0 where
  pub new : (x : ℕ) → m.made ≤ x → Not G x
  pub roots : (r x : ℕ) → held m.roots r ≡ Some x → Not G x
  pub leads : AllByRecursion (Leads (Not G)) (all_objects m)

-- a step only moves objects, or drops them, and leaves the roots
module _ (P : Obj → Type 0) (M : ShapeTable) (m : Model) where
  record Moves (n : Model) : Type 0 where
    all : AllByRecursion P (all_objects n)
    roots : n.roots ≡ m.roots
    made : n.made ≡ m.made

  step_by_moves : (w : Option MoveRequest) (t : Train) (ts : Trains) → AllByRecursion P (objects (t ∷ ts)) → Moves (step_by M w t ts m).state
  step_by_moves None t ts h = record { all = all_right P (train_objects t) (objects ts) h; roots = refl; made = refl }
  step_by_moves (Some w) [] ts h = record { all = h; roots = refl; made = refl }
  step_by_moves (Some w) (f ∷ cs) ts h = record { all = step_all P f cs ts m h; roots = refl; made = refl }

  step_moves : (ts : Trains) → m.trains ≡ ts → AllByRecursion P (all_objects m) → Moves (step_on M ts m).state
  step_moves [] e h = record { all = h; roots = refl; made = refl }
  step_moves (t ∷ ts) e h = step_by_moves (first_to (train_objects t) (outside m.roots (t ∷ ts) ts)) t ts (subst (λ (u : Trains). AllByRecursion P (objects u)) e h)

module _ (G : ℕ → Type 0) where
  ref_leads : (x i : ℕ) (h : Option ℕ) → ((y : ℕ) → h ≡ Some y → Not G y) → (o : Obj) → Leads (Not G) o → Leads (Not G) (alter_object x (with_ref i h) o)
  ref_leads x i h fine o l n = go (eqb x o.id)
    where
      go : (b : Bool) → (j y : ℕ) → get_or (cond b (with_ref i h o.body) o.body).refs j None ≡ Some y → Not G y
      go true j y e = set_either o.body.refs i j h y (Not G y) (l n j y) (fine y) e
      go false j y e = l n j y e

  value_leads : (x w v : ℕ) (o : Obj) → Leads (Not G) o → Leads (Not G) (alter_object x (with_value w v) o)
  value_leads x w v o l n = go (eqb x o.id)
    where
      go : (b : Bool) → (j y : ℕ) → get_or (cond b (with_value w v o.body) o.body).refs j None ≡ Some y → Not G y
      go true j y e = l n j y e
      go false j y e = l n j y e

  leads_alter : (x : ℕ) (f : Body → Body) (ts : Trains) → ((o : Obj) → Leads (Not G) o → Leads (Not G) (alter_object x f o))
      → AllByRecursion (Leads (Not G)) (objects ts) → AllByRecursion (Leads (Not G)) (objects (alter x f ts))
  leads_alter x f ts one h = subst (AllByRecursion (Leads (Not G))) (sym (objects-alter x f ts)) (alter_all x f (Leads (Not G)) (Leads (Not G)) one (objects ts) h)

  apart_with : (m : Model) (e : Effect) → Brings (inside (all_objects m)) m.roots (Not G) e → Apart G m → Apart G (space_with e m)
  apart_with m leave b a = a
  apart_with m (hold r h) b a = record { new = a.new; roots = λ q x e. set_either m.roots r q h x (Not G x) (a.roots q x) (b x) e; leads = a.leads }
  apart_with m (point x i h) b a = record { new = a.new; roots = a.roots; leads = leads_alter x (with_ref i h) m.trains (ref_leads x i h b.1) a.leads }
  apart_with m (store x w v) b a = record { new = a.new; roots = a.roots; leads = leads_alter x (with_value w v) m.trains (value_leads x w v) a.leads }

  apart_made : (p : Shape) (u : Offsets) (r : ℕ) (m : Model) → Apart G m → Apart G (made_by (fresh p u) r m)
  apart_made p u r m h = record {
    new = λ x l. h.new x (omega arith);
    roots = λ q x e. set_either m.roots r q (Some m.made) x (Not G x) (h.roots q x) (λ i. let d : m.made ≡ x = cc in h.new x (omega arith)) e;
    leads = place_at_all (Leads (Not G)) (arrival m.trains) (lowest_free (numbers m.trains)) (record { id = m.made; body = fresh p u }) m.trains
        h.leads (λ n i y e. absurd (no_ref u.refs i y e));
  }

  -- no call brings back what is of G
  pub apart_act : (M : ShapeTable) (c : Call) (m : Model) → Apart G m → Apart G (act M c m).state
  apart_act M (Make r k a b) m h =
      make_cases (λ o. Apart G o.state) (is_root r) (new_body M (shape_of k a b)) (λ x. not (has_room x m)) m (λ x. made_by x r m)
      (λ n. h) (λ x is room. let u = fresh_is M (shape_of k a b) x is in rw u.2 (apart_made (shape_of k a b) u.0 r m h))
  apart_act M (Access c) m h =
      apart_with m (response (inside (all_objects m)) m.roots c).effect
      (brings (inside (all_objects m)) m.roots (Not G) h.roots
      (λ x b k. inside_all (Leads (Not G)) (all_objects m) x b k.has h.leads (h.roots k.at x k.is)) c) h
  apart_act M Step m h =
      let k = step_moves (Leads (Not G)) M m m.trains refl h.leads in
      record {
        new = λ x l. h.new x (omega (arith, k.made));
        roots = λ r x e. h.roots r x (subst (λ (rs : Roots). held rs r ≡ Some x) k.roots e);
        leads = k.all;
      }
  apart_act M Tally m h = h

  -- trains of a rank of b or more have no object of G
  abbrev pub Clean : ℕ → Trains → Type 0
  Clean b [] = Unit {0}
  Clean zero (t ∷ ts) = AllByRecursion (λ o. Not G o.id) (train_objects t) × Clean zero ts
  Clean (suc b) (t ∷ ts) = Clean b ts

  -- what goes to the rank k is not of G if k is b or more
  abbrev pub Bound : ℕ → ℕ → ℕ → Type 0
  Bound b k x = b ≤ k → Not G x

  abbrev pub CleanMark : ℕ → Option MoveRequest → Type 0
  CleanMark b mk = (w : MoveRequest) → mk ≡ Some w → Bound b w.rank w.who

  clean_place_at : (b k n : ℕ) (o : Obj) (ts : Trains) → Bound b k o.id → Clean b ts → Clean b (place_at k n o ts)
  clean_place_at zero k n o [] f h = ((f (omega arith), tt), tt)
  clean_place_at (suc b) k n o [] f h = tt
  clean_place_at zero zero n o (t ∷ ts) f h = (place_train_all (λ o. Not G o.id) n o t h.0 (f (omega arith)), h.1)
  clean_place_at zero (suc k) n o (t ∷ ts) f h = (h.0, clean_place_at zero k n o ts (λ l. f (omega arith)) h.1)
  clean_place_at (suc b) zero n o (t ∷ ts) f h = h
  clean_place_at (suc b) (suc k) n o (t ∷ ts) f h = clean_place_at b k n o ts (λ l. f (omega arith)) h

  clean_place_all : (b : ℕ) (busy : List ℕ) (row : List Claim) (ts : Trains) → AllByRecursion (Goes (Bound b)) row → Clean b ts → Clean b (place_all busy row ts)
  clean_place_all b busy [] ts r h = h
  clean_place_all b busy (c ∷ row) ts r h =
      let n = lowest_free (busy ++ numbers ts) in
      clean_place_all b busy row (place_at c.rank n c.object ts) r.1 (clean_place_at b c.rank n c.object ts r.0 h)

  -- without the first train, and without the first car
  pub clean_tail : (b : ℕ) (t : Train) (ts : Trains) → Clean b (t ∷ ts) → Clean (pred b) ts
  clean_tail zero t ts h = h.1
  clean_tail (suc b) t ts h = h

  clean_car : (b : ℕ) (f : Car) (cs : Train) (ts : Trains) → Clean b ((f ∷ cs) ∷ ts) → Clean b (cs ∷ ts)
  clean_car zero f cs ts h = (all_right (λ o. Not G o.id) f.objects (train_objects cs) h.0, h.1)
  clean_car (suc b) f cs ts h = h

  clean_first : (b : ℕ) (t : Train) (ts : Trains) → Clean b (t ∷ ts) → b ≤ 0 → AllByRecursion (λ o. Not G o.id) (train_objects t)
  clean_first zero t ts h e = h.0
  clean_first (suc b) t ts h e = absurd (omega (arith, e))

  -- the slots of a train without G hold none of G
  train_bound : (b k : ℕ) (t : Train) → ((b ≤ k) → AllByRecursion (λ o. Not G o.id) (train_objects t)) → AllByRecursion (Leads (Not G)) (train_objects t) → AllByRecursion (Sent (Bound b)) (train_requests k t)
  train_bound b k t a l = train_sent (Bound b) k t (points (train_objects t) a l)
    where
      points : (os : List Obj) → ((b ≤ k) → AllByRecursion (λ o. Not G o.id) os) → AllByRecursion (Leads (Not G)) os → AllByRecursion (Points (Bound b k)) os
      points [] a l = tt
      points (o ∷ os) a l = (λ i y e q. l.0 (a q).0 i y e, points os (λ q. (a q).1) l.1)

  trains_bound : (b c k : ℕ) (ts : Trains) → c ≤ b - k → Clean c ts → AllByRecursion (Leads (Not G)) (objects ts) → AllByRecursion (Sent (Bound b)) (trains_requests k ts)
  trains_bound b c k [] e h l = tt
  trains_bound b zero k (t ∷ ts) e h l =
      all_++ (Sent (Bound b)) (train_requests k t) (trains_requests (k + 1) ts)
      (train_bound b k t (λ q. h.0) (all_left (Leads (Not G)) (train_objects t) (objects ts) l))
      (trains_bound b zero (k + 1) ts (omega arith) h.1 (all_right (Leads (Not G)) (train_objects t) (objects ts) l))
  trains_bound b (suc c) k (t ∷ ts) e h l =
      all_++ (Sent (Bound b)) (train_requests k t) (trains_requests (k + 1) ts)
      (train_bound b k t (λ q. absurd (omega (arith, q, e))) (all_left (Leads (Not G)) (train_objects t) (objects ts) l))
      (trains_bound b c (k + 1) ts (omega arith) h (all_right (Leads (Not G)) (train_objects t) (objects ts) l))

  mark_bound : (b : ℕ) (mk : Option MoveRequest) → CleanMark b mk → AllByRecursion (Sent (Bound b)) (mark_requests mk)
  mark_bound b None h = tt
  mark_bound b (Some w) h = (h w refl, tt)

  module _ (b : ℕ) (rs : Roots) (mk : Option MoveRequest) (f : Car) (cs : Train) (ts : Trains)
      (apart : (r x : ℕ) → held rs r ≡ Some x → Not G x) (leads : AllByRecursion (Leads (Not G)) (objects ((f ∷ cs) ∷ ts)))
      (clean : Clean b ((f ∷ cs) ∷ ts)) (marked : CleanMark b mk) where
    leads_first : AllByRecursion (Leads (Not G)) (train_objects (f ∷ cs))
    leads_first = all_left (Leads (Not G)) (train_objects (f ∷ cs)) (objects ts) leads

    roots_bound : AllByRecursion (Sent (Bound b)) (ref_requests (arrival ((f ∷ cs) ∷ ts)) rs)
    roots_bound = ref_sent (Bound b) (arrival ((f ∷ cs) ∷ ts)) rs (λ i y e q. apart i y e)

    later_bound : AllByRecursion (Sent (Bound b)) (trains_requests 1 ts)
    later_bound = trains_bound b (pred b) 1 ts (omega arith) (clean_tail b (f ∷ cs) ts clean) (all_right (Leads (Not G)) (train_objects (f ∷ cs)) (objects ts) leads)

    pub outside_bound : AllByRecursion (Sent (Bound b)) (outside rs ((f ∷ cs) ∷ ts) ts)
    outside_bound = all_++ (Sent (Bound b)) (ref_requests (arrival ((f ∷ cs) ∷ ts)) rs) (trains_requests 1 ts) roots_bound later_bound

    requests_bound : AllByRecursion (Sent (Bound b)) (requests rs mk f cs ts)
    requests_bound =
        let W = Sent (Bound b) in
        all_++ W (ref_requests (arrival ((f ∷ cs) ∷ ts)) rs) (mark_requests mk ++ (trains_requests 1 ts ++ train_requests 0 cs)) roots_bound
        (all_++ W (mark_requests mk) (trains_requests 1 ts ++ train_requests 0 cs) (mark_bound b mk marked)
        (all_++ W (trains_requests 1 ts) (train_requests 0 cs) later_bound
        (train_bound b 0 cs (λ q. all_right (λ o. Not G o.id) f.objects (train_objects cs) (clean_first b (f ∷ cs) ts clean q))
        (all_right (Leads (Not G)) f.objects (train_objects cs) leads_first))))

    bound_leads : (os : List Obj) → AllByRecursion (Leads (Not G)) os → AllByRecursion (λ o. (k : ℕ) → Leads (Bound b k) o) os
    bound_leads [] h = tt
    bound_leads (o ∷ os) h = (λ k n i y e q. h.0 (n q) i y e, bound_leads os h.1)

    -- the trains that the objects carried are placed in
    pub clean_placed : (busy : List ℕ) → Clean b (place_all busy (claims (requests rs mk f cs ts) f.objects).taken (cs ∷ ts))
    clean_placed busy =
        clean_place_all b busy (claims (requests rs mk f cs ts) f.objects).taken (cs ∷ ts)
        (claims_of (Bound b) (requests rs mk f cs ts) f.objects requests_bound (bound_leads f.objects (all_left (Leads (Not G)) f.objects (train_objects cs) leads_first)))
        (clean_car b f cs ts clean)

  -- a mark that stands after a step is the old one or the first outside reference
  pub mark_clean : (b out : ℕ) (w : MoveRequest) (os : List Obj) (mk : Option MoveRequest) → Bound b w.rank w.who → CleanMark b mk → CleanMark b (guard (mark_after os mk) out w)
  mark_clean b out w os mk f h = go mk h
    where
      new : (n : ℕ) (v : MoveRequest) → guard None n w ≡ Some v → Bound b v.rank v.who
      new zero v e = let d : w ≡ v = cc in subst (λ (u : MoveRequest). Bound b u.rank u.who) d f
      new (suc n) v e = absurd (let z : ◌≡◌ {A = ℕ} 0 1 = cc in omega arith)

      old : (u v : MoveRequest) → CleanMark b (Some u) → (t : Bool) → guard (cond t None (Some u)) out w ≡ Some v → Bound b v.rank v.who
      old u v h true e = new out v e
      old u v h false e = h v e

      go : (mk : Option MoveRequest) → CleanMark b mk → CleanMark b (guard (mark_after os mk) out w)
      go None h v e = new out v e
      go (Some u) h v e = old u v h (among u.who os) e

  clean_alter : (b x : ℕ) (f : Body → Body) (ts : Trains) → Clean b ts → Clean b (alter x f ts)
  clean_alter b x f [] h = tt
  clean_alter zero x f (t ∷ ts) h =
      (subst (AllByRecursion (λ o. Not G o.id)) (sym (train_alter x f t)) (alter_all x f (λ o. Not G o.id) (λ o. Not G o.id) (λ o n. n) (train_objects t) h.0), clean_alter zero x f ts h.1)
  clean_alter (suc b) x f (t ∷ ts) h = clean_alter b x f ts h

  pub clean_with : (b : ℕ) (m : Model) (e : Effect) → Clean b m.trains → Clean b (space_with e m).trains
  clean_with b m leave h = h
  clean_with b m (hold r v) h = h
  clean_with b m (point x i v) h = clean_alter b x (with_ref i v) m.trains h
  clean_with b m (store x w v) h = clean_alter b x (with_value w v) m.trains h

  pub clean_made : (d : Body) (b r : ℕ) (m : Model) → Apart G m → Clean b m.trains → Clean b (made_by d r m).trains
  clean_made d b r m a h =
      clean_place_at b (arrival m.trains) (lowest_free (numbers m.trains)) (record { id = m.made; body = d }) m.trains (λ q. a.new m.made (omega arith)) h

  -- a make refused leaves the trains as they were
  pub clean_make : (b r : ℕ) (root_ok : Bool) (body : Option Body) (is_filled : Body → Bool) (m : Model) → Apart G m → Clean b m.trains
      → Clean b (make_outcome root_ok body is_filled m (λ d. made_by d r m)).state.trains
  clean_make b r root_ok body is_filled m a h =
      make_cases (λ o. Clean b o.state.trains) root_ok body is_filled m (λ d. made_by d r m) (λ n. h) (λ d e n. clean_made d b r m a h)
