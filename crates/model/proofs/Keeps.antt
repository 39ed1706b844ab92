-- Every call keeps the space sound.
use Rattle.std.proofs.Common.{◌≡◌, ℕ, zero, suc, ◌+◌, ◌<◌, ◌≤◌, Bool, true, false, cond, eqb, List, [], ◌∷◌, ◌++◌, length, get_or, replicate, Some, None, Option, sym, refl, ap, ◌∙◌, subst, inl, inr, arith, not, sum_by}
use Rattle.std.proofs.lemmas.Bool.{ne_eqb, leb-true, ltb-false, cases_eq, cases_lt, eqb-true, not-false}
use Rattle.std.specs.List.{AllByRecursion}
use Rattle.std.specs.Prelude.{option_map, find}
use Rattle.std.proofs.lemmas.List.Sums.{sum_by-append}
use Rattle.std.proofs.lemmas.List.{length-map}
use Rattle.calls.specs.declared.answer.Refusal.{Refusal}
use Rattle.calls.specs.declared.answer.Refusal.TheVariants.{Root, Shape as NoShape, Full}
use Rattle.layout.specs.declared.Shape.{Shape}
use Rattle.layout.specs.ShapeTable.{ShapeTable, Offsets, Lawful}
use Rattle.calls.specs.declared.call.Call.{Call}
use Rattle.calls.specs.declared.call.Call.TheVariants.{Make, Access, Step, Tally}
use Rattle.calls.specs.declared.call.Access.{Access as OnRoots}
use Rattle.model.specs.Calls.{History, refused, done}
use Rattle.model.specs.Bodies.{Body, held, fresh, shape_of, new_body, size, with_ref, with_value, is_root, root_count, Effect, leave, hold, point, store, response, make_outcome, Outcome, outcome}
use Rattle.model.specs.Trains.{Obj, Car, Train, Trains, train_objects, objects, words_of, words_in_use, obj_size, times, among, inside, alter, alter_object, place, place_at, arrival, numbers, lowest_free, capacity, most_trains, alter_train}
use Rattle.model.specs.Claims.{MoveRequest, Claim, claims, ref_requests, train_requests, trains_requests}
use Rattle.model.specs.Step.{first_to, outside, mark_requests, requests, place_all, trim, out_of, mark_after, guard}
use Rattle.model.specs.Space.{Model, opening, all_objects, made_by, has_room, space_with, carried, trains_after, step_by, step_on, act, space_of}
use Rattle.model.proofs.Totals.{claims-total, place-total, place_at-total, place_all-total, trim-objects, is, one_if, sums}
use Rattle.model.specs.Sound.{Points, Sized, first_objects, Marked, SoundAt, Sound}
use Rattle.model.proofs.Alls.{all_++, all_left, all_right, claims_all, place_at_all, place_all_all, all_map, all_with}
use Rattle.model.proofs.Cars.{filled_tail, filled_place_at, filled_place_all, filled_trim, standing_place_at, standing_trim_all, length-place_at, length-place_all, length-trim, arrival_below, fresh_is, fresh_sized}
use Rattle.model.proofs.Closure.{is_self, Requested, claims_none, claims_done, ref_each, train_each, trains_each, out_some}
use Rattle.model.proofs.Effects.{Brings, brings}
use Rattle.model.proofs.Alters.{ref_size, value_size, objects-alter, first-alter, alter-times, alter_all, alter-size, alter-words, all_filled_alter, standing_alter, set_either}
use Rattle.model.proofs.Outside.{first_none, first_some, Sends, outside_ranks, away, requests_split, away_ranks, requests_above, outside-away, claims_below, requests_below}

-- a make is refused and leaves all as it was, or it is done
pub make_cases : {S : Type 0} (P : Outcome S → Type 0) (root_ok : Bool) (body : Option Body) (is_filled : Body → Bool) (before : S) (after : Body → S)
    → ((n : Refusal) → P (outcome before (refused n))) → ((b : Body) → body ≡ Some b → is_filled b ≡ false → P (outcome (after b) done))
    → P (make_outcome root_ok body is_filled before after)
make_cases P false x f s t stays made = stays Root
make_cases P true None f s t stays made = stays NoShape
make_cases P true (Some b) f s t stays made = go (f b) refl
  where
    go : (v : Bool) → f b ≡ v → P (cond v (outcome s (refused Full)) (outcome (t b) done))
    go true e = stays Full
    go false e = made b refl e

pub is_other : (x : ℕ) (o : Obj) → (x ≡ o.id → ⊥) → is x o ≡ 0
is_other x o ne = ap one_if (ne_eqb x o.id ne)

pub is_few : (x : ℕ) (o : Obj) → is x o ≤ 1
is_few x o = go (eqb x o.id)
  where
    go : (b : Bool) → one_if b ≤ 1
    go true = omega arith
    go false = omega arith

-- each object lies among the objects that it is one of
pub times_self : (os : List Obj) → AllByRecursion (λ o. 1 ≤ times o.id os) os
times_self [] = tt
times_self (o ∷ os) = (
  omega (arith, sums, is_self o.id o refl),
  all_map (λ p. 1 ≤ times p.id os) (λ p. 1 ≤ times p.id (o ∷ os)) (λ p h. omega (arith, sums, h)) os (times_self os),
)

-- an identity not yet given lies nowhere
pub old_none : (n x : ℕ) (os : List Obj) → n ≤ x → AllByRecursion (λ o. o.id < n) os → times x os ≡ 0
old_none n x [] h a = refl
old_none n x (o ∷ os) h a = let k = a.0 in omega (arith, sums, is_other x o (λ e. omega arith), old_none n x os h a.1)

-- what is found is the body of one of the objects
pub inside_all : (P : Obj → Type 0) (os : List Obj) (x : ℕ) (b : Body) → inside os x ≡ Some b → AllByRecursion P os → P (record { id = x; body = b })
inside_all P [] x b e h = absurd (let z : ◌≡◌ {A = ℕ} 0 1 = cc in omega arith)
inside_all P (o ∷ os) x b e h = go (λ q. inside_all P os x b q h.1) (eqb x o.id) refl e
  where
    go : (inside os x ≡ Some b → P (record { id = x; body = b })) → (t : Bool) → eqb x o.id ≡ t → option_map (λ p. p.body) (cond t (Some o) (find (λ p. eqb x p.id) os)) ≡ Some b → P (record { id = x; body = b })
    go more true q e =
        let i : o.id ≡ x = sym (eqb-true x o.id q) in
        let j : o.body ≡ b = cc in
        subst (λ (c : Body). P (record { id = x; body = c })) j (subst (λ (y : ℕ). P (record { id = y; body = o.body })) i h.0)
    go more false q e = more e

pub inside_body : (R : Body → Type 0) (os : List Obj) (x : ℕ) (b : Body) → AllByRecursion (λ o. R o.body) os → inside os x ≡ Some b → R b
inside_body R os x b a e = inside_all (λ o. R o.body) os x b e a

pub no_ref : (n i y : ℕ) → get_or (replicate {A = Option ℕ} n None) i None ≡ Some y → ⊥
no_ref zero i y e = let z : ◌≡◌ {A = ℕ} 0 1 = cc in omega arith
no_ref (suc n) zero y e = let z : ◌≡◌ {A = ℕ} 0 1 = cc in omega arith
no_ref (suc n) (suc i) y e = no_ref n i y e

-- placing behind the first train leaves it
first-place_at : (k n : ℕ) (o : Obj) (t : Train) (ts : Trains) → 1 ≤ k → first_objects (place_at k n o (t ∷ ts)) ≡ train_objects t
first-place_at zero n o t ts h = absurd (omega (arith, h))
first-place_at (suc k) n o t ts h = refl

mark_place : (w : MoveRequest) (n : ℕ) (o : Obj) (ts : Trains) → length ts ≤ most_trains → Marked w ts → Marked w (place_at (arrival ts) n o ts)
mark_place w n o [] l m = absurd (omega (arith, m.lies))
mark_place w n o (t ∷ ts) l m =
    let a = arrival_below (t ∷ ts) l in
    let g = length-place_at (arrival (t ∷ ts)) n o (t ∷ ts) a.0 l in
    record {
      lies = subst (λ os. 1 ≤ times w.who os) (sym (first-place_at (arrival (t ∷ ts)) n o t ts (a.2 (omega arith)))) m.lies;
      above = m.above;
      within = omega (arith, m.within, g.0);
      below = m.below;
    }

pub opening_sound : Sound opening
opening_sound = record {
  old = tt;
  once = λ x. omega arith;
  sized = tt;
  roots = λ r x e. absurd (no_ref root_count r x e);
  refs = tt;
  room = omega arith;
  filled = tt;
  standing = tt;
  few = omega arith;
  mark = λ w e. let z : ◌≡◌ {A = ℕ} 0 1 = cc in absurd (omega arith);
}

module _ (M : ShapeTable) (law : Lawful M) where
  made_sound : (p : Shape) (u : Offsets) (r : ℕ) (m : Model) → M.offsets p ≡ Some u → has_room (fresh p u) m ≡ true → Sound m → Sound (made_by (fresh p u) r m)
  made_sound p u r m ok room s =
      let o : Obj = record { id = m.made; body = fresh p u } in
      let n = lowest_free (numbers m.trains) in
      let j = arrival m.trains in
      let fits = fresh_sized M law p u ok in
      let ab = arrival_below m.trains s.few in
      let grows : (y : ℕ) → times y (objects (place_at j n o m.trains)) ≡ times y (objects m.trains) + is y o = λ y. place_at-total (is y) j n o m.trains in
      record {
        old = place_at_all (λ p. p.id < suc m.made) j n o m.trains (all_map _ _ (λ p h. omega (arith, h)) (objects m.trains) s.old) (omega arith);
        once = λ x. elim (cases_eq x m.made) [
          | inl e ↦ omega (arith, grows x, is_few x o, old_none m.made x (objects m.trains) (omega (arith, e)) s.old)
          | inr ne ↦ omega (arith, grows x, is_other x o ne, s.once x)
        ];
        sized = place_at_all Sized j n o m.trains s.sized fits;
        roots = λ q x e. set_either m.roots r q (Some m.made) x _ (λ h. omega (arith, grows x, s.roots q x h))
            (λ h. let same : x ≡ m.made = cc in omega (arith, grows x, is_self x o same)) e;
        refs = place_at_all (Points (λ y. 1 ≤ times y (objects (place_at j n o m.trains)))) j n o m.trains
            (all_map _ _ (λ p h i y e. omega (arith, grows y, h i y e)) (objects m.trains) s.refs) (λ i y e. absurd (no_ref u.refs i y e));
        room = omega (arith, place_at-total obj_size j n o m.trains, leb-true (words_in_use m.trains + size (fresh p u)) capacity room);
        filled = filled_place_at j n o m.trains fits s.filled;
        standing = standing_place_at j n o m.trains s.standing;
        few = (length-place_at j n o m.trains ab.0 s.few).1;
        mark = λ w e. mark_place w n o m.trains s.few (s.mark w e);
      }

  make_sound : (r k a b : ℕ) (m : Model) → Sound m → Sound (act M (Make r k a b) m).state
  make_sound r k a b m s =
      make_cases (λ o. Sound o.state) (is_root r) (new_body M (shape_of k a b)) (λ x. not (has_room x m)) m (λ x. made_by x r m) (λ n. s)
      (λ x is room.
      let u = fresh_is M (shape_of k a b) x is in
      rw u.2 (made_sound (shape_of k a b) u.0 r m u.1 (ap (λ y. has_room y m) (sym u.2) ∙ not-false (has_room x m) room) s))

  -- an object's inside changes, its references still hold what lies in a car
  alter_sound : (x : ℕ) (g : Body → Body) (m : Model) → ((b : Body) → size (g b) ≡ size b)
      → ((o : Obj) → Points (λ y. 1 ≤ times y (all_objects m)) o → Points (λ y. 1 ≤ times y (all_objects m)) (alter_object x g o))
      → Sound m → SoundAt m.made m.roots (alter x g m.trains) m.mark
  alter_sound x g m keeps points s =
      let os = objects m.trains in
      let e = objects-alter x g m.trains in
      let same : (y : ℕ) → times y (objects (alter x g m.trains)) ≡ times y os = λ y. ap (times y) e ∙ alter-times x g y os in
      record {
        old = subst (AllByRecursion (λ o. o.id < m.made)) (sym e) (alter_all x g _ _ (λ o h. h) os s.old);
        once = λ y. omega (arith, same y, s.once y);
        sized = subst (AllByRecursion Sized) (sym e) (alter_all x g Sized Sized (λ o h. (omega (arith, h.0, alter-size x g keeps o), omega (arith, h.1, alter-size x g keeps o))) os s.sized);
        roots = λ r y h. omega (arith, same y, s.roots r y h);
        refs = subst (AllByRecursion (Points (λ y. 1 ≤ times y (objects (alter x g m.trains))))) (sym e)
            (alter_all x g (Points (λ y. 1 ≤ times y os)) _ (λ o h i y q. omega (arith, same y, points o h i y q)) os s.refs);
        room = omega (arith, ap words_of e, alter-words x g keeps os, s.room);
        filled = all_filled_alter x g keeps m.trains s.filled;
        standing = standing_alter x g m.trains s.standing;
        few = omega (arith, length-map m.trains (alter_train x g), s.few);
        mark = λ w q. let k = s.mark w q in record {
          lies = omega (arith, k.lies, ap (times w.who) (first-alter x g m.trains), alter-times x g w.who (first_objects m.trains));
          above = k.above;
          within = omega (arith, k.within, length-map m.trains (alter_train x g));
          below = k.below;
        };
      }

  point_keeps : (Q : ℕ → Type 0) (x i : ℕ) (h : Option ℕ) → ((y : ℕ) → h ≡ Some y → Q y) → (o : Obj) → Points Q o → Points Q (alter_object x (with_ref i h) o)
  point_keeps Q x i h fine o p = go (eqb x o.id)
    where
      go : (b : Bool) → (j y : ℕ) → get_or (cond b (with_ref i h o.body) o.body).refs j None ≡ Some y → Q y
      go true j y e = set_either o.body.refs i j h y (Q y) (p j y) (fine y) e
      go false j y e = p j y e

  store_keeps : (Q : ℕ → Type 0) (x w v : ℕ) (o : Obj) → Points Q o → Points Q (alter_object x (with_value w v) o)
  store_keeps Q x w v o p = go (eqb x o.id)
    where
      go : (b : Bool) → (j y : ℕ) → get_or (cond b (with_value w v o.body) o.body).refs j None ≡ Some y → Q y
      go true j y e = p j y e
      go false j y e = p j y e

  effect_sound : (e : Effect) (m : Model) → Brings (inside (all_objects m)) m.roots (λ y. 1 ≤ times y (all_objects m)) e → Sound m → Sound (space_with e m)
  effect_sound leave m h s = s
  effect_sound (hold r v) m h s = record {
    old = s.old;
    once = s.once;
    sized = s.sized;
    roots = λ q x e. set_either m.roots r q v x _ (s.roots q x) (h x) e;
    refs = s.refs;
    room = s.room;
    filled = s.filled;
    standing = s.standing;
    few = s.few;
    mark = s.mark;
  }
  effect_sound (point x i v) m h s = alter_sound x (with_ref i v) m (ref_size i v) (point_keeps _ x i v h.1) s
  effect_sound (store x w v) m h s = alter_sound x (with_value w v) m (value_size w v) (store_keeps _ x w v) s

  pub placed_effect : (c : OnRoots) (m : Model) → Sound m → Brings (inside (all_objects m)) m.roots (λ y. 1 ≤ times y (all_objects m)) (response (inside (all_objects m)) m.roots c).effect
  placed_effect c m s =
      brings (inside (all_objects m)) m.roots (λ y. 1 ≤ times y (all_objects m)) s.roots
      (λ x b h. inside_body (λ d. (i y : ℕ) → get_or d.refs i None ≡ Some y → 1 ≤ times y (all_objects m)) (all_objects m) x b s.refs h.has) c

-- A step.

-- what is lost, and what lies in cars after, was there before
pub step_total : (w : Obj → ℕ) (f : Car) (cs : Train) (ts : Trains) (m : Model)
    → sum_by w (objects (trains_after f cs ts m)) + sum_by w (carried f cs ts m).left ≡ sum_by w (objects ((f ∷ cs) ∷ ts))
step_total w f cs ts m =
    let c = carried f cs ts m in
    let R = place_all (f.number ∷ []) c.taken (cs ∷ ts) in
    omega (arith, sums, ap (sum_by w) (trim-objects R), place_all-total w (f.number ∷ []) c.taken (cs ∷ ts), claims-total w (requests m.roots m.mark f cs ts) f.objects)

-- what holds of each object before holds of each after
pub step_all : (P : Obj → Type 0) (f : Car) (cs : Train) (ts : Trains) (m : Model) → AllByRecursion P (objects ((f ∷ cs) ∷ ts)) → AllByRecursion P (objects (trains_after f cs ts m))
step_all P f cs ts m a =
    let c = carried f cs ts m in
    let R = place_all (f.number ∷ []) c.taken (cs ∷ ts) in
    let t = all_left P (f.objects ++ train_objects cs) (objects ts) a in
    let rest = all_++ P (train_objects cs) (objects ts) (all_right P f.objects (train_objects cs) t) (all_right P (f.objects ++ train_objects cs) (objects ts) a) in
    subst (AllByRecursion P) (sym (trim-objects R))
    (place_all_all P (f.number ∷ []) c.taken (cs ∷ ts) rest (claims_all P (requests m.roots m.mark f cs ts) f.objects (all_left P f.objects (train_objects cs) t)).0)

-- no reference is overlooked: what a root or an object in a car holds is not lost
module _ (f : Car) (cs : Train) (ts : Trains) (m : Model) where
  requested_kept : AllByRecursion (λ w. times w.who (carried f cs ts m).left ≡ 0) (requests m.roots m.mark f cs ts)
  requested_kept = claims_none (requests m.roots m.mark f cs ts) f.objects

  pub roots_kept : (r x : ℕ) → held m.roots r ≡ Some x → times x (carried f cs ts m).left ≡ 0
  roots_kept = ref_each (λ w. times w.who (carried f cs ts m).left ≡ 0) (arrival ((f ∷ cs) ∷ ts)) m.roots
      (all_left _ (ref_requests (arrival ((f ∷ cs) ∷ ts)) m.roots) _ requested_kept)

  pub refs_kept : AllByRecursion (Points (λ y. times y (carried f cs ts m).left ≡ 0)) (objects (trains_after f cs ts m))
  refs_kept =
      let Q : ℕ → Type 0 = λ y. times y (carried f cs ts m).left ≡ 0 in
      let P : MoveRequest → Type 0 = λ w. Q w.who in
      let R = place_all (f.number ∷ []) (carried f cs ts m).taken (cs ∷ ts) in
      let k = all_right P (mark_requests m.mark) _ (all_right P (ref_requests (arrival ((f ∷ cs) ∷ ts)) m.roots) _ requested_kept) in
      subst (AllByRecursion (Points Q)) (sym (trim-objects R))
      (place_all_all (Points Q) (f.number ∷ []) (carried f cs ts m).taken (cs ∷ ts)
      (all_++ (Points Q) (train_objects cs) (objects ts)
      (train_each Q 0 cs (all_right P (trains_requests 1 ts) (train_requests 0 cs) k))
      (trains_each Q 1 ts (all_left P (trains_requests 1 ts) (train_requests 0 cs) k)))
      (claims_done (requests m.roots m.mark f cs ts) f.objects))

-- the first train only grows while objects are placed
grows_place : (x n : ℕ) (o : Obj) (t : Train) → times x (train_objects t) ≤ times x (train_objects (place n o t))
grows_place x n o t = omega (arith, place-total (is x) n o t)

grows_place_at : (x k n : ℕ) (o : Obj) (ts : Trains) → times x (first_objects ts) ≤ times x (first_objects (place_at k n o ts))
grows_place_at x k n o [] = omega arith
grows_place_at x zero n o (t ∷ ts) = grows_place x n o t
grows_place_at x (suc k) n o (t ∷ ts) = omega arith

pub grows_place_all : (x : ℕ) (busy : List ℕ) (row : List Claim) (ts : Trains) → times x (first_objects ts) ≤ times x (first_objects (place_all busy row ts))
grows_place_all x busy [] ts = omega arith
grows_place_all x busy (c ∷ row) ts =
    let n = lowest_free (busy ++ numbers ts) in
    omega (arith, grows_place_at x c.rank n c.object ts, grows_place_all x busy row (place_at c.rank n c.object ts))

trim-first : (x : ℕ) (ts : Trains) → 1 ≤ times x (first_objects ts) → (1 ≤ times x (first_objects (trim ts))) × (length (trim ts) ≡ length ts)
trim-first x [] h = absurd (omega (arith, h))
trim-first x ([] ∷ ts) h = absurd (omega (arith, h))
trim-first x ((c ∷ cs) ∷ ts) h = (h, refl)

module _ (f : Car) (cs : Train) (ts : Trains) (m : Model) (s : SoundAt m.made m.roots ((f ∷ cs) ∷ ts) m.mark) where
  -- what lies in another car of the first train lies in the first train after
  still_first : (x : ℕ) → times x f.objects ≡ 0 → 1 ≤ times x (train_objects (f ∷ cs))
      → (1 ≤ times x (first_objects (trains_after f cs ts m))) × (length ((f ∷ cs) ∷ ts) ≤ length (trains_after f cs ts m))
  still_first x z h =
      let c = carried f cs ts m in
      let R = place_all (f.number ∷ []) c.taken (cs ∷ ts) in
      let below = claims_below (requests m.roots m.mark f cs ts) f.objects (requests_below m.roots m.mark f cs ts s.few s.mark) in
      let g : 1 ≤ times x (first_objects R) = omega (arith, sums, grows_place_all x (f.number ∷ []) c.taken (cs ∷ ts)) in
      let t = trim-first x R g in
      (t.0, omega (arith, t.1, (length-place_all (f.number ∷ []) c.taken (cs ∷ ts) below s.few).0))

  -- what is asked for from elsewhere leaves the first train if it lies in the first car
  pub leaves : (x : ℕ) → Requested x (away m.roots m.mark f cs ts) → 1 ≤ times x f.objects → 1 ≤ out_of (carried f cs ts m).taken
  leaves x w l =
      subst (λ ws. 1 ≤ out_of (claims ws f.objects).taken) (sym (requests_split m.roots m.mark f cs ts))
      (out_some (away m.roots m.mark f cs ts) (train_requests 0 cs) f.objects x
      (requests_above ((f ∷ cs) ∷ ts) _ (away_ranks m.roots m.mark f cs ts s.few s.mark)) w l)

  kept_mark : (w : MoveRequest) → m.mark ≡ Some w → among w.who f.objects ≡ false → Marked w (trains_after f cs ts m)
  kept_mark w e z =
      let k = s.mark w e in
      let none : times w.who f.objects ≡ 0 = omega (arith, ltb-false 0 (times w.who f.objects) z) in
      let t = still_first w.who none k.lies in
      record { lies = t.0; above = k.above; within = omega (arith, k.within, t.1); below = k.below }

  new_mark : (w : MoveRequest) → first_to (train_objects (f ∷ cs)) (outside m.roots ((f ∷ cs) ∷ ts) ts) ≡ Some w → out_of (carried f cs ts m).taken ≡ 0
      → Marked w (trains_after f cs ts m)
  new_mark w e z =
      let first = first_some (λ v. Sends ((f ∷ cs) ∷ ts) v.rank) (train_objects (f ∷ cs)) (outside m.roots ((f ∷ cs) ∷ ts) ts) w e (outside_ranks m.roots (f ∷ cs) ts s.few) in
      let none : times w.who f.objects ≡ 0 =
      elim (cases_lt 0 (times w.who f.objects)) [
        | inl l ↦ absurd (let o = leaves w.who (outside-away m.roots m.mark f cs ts w.who first.1) l in omega arith)
        | inr g ↦ omega arith
      ] in
      let t = still_first w.who none first.0 in
      record { lies = t.0; above = first.2.0; within = omega (arith, first.2.1, t.1); below = first.2.2 }

  marks_after : (w : MoveRequest) → first_to (train_objects (f ∷ cs)) (outside m.roots ((f ∷ cs) ∷ ts) ts) ≡ Some w
      → (v : MoveRequest) → guard (mark_after f.objects m.mark) (out_of (carried f cs ts m).taken) w ≡ Some v → Marked v (trains_after f cs ts m)
  marks_after w e v q = go m.mark refl q
    where
      fresh_mark : (n : ℕ) → out_of (carried f cs ts m).taken ≡ n → guard None n w ≡ Some v → Marked v (trains_after f cs ts m)
      fresh_mark zero z g = let same : w ≡ v = cc in subst (λ u. Marked u (trains_after f cs ts m)) same (new_mark w e z)
      fresh_mark (suc n) z g = let y : ◌≡◌ {A = ℕ} 0 1 = cc in absurd (omega arith)

      old_mark : (u : MoveRequest) → m.mark ≡ Some u → (b : Bool) → among u.who f.objects ≡ b
          → guard (cond b None (Some u)) (out_of (carried f cs ts m).taken) w ≡ Some v → Marked v (trains_after f cs ts m)
      old_mark u i true a g = fresh_mark (out_of (carried f cs ts m).taken) refl g
      old_mark u i false a g = let same : u ≡ v = cc in subst (λ x. Marked x (trains_after f cs ts m)) same (kept_mark u i a)

      go : (mk : Option MoveRequest) → m.mark ≡ mk → guard (mark_after f.objects mk) (out_of (carried f cs ts m).taken) w ≡ Some v → Marked v (trains_after f cs ts m)
      go None i g = fresh_mark (out_of (carried f cs ts m).taken) refl g
      go (Some u) i g = old_mark u i (among u.who f.objects) refl g

  car_sound : (w : MoveRequest) → first_to (train_objects (f ∷ cs)) (outside m.roots ((f ∷ cs) ∷ ts) ts) ≡ Some w
      → SoundAt m.made m.roots (trains_after f cs ts m) (guard (mark_after f.objects m.mark) (out_of (carried f cs ts m).taken) w)
  car_sound w e =
      let c = carried f cs ts m in
      let W = requests m.roots m.mark f cs ts in
      let R = place_all (f.number ∷ []) c.taken (cs ∷ ts) in
      let whole : (y : ℕ) → times y (objects (trains_after f cs ts m)) + times y c.left ≡ times y (objects ((f ∷ cs) ∷ ts)) = λ y. step_total (is y) f cs ts m in
      let sizes = (claims_all Sized W f.objects (all_left Sized f.objects (train_objects cs) (all_left Sized (f.objects ++ train_objects cs) (objects ts) s.sized))).0 in
      let below = claims_below W f.objects (requests_below m.roots m.mark f cs ts s.few s.mark) in
      record {
        old = step_all _ f cs ts m s.old;
        once = λ x. omega (arith, whole x, s.once x);
        sized = step_all Sized f cs ts m s.sized;
        roots = λ r x h. omega (arith, whole x, roots_kept f cs ts m r x h, s.roots r x h);
        refs = all_with _ _ (Points (λ y. 1 ≤ times y (objects (trains_after f cs ts m)))) (λ o p q i y h. omega (arith, whole y, p i y h, q i y h))
            (objects (trains_after f cs ts m)) (refs_kept f cs ts m) (step_all _ f cs ts m s.refs);
        room = omega (arith, step_total obj_size f cs ts m, s.room);
        filled = filled_trim R (filled_place_all (f.number ∷ []) c.taken (cs ∷ ts) sizes (filled_tail f cs s.filled.0, s.filled.1));
        standing = standing_trim_all (f.number ∷ []) c.taken cs ts s.standing.1;
        few = omega (arith, (length-trim R).0, (length-place_all (f.number ∷ []) c.taken (cs ∷ ts) below s.few).1);
        mark = marks_after w e;
      }

-- a whole train goes if nothing outside holds an object of it
train_sound : (t : Train) (ts : Trains) (m : Model) → SoundAt m.made m.roots (t ∷ ts) m.mark
    → first_to (train_objects t) (outside m.roots (t ∷ ts) ts) ≡ None → SoundAt m.made m.roots ts None
train_sound t ts m s e =
    let none = first_none (train_objects t) (outside m.roots (t ∷ ts) ts) e in
    let P : MoveRequest → Type 0 = λ w. times w.who (train_objects t) ≡ 0 in
    let both : (w : Obj → ℕ) → sum_by w (train_objects t ++ objects ts) ≡ sum_by w (train_objects t) + sum_by w (objects ts) = λ w. sum_by-append w (train_objects t) (objects ts) in
    record {
      old = all_right _ (train_objects t) (objects ts) s.old;
      once = λ x. omega (arith, both (is x), s.once x);
      sized = all_right _ (train_objects t) (objects ts) s.sized;
      roots = λ r x h. omega (arith, both (is x), s.roots r x h, ref_each P (arrival (t ∷ ts)) m.roots (all_left P (ref_requests (arrival (t ∷ ts)) m.roots) (trains_requests 1 ts) none) r x h);
      refs = all_with _ _ (Points (λ y. 1 ≤ times y (objects ts))) (λ o p q i y h. omega (arith, both (is y), p i y h, q i y h)) (objects ts)
          (trains_each (λ y. times y (train_objects t) ≡ 0) 1 ts (all_right P (ref_requests (arrival (t ∷ ts)) m.roots) (trains_requests 1 ts) none))
          (all_right _ (train_objects t) (objects ts) s.refs);
      room = omega (arith, both obj_size, s.room);
      filled = s.filled.1;
      standing = s.standing.1;
      few = omega (arith, s.few);
      mark = λ w q. let z : ◌≡◌ {A = ℕ} 0 1 = cc in absurd (omega arith);
    }

pub step_sound : (M : ShapeTable) (ts : Trains) (m : Model) → SoundAt m.made m.roots ts m.mark → m.trains ≡ ts → Sound (step_on M ts m).state
step_sound M [] m s e = subst (λ us. SoundAt m.made m.roots us m.mark) (sym e) s
step_sound M ([] ∷ ts) m s e = absurd (omega (arith, s.standing.0))
step_sound M ((f ∷ cs) ∷ ts) m s e = go (first_to (train_objects (f ∷ cs)) (outside m.roots ((f ∷ cs) ∷ ts) ts)) refl
  where
    go : (w : Option MoveRequest) → first_to (train_objects (f ∷ cs)) (outside m.roots ((f ∷ cs) ∷ ts) ts) ≡ w → Sound (step_by M w (f ∷ cs) ts m).state
    go None q = train_sound (f ∷ cs) ts m s q
    go (Some w) q = car_sound f cs ts m s w q

module _ (M : ShapeTable) (law : Lawful M) where
  act_sound : (c : Call) (m : Model) → Sound m → Sound (act M c m).state
  act_sound (Make r k a b) m s = make_sound M law r k a b m s
  act_sound (Access c) m s = effect_sound M law (response (inside (all_objects m)) m.roots c).effect m (placed_effect M law c m s) s
  act_sound Step m s = step_sound M m.trains m s refl
  act_sound Tally m s = s

  pub sound_of : (h : History) → Sound (space_of M h)
  sound_of [] = opening_sound
  sound_of (e ∷ h) = act_sound e.call (space_of M h) (sound_of h)
