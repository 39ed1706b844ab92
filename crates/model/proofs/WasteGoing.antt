-- While the use goes on: each step brings the first train nearer to its end, and each end brings the waste one rank forward.
use Rattle.std.proofs.Common.{◌≡◌, ℕ, zero, suc, pred, ◌+◌, ◌*◌, ◌≤◌, [], ◌∷◌, length, Some, None, Option, sym, refl, ap, subst, arith, not, sum_by, cond}
use Rattle.std.specs.List.{AllByRecursion}
use Rattle.layout.specs.ShapeTable.{ShapeTable}
use Rattle.calls.specs.declared.call.Call.{Call}
use Rattle.calls.specs.declared.call.Call.TheVariants.{Make, Access, Step, Tally}
use Rattle.model.specs.Bodies.{Body, Roots, shape_of, new_body, is_root, with_ref, with_value, Effect, leave, hold, point, store, response}
use Rattle.model.specs.Trains.{Obj, Train, Trains, train_objects, objects, place_at, numbers, lowest_free, arrival, inside, alter}
use Rattle.model.specs.Claims.{MoveRequest}
use Rattle.model.specs.Step.{first_to, outside, place_all, trim, out_of, mark_after, guard}
use Rattle.model.specs.Space.{Model, all_objects, carried, act, step_on, step_by, space_with, has_room, made_by}
use Rattle.model.specs.Laws.{is_step}
use Rattle.model.specs.Sound.{SoundAt, Sound}
use Rattle.model.proofs.Outside.{first_some}
use Rattle.model.proofs.Cars.{arrival_below}
use Rattle.model.proofs.WasteClaims.{Leads, Sent}
use Rattle.model.proofs.WasteClean.{Not, Apart, Clean, CleanMark, Bound, clean_tail, outside_bound, clean_placed, mark_clean, clean_with, clean_made}
use Rattle.model.proofs.WasteProgress.{one, first, toil, short, toil_low, toil_high, placed-count, placed-spot, falls, unmarked, toil-alter}
use Rattle.model.proofs.Keeps.{make_cases}

-- the count: with waste below the rank b, the first train's toil and a whole train's for each further rank are left of the limit after s steps
abbrev pub Due : (limit s b : ℕ) → Option MoveRequest → Trains → Type 0
Due limit s zero mk ts = Unit {0}
Due limit s (suc b) mk ts = (1 ≤ length ts) × (99840 * b + toil mk (first ts) + s ≤ limit + 64)

-- no object of G lies in a train of this rank or a later one, nor does a mark send one there
pub record GoingAt (G : ℕ → Type 0) (limit s : ℕ) (mk : Option MoveRequest) (ts : Trains) : Type 0 where
  pub rank : ℕ
  pub clean : Clean G rank ts
  pub marked : CleanMark G rank mk
  pub due : Due limit s rank mk ts

abbrev pub Going : (ℕ → Type 0) → (limit s : ℕ) → Model → Type 0
Going G limit s m = GoingAt G limit s m.mark m.trains

-- what a step does to a first train that has the toil n: it stays, with less, or it ends, with no mark
data Went (G : ℕ → Type 0) (b n : ℕ) (mk : Option MoveRequest) (ts : Trains) : Type 0 where
  stays : Clean G b ts → CleanMark G b mk → 1 ≤ length ts → suc (toil mk (first ts)) ≤ n → Went G b n mk ts
  ends : Clean G (pred b) ts → mk ≡ None → Went G b n mk ts

no_mark : (G : ℕ → Type 0) (b : ℕ) (mk : Option MoveRequest) → mk ≡ None → CleanMark G b mk
no_mark G b mk e w q = absurd (let z : ◌≡◌ {A = ℕ} 0 1 = cc in omega arith)

-- trimmed or not
settle : (G : ℕ → Type 0) (b n : ℕ) (mk : Option MoveRequest) (ts : Trains) → Clean G b ts → CleanMark G b mk → suc (toil mk (first ts)) ≤ n
    → (sum_by one (train_objects (first ts)) ≡ 0 → mk ≡ None) → Went G b n mk (trim ts)
settle G b n mk [] c k f u = ends tt (u refl)
settle G b n mk ([] ∷ ts) c k f u = ends (clean_tail G b [] ts c) (u refl)
settle G b n mk ((d ∷ ds) ∷ ts) c k f u = stays c k (omega arith) f

short_trim : (made : ℕ) (rs : Roots) (mk : Option MoveRequest) (ts : Trains) → SoundAt made rs (trim ts) mk → length (first ts) ≤ 63
short_trim made rs mk [] s = omega arith
short_trim made rs mk ([] ∷ ts) s = omega arith
short_trim made rs mk ((c ∷ cs) ∷ ts) s = short made rs (c ∷ cs) ts mk s

module _ (G : ℕ → Type 0) (M : ShapeTable) (b : ℕ) (m : Model) (apart : Apart G m) where
  went : (t : Train) (ts : Trains) → m.trains ≡ t ∷ ts → SoundAt m.made m.roots (t ∷ ts) m.mark → Clean G b (t ∷ ts) → CleanMark G b m.mark
      → Sound (step_on M (t ∷ ts) m).state → Went G b (toil m.mark t) (step_on M (t ∷ ts) m).state.mark (step_on M (t ∷ ts) m).state.trains
  went [] ts e s c k s' = absurd (omega (arith, s.standing.0))
  went (f ∷ cs) ts e s c k s' = go (first_to (train_objects (f ∷ cs)) (outside m.roots ((f ∷ cs) ∷ ts) ts)) refl s'
    where
      leads : AllByRecursion (Leads (Not G)) (objects ((f ∷ cs) ∷ ts))
      leads = subst (λ (us : Trains). AllByRecursion (Leads (Not G)) (objects us)) e apart.leads

      go : (w : Option MoveRequest) → first_to (train_objects (f ∷ cs)) (outside m.roots ((f ∷ cs) ∷ ts) ts) ≡ w → Sound (step_by M w (f ∷ cs) ts m).state
          → Went G b (toil m.mark (f ∷ cs)) (step_by M w (f ∷ cs) ts m).state.mark (step_by M w (f ∷ cs) ts m).state.trains
      go None q z = ends (clean_tail G b (f ∷ cs) ts c) refl
      go (Some w) q z =
          let row = (carried f cs ts m).taken in
          let R = place_all (f.number ∷ []) row (cs ∷ ts) in
          let mk = guard (mark_after f.objects m.mark) (out_of row) w in
          let led = first_some (Sent (Bound G b)) (train_objects (f ∷ cs)) (outside m.roots ((f ∷ cs) ∷ ts) ts) w q
          (outside_bound G b m.roots m.mark f cs ts apart.roots leads c k) in
          let counts = placed-count (f.number ∷ []) row cs ts in
          settle G b (toil m.mark (f ∷ cs)) mk R
          (clean_placed G b m.roots m.mark f cs ts apart.roots leads c k (f.number ∷ []))
          (mark_clean G b (out_of row) w f.objects m.mark led.2 k)
          (falls f cs ts m s w q (first R) (short_trim m.made m.roots mk R z) counts (λ x. placed-spot x (f.number ∷ []) row cs ts))
          (λ n. unmarked f cs ts m s w q (omega (arith, n, counts)))

-- the count goes on
after_step : (G : ℕ → Type 0) (limit s b n made : ℕ) (rs : Roots) (mk : Option MoveRequest) (ts : Trains) → SoundAt made rs ts mk → Went G b n mk ts
    → ((c : ℕ) → b ≡ suc c → 99840 * c + n + s ≤ limit + 64) → 65 ≤ n → GoingAt G limit (1 + s) mk ts
after_step G limit s zero n made rs mk ts z (stays c k l f) owed low = record { rank = 0; clean = c; marked = k; due = tt }
after_step G limit s (suc b) n made rs mk ts z (stays c k l f) owed low = record { rank = suc b; clean = c; marked = k; due = (l, omega (arith, owed b refl, f)) }
after_step G limit s zero n made rs mk ts z (ends c e) owed low = record { rank = 0; clean = c; marked = no_mark G 0 mk e; due = tt }
after_step G limit s (suc zero) n made rs mk ts z (ends c e) owed low = record { rank = 0; clean = c; marked = no_mark G 0 mk e; due = tt }
after_step G limit s (suc (suc b)) n made rs mk [] z (ends c e) owed low = record { rank = 0; clean = tt; marked = no_mark G 0 mk e; due = tt }
after_step G limit s (suc (suc b)) n made rs mk (t ∷ ts) z (ends c e) owed low = record {
  rank = suc b;
  clean = c;
  marked = no_mark G (suc b) mk e;
  due = (omega arith, omega (arith, owed (suc b) refl, toil_high made rs t ts mk z, low));
}

due_owed : (limit s b : ℕ) (mk : Option MoveRequest) (t : Train) (ts : Trains) → Due limit s b mk (t ∷ ts) → (c : ℕ) → b ≡ suc c → 99840 * c + toil mk t + s ≤ limit + 64
due_owed limit s zero mk t ts d c e = absurd (omega (arith, e))
due_owed limit s (suc b) mk t ts d c e = let q : b ≡ c = omega arith in subst (λ (n : ℕ). 99840 * n + toil mk t + s ≤ limit + 64) q d.1

module _ (G : ℕ → Type 0) (limit s : ℕ) where
  going_step : (M : ShapeTable) (m : Model) → Apart G m → Sound m → (ts : Trains) → m.trains ≡ ts → Sound (step_on M ts m).state → Going G limit s m
      → Going G limit (1 + s) (step_on M ts m).state
  going_step M m a z [] e z' g = record { rank = g.rank; clean = g.clean; marked = g.marked; due = idle g.rank g.due }
    where
      idle : (b : ℕ) → Due limit s b m.mark m.trains → Due limit (1 + s) b m.mark m.trains
      idle zero d = tt
      idle (suc b) d = absurd (omega (arith, d.0, ap {A = Trains} length e))
  going_step M m a z (t ∷ ts) e z' g =
      let n = (step_on M (t ∷ ts) m).state in
      let s' : SoundAt m.made m.roots (t ∷ ts) m.mark = subst (λ (us : Trains). SoundAt m.made m.roots us m.mark) e z in
      let c : Clean G g.rank (t ∷ ts) = subst (Clean G g.rank) e g.clean in
      let d : Due limit s g.rank m.mark (t ∷ ts) = subst (Due limit s g.rank m.mark) e g.due in
      after_step G limit s g.rank (toil m.mark t) n.made n.roots n.mark n.trains z'
      (went G M g.rank m a t ts e s' c g.marked z')
      (due_owed limit s g.rank m.mark t ts d)
      (toil_low m.made m.roots t ts m.mark s')

  due_alter : (b x : ℕ) (f : Body → Body) (mk : Option MoveRequest) (ts : Trains) → Due limit s b mk ts → Due limit s b mk (alter x f ts)
  due_alter zero x f mk ts d = tt
  due_alter (suc b) x f mk [] d = d
  due_alter (suc b) x f mk (t ∷ ts) d = (omega arith, omega (arith, d.1, toil-alter x f mk t))

  due_with : (b : ℕ) (m : Model) (e : Effect) → Due limit s b m.mark m.trains → Due limit s b (space_with e m).mark (space_with e m).trains
  due_with b m leave d = d
  due_with b m (hold r v) d = d
  due_with b m (point x i v) d = due_alter b x (with_ref i v) m.mark m.trains d
  due_with b m (store x w v) d = due_alter b x (with_value w v) m.mark m.trains d

  same_mark : (m : Model) (e : Effect) → (space_with e m).mark ≡ m.mark
  same_mark m leave = refl
  same_mark m (hold r v) = refl
  same_mark m (point x i v) = refl
  same_mark m (store x w v) = refl

  going_with : (m : Model) (e : Effect) → Going G limit s m → Going G limit s (space_with e m)
  going_with m e g = record {
    rank = g.rank;
    clean = clean_with G g.rank m e g.clean;
    marked = subst (CleanMark G g.rank) (sym (same_mark m e)) g.marked;
    due = due_with g.rank m e g.due;
  }

  -- a new object goes behind the first train, if one stands
  place-behind : (k n : ℕ) (o : Obj) (t : Train) (ts : Trains) (mk : Option MoveRequest) → 1 ≤ k → (toil mk (first (place_at k n o (t ∷ ts))) ≡ toil mk t) × (1 ≤ length (place_at k n o (t ∷ ts)))
  place-behind zero n o t ts mk h = absurd (omega (arith, h))
  place-behind (suc k) n o t ts mk h = (refl, omega arith)

  due_place : (b n : ℕ) (o : Obj) (mk : Option MoveRequest) (ts : Trains) → length ts ≤ 8 → Due limit s b mk ts → Due limit s b mk (place_at (arrival ts) n o ts)
  due_place zero n o mk ts l d = tt
  due_place (suc b) n o mk [] l d = absurd (omega (arith, d.0))
  due_place (suc b) n o mk (t ∷ ts) l d =
      let k = place-behind (arrival (t ∷ ts)) n o t ts mk ((arrival_below (t ∷ ts) l).2 (omega arith)) in
      (k.1, omega (arith, k.0, d.1))

  going_made : (d : Body) (r : ℕ) (m : Model) → Apart G m → Sound m → Going G limit s m → Going G limit s (made_by d r m)
  going_made d r m a z g = record {
    rank = g.rank;
    clean = clean_made G d g.rank r m a g.clean;
    marked = g.marked;
    due = due_place g.rank (lowest_free (numbers m.trains)) (record { id = m.made; body = d }) m.mark m.trains z.few g.due;
  }

  pub going_act : (M : ShapeTable) (c : Call) (m : Model) → Apart G m → Sound m → Sound (act M c m).state → Going G limit s m → Going G limit (cond (is_step c) 1 0 + s) (act M c m).state
  going_act M (Make r k a b) m p z z' g =
      let e : s ≡ 0 + s = omega arith in
      subst (λ (n : ℕ). Going G limit n (act M (Make r k a b) m).state) e
      (make_cases (λ o. Going G limit s o.state) (is_root r) (new_body M (shape_of k a b)) (λ x. not (has_room x m)) m (λ x. made_by x r m)
      (λ n. g) (λ x is room. going_made x r m p z g))
  going_act M (Access c) m p z z' g =
      let e : s ≡ 0 + s = omega arith in
      subst (λ (n : ℕ). Going G limit n (act M (Access c) m).state) e (going_with m (response (inside (all_objects m)) m.roots c).effect g)
  going_act M Step m p z z' g = going_step M m p z m.trains refl z' g
  going_act M Tally m p z z' g = let e : s ≡ 0 + s = omega arith in subst (λ (n : ℕ). Going G limit n m) e g

  -- with so many steps nothing is owed any more
  pub ended : (made : ℕ) (rs : Roots) (mk : Option MoveRequest) (ts : Trains) → SoundAt made rs ts mk → limit ≤ s → GoingAt G limit s mk ts → Clean G 0 ts
  ended made rs mk ts z l g = go g.rank ts z g.clean g.due
    where
      go : (b : ℕ) (ts : Trains) → SoundAt made rs ts mk → Clean G b ts → Due limit s b mk ts → Clean G 0 ts
      go zero ts z c d = c
      go (suc b) [] z c d = tt
      go (suc b) (t ∷ ts) z c d = absurd (omega (arith, l, d.1, toil_low made rs t ts mk z))
