-- The first train ends: a number of it falls with each step, and no other call lets it grow.
use Rattle.std.proofs.Common.{◌==◌, ◌≡◌, ℕ, zero, suc, ◌+◌, ◌*◌, ◌≤◌, Bool, true, false, cond, ltb, List, [], ◌∷◌, ◌++◌, length, Some, None, Option, sym, refl, ap, ◌∙◌, subst, inl, inr, arith, sum_by, not}
use Rattle.std.proofs.lemmas.Bool.{lt-ltb, ltb-true, ltb-false, ne_eqb, cases_lt}
use Rattle.std.specs.List.{AllByRecursion}
use Rattle.model.specs.Bodies.{Body, Roots}
use Rattle.model.specs.Trains.{Obj, Car, Train, Trains, train_objects, objects, words_of, place, place_at, fits, with_object, opened, numbers, lowest_free, times, among, alter_train}
use Rattle.model.specs.Claims.{MoveRequest, Claim}
use Rattle.model.specs.Step.{first_to, outside, requests, place_all, out_of, back_of, claimed, mark_after, guard}
use Rattle.model.specs.Space.{Model, carried}
use Rattle.model.proofs.Totals.{claims-total, place-total, is, sums}
use Rattle.model.specs.Sound.{Sized, Filled, SoundAt}
use Rattle.model.proofs.Alls.{all_left}
use Rattle.model.proofs.Closure.{Requested}
use Rattle.model.proofs.Alters.{alter-times, train_alter, alter-total}
use Rattle.model.proofs.Outside.{Sends, first_some, outside_ranks, outside-away, mark_away, away}
use Rattle.model.proofs.Keeps.{leaves, is_few}
use Rattle.model.proofs.Cars.{train_by_words}

abbrev pub one : Obj → ℕ
one o = 1

abbrev pub first : Trains → Train
first [] = []
first (t ∷ ts) = t

-- the place of the first car that has the object x
abbrev pub spot : ℕ → Train → ℕ
spot x [] = 0
spot x (c ∷ cs) = cond (among x c.objects) 0 (suc (spot x cs))

abbrev pub mark_spot : Option MoveRequest → Train → ℕ
mark_spot None t = 64
mark_spot (Some w) t = spot w.who t

-- it falls with each step: 65 for each object, and the place of the marked one, which is below 65
abbrev pub toil : Option MoveRequest → Train → ℕ
toil mk t = 65 * sum_by one (train_objects t) + mark_spot mk t

spot_short : (x : ℕ) (t : Train) → spot x t ≤ length t
spot_short x [] = omega arith
spot_short x (c ∷ cs) = go (spot_short x cs) (among x c.objects)
  where
    go : spot x cs ≤ length cs → (b : Bool) → cond b 0 (suc (spot x cs)) ≤ length (c ∷ cs)
    go h true = omega arith
    go h false = omega arith

sized_two : (os : List Obj) → AllByRecursion Sized os → 2 * sum_by one os ≤ words_of os
sized_two [] h = omega arith
sized_two (o ∷ os) h = omega (arith, sums, sized_two os h.1, h.0.0)

words_some : (os : List Obj) → 1 ≤ words_of os → 1 ≤ sum_by one os
words_some [] h = omega (arith, h)
words_some (o ∷ os) h = omega (arith, sums)

filled_some : (t : Train) → 1 ≤ length t → Filled t → 1 ≤ sum_by one (train_objects t)
filled_some [] l h = absurd (omega (arith, l))
filled_some (c ∷ []) l h = omega (arith, sums, words_some c.objects h.0)
filled_some (c ∷ d ∷ cs) l h =
    let w : 1 ≤ words_of c.objects = omega (arith, h.0) in
    omega (arith, sums, words_some c.objects w)

mark_spot_few : (mk : Option MoveRequest) (t : Train) → length t ≤ 63 → mark_spot mk t ≤ 64
mark_spot_few None t h = omega arith
mark_spot_few (Some w) t h = omega (arith, spot_short w.who t)

module _ (made : ℕ) (rs : Roots) (t : Train) (ts : Trains) (mk : Option MoveRequest) (s : SoundAt made rs (t ∷ ts) mk) where
  pub short : length t ≤ 63
  short = omega (arith, sums, train_by_words t s.filled.0, s.room)

  pub toil_low : 65 ≤ toil mk t
  toil_low = omega (arith, filled_some t s.standing.0 s.filled.0)

  pub toil_high : toil mk t ≤ 99904
  toil_high =
      omega (arith, sums, sized_two (train_objects t) (all_left Sized (train_objects t) (objects ts) s.sized), s.room, mark_spot_few mk t short)

-- a car that has the object
among_some : (x : ℕ) (os : List Obj) → 1 ≤ times x os → among x os ≡ true
among_some x os h = lt-ltb 0 (times x os) h

among_none : (x : ℕ) (os : List Obj) → among x os ≡ false → times x os ≡ 0
among_none x os e = omega (arith, ltb-false 0 (times x os) e)

spot_here : (x : ℕ) (c : Car) (cs : Train) → 1 ≤ times x c.objects → spot x (c ∷ cs) ≡ 0
spot_here x c cs h = ap (λ (b : Bool). cond b 0 (suc (spot x cs))) (among_some x c.objects h)

spot-place : (x n : ℕ) (o : Obj) (t : Train) → 1 ≤ times x (train_objects t) → spot x (place n o t) ≤ spot x t
spot-place x n o [] h = absurd (omega (arith, h))
spot-place x n o (c ∷ []) h = go (fits c o)
  where
    here : 1 ≤ times x c.objects
    here = omega (arith, sums, h)

    go : (b : Bool) → spot x (cond b (with_object o c ∷ []) (c ∷ opened n o ∷ [])) ≤ spot x (c ∷ [])
    go true =
        let more : 1 ≤ times x (c.objects ++ (o ∷ [])) = omega (arith, sums, here) in
        omega (arith, spot_here x (with_object o c) [] more)
    go false = omega (arith, spot_here x c (opened n o ∷ []) here)
spot-place x n o (c ∷ d ∷ cs) h = go (spot-place x n o (d ∷ cs)) (among x c.objects) refl
  where
    go : (1 ≤ times x (train_objects (d ∷ cs)) → spot x (place n o (d ∷ cs)) ≤ spot x (d ∷ cs)) → (b : Bool) → among x c.objects ≡ b
        → cond b 0 (suc (spot x (place n o (d ∷ cs)))) ≤ cond b 0 (suc (spot x (d ∷ cs)))
    go more true e = omega arith
    go more false e =
        let rest : 1 ≤ times x (train_objects (d ∷ cs)) = omega (arith, sums, h, among_none x c.objects e) in
        omega (arith, more rest)

-- the first train while the claims are placed: it grows by those that go back
pub placed-count : (busy : List ℕ) (row : List Claim) (t : Train) (ts : Trains)
    → sum_by one (train_objects (first (place_all busy row (t ∷ ts)))) ≡ sum_by one (train_objects t) + back_of row
placed-count busy [] t ts = omega arith
placed-count busy (c ∷ row) t ts = omega (arith, sums, go (placed-count busy row) (lowest_free (busy ++ numbers (t ∷ ts))) c.rank)
  where
    go : ((t : Train) (ts : Trains) → sum_by one (train_objects (first (place_all busy row (t ∷ ts)))) ≡ sum_by one (train_objects t) + back_of row)
        → (n k : ℕ) → sum_by one (train_objects (first (place_all busy row (place_at k n c.object (t ∷ ts))))) ≡ sum_by one (train_objects t) + (cond (k == 0) 1 0 + back_of row)
    go more n zero = omega (arith, more (place n c.object t) ts, place-total one n c.object t)
    go more n (suc k) =
        let z : ◌≡◌ {A = ℕ} (cond (suc k == 0) 1 0) 0 = ap (λ (b : Bool). cond b 1 0) (ne_eqb (suc k) 0 (λ e. omega (arith, e))) in
        omega (arith, more t (place_at k n c.object ts), z)

pub placed-spot : (x : ℕ) (busy : List ℕ) (row : List Claim) (t : Train) (ts : Trains) → 1 ≤ times x (train_objects t)
    → spot x (first (place_all busy row (t ∷ ts))) ≤ spot x t
placed-spot x busy [] t ts h = omega arith
placed-spot x busy (c ∷ row) t ts h = go (placed-spot x busy row) (lowest_free (busy ++ numbers (t ∷ ts))) c.rank
  where
    go : ((t : Train) (ts : Trains) → 1 ≤ times x (train_objects t) → spot x (first (place_all busy row (t ∷ ts))) ≤ spot x t)
        → (n k : ℕ) → spot x (first (place_all busy row (place_at k n c.object (t ∷ ts)))) ≤ spot x t
    go more n zero =
        let still : 1 ≤ times x (train_objects (place n c.object t)) = omega (arith, h, place-total (is x) n c.object t) in
        omega (arith, more (place n c.object t) ts still, spot-place x n c.object t h)
    go more n (suc k) = more t (place_at k n c.object ts) h

one_of_both : (b : Bool) → cond (not b) 1 0 + cond b 1 0 ≡ 1
one_of_both true = refl
one_of_both false = refl

out_back : (row : List Claim) → out_of row + back_of row ≡ sum_by one (claimed row)
out_back [] = refl
out_back (c ∷ row) = omega (arith, sums, one_of_both (c.rank == 0), out_back row)

times_few : (x : ℕ) (os : List Obj) → times x os ≤ sum_by one os
times_few x [] = omega arith
times_few x (o ∷ os) = omega (arith, sums, is_few x o, times_few x os)

guard_none : (n : ℕ) (w : MoveRequest) → 1 ≤ n → guard None n w ≡ None
guard_none zero w h = absurd (omega (arith, h))
guard_none (suc n) w h = refl

guard_new : (n : ℕ) (w : MoveRequest) → n ≡ 0 → guard None n w ≡ Some w
guard_new zero w h = refl
guard_new (suc n) w h = absurd (omega (arith, h))

module _ (f : Car) (cs : Train) (ts : Trains) (m : Model) (s : SoundAt m.made m.roots ((f ∷ cs) ∷ ts) m.mark)
    (w : MoveRequest) (led : first_to (train_objects (f ∷ cs)) (outside m.roots ((f ∷ cs) ∷ ts) ts) ≡ Some w) where
  mark_leaves : (u : MoveRequest) → m.mark ≡ Some u → 1 ≤ times u.who f.objects → 1 ≤ out_of (carried f cs ts m).taken
  mark_leaves u e l = leaves f cs ts m s u.who (subst (λ (mk : Option MoveRequest). Requested u.who (away m.roots mk f cs ts)) (sym e) (mark_away m.roots u f cs ts)) l

  car_count-is : sum_by one (train_objects (f ∷ cs)) ≡ sum_by one (train_objects cs) + (back_of (carried f cs ts m).taken + (out_of (carried f cs ts m).taken + sum_by one (carried f cs ts m).left))
  car_count-is =
      omega (arith, sums, claims-total one (requests m.roots m.mark f cs ts) f.objects, out_back (carried f cs ts m).taken)

  module _ (t : Train) (few : length t ≤ 63) (count : sum_by one (train_objects t) ≡ sum_by one (train_objects cs) + back_of (carried f cs ts m).taken)
      (spots : (x : ℕ) → 1 ≤ times x (train_objects cs) → spot x t ≤ spot x cs) where
    -- nothing was carried out or lost: the mark comes nearer
    nearer : (mk : Option MoveRequest) → m.mark ≡ mk → out_of (carried f cs ts m).taken ≡ 0
        → suc (mark_spot (guard (mark_after f.objects mk) (out_of (carried f cs ts m).taken) w) t) ≤ mark_spot mk (f ∷ cs)
    nearer None e z =
        subst (λ (k : Option MoveRequest). suc (mark_spot k t) ≤ 64) (sym (guard_new (out_of (carried f cs ts m).taken) w z)) (omega (arith, spot_short w.who t))
    nearer (Some u) e z = go (among u.who f.objects) refl
      where
        go : (b : Bool) → among u.who f.objects ≡ b
            → suc (mark_spot (guard (cond b None (Some u)) (out_of (carried f cs ts m).taken) w) t) ≤ cond b 0 (suc (spot u.who cs))
        go true q = absurd (omega (arith, z, mark_leaves u e (ltb-true 0 (times u.who f.objects) q)))
        go false q =
            let there : 1 ≤ times u.who (train_objects cs) = omega (arith, sums, (s.mark u e).lies, among_none u.who f.objects q) in
            omega (arith, spots u.who there)

    pub falls : suc (toil (guard (mark_after f.objects m.mark) (out_of (carried f cs ts m).taken) w) t) ≤ toil m.mark (f ∷ cs)
    falls = elim (cases_lt 0 (out_of (carried f cs ts m).taken + sum_by one (carried f cs ts m).left)) [
      | inl some ↦ omega (arith, some, count, car_count-is, mark_spot_few (guard (mark_after f.objects m.mark) (out_of (carried f cs ts m).taken) w) t few)
      | inr none ↦ let z : out_of (carried f cs ts m).taken ≡ 0 = omega arith in omega (arith, none, count, car_count-is, nearer m.mark refl z)
    ]

  -- if the first train has no other objects, no mark stands after
  pub unmarked : sum_by one (train_objects cs) ≡ 0 → guard (mark_after f.objects m.mark) (out_of (carried f cs ts m).taken) w ≡ None
  unmarked z = go m.mark refl
    where
      in_car : (x : ℕ) → 1 ≤ times x (train_objects (f ∷ cs)) → 1 ≤ times x f.objects
      in_car x h = omega (arith, sums, h, z, times_few x (train_objects cs))

      go : (mk : Option MoveRequest) → m.mark ≡ mk → guard (mark_after f.objects mk) (out_of (carried f cs ts m).taken) w ≡ None
      go None e =
          let k = first_some (λ v. Sends ((f ∷ cs) ∷ ts) v.rank) (train_objects (f ∷ cs)) (outside m.roots ((f ∷ cs) ∷ ts) ts) w led (outside_ranks m.roots (f ∷ cs) ts s.few) in
          guard_none (out_of (carried f cs ts m).taken) w (leaves f cs ts m s w.who (outside-away m.roots m.mark f cs ts w.who k.1) (in_car w.who k.0))
      go (Some u) e =
          let l = in_car u.who (s.mark u e).lies in
          subst (λ (b : Bool). guard (cond b None (Some u)) (out_of (carried f cs ts m).taken) w ≡ None) (sym (among_some u.who f.objects l))
          (guard_none (out_of (carried f cs ts m).taken) w (mark_leaves u e l))

-- altering a body changes neither number
module _ (y : ℕ) (g : Body → Body) where
  pub count-alter : (t : Train) → sum_by one (train_objects (alter_train y g t)) ≡ sum_by one (train_objects t)
  count-alter t = ap (sum_by one) (train_alter y g t) ∙ alter-total y g one (λ o. refl) (train_objects t)

  pub spot-alter : (x : ℕ) (t : Train) → spot x (alter_train y g t) ≡ spot x t
  spot-alter x [] = refl
  spot-alter x (c ∷ cs) =
      ap (λ (n : ℕ). cond (ltb 0 n) 0 (suc (spot x (alter_train y g cs)))) (alter-times y g x c.objects)
      ∙ ap (λ (n : ℕ). cond (among x c.objects) 0 (suc n)) (spot-alter x cs)

  pub toil-alter : (mk : Option MoveRequest) (t : Train) → toil mk (alter_train y g t) ≡ toil mk t
  toil-alter None t = omega (arith, count-alter t)
  toil-alter (Some w) t = omega (arith, count-alter t, spot-alter w.who t)
