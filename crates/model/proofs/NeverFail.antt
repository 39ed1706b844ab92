-- A step always finds a free car and copies little, and nothing that is held is lost.
use Rattle.std.proofs.Common.{◌≡◌, ℕ, ◌<◌, ◌≤◌, [], ◌∷◌, ◌++◌, take, get_or, Some, None, Option, sym, refl, subst, arith, eqb}
use Rattle.std.specs.List.{IsDistinct, AllByRecursion}
use Rattle.layout.specs.ShapeTable.{ShapeTable, Lawful}
use Rattle.remembered.specs.Updates.{Pairs}
use Rattle.calls.specs.declared.call.Call.{Call}
use Rattle.calls.specs.declared.call.Call.TheVariants.{Make, Access, Step, Tally}
use Rattle.model.specs.Calls.{History}
use Rattle.model.specs.Trains.{Car, Train, Trains, train_objects, objects, words_of, obj_size, times, car_words}
use Rattle.model.specs.Claims.{MoveRequest}
use Rattle.model.specs.Step.{first_to, outside, requests, place_all}
use Rattle.model.specs.Space.{Model, all_objects, carried, step_by, step_on, act, space_of, Use}
use Rattle.model.specs.Laws.{CarsApart, FreeCar, moment, CopiesFew, CopiesFewIfStep, CopiesFewEach, StepsNeverFail}
use Rattle.model.specs.Sound.{Sized, Filled, SoundAt}
use Rattle.model.proofs.Alls.{all_left, all_take, claims_all, claimed_all_take}
use Rattle.model.proofs.Cars.{filled_tail, total-take, few_cars, free_car, free_at_moment, copied_few}
use Rattle.model.proofs.Outside.{claims_below, requests_below}
use Rattle.model.proofs.Keeps.{inside_body, sound_of}
use Rattle.model.proofs.Remember.{place_all-numbered, numbered_at}
use Rattle.model.proofs.RememberCars.{cars_in_row, Numbered, row_numbers}
use Rattle.model.proofs.Totals.{claims-total, sums}
use Rattle.model.proofs.Distinct.{distinct_nil}
use Rattle.model.proofs.Sim.{reached_lies}

first_filled : (f : Car) (cs : Train) → Filled (f ∷ cs) → words_of f.objects ≤ car_words
first_filled f [] h = h.1
first_filled f (d ∷ cs) h = h.1

moments : (m : Model) (ts : Trains) → SoundAt m.made m.roots ts m.mark → (n : ℕ) → FreeCar (moment n m ts)
moments m [] s n = free_car [] (omega arith)
moments m ([] ∷ ts) s n = absurd (omega (arith, s.standing.0))
moments m ((f ∷ cs) ∷ ts) s n =
    free_at_moment f cs ts m s.filled s.room s.few (all_left Sized f.objects (train_objects cs) (all_left Sized (f.objects ++ train_objects cs) (objects ts) s.sized))
    (claims_below (requests m.roots m.mark f cs ts) f.objects (requests_below m.roots m.mark f cs ts s.few s.mark)) n

-- each car has a number of its own at each moment of a step
moments_apart : (m : Model) (ts : Trains) → SoundAt m.made m.roots ts m.mark → Numbered (cars_in_row ts) → (n : ℕ) → CarsApart (moment n m ts)
moments_apart m [] s k n = record { below = tt; differ = distinct_nil }
moments_apart m ([] ∷ ts) s k n = absurd (omega (arith, s.standing.0))
moments_apart m ((f ∷ cs) ∷ ts) s k n =
    let W = requests m.roots m.mark f cs ts in
    let row = (carried f cs ts m).taken in
    let sizes = (claims_all Sized W f.objects (all_left Sized f.objects (train_objects cs) (all_left Sized (f.objects ++ train_objects cs) (objects ts) s.sized))).0 in
    let below = claims_below W f.objects (requests_below m.roots m.mark f cs ts s.few s.mark) in
    let R = place_all (f.number ∷ []) (take n row) (cs ∷ ts) in
    let num = place_all-numbered f (take n row) (cs ∷ ts) (filled_tail f cs s.filled.0, s.filled.1)
    (omega (arith, sums, s.room, claims-total obj_size W f.objects, total-take obj_size n row))
    s.few (claimed_all_take Sized n row sizes) (all_take _ n row below) k in
    record {
      below = subst (λ ns. AllByRecursion (λ z. z < 64) (f.number ∷ ns)) (row_numbers R) num.0;
      differ = subst (λ ns. IsDistinct eqb (f.number ∷ ns)) (row_numbers R) num.1;
    }

step_copies : (M : ShapeTable) (P : Pairs) (ts : Trains) (m : Model) → SoundAt m.made m.roots ts m.mark → CopiesFew ((step_on M ts m).reply P)
step_copies M P [] m s = (_, (refl, omega arith))
step_copies M P ([] ∷ ts) m s = absurd (omega (arith, s.standing.0))
step_copies M P ((f ∷ cs) ∷ ts) m s = go (first_to (train_objects (f ∷ cs)) (outside m.roots ((f ∷ cs) ∷ ts) ts))
  where
    go : (w : Option MoveRequest) → CopiesFew ((step_by M w (f ∷ cs) ts m).reply P)
    go None = (_, (refl, omega arith))
    go (Some w) = (_, (refl, copied_few f (requests m.roots m.mark f cs ts) (first_filled f cs s.filled.0)))

module _ (M : ShapeTable) (law : Lawful M) where
  copies_of : (h : History) → Use M h → CopiesFewEach h
  copies_of [] u = tt
  copies_of (e ∷ h) u = (go e.call u.0, copies_of h u.1)
    where
      go : (c : Call) → e.reply ≡ (act M c (space_of M h)).reply e.pairs → CopiesFewIfStep c e.reply
      go (Make r k a b) q = tt
      go (Access c) q = tt
      go Step q = subst CopiesFew (sym q) (step_copies M e.pairs (space_of M h).trains (space_of M h) (sound_of M law h))
      go Tally q = tt

pub never_fail_law : StepsNeverFail
never_fail_law M law h u =
    let m = space_of M h in
    let s = sound_of M law h in
    let few = few_cars m.trains s.filled s.room s.few in
    let num = numbered_at M law h in
    record {
      stands = s;
      apart = record { below = subst (AllByRecursion (λ z. z < 64)) (row_numbers m.trains) num.0; differ = subst (IsDistinct eqb) (row_numbers m.trains) num.1 };
      apart_in_a_step = moments_apart m m.trains s num;
      free = free_car m.trains (omega (arith, few));
      free_in_a_step = moments m m.trains s;
      copies = copies_of M law h u;
      nothing_lost = λ x p. omega (arith, s.once x, reached_lies m s x p);
      nothing_dangles = λ x y i b f e.
          let l = inside_body (λ d. (i y : ℕ) → get_or d.refs i None ≡ Some y → 1 ≤ times y (all_objects m)) (all_objects m) x b s.refs f i y e in
          omega (arith, s.once y, l);
    }
