-- The space: roots, trains and the mark, what each call makes of them, what it tells the remembered set, and its reply.
use Rattle.std.specs.Prelude.{◌≡◌, ℕ, suc, ◌+◌, Bool, List, [], ◌∷◌, length, replicate, Some, None, Option, nat_le, slice_set, map, sum_by, is_some, not}
use Rattle.calls.specs.declared.call.Call.{Call}
use Rattle.calls.specs.declared.call.Call.TheVariants.{Make, Access, Step, Tally}
use Rattle.calls.specs.declared.answer.Answer.TheVariants.{Tally as Used, Step as Stepped}
use Rattle.calls.specs.declared.answer.StepKind.TheVariants.{Idle as idle, Train as train, Car as car}
use Rattle.calls.specs.declared.answer.Report.{Report}
use Rattle.layout.specs.ShapeTable.{ShapeTable}
use Rattle.remembered.specs.declared.Update.{Update}
use Rattle.remembered.specs.declared.Update.TheVariants.{Forget}
use Rattle.remembered.specs.Updates.{Pairs, Updates, pairs_of}
use Rattle.model.specs.Calls.{Reply, answered, History, AtEach}
use Rattle.model.specs.Bodies.{Body, Roots, shape_of, new_body, size, with_ref, with_value, root_count, is_root, Effect, leave, hold, point, store, response, make_outcome}
use Rattle.model.specs.Trains.{Obj, Car, Train, Trains, train_objects, objects, words_in_use, cars_in_use, car_numbers, numbers, lowest_free, place_at, arrival, inside, alter, capacity}
use Rattle.model.specs.Claims.{MoveRequest, claims, Taken, Claim}
use Rattle.model.specs.Step.{first_to, outside, requests, placing, trim, out_of, back_of, claimed, copied_of, mark_after, guard}
use Rattle.model.specs.Notes.{slots, notes, notes_of_carried, is_slot, tell}

pub record Model : Type 0 where
  -- how many objects were made; the next one's identity
  pub made : ℕ
  pub roots : Roots
  pub trains : Trains
  pub mark : Option MoveRequest

abbrev pub opening : Model
opening = record { made = 0; roots = replicate root_count None; trains = []; mark = None }

abbrev pub all_objects : Model → List Obj
all_objects m = objects m.trains

-- a new object lies at the arrival rank, and the root holds it
abbrev pub made_by : Body → ℕ → Model → Model
made_by b r m = record {
  made = suc m.made;
  roots = slice_set m.roots r (Some m.made);
  trains = place_at (arrival m.trains) (lowest_free (numbers m.trains)) (record { id = m.made; body = b }) m.trains;
  mark = m.mark;
}

abbrev pub has_room : Body → Model → Bool
has_room b m = nat_le (words_in_use m.trains + size b) capacity

abbrev pub with_trains : Trains → Model → Model
with_trains ts m = record { made = m.made; roots = m.roots; trains = ts; mark = m.mark }

abbrev pub space_with : Effect → Model → Model
space_with leave m = m
space_with (hold r h) m = record { made = m.made; roots = slice_set m.roots r h; trains = m.trains; mark = m.mark }
space_with (point x i h) m = with_trains (alter x (with_ref i h) m.trains) m
space_with (store x w v) m = with_trains (alter x (with_value w v) m.trains) m

-- a reference that was set is noted if its car is later than that of the object it now holds
abbrev pub noted_by : ShapeTable → Effect → Trains → List Update
noted_by M leave after = []
noted_by M (hold r h) after = []
noted_by M (point x i h) after = notes after (is_slot x i) (slots M 0 after)
noted_by M (store x w v) after = []

-- what a call does: the space after it, what the remembered set is told, in order, and the reply, which may rest on the pairs
-- that the set had as the call began
pub record Acted : Type 0 where
  pub state : Model
  pub updates : List Update
  pub reply : Pairs → Reply

-- a call that tells the set nothing and does not ask it
abbrev pub replied : Model → Reply → Acted
replied m p = record { state = m; updates = []; reply = λ P. p }

-- how many pairs there are for the cars of a train
abbrev pub looked : Pairs → Train → ℕ
looked P t = sum_by (λ c. pairs_of P c.number) t

abbrev pub reported : Report → Reply
reported r = answered (Stepped r)

abbrev pub nothing_done : Report
nothing_done = record { kind = idle; out = 0; back = 0; copied = 0; lost = 0; looked = 0; cars = 0 }

-- where no reference comes from outside, the first train goes with all its cars, and the mark with it
abbrev pub free_train : Train → Trains → Model → Acted
free_train t ts m = record {
  state = record { made = m.made; roots = m.roots; trains = ts; mark = None };
  updates = map Forget (car_numbers t);
  reply = λ P. reported (record { kind = train; out = 0; back = 0; copied = 0; lost = length (train_objects t); looked = looked P t; cars = length t });
}

-- what is carried out of the first car
abbrev pub carried : Car → Train → Trains → Model → Taken Claim
carried f cs ts m = claims (requests m.roots m.mark f cs ts) f.objects

-- the trains once it was placed and the first car is freed
abbrev pub trains_after : Car → Train → Trains → Model → Trains
trains_after f cs ts m = trim (placing f (carried f cs ts m).taken (cs ∷ ts))

-- otherwise the first car's objects are carried out, each once, and the car is freed; w is the first outside reference
abbrev pub free_car : ShapeTable → MoveRequest → Car → Train → Trains → Model → Acted
free_car M w f cs ts m =
    let c = carried f cs ts m in
    let after = trains_after f cs ts m in
    record {
      state = record {
        made = m.made;
        roots = m.roots;
        trains = after;
        mark = guard (mark_after f.objects m.mark) (out_of c.taken) w;
      };
      updates = Forget f.number ∷ notes_of_carried after (claimed c.taken) (slots M 0 after);
      reply = λ P. reported (record {
        kind = car;
        out = out_of c.taken;
        back = back_of c.taken;
        copied = copied_of c.taken;
        lost = length c.left;
        looked = looked P (f ∷ cs);
        cars = 1;
      });
    }

-- a train has a car; one without is passed over as if it were freed
abbrev pub step_by : ShapeTable → Option MoveRequest → Train → Trains → Model → Acted
step_by M None t ts m = free_train t ts m
step_by M (Some w) [] ts m = free_train [] ts m
step_by M (Some w) (f ∷ cs) ts m = free_car M w f cs ts m

abbrev pub step_on : ShapeTable → Trains → Model → Acted
step_on M [] m = replied m (reported nothing_done)
step_on M (t ∷ ts) m = step_by M (first_to (train_objects t) (outside m.roots (t ∷ ts) ts)) t ts m

-- what each call does
abbrev pub act : ShapeTable → Call → Model → Acted
act M (Make r k a b) m =
    let o = make_outcome (is_root r) (new_body M (shape_of k a b)) (λ x. not (has_room x m)) m (λ x. made_by x r m) in
    replied o.state o.reply
act M (Access c) m =
    let p = response (inside (all_objects m)) m.roots c in
    let after = space_with p.effect m in
    record { state = after; updates = noted_by M p.effect after.trains; reply = λ P. p.reply }
act M Step m = step_on M m.trains m
act M Tally m =
    replied m (answered (Used (record { words = words_in_use m.trains; cars = cars_in_use m.trains; trains = length m.trains; mark = is_some m.mark })))

-- the space after a history, whatever the remembered set
abbrev pub space_of : ShapeTable → History → Model
space_of M [] = opening
space_of M (e ∷ h) = (act M e.call (space_of M h)).state

-- what the remembered set was told
abbrev pub updates_of : ShapeTable → History → Updates
updates_of M [] = []
updates_of M (e ∷ h) = tell (act M e.call (space_of M h)).updates (updates_of M h)

-- a history is a use if each reply is the one that the space gives with the pairs that the set had
abbrev pub Use : ShapeTable → History → Type 0
Use M history = AtEach (λ e h. e.reply ≡ (act M e.call (space_of M h)).reply e.pairs) history
