-- The mark at the end of a step, by the address of its object.
use Rattle.std.specs.Prelude.{◌≡◌, ℕ, zero, suc, ◌/◌, Some, None, Option, ◌==◌, option_map, if◌then◌else◌}
use Rattle.model.specs.Claims.{MoveRequest}
use Rattle.model.specs.Step.{mark_after, guard}
use Rattle.model.specs.Trains.{Car, car_words}
use Rattle.slots.specs.Slots.{AddressTells}
use Rattle.memory.specs.declared.Mark.{Mark}
use Rattle.steps.specs.Asked.{to_rank}

-- a mark whose object lay in the car that is freed goes
abbrev pub mark_left : (car : ℕ) → Option Mark → Option Mark
mark_left car None = None
mark_left car (Some m) = if m.object / car_words == car then None else Some m

-- with no mark, and no object that left the first train, a mark is set on what the first outside reference holds
abbrev pub guarded : Option Mark → (out : ℕ) → Mark → Option Mark
guarded (Some m) out w = Some m
guarded None zero w = Some w
guarded None (suc n) w = None

-- a request by the address of its object
abbrev pub mark_by : (at : ℕ → ℕ) → MoveRequest → Mark
mark_by at w = to_rank w.rank (at w.who)

-- both are what a step does with a mark by its object's identity, where addresses tell the objects of the freed car
pub record MarksFollow : Type 0 where
  pub left : (at : ℕ → ℕ) (f : Car) (mk : Option MoveRequest) → AddressTells at f → mark_left f.number (option_map (mark_by at) mk) ≡ option_map (mark_by at) (mark_after f.objects mk)
  pub guards : (at : ℕ → ℕ) (mk : Option MoveRequest) (out : ℕ) (w : MoveRequest) → guarded (option_map (mark_by at) mk) out (mark_by at w) ≡ option_map (mark_by at) (guard mk out w)
