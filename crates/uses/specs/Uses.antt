-- Which histories bring a space to where it is, and how a call goes on from them.
use Rattle.std.specs.Prelude.{◌≡◌, ℕ, [], ◌∷◌}
use Rattle.calls.specs.declared.call.Call.{Call}
use Rattle.layout.specs.declared.Shape.{Shape}
use Rattle.layout.specs.ShapeTable.{ShapeTable}
use Rattle.remembered.specs.declared.Update.{Update}
use Rattle.remembered.specs.Leads.{Leads}
use Rattle.remembered.specs.Updates.{Pairs}
use Rattle.model.specs.Calls.{Reply, Event, History, refusal_in}
use Rattle.model.specs.Notes.{tell}
use Rattle.model.specs.Refusals.{first_refusal}
use Rattle.model.specs.Space.{Use, act, space_of}
use Rattle.memory.specs.Stands.{Stands}
use Rattle.uses.specs.Held.{Held}

-- how a remembered set went through a history: each call found it with the pairs that the event tells, and told it just what the
-- call tells it, in that order
pub data Went {R : Type 0} (M : ShapeTable) (has : R → Pairs) (says : R → Update → R → Type 0) : R → History → R → Type 0 where
  opened : (s : R) → Went M has says s [] s
  called : (s t v : R) (e : Event) (h : History) → Went M has says s h t → e.pairs ≡ has t
      → Leads has says t (tell (act M e.call (space_of M h)).updates []) v → Went M has says s (e ∷ h) v

-- the history h, from the opening on, brings a space here: it is a use, the memory stands for the space after it, and the set
-- went from what it was at the opening to what it is
pub record Brings {R : Type 0} (M : ShapeTable) (code : Shape → ℕ) (has : R → Pairs) (says : R → Update → R → Type 0) (h : History) (s : Held R) : Type 0 where
  pub is_use : Use M h
  pub stands : Stands M code (space_of M h) s.heap
  pub opened_with : R
  pub went : Went M has says opened_with h s.set

-- a call with its reply, on a space whose set has these pairs
abbrev pub event : Call → Reply → Pairs → Event
event call reply pairs = record { call = call; reply = reply; pairs = pairs }

-- whichever history brings a space to the old value, with this call and its reply it brings it to the new one
abbrev pub GoesOn : {R : Type 0} → ShapeTable → (Shape → ℕ) → (R → Pairs) → (R → Update → R → Type 0) → Call → Reply → (old new : Held R) → Type 0
GoesOn M code has says call reply old new =
    (h : History) → Brings M code has says h old → Brings M code has says (event call reply (has old.set) ∷ h) new

-- the set is told just what the call tells it, in that order
abbrev pub IsTold : {R : Type 0} → ShapeTable → (Shape → ℕ) → (R → Pairs) → (R → Update → R → Type 0) → Call → (old new : Held R) → Type 0
IsTold M code has says call old new =
    (h : History) → Brings M code has says h old → Leads has says old.set (tell (act M call (space_of M h)).updates []) new.set

-- the reply refuses with the smallest number whose condition holds, and with none if none does
abbrev pub RefusesFirst : {R : Type 0} → ShapeTable → (Shape → ℕ) → (R → Pairs) → (R → Update → R → Type 0) → Call → Reply → Held R → Type 0
RefusesFirst M code has says call reply s =
    (h : History) → Brings M code has says h s → refusal_in reply.answer ≡ first_refusal M (space_of M h) call

-- what holds of every space: some history brought it here
pub record IsReached {R : Type 0} (M : ShapeTable) (code : Shape → ℕ) (has : R → Pairs) (says : R → Update → R → Type 0) (s : Held R) : Type 0 where
  pub history : History
  pub brings : Brings M code has says history s
