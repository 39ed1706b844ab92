use Rattle.std.proofs.Common.{◌≡◌, ℕ, List, ◌++◌, take}
use Rattle.std.specs.List.{AllByRecursion}
use Rattle.model.specs.Claims.{MoveRequest}
use Rattle.model.specs.Notes.{Slot}
use Rattle.model.specs.Trains.{Car}
use Rattle.objects.specs.Lies.{CarStands, HoldsItsOwn}
use Rattle.objects.specs.Words.{HasItsWord}
use Rattle.slots.specs.Slots.{addresses}
use Rattle.trains.specs.Orders.{rank_of}
use Rattle.steps.specs.Claiming.{slot_requests, ClaimedFor}
use Rattle.steps.proofs.claiming.claim_slots.Given as goal

abbrev pub invariant-loop-slot : goal.invariant-loop-slot
invariant-loop-slot g l =
    (at : ℕ → ℕ) (f : Car) (ss : List Slot) (ws : List MoveRequest) → CarStands g.L.Layout.table g.L.Layout.code at l.words f → HoldsItsOwn at f
    → l.car ≡ f.number → addresses ss ≡ l.slots → AllByRecursion (HasItsWord at l.words) ss
    → ClaimedFor at f ws l.fn.claims → ClaimedFor at f (ws ++ slot_requests (λ n. rank_of n l.trains.trains) (take l.slot-index ss)) l.claims
