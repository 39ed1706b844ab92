use Rattle.std.proofs.Common.{◌≡◌, ℕ, ◌<◌, List, ◌++◌, length, take, get_or, Option}
use Rattle.model.specs.Bodies.{held}
use Rattle.model.specs.Claims.{MoveRequest, ref_requests}
use Rattle.model.specs.Trains.{Car}
use Rattle.objects.specs.Lies.{CarStands, HoldsItsOwn, word_of}
use Rattle.steps.specs.Claiming.{ClaimedFor}
use Rattle.steps.proofs.claiming.claim_roots.Given as goal

abbrev pub invariant-loop-root : goal.invariant-loop-root
invariant-loop-root g l =
    (at : ℕ → ℕ) (f : Car) (hs : List (Option ℕ)) (ws : List MoveRequest) → CarStands g.L.Layout.table g.L.Layout.code at l.words f → HoldsItsOwn at f
    → l.car ≡ f.number → length hs ≡ length l.roots → ((r : ℕ) → r < length hs → get_or l.roots r 0 ≡ word_of at (held hs r))
    → ClaimedFor at f ws l.fn.claims → ClaimedFor at f (ws ++ ref_requests l.rank (take l.root-index hs)) l.claims
