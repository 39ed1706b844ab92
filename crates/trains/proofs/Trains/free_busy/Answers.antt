use Rattle.std.proofs.Common.{ap, ◌∙◌, None, List}
use Rattle.trains.specs.Fills.{Placement, TrainFill}
use Rattle.trains.proofs.Changes.{busy_goes}
use Rattle.trains.proofs.Trains.free_busy.Goals as goal

pub invariant_of-self : goal.invariant_of-self
invariant_of-self c =
    (busy_goes c.self.inside.records c.self.inside.trains.items c.self.inside.busy c.in-Some.car c.free.result c.self.invariant c.in-Some.is c.free.ensures).0

pub returns-in-Some : goal.returns-in-Some
returns-in-Some c =
    ap (λ (ts : List TrainFill). record { trains = ts; busy = None }) (
    (busy_goes c.self.inside.records c.self.inside.trains.items c.self.inside.busy c.in-Some.car c.free.result c.self.invariant c.in-Some.is c.free.ensures).1
    ∙ ap (λ (p : Placement). p.trains) c.self.view_is
    )
