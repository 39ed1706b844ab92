use Rattle.trains.proofs.Apart.{cars_apart}
use Rattle.trains.proofs.Trains.cars_are_apart.Goals as goal

pub returns : goal.returns
returns c = cars_apart c.self.inside.records c.self.inside.trains.items c.self.inside.busy c.args.self.now c.self.invariant c.self.view_is
