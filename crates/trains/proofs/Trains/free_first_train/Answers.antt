use Rattle.std.proofs.Common.{arith}
use Rattle.trains.proofs.Changes.{train_goes}
use Rattle.trains.proofs.Trains.free_first_train.Goals as goal

pub invariant_of-self : goal.invariant_of-self
invariant_of-self c =
    (train_goes c.self.inside.records c.first_train_gone.new.records c.self.inside.trains.items c.remove.new.self.items c.self.inside.busy c.args.self.now
    c.self.invariant c.self.view_is (omega (arith, c.remove.ensures.len)) c.remove.ensures.items c.first_train_gone.ensures.each c.first_train_gone.ensures.all).0

pub returns : goal.returns
returns c =
    (train_goes c.self.inside.records c.first_train_gone.new.records c.self.inside.trains.items c.remove.new.self.items c.self.inside.busy c.args.self.now
    c.self.invariant c.self.view_is (omega (arith, c.remove.ensures.len)) c.remove.ensures.items c.first_train_gone.ensures.each c.first_train_gone.ensures.all).1
