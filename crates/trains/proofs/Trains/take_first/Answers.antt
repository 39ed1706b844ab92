use Rattle.std.proofs.Common.{sym, ◌∙◌}
use Rattle.trains.proofs.Changes.{first_takes, first_there}
use Rattle.trains.proofs.Trains.take_first.Goals as goal

pub drop_first_car-requires : goal.drop_first_car-requires
drop_first_car-requires c =
    first_there c.self.inside.records c.self.inside.trains.items c.self.inside.busy c.args.self.now c.in_ok-car.car c.self.view_is (sym c.first_car.ensures.car ∙ c.in_ok-car.was)

pub invariant_of-self : goal.invariant_of-self
invariant_of-self c =
    (first_takes c.self.inside.records c.first_car_gone.new.records c.self.inside.trains.items c.drop_first_car.new.trains.items c.self.inside.busy c.args.self.now c.in_ok-car.car
    c.self.invariant c.self.view_is c.requires (sym c.first_car.ensures.car ∙ c.in_ok-car.was) c.drop_first_car.ensures c.first_car_gone.ensures.each c.first_car_gone.ensures.all).0

pub returns-clause-trains : goal.returns-clause-trains
returns-clause-trains c =
    (first_takes c.self.inside.records c.first_car_gone.new.records c.self.inside.trains.items c.drop_first_car.new.trains.items c.self.inside.busy c.args.self.now c.in_ok-car.car
    c.self.invariant c.self.view_is c.requires (sym c.first_car.ensures.car ∙ c.in_ok-car.was) c.drop_first_car.ensures c.first_car_gone.ensures.each c.first_car_gone.ensures.all).1
