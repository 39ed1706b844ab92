use Rattle.std.proofs.Common.{◌*◌, ap, ◌∙◌, arith}
use Rattle.trains.specs.Fills.{free_car}
use Rattle.trains.proofs.Known.{free_car_unused}
use Rattle.trains.proofs.Opening.{train_short, opens, no_room_spot}
use Rattle.trains.proofs.Trains.open.Goals as goal

pub add_car-place-requires-clause-room : goal.add_car-place-requires-clause-room
add_car-place-requires-clause-room c =
    train_short c.self.inside.records c.self.inside.trains.items c.self.inside.busy c.lowest_free-car.result c.args.rank c.self.invariant
    (omega (arith, c.lowest_free-car.ensures, c.requires.free))
    (free_car_unused c.self.inside.records c.self.inside.trains.items c.self.inside.busy c.args.self.now c.lowest_free-car.result c.self.view_is c.requires.free c.lowest_free-car.ensures)

pub invariant_of-self : goal.invariant_of-self
invariant_of-self c =
    (opens c.self.inside.records c.self.inside.trains.items _ c.self.inside.busy c.args.self.now c.lowest_free-car.result c.args.rank c.args.size c.add_car-place.result c.self.invariant c.self.view_is
    c.requires.near c.requires.low c.requires.size c.requires.free c.lowest_free-car.ensures c.requires.full c.add_car-place.ensures.trains c.add_car-place.ensures.place).0

pub returns-clause-trains : goal.returns-clause-trains
returns-clause-trains c =
    (opens c.self.inside.records c.self.inside.trains.items _ c.self.inside.busy c.args.self.now c.lowest_free-car.result c.args.rank c.args.size c.add_car-place.result c.self.invariant c.self.view_is
    c.requires.near c.requires.low c.requires.size c.requires.free c.lowest_free-car.ensures c.requires.full c.add_car-place.ensures.trains c.add_car-place.ensures.place).1

pub returns-clause-address : goal.returns-clause-address
returns-clause-address c =
    ap (λ n. 128 * n) c.lowest_free-car.ensures ∙ no_room_spot c.args.rank (free_car c.args.self.now) c.args.size c.args.self.now.trains c.requires.full

pub returns-clause-within : goal.returns-clause-within
returns-clause-within c =
    record { car = c.lowest_free-car.result; before = 0; low = omega (arith, c.lowest_free-car.ensures, c.requires.free); at = omega arith; room = omega (arith, c.requires.size) }
