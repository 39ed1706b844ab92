use Rattle.std.proofs.Common.{◌∙◌, sym, ap, subst, arith, length}
use Rattle.model.specs.Trains.{car_numbers}
use Rattle.steps.specs.Claiming.{FirstCar, KnownCar}
use Rattle.steps.proofs.Rows.{length-car_numbers}
use Rattle.steps.proofs.ClaimingFirst.{first_known, gathered_all, tail_is}
use Rattle.steps.proofs.claiming.gather_all.Goals as goal

pub gather_cars-requires-clause-room : goal.gather_cars-requires-clause-room
gather_cars-requires-clause-room g c =
    let L = g.L.Layout in
    let P = g.R.RememberedSet.has c.args.set.now in
    let k = subst (λ s. KnownCar L.table L.code s P c.args.car) (sym c.memory.view_is) c.requires.known in
    let known = first_known L.table L.code g.met.L.Layout.lawful _ P k.history k.car k.others k.rest k.first in
    let tail = tail_is c.train-cars.result.now (car_numbers k.others) k.car.number (c.train-cars.ensures.cars ∙ known.numbers) in
    omega (arith, ap length c.requires.empty, ap length tail, length-car_numbers k.others, known.inner_few)

pub gather_outer-requires-clause-few : goal.gather_outer-requires-clause-few
gather_outer-requires-clause-few g c =
    let L = g.L.Layout in
    let P = g.R.RememberedSet.has c.args.set.now in
    let k = subst (λ s. KnownCar L.table L.code s P c.args.car) (sym c.memory.view_is) c.requires.known in
    (first_known L.table L.code g.met.L.Layout.lawful _ P k.history k.car k.others k.rest k.first).few

pub returns-clause-slots : goal.returns-clause-slots
returns-clause-slots g c = λ h f cs ts given e.
    let L = g.L.Layout in
    let P = g.R.RememberedSet.has c.args.set.now in
    let first = subst (λ s. FirstCar L.table L.code s P h f cs ts) (sym c.memory.view_is) given in
    (gathered_all L.table L.code g.met.L.Layout.lawful _ P c.args.car h f cs ts first e c.train-cars.result.now c.train-cars.ensures.cars
    c.args.out.now.items c.gather_cars.new.out.items c.gather_outer.new.out.items c.requires.empty c.gather_cars.ensures.slots c.gather_outer.ensures).all_are

pub returns-clause-inner : goal.returns-clause-inner
returns-clause-inner g c = λ h f cs ts given e.
    let L = g.L.Layout in
    let P = g.R.RememberedSet.has c.args.set.now in
    let first = subst (λ s. FirstCar L.table L.code s P h f cs ts) (sym c.memory.view_is) given in
    c.len-inner.ensures.value
    ∙ (gathered_all L.table L.code g.met.L.Layout.lawful _ P c.args.car h f cs ts first e c.train-cars.result.now c.train-cars.ensures.cars
    c.args.out.now.items c.gather_cars.new.out.items c.gather_outer.new.out.items c.requires.empty c.gather_cars.ensures.slots c.gather_outer.ensures).inner_are

pub returns-clause-inside : goal.returns-clause-inside
returns-clause-inside g c =
    let L = g.L.Layout in
    let P = g.R.RememberedSet.has c.args.set.now in
    let k = subst (λ s. KnownCar L.table L.code s P c.args.car) (sym c.memory.view_is) c.requires.known in
    (gathered_all L.table L.code g.met.L.Layout.lawful _ P c.args.car k.history k.car k.others k.rest k.first k.number_is c.train-cars.result.now c.train-cars.ensures.cars
    c.args.out.now.items c.gather_cars.new.out.items c.gather_outer.new.out.items c.requires.empty c.gather_cars.ensures.slots c.gather_outer.ensures).inside

pub returns-clause-within : goal.returns-clause-within
returns-clause-within g c =
    let L = g.L.Layout in
    let P = g.R.RememberedSet.has c.args.set.now in
    let k = subst (λ s. KnownCar L.table L.code s P c.args.car) (sym c.memory.view_is) c.requires.known in
    let r = gathered_all L.table L.code g.met.L.Layout.lawful _ P c.args.car k.history k.car k.others k.rest k.first k.number_is c.train-cars.result.now c.train-cars.ensures.cars
    c.args.out.now.items c.gather_cars.new.out.items c.gather_outer.new.out.items c.requires.empty c.gather_cars.ensures.slots c.gather_outer.ensures in
    omega (arith, c.len-inner.ensures.value, r.within)
