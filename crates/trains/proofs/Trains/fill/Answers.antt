use Rattle.std.proofs.Common.{arith, refl, ◌+◌, ◌*◌, ap, ◌∙◌, sym, subst, ◌≤◌}
use Rattle.trains.specs.declared.car_record.CarRecord.{CarRecord}
use Rattle.trains.specs.Table.{free_record}
use Rattle.trains.proofs.Changes.{last_car, grows_at, fills_more}
use Rattle.trains.proofs.Known.{any_default}
use Rattle.trains.proofs.Trains.fill.Goals as goal

pub bounds-self-inside-car : goal.bounds-self-inside-car
bounds-self-inside-car c =
    (last_car c.self.inside.records c.self.inside.trains.items c.self.inside.busy c.args.self.now c.args.car c.args.size c.requires.0 c.self.invariant c.self.view_is c.requires.1).0

pub grow-requires : goal.grow-requires
grow-requires c =
    let l = last_car c.self.inside.records c.self.inside.trains.items c.self.inside.busy c.args.self.now c.args.car c.args.size c.requires.0 c.self.invariant c.self.view_is c.requires.1 in
    subst (λ (r : CarRecord). r.filled + c.args.size ≤ 128) (any_default c.self.inside.records c.args.car free_record _ (omega (arith, l.0, c.self.invariant.wide))) l.1

pub overflow_mul-result : goal.overflow_mul-result
overflow_mul-result c =
    let l = last_car c.self.inside.records c.self.inside.trains.items c.self.inside.busy c.args.self.now c.args.car c.args.size c.requires.0 c.self.invariant c.self.view_is c.requires.1 in
    omega (arith, l.0)

pub overflow_add-result : goal.overflow_add-result
overflow_add-result c =
    let l = last_car c.self.inside.records c.self.inside.trains.items c.self.inside.busy c.args.self.now c.args.car c.args.size c.requires.0 c.self.invariant c.self.view_is c.requires.1 in
    let i = ap (λ (r : CarRecord). r.filled) (any_default c.self.inside.records c.args.car free_record _ (omega (arith, l.0, c.self.invariant.wide))) ∙ sym c.grow.ensures.before in
    omega (arith, l.0, l.1, i)

pub invariant_of-self : goal.invariant_of-self
invariant_of-self c =
    let l = last_car c.self.inside.records c.self.inside.trains.items c.self.inside.busy c.args.self.now c.args.car c.args.size c.requires.0 c.self.invariant c.self.view_is c.requires.1 in
    (fills_more c.self.inside.records c.self.inside.trains.items c.self.inside.busy c.args.self.now c.args.car c.args.size c.requires.0 0 c.grow.new.self _ c.self.invariant c.self.view_is c.requires.1
    (any_default c.self.inside.records c.args.car free_record _ (omega (arith, l.0, c.self.invariant.wide))) c.grow.ensures.filled).0

pub returns-clause-trains : goal.returns-clause-trains
returns-clause-trains c = λ k f e.
    let l = last_car c.self.inside.records c.self.inside.trains.items c.self.inside.busy c.args.self.now c.args.car c.args.size k c.self.invariant c.self.view_is e in
    (fills_more c.self.inside.records c.self.inside.trains.items c.self.inside.busy c.args.self.now c.args.car c.args.size k f c.grow.new.self _ c.self.invariant c.self.view_is e
    (any_default c.self.inside.records c.args.car free_record _ (omega (arith, l.0, c.self.invariant.wide))) c.grow.ensures.filled).1

pub returns-clause-address : goal.returns-clause-address
returns-clause-address c = λ k f e.
    let l = last_car c.self.inside.records c.self.inside.trains.items c.self.inside.busy c.args.self.now c.args.car c.args.size k c.self.invariant c.self.view_is e in
    let i = ap (λ (r : CarRecord). r.filled) (any_default c.self.inside.records c.args.car free_record _ (omega (arith, l.0, c.self.invariant.wide))) ∙ sym c.grow.ensures.before in
    ap (λ w. 128 * c.args.car + w) (sym i) ∙ grows_at c.self.inside.records c.self.inside.trains.items c.self.inside.busy c.args.self.now c.args.car c.args.size k c.self.invariant c.self.view_is e f

pub returns-clause-within : goal.returns-clause-within
returns-clause-within c =
    let l = last_car c.self.inside.records c.self.inside.trains.items c.self.inside.busy c.args.self.now c.args.car c.args.size c.requires.0 c.self.invariant c.self.view_is c.requires.1 in
    let i = ap (λ (r : CarRecord). r.filled) (any_default c.self.inside.records c.args.car free_record _ (omega (arith, l.0, c.self.invariant.wide))) ∙ sym c.grow.ensures.before in
    record { car = c.args.car; before = c.grow.result; low = l.0; at = refl; room = omega (arith, l.1, i) }
