use Rattle.std.proofs.Common.{sym, ap, subst, arith}
use Rattle.model.specs.Space.{space_of}
use Rattle.memory.specs.Heap.{Heap}
use Rattle.memory.proofs.Held.{halt_at}
use Rattle.moves.specs.Fixes.{moved_references}
use Rattle.moves.specs.Noting.{noted_each}
use Rattle.trains.specs.Fills.{Placement}
use Rattle.steps.specs.Emptying.{IsEmptied}
use Rattle.steps.specs.Finishing.{CanFinish}
use Rattle.steps.proofs.FinishingNotes.{carried_told}
use Rattle.steps.proofs.FinishingState.{halt_after}
use Rattle.steps.proofs.FinishingStep.{slots_below, references_below, car_low, few, used_fits, notes_are, car_steps}
use Rattle.steps.proofs.finishing.finish.Goals as goal

pub note_slots-requires : goal.note_slots-requires
note_slots-requires g c =
    let L = g.L.Layout in
    let e = c.requires.known.0 in
    let end = c.requires.known.1 in
    let law = g.met.L.Layout.lawful in
    let m = space_of L.table e.history in
    let emp = subst (λ (s : Heap). IsEmptied L.table L.code m e.first e.cars e.rest c.args.forward.now s) (sym c.memory.view_is) end.emptied in
    let can = subst (λ (s : Heap). CanFinish L.table L.decoded e c.args.forward.now c.args.car c.args.claims.now c.args.slots.now s.words) (sym c.memory.view_is) end.ready in
    slots_below L.table L.code L.decoded law m e.first e.cars e.rest c.args.forward.now _ emp c.args.car c.args.claims.now c.args.slots.now can

pub note_moved-requires-clause-car : goal.note_moved-requires-clause-car
note_moved-requires-clause-car g c =
    let L = g.L.Layout in
    let e = c.requires.known.0 in
    let end = c.requires.known.1 in
    let law = g.met.L.Layout.lawful in
    let m = space_of L.table e.history in
    let emp = subst (λ (s : Heap). IsEmptied L.table L.code m e.first e.cars e.rest c.args.forward.now s) (sym c.memory.view_is) end.emptied in
    let can = subst (λ (s : Heap). CanFinish L.table L.decoded e c.args.forward.now c.args.car c.args.claims.now c.args.slots.now s.words) (sym c.memory.view_is) end.ready in
    car_low L.table L.code L.decoded law m e.first e.cars e.rest c.args.forward.now _ emp c.args.car c.args.claims.now c.args.slots.now can (halt_at L.table law e.history)

pub note_moved-requires-clause-inside : goal.note_moved-requires-clause-inside
note_moved-requires-clause-inside g c =
    let L = g.L.Layout in
    let e = c.requires.known.0 in
    let end = c.requires.known.1 in
    let law = g.met.L.Layout.lawful in
    let m = space_of L.table e.history in
    let emp = subst (λ (s : Heap). IsEmptied L.table L.code m e.first e.cars e.rest c.args.forward.now s) (sym c.memory.view_is) end.emptied in
    let can = subst (λ (s : Heap). CanFinish L.table L.decoded e c.args.forward.now c.args.car c.args.claims.now c.args.slots.now s.words) (sym c.memory.view_is) end.ready in
    references_below L.table L.code L.decoded law m e.first e.cars e.rest c.args.forward.now _ emp c.args.car c.args.claims.now c.args.slots.now can

pub overflow_add-memory : goal.overflow_add-memory
overflow_add-memory g c =
    let L = g.L.Layout in
    let e = c.requires.known.0 in
    let end = c.requires.known.1 in
    let law = g.met.L.Layout.lawful in
    let m = space_of L.table e.history in
    let emp = subst (λ (s : Heap). IsEmptied L.table L.code m e.first e.cars e.rest c.args.forward.now s) (sym c.memory.view_is) end.emptied in
    let can = subst (λ (s : Heap). CanFinish L.table L.decoded e c.args.forward.now c.args.car c.args.claims.now c.args.slots.now s.words) (sym c.memory.view_is) end.ready in
    omega (arith, used_fits L.table L.code L.decoded law m e.first e.cars e.rest c.args.forward.now _ emp c.args.car c.args.claims.now c.args.slots.now can (halt_at L.table law e.history) c.filled.result c.args.moved.copied end.copied_is)

pub overflow_cast-result : goal.overflow_cast-result
overflow_cast-result g c =
    let L = g.L.Layout in
    let e = c.requires.known.0 in
    let end = c.requires.known.1 in
    let law = g.met.L.Layout.lawful in
    let m = space_of L.table e.history in
    let emp = subst (λ (s : Heap). IsEmptied L.table L.code m e.first e.cars e.rest c.args.forward.now s) (sym c.memory.view_is) end.emptied in
    let can = subst (λ (s : Heap). CanFinish L.table L.decoded e c.args.forward.now c.args.car c.args.claims.now c.args.slots.now s.words) (sym c.memory.view_is) end.ready in
    omega (arith, end.out_is, (few L.table L.code L.decoded law m e.first e.cars e.rest c.args.forward.now _ emp c.args.car c.args.claims.now c.args.slots.now can (halt_at L.table law e.history)).out)

pub overflow_cast-result-2 : goal.overflow_cast-result-2
overflow_cast-result-2 g c =
    let L = g.L.Layout in
    let e = c.requires.known.0 in
    let end = c.requires.known.1 in
    let law = g.met.L.Layout.lawful in
    let m = space_of L.table e.history in
    let emp = subst (λ (s : Heap). IsEmptied L.table L.code m e.first e.cars e.rest c.args.forward.now s) (sym c.memory.view_is) end.emptied in
    let can = subst (λ (s : Heap). CanFinish L.table L.decoded e c.args.forward.now c.args.car c.args.claims.now c.args.slots.now s.words) (sym c.memory.view_is) end.ready in
    omega (arith, end.back_is, (few L.table L.code L.decoded law m e.first e.cars e.rest c.args.forward.now _ emp c.args.car c.args.claims.now c.args.slots.now can (halt_at L.table law e.history)).back)

pub overflow_cast-result-3 : goal.overflow_cast-result-3
overflow_cast-result-3 g c =
    let L = g.L.Layout in
    let e = c.requires.known.0 in
    let end = c.requires.known.1 in
    let law = g.met.L.Layout.lawful in
    let m = space_of L.table e.history in
    let emp = subst (λ (s : Heap). IsEmptied L.table L.code m e.first e.cars e.rest c.args.forward.now s) (sym c.memory.view_is) end.emptied in
    let can = subst (λ (s : Heap). CanFinish L.table L.decoded e c.args.forward.now c.args.car c.args.claims.now c.args.slots.now s.words) (sym c.memory.view_is) end.ready in
    omega (arith, end.copied_is, (few L.table L.code L.decoded law m e.first e.cars e.rest c.args.forward.now _ emp c.args.car c.args.claims.now c.args.slots.now can (halt_at L.table law e.history)).copied)

pub returns : goal.returns
returns g c = λ e end w first asks seen.
    let R = g.R.RememberedSet in
    let L = g.L.Layout in
    let law = g.met.L.Layout.lawful in
    let m = space_of L.table e.history in
    let emp = subst (λ (s : Heap). IsEmptied L.table L.code m e.first e.cars e.rest c.args.forward.now s) (sym c.memory.view_is) end.emptied in
    let can = subst (λ (s : Heap). CanFinish L.table L.decoded e c.args.forward.now c.args.car c.args.claims.now c.args.slots.now s.words) (sym c.memory.view_is) end.ready in
    let halt = halt_after L.table law e.history e.first e.cars e.rest w can.trains first in
    let trains = c.memory.inside.trains in
    let words = c.memory.inside.words in
    let refs = moved_references L.decoded words c.args.forward.now c.args.car c.args.claims.now in
    let told =
    carried_told R.has R.says c.args.set.now c.forget.new.self c.note_slots.new.set c.note_moved.new.set c.args.car (noted_each trains.trains words c.args.slots.now) (noted_each trains.trains words refs)
    _ c.forget.ensures.others c.forget.ensures.besides c.note_slots.ensures c.note_moved.ensures
    (notes_are L.table L.code L.decoded law m e.first e.cars e.rest c.args.forward.now _ emp c.args.car c.args.claims.now c.args.slots.now can w c.args.asked halt asks trains.trains (ap (λ (p : Placement). p.trains) emp.trains)) in
    car_steps L.table L.code L.decoded law m e.first e.cars e.rest c.args.forward.now _ emp c.args.car c.args.claims.now c.args.slots.now can w c.args.asked halt asks R.has R.says c.args.set.now c.note_moved.new.set told c.args.moved.out c.args.moved.back c.args.moved.copied c.args.lost c.args.looked
    end.out_is end.back_is end.copied_is end.lost_is seen
    c.release.new.self c.release.ensures c.fixed_word-object.result c.fixed_word-object.ensures c.set_mark-memory-inside.result c.set_mark-memory-inside.ensures c.filled.result c.filled.ensures
