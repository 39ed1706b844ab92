use Rattle.std.proofs.Common.{sym, subst}
use Rattle.model.specs.Space.{space_of}
use Rattle.model.proofs.Remember.{numbered_at}
use Rattle.memory.proofs.Held.{halt_at}
use Rattle.moves.specs.Moves.{Carries}
use Rattle.steps.specs.Emptying.{CanEmptyFrom, carrying_of}
use Rattle.steps.proofs.EmptyingWhole.{can_move, outside, slots_inside, is-emptied, can-finish}
use Rattle.steps.proofs.emptying.move_out.Goals as goal

pub move_claimed-moved-requires : goal.move_claimed-moved-requires
move_claimed-moved-requires g c =
    let e = c.requires.known.0 in
    let can = c.requires.known.1 in
    let m = space_of g.L.Layout.table e.history in
    let r = subst (CanEmptyFrom g.L.Layout.table g.L.Layout.code m e.first e.cars e.rest c.args.car c.args.claims.now c.args.slots.now) (sym c.memory.view_is) can in
    record { known = ((carrying_of m e.first e.cars e.rest), (record { ready = can_move g.L.Layout.table g.L.Layout.code g.L.Layout.decoded g.met.L.Layout.lawful g.met.L.Layout.coded (space_of g.L.Layout.table e.history) (halt_at g.L.Layout.table g.met.L.Layout.lawful e.history) (numbered_at g.L.Layout.table g.met.L.Layout.lawful e.history) e.first e.cars e.rest c.args.car c.args.claims.now c.args.slots.now _ r c.take_first.new.self c.take_first.ensures.trains; car_is = r.car_is; order_is = r.order_is })) }

pub fix_moved-requires-clause-outside : goal.fix_moved-requires-clause-outside
fix_moved-requires-clause-outside g c =
    let e = c.requires.known.0 in
    let can = c.requires.known.1 in
    let m = space_of g.L.Layout.table e.history in
    let r = subst (CanEmptyFrom g.L.Layout.table g.L.Layout.code m e.first e.cars e.rest c.args.car c.args.claims.now c.args.slots.now) (sym c.memory.view_is) can in
    let k : Carries g.L.Layout.table g.L.Layout.code _ c.take_first.new.self c.args.car c.args.claims.now (carrying_of m e.first e.cars e.rest) = record { ready = can_move g.L.Layout.table g.L.Layout.code g.L.Layout.decoded g.met.L.Layout.lawful g.met.L.Layout.coded (space_of g.L.Layout.table e.history) (halt_at g.L.Layout.table g.met.L.Layout.lawful e.history) (numbered_at g.L.Layout.table g.met.L.Layout.lawful e.history) e.first e.cars e.rest c.args.car c.args.claims.now c.args.slots.now _ r c.take_first.new.self c.take_first.ensures.trains; car_is = r.car_is; order_is = r.order_is } in
    outside g.L.Layout.table g.L.Layout.code g.L.Layout.decoded g.met.L.Layout.lawful g.met.L.Layout.coded (space_of g.L.Layout.table e.history) (halt_at g.L.Layout.table g.met.L.Layout.lawful e.history) (numbered_at g.L.Layout.table g.met.L.Layout.lawful e.history) e.first e.cars e.rest c.args.car c.args.claims.now c.args.slots.now _ r c.take_first.new.self c.take_first.ensures.trains c.move_claimed-moved.new.words c.move_claimed-moved.new.forward c.move_claimed-moved.new.trains (c.move_claimed-moved.ensures.moved (carrying_of m e.first e.cars e.rest) k)

pub fix_slots-requires : goal.fix_slots-requires
fix_slots-requires g c =
    let e = c.requires.known.0 in
    let can = c.requires.known.1 in
    let m = space_of g.L.Layout.table e.history in
    let r = subst (CanEmptyFrom g.L.Layout.table g.L.Layout.code m e.first e.cars e.rest c.args.car c.args.claims.now c.args.slots.now) (sym c.memory.view_is) can in
    let k : Carries g.L.Layout.table g.L.Layout.code _ c.take_first.new.self c.args.car c.args.claims.now (carrying_of m e.first e.cars e.rest) = record { ready = can_move g.L.Layout.table g.L.Layout.code g.L.Layout.decoded g.met.L.Layout.lawful g.met.L.Layout.coded (space_of g.L.Layout.table e.history) (halt_at g.L.Layout.table g.met.L.Layout.lawful e.history) (numbered_at g.L.Layout.table g.met.L.Layout.lawful e.history) e.first e.cars e.rest c.args.car c.args.claims.now c.args.slots.now _ r c.take_first.new.self c.take_first.ensures.trains; car_is = r.car_is; order_is = r.order_is } in
    slots_inside g.L.Layout.table g.L.Layout.code g.L.Layout.decoded g.met.L.Layout.lawful g.met.L.Layout.coded (space_of g.L.Layout.table e.history) (halt_at g.L.Layout.table g.met.L.Layout.lawful e.history) (numbered_at g.L.Layout.table g.met.L.Layout.lawful e.history) e.first e.cars e.rest c.args.car c.args.claims.now c.args.slots.now _ r c.take_first.new.self c.take_first.ensures.trains c.move_claimed-moved.new.words c.move_claimed-moved.new.forward c.move_claimed-moved.new.trains (c.move_claimed-moved.ensures.moved (carrying_of m e.first e.cars e.rest) k)

pub returns-clause-emptied : goal.returns-clause-emptied
returns-clause-emptied g c = λ e can.
    let m = space_of g.L.Layout.table e.history in
    let r = subst (CanEmptyFrom g.L.Layout.table g.L.Layout.code m e.first e.cars e.rest c.args.car c.args.claims.now c.args.slots.now) (sym c.memory.view_is) can in
    let k : Carries g.L.Layout.table g.L.Layout.code _ c.take_first.new.self c.args.car c.args.claims.now (carrying_of m e.first e.cars e.rest) = record { ready = can_move g.L.Layout.table g.L.Layout.code g.L.Layout.decoded g.met.L.Layout.lawful g.met.L.Layout.coded (space_of g.L.Layout.table e.history) (halt_at g.L.Layout.table g.met.L.Layout.lawful e.history) (numbered_at g.L.Layout.table g.met.L.Layout.lawful e.history) e.first e.cars e.rest c.args.car c.args.claims.now c.args.slots.now _ r c.take_first.new.self c.take_first.ensures.trains; car_is = r.car_is; order_is = r.order_is } in
    is-emptied g.L.Layout.table g.L.Layout.code g.L.Layout.decoded g.met.L.Layout.lawful g.met.L.Layout.coded (space_of g.L.Layout.table e.history) (halt_at g.L.Layout.table g.met.L.Layout.lawful e.history) (numbered_at g.L.Layout.table g.met.L.Layout.lawful e.history) e.first e.cars e.rest c.args.car c.args.claims.now c.args.slots.now _ r c.take_first.new.self c.take_first.ensures.trains c.move_claimed-moved.new.words c.move_claimed-moved.new.forward c.move_claimed-moved.new.trains (c.move_claimed-moved.ensures.moved (carrying_of m e.first e.cars e.rest) k)
    c.fix_moved.new.words c.fix_slots.new.words c.fix_roots.new.roots c.mark_left-memory-inside.result c.fix_moved.ensures c.fix_slots.ensures c.fix_slots.array_long.0 c.fix_roots.ensures c.fix_roots.array_long.1 c.mark_left-memory-inside.ensures

pub returns-clause-finish : goal.returns-clause-finish
returns-clause-finish g c = λ e can.
    let m = space_of g.L.Layout.table e.history in
    let r = subst (CanEmptyFrom g.L.Layout.table g.L.Layout.code m e.first e.cars e.rest c.args.car c.args.claims.now c.args.slots.now) (sym c.memory.view_is) can in
    let k : Carries g.L.Layout.table g.L.Layout.code _ c.take_first.new.self c.args.car c.args.claims.now (carrying_of m e.first e.cars e.rest) = record { ready = can_move g.L.Layout.table g.L.Layout.code g.L.Layout.decoded g.met.L.Layout.lawful g.met.L.Layout.coded (space_of g.L.Layout.table e.history) (halt_at g.L.Layout.table g.met.L.Layout.lawful e.history) (numbered_at g.L.Layout.table g.met.L.Layout.lawful e.history) e.first e.cars e.rest c.args.car c.args.claims.now c.args.slots.now _ r c.take_first.new.self c.take_first.ensures.trains; car_is = r.car_is; order_is = r.order_is } in
    can-finish g.L.Layout.table g.L.Layout.code g.L.Layout.decoded g.met.L.Layout.lawful g.met.L.Layout.coded (space_of g.L.Layout.table e.history) (halt_at g.L.Layout.table g.met.L.Layout.lawful e.history) (numbered_at g.L.Layout.table g.met.L.Layout.lawful e.history) e.first e.cars e.rest c.args.car c.args.claims.now c.args.slots.now _ r c.take_first.new.self c.take_first.ensures.trains c.move_claimed-moved.new.words c.move_claimed-moved.new.forward c.move_claimed-moved.new.trains (c.move_claimed-moved.ensures.moved (carrying_of m e.first e.cars e.rest) k)
    c.fix_moved.new.words c.fix_slots.new.words c.fix_moved.ensures c.fix_slots.ensures

pub returns-clause-out : goal.returns-clause-out
returns-clause-out g c = λ e can.
    let m = space_of g.L.Layout.table e.history in
    let r = subst (CanEmptyFrom g.L.Layout.table g.L.Layout.code m e.first e.cars e.rest c.args.car c.args.claims.now c.args.slots.now) (sym c.memory.view_is) can in
    let k : Carries g.L.Layout.table g.L.Layout.code _ c.take_first.new.self c.args.car c.args.claims.now (carrying_of m e.first e.cars e.rest) = record { ready = can_move g.L.Layout.table g.L.Layout.code g.L.Layout.decoded g.met.L.Layout.lawful g.met.L.Layout.coded (space_of g.L.Layout.table e.history) (halt_at g.L.Layout.table g.met.L.Layout.lawful e.history) (numbered_at g.L.Layout.table g.met.L.Layout.lawful e.history) e.first e.cars e.rest c.args.car c.args.claims.now c.args.slots.now _ r c.take_first.new.self c.take_first.ensures.trains; car_is = r.car_is; order_is = r.order_is } in
    c.move_claimed-moved.ensures.out (carrying_of m e.first e.cars e.rest) k

pub returns-clause-back : goal.returns-clause-back
returns-clause-back g c = λ e can.
    let m = space_of g.L.Layout.table e.history in
    let r = subst (CanEmptyFrom g.L.Layout.table g.L.Layout.code m e.first e.cars e.rest c.args.car c.args.claims.now c.args.slots.now) (sym c.memory.view_is) can in
    let k : Carries g.L.Layout.table g.L.Layout.code _ c.take_first.new.self c.args.car c.args.claims.now (carrying_of m e.first e.cars e.rest) = record { ready = can_move g.L.Layout.table g.L.Layout.code g.L.Layout.decoded g.met.L.Layout.lawful g.met.L.Layout.coded (space_of g.L.Layout.table e.history) (halt_at g.L.Layout.table g.met.L.Layout.lawful e.history) (numbered_at g.L.Layout.table g.met.L.Layout.lawful e.history) e.first e.cars e.rest c.args.car c.args.claims.now c.args.slots.now _ r c.take_first.new.self c.take_first.ensures.trains; car_is = r.car_is; order_is = r.order_is } in
    c.move_claimed-moved.ensures.back (carrying_of m e.first e.cars e.rest) k

pub returns-clause-copied : goal.returns-clause-copied
returns-clause-copied g c = λ e can.
    let m = space_of g.L.Layout.table e.history in
    let r = subst (CanEmptyFrom g.L.Layout.table g.L.Layout.code m e.first e.cars e.rest c.args.car c.args.claims.now c.args.slots.now) (sym c.memory.view_is) can in
    let k : Carries g.L.Layout.table g.L.Layout.code _ c.take_first.new.self c.args.car c.args.claims.now (carrying_of m e.first e.cars e.rest) = record { ready = can_move g.L.Layout.table g.L.Layout.code g.L.Layout.decoded g.met.L.Layout.lawful g.met.L.Layout.coded (space_of g.L.Layout.table e.history) (halt_at g.L.Layout.table g.met.L.Layout.lawful e.history) (numbered_at g.L.Layout.table g.met.L.Layout.lawful e.history) e.first e.cars e.rest c.args.car c.args.claims.now c.args.slots.now _ r c.take_first.new.self c.take_first.ensures.trains; car_is = r.car_is; order_is = r.order_is } in
    c.move_claimed-moved.ensures.copied (carrying_of m e.first e.cars e.rest) k
