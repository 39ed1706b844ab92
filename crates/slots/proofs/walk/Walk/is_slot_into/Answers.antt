use Rattle.std.proofs.Common.{◌*◌, ◌∙◌, arith}
use Rattle.model.specs.Trains.{car_words}
use Rattle.slots.proofs.Holding.{into_true, into_false}
use Rattle.slots.proofs.walk.Walk.is_slot_into.Goals as goal

pub returns-then-words-address-clause-slot : goal.returns-then-words-address-clause-slot
returns-then-words-address-clause-slot g c = λ at f d n from tells e stands walk le.
    let L = g.L.Layout in
    c.is_slot.ensures.slot at d n from stands walk le
    ∙ into_true L.table L.code at c.args.words.now f n c.args.address (car_words * d.number) d.objects tells (omega (arith, e)) stands.lies (omega (arith, e))

pub returns-else-words-address-clause-slot : goal.returns-else-words-address-clause-slot
returns-else-words-address-clause-slot g c = λ at f d n from tells e stands walk le.
    let L = g.L.Layout in
    grind (arith, c.if-words-address.false, into_false L.table L.code at c.args.words.now f n c.args.address (car_words * d.number) d.objects tells (omega (arith, e)) stands.lies (λ q. c.if-words-address.false (q ∙ e)))
