use Rattle.std.proofs.Common.{◌∙◌, arith, sym}
use Rattle.std.proofs.lemmas.Bool.{lt-ltb, ne_eqb}
use Rattle.trains.proofs.Known.{later_rank, earlier_rank, same_rank}
use Rattle.trains.proofs.Trains.is_later.Goals as goal

pub returns-then-than-car : goal.returns-then-than-car
returns-then-than-car c =
    lt-ltb _ _ c.if-than-car.true ∙ sym (later_rank _ _ _ _ _ c.record-car.ensures c.record-than.ensures c.if-than-car.true)

pub returns-then-than-car-2 : goal.returns-then-than-car-2
returns-then-than-car-2 c = same_rank _ _ _ _ _ c.record-car.ensures c.record-than.ensures c.if-than-car-2.true

pub returns-else-than-car-2 : goal.returns-else-than-car-2
returns-else-than-car-2 c =
    ne_eqb _ _ c.if-than-car-2.false ∙ sym (earlier_rank _ _ _ _ _ c.record-car.ensures c.record-than.ensures (omega (arith, c.if-than-car-2.false, c.if-than-car.false)))
