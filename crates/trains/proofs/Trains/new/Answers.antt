use Rattle.trains.proofs.Known.{stands_new}
use Rattle.trains.proofs.Trains.new.Goals as goal

pub invariant_of-result : goal.invariant_of-result
invariant_of-result c = rw c.new.ensures (stands_new c.free.result c.free.ensures)
