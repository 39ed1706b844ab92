use Rattle.std.proofs.Common.{sym}
use Rattle.remembered.specs.SlotCarLaws.{kept_count_none}
use Rattle.remembered.proofs.slot.CarPairs.none.Goals as goal

pub invariant_of-result : goal.invariant_of-result
invariant_of-result c = sym (kept_count_none c.none.result c.none.ensures)
