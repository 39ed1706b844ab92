use Rattle.std.proofs.Common.{sym}
use Rattle.remembered.specs.SlotCarLaws.{kept_count_none}
use Rattle.remembered.proofs.slot.CarPairs.free.Goals as goal

pub invariant_of-self : goal.invariant_of-self
invariant_of-self c = sym (kept_count_none c.none-self-inside.result c.none-self-inside.ensures)
