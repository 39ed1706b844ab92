use Rattle.std.proofs.Common.{◌≡◌, take}
use Rattle.moves.specs.Fixes.{fix_each}
use Rattle.moves.proofs.fixes.fix_slots.Given as goal

abbrev pub invariant-loop-slot : goal.invariant-loop-slot
invariant-loop-slot l = l.words ≡ fix_each l.car l.forward (take l.slot-index l.slots) l.fn.words
