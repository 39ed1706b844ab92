use Rattle.std.proofs.Common.{◌≡◌, ℕ, ◌*◌, ◌<◌, ◌≤◌, false}
use Rattle.remembered.specs.BitRow.{bit_in}
use Rattle.remembered.proofs.bit_row.BitRow.next.Given as goal

-- no bit was found yet
abbrev pub invariant-loop-i : goal.invariant-loop-i
invariant-loop-i g l = (k : ℕ) → l.from ≤ k → k < 64 * l.i → bit_in l.self k ≡ false
