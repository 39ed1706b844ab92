use Rattle.std.proofs.Common.{◌≡◌, ℕ, ◌<◌, true}
use Rattle.trains.specs.Table.{record_at}
use Rattle.trains.proofs.Trains.lowest_free.Given as goal

abbrev pub invariant-loop-car : goal.invariant-loop-car
invariant-loop-car l = (k : ℕ) → k < l.car → (record_at l.self-inside.records k).in_use ≡ true
