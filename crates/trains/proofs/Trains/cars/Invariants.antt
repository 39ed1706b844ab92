use Rattle.std.proofs.Common.{◌≡◌, ◌*◌, ◌≤◌, take, length, sum_by}
use Rattle.trains.proofs.Trains.cars.Given as goal

abbrev pub invariant-loop-train : goal.invariant-loop-train
invariant-loop-train l = record {
  total : l.cars ≡ sum_by length (take l.train-index l.train-items);
  few : l.cars ≤ 64 * l.train-index;
}
