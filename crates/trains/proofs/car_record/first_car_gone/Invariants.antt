use Rattle.std.proofs.Common.{◌≡◌, ℕ, ◌<◌, ◌≤◌, length}
use Rattle.trains.specs.Table.{record_at, car_gone}
use Rattle.trains.proofs.car_record.first_car_gone.Given as goal

abbrev pub invariant-loop-record : goal.invariant-loop-record
invariant-loop-record l = record {
  all : length l.records ≡ 64;
  done : (n : ℕ) → n < l.record-index → record_at l.records n ≡ car_gone (record_at l.initial.records n);
  rest : (n : ℕ) → l.record-index ≤ n → record_at l.records n ≡ record_at l.initial.records n;
}
