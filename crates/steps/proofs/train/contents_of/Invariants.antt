use Rattle.std.proofs.Common.{◌≡◌, ℕ, ◌*◌, ◌≤◌, take, length}
use Rattle.std.specs.List.{AllByRecursion}
use Rattle.std.specs.Prelude.{sum_by}
use Rattle.model.specs.Trains.{Train, train_objects, car_numbers, words_of}
use Rattle.objects.specs.Lies.{CarStands}
use Rattle.trains.specs.Orders.{filled_of}
use Rattle.steps.proofs.train.contents_of.Given as goal

abbrev pub invariant-loop-car : goal.invariant-loop-car
invariant-loop-car g l = record {
  few : l.objects ≤ 128 * l.car-index;
  low : l.filled_words ≤ 128 * l.car-index;
  words : l.filled_words ≡ sum_by (λ n. filled_of n l.trains) (take l.car-index l.cars);
  objects : (at : ℕ → ℕ) (t : Train) → car_numbers t ≡ l.cars → AllByRecursion (CarStands g.L.Layout.table g.L.Layout.code at l.words) t
      → AllByRecursion (λ c. filled_of c.number l.trains ≡ words_of c.objects) t → l.objects ≡ length (train_objects (take l.car-index t));
}
