-- The worked examples, by computing the definitions.
use Rattle.std.proofs.Common.{refl}
use Rattle.std.specs.Fmt.{digits}
use Rattle.layout.specs.Product.{product_table}
use Rattle.model.specs.Bodies.{shape_of}
use Rattle.model.specs.Examples.{WorkedExamples}
use Rattle.model.proofs.Cars.{fresh_is}
use Rattle.model.proofs.General.{forty_eight_of_a_shape_fill, empty_roots_same}

pub examples : WorkedExamples
unfolding digits
examples = record {
  cycle_across_two_trains = refl;
  cycle_with_cards = refl;
  car_carried_back = refl;
  fourth_car_opens_a_train = refl;
  records_have_a_word = refl;
  arrays_have_references = refl;
  full_after_48_arrays = λ rs len roots h calls r k a b x P ok is.
      let u = fresh_is product_table (shape_of k a b) x is in
      (forty_eight_of_a_shape_fill product_table 1 63 0 _ refl refl rs len roots h calls).full r k a b u.0 P ok u.1;
  lift_to_zero = refl;
  lift_below_zero = refl;
  lift_beyond_a_word = refl;
  empty_roots_are_the_same = λ m r q P i j d e. empty_roots_same product_table m r q P i j d e;
  leading_zero = refl;
  space_behind = refl;
  faults_are_lines = refl;
}
