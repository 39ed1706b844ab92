use Rattle.std.proofs.Common.{◌≡◌, length, length-append, take, get_or, sym, ap, ◌∙◌, arith}
use Rattle.model.specs.Trains.{train_objects, words_of}
use Rattle.model.proofs.Alls.{all_with}
use Rattle.objects.specs.Lies.{CarStands}
use Rattle.slots.proofs.Surveying.{sum_more, at_place}
use Rattle.trains.specs.Orders.{filled_of}
use Rattle.steps.proofs.train.contents_of.Goals as goal

pub loop-car-preserved : goal.loop-car-preserved
loop-car-preserved g c =
    let L = g.L.Layout in
    let xs = c.args.cars.now in
    let i = c.loop-car.car-index in
    let p = c.args.trains.now in
    record {
      few = omega (arith, c.loop-car.invariant.few, c.objects_in-objects.ensures.few);
      low = omega (arith, c.loop-car.invariant.low, c.filled-filled.ensures, c.requires.filled i 0 c.loop-car-test.true);
      words = sum_more (λ n. filled_of n p) xs i c.loop-car.filled_words c.filled-filled.result c.loop-car-test.true c.loop-car.invariant.words c.filled-filled.ensures;
      objects = λ at t numbers stand filled.
          let r = at_place (λ d. CarStands L.table L.code at c.args.words.now d × (filled_of d.number p ≡ words_of d.objects)) t i
          (all_with (CarStands L.table L.code at c.args.words.now) (λ d. filled_of d.number p ≡ words_of d.objects) (λ d. CarStands L.table L.code at c.args.words.now d × (filled_of d.number p ≡ words_of d.objects)) (λ d k l. (k, l)) t stand filled)
          (omega (arith, ap length numbers, c.loop-car-test.true)) in
          let number : r.car.number ≡ get_or xs i 0 = sym r.number ∙ ap (λ ns. get_or ns i 0) numbers in
          let here : c.objects_in-objects.result ≡ length r.car.objects =
          c.objects_in-objects.ensures.objects at r.car r.known.0 number (sym r.known.1 ∙ (ap (λ n. filled_of n p) number ∙ sym c.filled-filled.ensures)) in
          omega (arith, here, c.loop-car.invariant.objects at t numbers stand filled, ap length r.objects, length-append (train_objects (take i t)) r.car.objects);
    }
