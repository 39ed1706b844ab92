use Rattle.std.proofs.Common.{take, get_or, length, sym, refl, ap, ◌∙◌, arith}
use Rattle.remembered.specs.Updates.{pairs_of}
use Rattle.model.specs.Notes.{slots}
use Rattle.model.specs.Trains.{train_objects}
use Rattle.model.proofs.Alls.{all_with}
use Rattle.slots.specs.Slots.{AddressTells, ArePaired, first_into}
use Rattle.slots.proofs.Surveying.{first_into_none, sum_more, at_place}
use Rattle.slots.proofs.survey.survey_train.Goals as goal

pub loop-car-init : goal.loop-car-init
loop-car-init g c = record {
  few = omega arith;
  looked = refl;
  outside = tt;
  first = λ at t n ts numbers tells stands order paired. first_into_none (slots g.L.Layout.table n ts);
}

pub overflow_add-looked : goal.overflow_add-looked
overflow_add-looked g c = omega (arith, c.loop-car.invariant.few, c.survey-looked.ensures.few, c.loop-car-test.true, c.requires.few)

pub loop-car-preserved : goal.loop-car-preserved
loop-car-preserved g c =
    let M = g.L.Layout.table in
    let has = g.R.RememberedSet.has c.args.set.now in
    let i = c.loop-car.car-index in
    let xs = c.args.train.now in
    record {
      few = omega (arith, c.loop-car.invariant.few, c.survey-looked.ensures.few);
      looked = sum_more (pairs_of has) xs i c.loop-car.looked c.survey-looked.result c.loop-car-test.true c.loop-car.invariant.looked c.survey-looked.ensures.looked;
      outside = c.survey-looked.ensures.outside;
      first = λ at t n ts numbers tells stands order paired.
          let r = at_place (λ d. AddressTells at d × ArePaired has d (slots M n ts)) t i
          (all_with (AddressTells at) (λ d. ArePaired has d (slots M n ts)) (λ d. AddressTells at d × ArePaired has d (slots M n ts)) (λ d p q. (p, q)) t tells paired)
          (omega (arith, ap length numbers, c.loop-car-test.true)) in
          c.survey-looked.ensures.first at r.car (train_objects (take i t)) n ts r.known.0 (sym r.number ∙ ap (λ ns. get_or ns i 0) numbers) stands order r.known.1
          (c.loop-car.invariant.first at t n ts numbers tells stands order paired)
          ∙ ap (λ os. first_into os (slots M n ts)) (sym r.objects);
    }
