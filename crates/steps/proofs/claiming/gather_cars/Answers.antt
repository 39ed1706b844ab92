use Rattle.std.proofs.Common.{◌≡◌, ◌+◌, ◌*◌, ◌++◌, length, take, get_or, sym, ap, ◌∙◌, arith}
use Rattle.std.proofs.lemmas.List.{take_all}
use Rattle.model.specs.Notes.{train_slots, object_slots}
use Rattle.model.specs.Remembered.{slots_into}
use Rattle.model.specs.Trains.{car_words, words_of}
use Rattle.slots.specs.Slots.{addresses}
use Rattle.trains.specs.Orders.{filled_of}
use Rattle.steps.proofs.Rows.{length-car_numbers}
use Rattle.steps.proofs.ClaimingSlots.{gathered_more, car_at}
use Rattle.steps.proofs.claiming.gather_cars.Goals as goal

pub loop-car-preserved : goal.loop-car-preserved
loop-car-preserved g c =
    let M = g.L.Layout.table in
    let i = c.loop-car.car-index in
    let xs = c.args.cars.now in
    record {
      few = omega (arith, c.loop-car.invariant.few, c.gather.ensures.few, c.min-filled.ensures);
      slots = λ at f n t tells emptied numbers stand filled paired.
          let r = car_at M g.L.Layout.code at c.args.words.now (λ k. filled_of k c.args.trains.now) (g.R.RememberedSet.has c.args.set.now) f n t i
          (omega (arith, ap length numbers, c.loop-car-test.true)) stand filled paired in
          let number : r.car.number ≡ get_or xs i 0 = sym r.number ∙ ap (λ ns. get_or ns i 0) numbers in
          let full : words_of r.car.objects ≡ c.min-filled.result =
          omega (arith, r.filled, r.stands.within, c.min-filled.ensures, c.filled.ensures, ap (λ k. filled_of k c.args.trains.now) number) in
          gathered_more f c.args.out.now.items c.loop-car.out.items c.gather.new.out.items (train_slots M n (take i t)) (object_slots M r.order (car_words * r.car.number) r.car.objects)
          (train_slots M n (take (i + 1) t)) r.slots (c.loop-car.invariant.slots at f n t tells emptied numbers stand filled paired)
          (c.gather.ensures.slots at f r.car r.order tells emptied number full r.stands r.paired);
    }

pub returns-clause-slots : goal.returns-clause-slots
returns-clause-slots g c = λ at f n t tells emptied numbers stand filled paired.
    c.loop-car.invariant.slots at f n t tells emptied numbers stand filled paired
    ∙ ap (λ u. c.args.out.now.items ++ addresses (slots_into f (train_slots g.L.Layout.table n u)))
    (take_all c.loop-car.car-index t (omega (arith, length-car_numbers t, ap length numbers, c.loop-car-test.false)))
