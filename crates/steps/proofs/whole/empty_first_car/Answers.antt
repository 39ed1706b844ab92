use Rattle.std.proofs.Common.{◌≡◌, length, sym, ap, ◌∙◌, subst, arith}
use Rattle.model.specs.Space.{space_of}
use Rattle.model.specs.Trains.{words_of}
use Rattle.objects.specs.Locate.{locate}
use Rattle.trains.specs.Orders.{filled_of}
use Rattle.claims.proofs.Claimed.{count_all}
use Rattle.memory.specs.Heap.{Heap}
use Rattle.steps.specs.Claiming.{FirstCar}
use Rattle.steps.specs.Emptying.{Leaving, CanEmptyFrom}
use Rattle.steps.specs.Finishing.{CanFinish}
use Rattle.steps.proofs.Branches.{car_first, arrives_at}
use Rattle.steps.proofs.whole.empty_first_car.Goals as goal

pub overflow_sub-lost : goal.overflow_sub-lost
overflow_sub-lost g c =
    let k = c.requires.known in
    let L = g.L.Layout in
    let m = space_of L.table k.history in
    let e : Leaving = record { history = k.history; first = k.car; cars = k.others; rest = k.rest } in
    let inside = subst (λ (s : Heap). FirstCar L.table L.code s (g.R.RememberedSet.has c.args.set.now) k.history k.car k.others k.rest) (sym c.memory.view_is) k.first in
    let car = car_first L.table L.code g.met.L.Layout.lawful _ _ k.history k.car k.others k.rest inside in
    let claimed = c.claim_all.ensures.claims k.history k.car k.others k.rest k.first k.number_is (arrives_at L.table L.code _ _ k.history k.car k.others k.rest inside c.arrival-arrival.result c.arrival-arrival.ensures) in
    let filled : words_of k.car.objects ≡ c.min-filled.result = omega (arith, car.1, car.0.within, c.min-filled.ensures, c.filled.ensures, ap (λ n. filled_of n c.memory.inside.trains) k.number_is) in
    let objects = c.objects_in-objects.ensures.objects (locate m.trains) k.car car.0 (sym k.number_is) filled in
    omega (arith, count_all claimed, objects, ap length c.as_slice.ensures.value)

pub move_out-moved-requires : goal.move_out-moved-requires
move_out-moved-requires g c =
    let k = c.requires.known in
    let L = g.L.Layout in
    let m = space_of L.table k.history in
    let e : Leaving = record { history = k.history; first = k.car; cars = k.others; rest = k.rest } in
    let inside = subst (λ (s : Heap). FirstCar L.table L.code s (g.R.RememberedSet.has c.args.set.now) k.history k.car k.others k.rest) (sym c.memory.view_is) k.first in
    let car = car_first L.table L.code g.met.L.Layout.lawful _ _ k.history k.car k.others k.rest inside in
    let claimed = c.claim_all.ensures.claims k.history k.car k.others k.rest k.first k.number_is (arrives_at L.table L.code _ _ k.history k.car k.others k.rest inside c.arrival-arrival.result c.arrival-arrival.ensures) in
    let filled : words_of k.car.objects ≡ c.min-filled.result = omega (arith, car.1, car.0.within, c.min-filled.ensures, c.filled.ensures, ap (λ n. filled_of n c.memory.inside.trains) k.number_is) in
    let objects = c.objects_in-objects.ensures.objects (locate m.trains) k.car car.0 (sym k.number_is) filled in
    let can : CanEmptyFrom L.table L.code m k.car k.others k.rest c.args.car c.claim_all.new.claims c.as_slice-2.result.now c.args.memory.now = record {
      stands = k.first.stands;
      trains = k.first.trains;
      car_is = k.number_is;
      order_is = claimed.order_is;
      slots_are = c.as_slice-2.ensures.value ∙ c.claim_all.ensures.slots k.history k.car k.others k.rest k.first k.number_is;
    } in
    record { known = (e, can) }

pub finish-requires : goal.finish-requires
finish-requires g c =
    let k = c.requires.known in
    let L = g.L.Layout in
    let m = space_of L.table k.history in
    let e : Leaving = record { history = k.history; first = k.car; cars = k.others; rest = k.rest } in
    let inside = subst (λ (s : Heap). FirstCar L.table L.code s (g.R.RememberedSet.has c.args.set.now) k.history k.car k.others k.rest) (sym c.memory.view_is) k.first in
    let car = car_first L.table L.code g.met.L.Layout.lawful _ _ k.history k.car k.others k.rest inside in
    let claimed = c.claim_all.ensures.claims k.history k.car k.others k.rest k.first k.number_is (arrives_at L.table L.code _ _ k.history k.car k.others k.rest inside c.arrival-arrival.result c.arrival-arrival.ensures) in
    let filled : words_of k.car.objects ≡ c.min-filled.result = omega (arith, car.1, car.0.within, c.min-filled.ensures, c.filled.ensures, ap (λ n. filled_of n c.memory.inside.trains) k.number_is) in
    let objects = c.objects_in-objects.ensures.objects (locate m.trains) k.car car.0 (sym k.number_is) filled in
    let can : CanEmptyFrom L.table L.code m k.car k.others k.rest c.args.car c.claim_all.new.claims c.as_slice-2.result.now c.args.memory.now = record {
      stands = k.first.stands;
      trains = k.first.trains;
      car_is = k.number_is;
      order_is = claimed.order_is;
      slots_are = c.as_slice-2.ensures.value ∙ c.claim_all.ensures.slots k.history k.car k.others k.rest k.first k.number_is;
    } in
    record {
      known = (
        e,
        record {
          emptied = c.move_out-moved.ensures.emptied e can;
          ready = subst (λ xs. CanFinish L.table L.decoded e c.move_out-moved.new.forward c.args.car c.claim_all.new.claims xs c.move_out-moved.new.memory.words)
              (c.as_slice-2.ensures.value ∙ sym c.as_slice-3.ensures.value) (c.move_out-moved.ensures.finish e can);
          out_is = c.move_out-moved.ensures.out e can;
          back_is = c.move_out-moved.ensures.back e can;
          copied_is = c.move_out-moved.ensures.copied e can;
          lost_is = omega (arith, count_all claimed, objects, ap length c.as_slice.ensures.value);
        },
      );
    }

pub returns : goal.returns
returns g c = λ h f cs ts first num w asks asked looked.
    let L = g.L.Layout in
    let m = space_of L.table h in
    let e : Leaving = record { history = h; first = f; cars = cs; rest = ts } in
    let inside = subst (λ (s : Heap). FirstCar L.table L.code s (g.R.RememberedSet.has c.args.set.now) h f cs ts) (sym c.memory.view_is) first in
    let car = car_first L.table L.code g.met.L.Layout.lawful _ _ h f cs ts inside in
    let claimed = c.claim_all.ensures.claims h f cs ts first num (arrives_at L.table L.code _ _ h f cs ts inside c.arrival-arrival.result c.arrival-arrival.ensures) in
    let filled : words_of f.objects ≡ c.min-filled.result = omega (arith, car.1, car.0.within, c.min-filled.ensures, c.filled.ensures, ap (λ n. filled_of n c.memory.inside.trains) num) in
    let objects = c.objects_in-objects.ensures.objects (locate m.trains) f car.0 (sym num) filled in
    let can : CanEmptyFrom L.table L.code m f cs ts c.args.car c.claim_all.new.claims c.as_slice-2.result.now c.args.memory.now = record {
      stands = first.stands;
      trains = first.trains;
      car_is = num;
      order_is = claimed.order_is;
      slots_are = c.as_slice-2.ensures.value ∙ c.claim_all.ensures.slots h f cs ts first num;
    } in
    c.finish.ensures e (record {
      emptied = c.move_out-moved.ensures.emptied e can;
      ready = subst (λ xs. CanFinish L.table L.decoded e c.move_out-moved.new.forward c.args.car c.claim_all.new.claims xs c.move_out-moved.new.memory.words)
          (c.as_slice-2.ensures.value ∙ sym c.as_slice-3.ensures.value) (c.move_out-moved.ensures.finish e can);
      out_is = c.move_out-moved.ensures.out e can;
      back_is = c.move_out-moved.ensures.back e can;
      copied_is = c.move_out-moved.ensures.copied e can;
      lost_is = omega (arith, count_all claimed, objects, ap length c.as_slice.ensures.value);
    }) w asks asked looked
