use Rattle.std.proofs.Common.{◌≡◌, ℕ, ◌+◌, ◌/◌, ◌<◌, cond, List, [], Some, sym, refl, ap, ◌∙◌, subst, arith}
use Rattle.remembered.specs.Counts.{count_upto, count-one}
use Rattle.model.specs.Notes.{Slot, slots}
use Rattle.model.specs.Remembered.{slots_into}
use Rattle.model.specs.Trains.{Car, words_of, one_of}
use Rattle.model.proofs.RememberCars.{row_slots}
use Rattle.objects.specs.Lies.{CarStands}
use Rattle.slots.specs.Order.{earliest, cars_of, outside_words}
use Rattle.slots.specs.Slots.{addresses}
use Rattle.slots.proofs.Gathering.{walks_later}
use Rattle.slots.proofs.Ordered.{IsOrdered}
use Rattle.slots.proofs.Surveying.{none_outside, outside_none, nothing_tells, in_car, into_here, cars_ordered, survey_more, survey_done, counted_all}
use Rattle.slots.proofs.survey.survey.Goals as goal
use Rattle.slots.proofs.survey.survey.Goals.{then-is_slot_into, else-is_slot_into}

pub earlier_of-requires-clause-address_outside : goal.earlier_of-requires-clause-address_outside
earlier_of-requires-clause-address_outside g c =
    let a = c.in-Some.address in
    let told = c.in-Some.ensures in
    let within = g.met.R.RememberedSet.bounded c.args.set.now c.args.car a told.1 in
    let O = g.C.Cars.outside c.args.cars.now in
    let F = g.C.Cars.filled_words c.args.cars.now in
    let d : Car = record { number = a / 128; objects = [] } in
    let f : Car = record { number = c.args.car; objects = [] } in
    none_outside O (a / 128) c.is_slot_into.result c.if-is_slot_into.true
    (λ e.
    let stands : CarStands g.L.Layout.table g.L.Layout.code (λ x. 8192) c.args.words.now d = record { lies = tt; placed = tt; number = omega (arith, within.1); within = omega arith } in
    c.is_slot_into.ensures.slot (λ x. 8192) f d 0 a (nothing_tells c.args.car c.requires.car) refl stands
    (c.walk_on-walk.ensures d c.loop-address.from refl (outside_none O F (a / 128) e)
    (λ same. c.loop-address.invariant.walks (λ x. 8192) d (sym same) (outside_none O F (a / 128) e ∙ ap (outside_words O F) (sym same)) stands) told.0)
    (omega arith))

pub loop-address-preserved : goal.loop-address-preserved
loop-address-preserved g c =
    let M = g.L.Layout.table in
    let a = c.in-Some.address in
    let told = c.in-Some.ensures in
    let within = g.met.R.RememberedSet.bounded c.args.set.now c.args.car a told.1 in
    let few : a < 8192 = within.1 in
    let O = g.C.Cars.outside c.args.cars.now in
    let F = g.C.Cars.filled_words c.args.cars.now in
    let later = g.C.Cars.later c.args.cars.now in
    let P = g.R.RememberedSet.has c.args.set.now in
    let took : c.if-is_slot_into.first ≡ cond c.is_slot_into.result (Some (earliest later c.loop-address.first a)) c.loop-address.first =
    elim c.if-is_slot_into.branch [
      | then-is_slot_into w ↦ grind (arith, w.first-is, w.earlier_of.ensures.value, w.if-is_slot_into.true)
      | else-is_slot_into w ↦ grind (arith, w.first-is, w.if-is_slot_into.false)
    ] in
    let walks = λ (at : ℕ → ℕ) (d : Car) (number : d.number ≡ a / 128) (filled : words_of d.objects ≡ outside_words O F (a / 128)) (stands : CarStands M g.L.Layout.code at c.args.words.now d).
    c.walk_on-walk.ensures d c.loop-address.from number filled
    (λ same. c.loop-address.invariant.walks at d (number ∙ sym same) (filled ∙ ap (outside_words O F) (sym same)) stands) told.0 in
    record {
      high = omega (arith, few);
      few = omega (arith, c.loop-address.invariant.few, told.0);
      looked = omega (arith, c.loop-address.invariant.looked, count_upto (P c.args.car) c.loop-address.from a told.0 told.2, count-one (P c.args.car) a told.1);
      outside = elim c.if-is_slot_into.branch [
        | then-is_slot_into w ↦ rw w.first-is w.earlier_of.ensures.outside
        | else-is_slot_into w ↦ rw w.first-is c.loop-address.invariant.outside
      ];
      walks = λ at d number filled stands.
          walks_later d a (a + 1) c.is_slot_into.new.self (c.is_slot_into.ensures.walks at d a stands (walks at d number filled stands) (omega arith)) (omega arith);
      first = λ at f seen n ts tells e stands order paired start.
          let h = in_car M g.met.L.Layout.lawful g.L.Layout.code at c.args.words.now O F later n a (cars_of ts) few stands order in
          let ordered : IsOrdered later (addresses (slots M n ts)) =
          subst (λ (ss : List Slot). IsOrdered later (addresses ss)) (sym (row_slots M n ts))
          (cars_ordered M g.met.L.Layout.lawful g.L.Layout.code at c.args.words.now later n (cars_of ts) stands order.order) in
          let here : c.is_slot_into.result ≡ one_of a (addresses (slots_into f (slots M n ts))) =
          c.is_slot_into.ensures.slot at f h.car h.order a tells e h.stands (walks at h.car h.number h.filled h.stands) (omega arith)
          ∙ (into_here M g.met.L.Layout.lawful g.L.Layout.code at c.args.words.now f n a (outside_words O F (a / 128)) (cars_of ts) tells (omega (arith, e)) stands h
          ∙ ap (λ (ss : List Slot). one_of a (addresses (slots_into f ss))) (sym (row_slots M n ts))) in
          survey_more P seen f c.loop-address.from later a (slots M n ts) c.is_slot_into.result c.loop-address.first c.if-is_slot_into.first ordered paired told.0
          (λ x l m. ap (λ k. P k x) e ∙ told.2 x l m) here took
          (c.loop-address.invariant.first at f seen n ts tells e stands order paired start);
    }

pub returns-clause-looked : goal.returns-clause-looked
returns-clause-looked g c =
    let P = g.R.RememberedSet.has c.args.set.now c.args.car in
    counted_all P c.loop-address.from 8192 c.loop-address.looked c.loop-address.invariant.high (λ k h. c.in_default.ensures k h) c.loop-address.invariant.looked

pub returns-clause-first : goal.returns-clause-first
returns-clause-first g c = λ at f seen n ts tells e stands order paired start.
    let P = g.R.RememberedSet.has c.args.set.now in
    survey_done P seen f c.loop-address.from (slots g.L.Layout.table n ts) c.loop-address.first paired
    (λ x l. ap (λ k. P k x) e ∙ c.in_default.ensures x l)
    (c.loop-address.invariant.first at f seen n ts tells e stands order paired start)
