use Rattle.std.proofs.Common.{◌≡◌, ℕ, ◌+◌, ◌*◌, cond, [], ◌∷◌, ◌++◌, arith, inl, inr}
use Rattle.std.proofs.lemmas.Bool.{both_ways, cases_lt}
use Rattle.std.proofs.lemmas.List.{append-nil}
use Rattle.model.specs.Trains.{car_words, words_of}
use Rattle.slots.proofs.Walking.{rises_above}
use Rattle.slots.proofs.Gathering.{walks_later, car_into_rise, unpaired, gather_init, gather_more, gather_done, length-gather_more}
use Rattle.slots.proofs.gather.Goals as goal
use Rattle.slots.proofs.gather.Goals.{then-is_slot_into, else-is_slot_into}

pub loop-address-init : goal.loop-address-init
loop-address-init g c = record {
  low = omega arith;
  high = omega arith;
  few = omega arith;
  walks = λ at d e filled stands. c.over-walk.ensures d e filled;
  slots = λ at f d n tells emptied e filled stands paired.
      let M = g.L.Layout.table in
      gather_init c.args.out.now.items _ (car_words * d.number) (car_words * d.number + words_of d.objects) (128 * c.args.car)
      (car_into_rise M g.met.L.Layout.lawful g.L.Layout.code at c.args.words.now f d n stands) (omega (arith, e));
}

pub loop-address-preserved : goal.loop-address-preserved
loop-address-preserved g c =
    let M = g.L.Layout.table in
    let a = c.in-Some.address in
    let told = c.in-Some.ensures in
    let pushed : c.if-is_slot_into.out.items ≡ c.loop-address.out.items ++ cond c.is_slot_into.result (a ∷ []) [] =
    elim c.if-is_slot_into.branch [
      | then-is_slot_into w ↦ grind (arith, w.out-is, w.push.ensures, w.if-is_slot_into.true)
      | else-is_slot_into w ↦ grind (arith, w.out-is, w.if-is_slot_into.false, append-nil {A = ℕ} c.loop-address.out.items)
    ] in
    record {
      low = omega (arith, told.0);
      high = omega arith;
      few = omega (arith, length-gather_more c.loop-address.out.items c.if-is_slot_into.out.items a c.is_slot_into.result pushed, told.0, c.loop-address.invariant.few);
      walks = λ at d e filled stands.
          walks_later d a (a + 1) c.is_slot_into.new.self
          (c.is_slot_into.ensures.walks at d c.loop-address.from stands (c.loop-address.invariant.walks at d e filled stands) told.0) (omega arith);
      slots = λ at f d n tells emptied e filled stands paired.
          gather_more c.args.out.now.items c.loop-address.out.items c.if-is_slot_into.out.items _ (car_words * d.number) (car_words * d.number + words_of d.objects)
          c.loop-address.from a c.is_slot_into.result
          (car_into_rise M g.met.L.Layout.lawful g.L.Layout.code at c.args.words.now f d n stands) told.0
          (λ x l m h. unpaired (g.R.RememberedSet.has c.args.set.now) f c.args.emptied x _ paired emptied (told.2 x l m) h)
          (c.is_slot_into.ensures.slot at f d n c.loop-address.from tells emptied stands (c.loop-address.invariant.walks at d e filled stands) told.0)
          pushed
          (c.loop-address.invariant.slots at f d n tells emptied e filled stands paired);
    }

pub returns-then-address-end-clause-slots : goal.returns-then-address-end-clause-slots
returns-then-address-end-clause-slots g c = λ at f d n tells emptied e filled stands paired.
    let M = g.L.Layout.table in
    let told = c.in-Some.ensures in
    let r = car_into_rise M g.met.L.Layout.lawful g.L.Layout.code at c.args.words.now f d n stands in
    gather_done c.args.out.now.items c.loop-address.out.items _ c.loop-address.from
    (λ x l h. elim (cases_lt x c.in-Some.address) [
      | inl lt ↦ unpaired (g.R.RememberedSet.has c.args.set.now) f c.args.emptied x _ paired emptied (told.2 x l lt) h
      | inr ge ↦ both_ways _ (rises_above (car_words * d.number) (car_words * d.number + words_of d.objects) x _ r (omega (arith, e, filled, ge))) h
    ])
    (c.loop-address.invariant.slots at f d n tells emptied e filled stands paired)

pub returns-in_default-clause-slots : goal.returns-in_default-clause-slots
returns-in_default-clause-slots g c = λ at f d n tells emptied e filled stands paired.
    gather_done c.args.out.now.items c.loop-address.out.items _ c.loop-address.from
    (λ x l h. unpaired (g.R.RememberedSet.has c.args.set.now) f c.args.emptied x _ paired emptied (c.in_default.ensures x l) h)
    (c.loop-address.invariant.slots at f d n tells emptied e filled stands paired)
