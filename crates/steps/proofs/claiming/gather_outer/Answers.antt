use Rattle.std.proofs.Common.{◌≡◌, ℕ, suc, ◌+◌, ◌-◌, ◌<◌, [], ◌∷◌, ◌++◌, length, take, get_or, sym, ap, ◌∙◌, arith}
use Rattle.std.proofs.lemmas.List.{take_all}
use Rattle.model.specs.Notes.{train_slots, slots}
use Rattle.model.specs.Remembered.{slots_into}
use Rattle.model.specs.Trains.{car_numbers}
use Rattle.slots.specs.Slots.{addresses}
use Rattle.trains.specs.Fills.{Placement, fill_numbers}
use Rattle.trains.specs.Orders.{filled_of}
use Rattle.trains.specs.Ties.{fills}
use Rattle.trains.proofs.Follow.{fills_follow}
use Rattle.steps.proofs.ClaimingSlots.{gathered_more, train_at}
use Rattle.steps.proofs.ClaimingRanks.{train_before}
use Rattle.steps.proofs.claiming.gather_outer.Goals as goal

pub gather_cars-requires-clause-room : goal.gather_cars-requires-clause-room
gather_cars-requires-clause-room g c =
    let r = train_before c.args.trains.now.trains c.loop-rank.rank (omega (arith, c.loop-rank-test.true, c.count-rank-end.ensures.value)) in
    omega (arith, r.more, r.within, c.requires.few, c.loop-rank.invariant.few, ap length c.train.ensures.cars)

pub loop-rank-preserved : goal.loop-rank-preserved
loop-rank-preserved g c =
    let M = g.L.Layout.table in
    let k = c.loop-rank.rank in
    let b = train_before c.args.trains.now.trains k (omega (arith, c.loop-rank-test.true, c.count-rank-end.ensures.value)) in
    record {
      above = omega (arith, c.loop-rank.invariant.above);
      few = omega (arith, b.more, c.loop-rank.invariant.few, c.gather_cars.ensures.few, ap length c.train.ensures.cars);
      slots = λ at f t ts tells emptied e stand filled paired.
          let j = k - 1 in
          let q : k ≡ suc j = omega (arith, c.loop-rank.invariant.above) in
          let j_is : k + 1 - 1 ≡ suc j = omega (arith, c.loop-rank.invariant.above) in
          let l : j < length ts = omega (arith, q, c.loop-rank-test.true, c.count-rank-end.ensures.value, ap (λ (p : Placement). length p.trains) e, fills_follow.counted ts) in
          let r = train_at M g.L.Layout.code at c.args.words.now (λ n. filled_of n c.args.trains.now) (g.R.RememberedSet.has c.args.set.now) f (length t) ts j l stand filled paired in
          let numbers : car_numbers r.train ≡ c.train.result.now =
          r.numbers ∙ (ap (λ (i : ℕ). fill_numbers (get_or (fills (t ∷ ts)) i [])) (sym q) ∙ (ap (λ (p : Placement). fill_numbers (get_or p.trains k [])) (sym e) ∙ sym c.train.ensures.cars)) in
          gathered_more f c.args.out.now.items c.loop-rank.out.items c.gather_cars.new.out.items (slots M (length t) (take j ts)) (train_slots M r.order r.train)
          (slots M (length t) (take (k + 1 - 1) ts)) (ap (λ i. slots M (length t) (take i ts)) j_is ∙ r.slots_are)
          (c.loop-rank.invariant.slots at f t ts tells emptied e stand filled paired)
          (c.gather_cars.ensures.slots at f r.order r.train tells emptied numbers r.stand r.filled r.paired);
    }

pub returns : goal.returns
returns g c = λ at f t ts tells emptied e stand filled paired.
    c.loop-rank.invariant.slots at f t ts tells emptied e stand filled paired
    ∙ ap (λ us. c.args.out.now.items ++ addresses (slots_into f (slots g.L.Layout.table (length t) us)))
    (take_all (c.loop-rank.rank - 1) ts
    (omega (arith, c.loop-rank.invariant.above, c.loop-rank-test.false, c.count-rank-end.ensures.value, ap (λ (p : Placement). length p.trains) e, fills_follow.counted ts)))
