use Rattle.std.proofs.Common.{◌+◌, ◌*◌, arith, ◌∙◌, sym, ap, subst, min}
use Rattle.steps.proofs.Counting.{Counts, counts_more, counts_all}
use Rattle.steps.proofs.train.objects_in.Goals as goal

pub loop-address-preserved : goal.loop-address-preserved
loop-address-preserved g c =
    let L = g.L.Layout in
    record {
      few = omega (arith, c.size.ensures, c.saturating_add-address.ensures, c.loop-address.invariant.few, c.loop-address-test.true, c.requires.car, c.requires.filled);
      most = omega (arith, c.loop-address.invariant.few, c.loop-address-test.true);
      counts = λ at d stands number filled.
          subst (λ k. Counts L.table L.code at c.args.words.now d k (c.loop-address.objects + 1)) (sym (c.saturating_add-address.ensures ∙ ap (λ k. min (c.loop-address.address + k) 4294967295) c.size.ensures))
          (counts_more L.table L.code L.decoded g.met.L.Layout.lawful g.met.L.Layout.coded at c.args.words.now d c.loop-address.address c.loop-address.objects (128 * c.args.car + c.args.filled)
          (c.loop-address.invariant.counts at d stands number filled) (omega (arith, number, filled)) (omega (arith, c.requires.car, c.requires.filled)) c.loop-address-test.true);
    }

pub returns-clause-objects : goal.returns-clause-objects
returns-clause-objects g c = λ at d stands number filled.
    let L = g.L.Layout in
    counts_all L.table L.code L.decoded g.met.L.Layout.lawful g.met.L.Layout.coded at c.args.words.now d c.loop-address.address c.loop-address.objects (128 * c.args.car + c.args.filled) stands
    (c.loop-address.invariant.counts at d stands number filled) (omega (arith, number, filled)) (omega (arith, c.loop-address-test.false))

pub returns-clause-few : goal.returns-clause-few
returns-clause-few g c = omega (arith, c.loop-address.invariant.most, c.requires.filled)
