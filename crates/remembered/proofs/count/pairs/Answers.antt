use Rattle.std.proofs.Common.{◌<◌, ◌≤◌, sym, refl, ◌∙◌, arith}
use Rattle.remembered.specs.Counts.{count_upto, count-one}
use Rattle.remembered.proofs.count.pairs.Goals as goal

pub loop-address-init : goal.loop-address-init
loop-address-init g c = (omega arith, omega arith, refl)

pub loop-address-preserved : goal.loop-address-preserved
loop-address-preserved g c =
    let P = g.R.RememberedSet.has c.args.rset.now c.args.car in
    let at = c.in-Some.address in
    let told = c.in-Some.ensures in
    let bound = g.met.R.RememberedSet.bounded c.args.rset.now c.args.car at told.1 in
    let lt : c.in-Some.address < 8192 = bound.1 in
    let le : c.loop-address.from ≤ c.in-Some.address = told.0 in
    (omega arith, omega arith, omega (arith, c.loop-address.invariant.2, count_upto P c.loop-address.from at le told.2, count-one P at told.1))

pub returns : goal.returns
returns g c =
    let P = g.R.RememberedSet.has c.args.rset.now c.args.car in
    let told = c.in_default.ensures in
    c.loop-address.invariant.2 ∙ sym (count_upto P c.loop-address.from 8192 c.loop-address.invariant.0 (λ k h l. told k h))
