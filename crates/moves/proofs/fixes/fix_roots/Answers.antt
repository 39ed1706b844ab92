use Rattle.std.proofs.Common.{arith, ◌∙◌, ap, sym, slice_set, slice_index_or}
use Rattle.moves.specs.Fixes.{fixed}
use Rattle.moves.proofs.Turns.{fix_roots_turn, fix_roots_read}
use Rattle.moves.proofs.fixes.fix_roots.Goals as goal

pub loop-root-preserved : goal.loop-root-preserved
loop-root-preserved c =
    let f = fixed c.args.car c.args.forward.now in
    let k = c.loop-root.root-index in
    let read = ap (λ xs. slice_index_or xs k 0) c.loop-root.invariant ∙ fix_roots_read f c.args.roots.now k (omega (arith, c.loop-root-test.true)) in
    ap (slice_set c.loop-root.roots k) (c.fixed_word.ensures ∙ ap f read)
    ∙ ap (λ xs. slice_set xs k (f (slice_index_or c.args.roots.now k 0))) c.loop-root.invariant
    ∙ sym (fix_roots_turn f c.args.roots.now k (omega (arith, c.loop-root-test.true)))
