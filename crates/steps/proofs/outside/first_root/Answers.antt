use Rattle.std.proofs.Common.{◌+◌, ◌/◌, cond, drop, get_or, Some, ap, ◌∙◌, arith}
use Rattle.std.specs.Prelude.{find}
use Rattle.std.proofs.lemmas.Bool.{ne_eqb}
use Rattle.trains.specs.Orders.{rank_of}
use Rattle.steps.specs.Asked.{leads_to_first}
use Rattle.steps.proofs.Finding.{find_at}
use Rattle.steps.proofs.outside.first_root.Goals as goal

pub loop-word-preserved : goal.loop-word-preserved
loop-word-preserved c =
    let p = leads_to_first c.args.trains.now.trains in
    let xs = c.args.roots.now in
    let i = c.loop-word.word-index in
    c.loop-word.invariant
    ∙ (find_at p xs i (omega (arith, c.loop-word-test.true, c.told-roots))
    ∙ ap (λ b. cond b (Some (get_or xs i 0)) (find p (drop (i + 1) xs))) (ne_eqb (rank_of (get_or xs i 0 / 128) c.args.trains.now.trains) 0 (λ e. c.if-rank-eq0.false (c.rank.ensures ∙ e))))
