use Rattle.std.proofs.Common.{[], ◌≤◌, length, List, ℕ, sym, ap, ◌∙◌, subst, get_or}
use Rattle.std.proofs.lemmas.Bool.{ltb-false}
use Rattle.trains.specs.Table.{last_of}
use Rattle.trains.proofs.Known.{last_past, last_get, last_is}
use Rattle.trains.proofs.train.last_car.Goals as goal

pub returns-in_err-train : goal.returns-in_err-train
returns-in_err-train c =
    let e = c.in_err-train.ensures.lookup in
    c.from_residual.ensures ∙ sym (last_past c.args.rank c.args.trains.now.items (subst (λ (trains : List (List ℕ)). length trains ≤ c.args.rank) c.as_slice.ensures.value (ltb-false _ _ (sym e.0))))

pub returns : goal.returns
returns c =
    let e = c.in_ok-train.ensures.lookup in
    let train = c.as_slice-2.ensures ∙ (e.3.1 [] ∙ ap (λ (trains : List (List ℕ)). get_or trains c.args.rank []) c.as_slice.ensures.value) in
    c.copied.ensures ∙ (c.last.ensures.value ∙ (last_get c.as_slice-2.result.now ∙ (ap last_of train ∙ last_is c.args.rank c.args.trains.now.items)))
