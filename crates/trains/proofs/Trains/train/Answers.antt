use Rattle.std.proofs.Common.{sym, ap, ◌∙◌, get_or, List, ℕ}
use Rattle.model.specs.Trains.{one_of}
use Rattle.trains.proofs.Apart.{train_low, one_of_at}
use Rattle.trains.proofs.Known.{train_is}
use Rattle.trains.proofs.Trains.train.Goals as goal

pub returns-clause-cars : goal.returns-clause-cars
returns-clause-cars c =
    let x = c.index-deref-rank.result in
    c.as_slice.ensures ∙ train_is c.self.inside.records c.self.inside.trains.items c.self.inside.busy c.args.self.now c.args.rank x c.self.view_is c.requires
    (c.index-deref-rank.is ∙ ap (λ (trains : List (List ℕ)). get_or trains c.args.rank x) c.deref.ensures.0)

pub returns-clause-low : goal.returns-clause-low
returns-clause-low c =
    let x = c.index-deref-rank.result in
    let is = c.as_slice.ensures ∙ train_is c.self.inside.records c.self.inside.trains.items c.self.inside.busy c.args.self.now c.args.rank x c.self.view_is c.requires
    (c.index-deref-rank.is ∙ ap (λ (trains : List (List ℕ)). get_or trains c.args.rank x) c.deref.ensures.0) in
    λ k d l. train_low c.self.inside.records c.self.inside.trains.items c.self.inside.busy c.args.self.now c.args.rank c.self.invariant c.self.view_is (get_or c.as_slice.result.now k d)
    (ap (one_of (get_or c.as_slice.result.now k d)) (sym is) ∙ one_of_at k d c.as_slice.result.now l)
