use Rattle.std.proofs.Common.{sym, ap, ◌∙◌, subst, arith}
use Rattle.std.specs.Prelude.{sum_by}
use Rattle.model.specs.Space.{space_of}
use Rattle.memory.specs.Stands.{Stands, Known}
use Rattle.memory.proofs.Held.{halt_at}
use Rattle.trains.specs.Orders.{filled_of}
use Rattle.steps.proofs.Freeing.{known_first_cars, first_train_is, train_steps}
use Rattle.steps.proofs.Rows.{train_words}
use Rattle.steps.proofs.train.free_train.Goals as goal

pub contents_of-freed-requires-clause-filled : goal.contents_of-freed-requires-clause-filled
contents_of-freed-requires-clause-filled g c =
    let L = g.L.Layout in
    (known_first_cars L.table L.code g.met.L.Layout.lawful _ (subst (Known L.table L.code) (sym c.memory.view_is) c.requires.known) c.train-cars.result.now c.train-cars.ensures.cars).filled

pub contents_of-freed-requires-clause-few : goal.contents_of-freed-requires-clause-few
contents_of-freed-requires-clause-few g c =
    let L = g.L.Layout in
    (known_first_cars L.table L.code g.met.L.Layout.lawful _ (subst (Known L.table L.code) (sym c.memory.view_is) c.requires.known) c.train-cars.result.now c.train-cars.ensures.cars).few

pub overflow_cast-count : goal.overflow_cast-count
overflow_cast-count g c =
    let L = g.L.Layout in
    omega (
      arith,
      (known_first_cars L.table L.code g.met.L.Layout.lawful _ (subst (Known L.table L.code) (sym c.memory.view_is) c.requires.known) c.train-cars.result.now c.train-cars.ensures.cars).few,
    )

pub overflow_sub-memory : goal.overflow_sub-memory
overflow_sub-memory g c =
    let L = g.L.Layout in
    omega (
      arith,
      c.contents_of-freed.ensures.words,
      (known_first_cars L.table L.code g.met.L.Layout.lawful _ (subst (Known L.table L.code) (sym c.memory.view_is) c.requires.known) c.train-cars.result.now c.train-cars.ensures.cars).words,
    )

pub returns : goal.returns
returns g c = λ h t ts stands e none k.
    let L = g.L.Layout in
    let m = space_of L.table h in
    let halt = halt_at L.table g.met.L.Layout.lawful h in
    let st = subst (Stands L.table L.code m) (sym c.memory.view_is) stands in
    let f = first_train_is L.table L.code m halt _ st t ts e c.train-cars.result.now c.train-cars.ensures.cars in
    train_steps L.table L.code g.R.RememberedSet.has g.R.RememberedSet.says m t ts _ c.args.set.now c.forget_cars.new.set halt.sound st e none
    c.train-cars.result.now f.numbers c.contents_of-freed.result.words
    (c.contents_of-freed.ensures.words ∙ (ap (λ ns. sum_by (λ n. filled_of n c.memory.inside.trains) ns) (sym f.numbers) ∙ train_words (λ n. filled_of n c.memory.inside.trains) t f.filled))
    c.contents_of-freed.result.objects (c.contents_of-freed.ensures.objects _ t f.numbers f.stand f.filled)
    c.args.looked k c.free_first_train.new.self c.free_first_train.ensures c.forget_cars.ensures
