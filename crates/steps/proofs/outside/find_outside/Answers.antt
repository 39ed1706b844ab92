use Rattle.std.proofs.Common.{◌<◌, length, sym, ap, ◌∙◌, subst}
use Rattle.model.specs.Space.{space_of}
use Rattle.model.proofs.Remember.{numbered_at}
use Rattle.memory.specs.Stands.{Stands, Known}
use Rattle.memory.proofs.Held.{halt_at}
use Rattle.steps.specs.Asked.{first_asked}
use Rattle.steps.proofs.Freeing.{known_first_cars}
use Rattle.steps.proofs.Finding.{surveyed, found_below, first_is}
use Rattle.steps.proofs.outside.find_outside.Goals as goal

pub survey_train-found-requires-clause-few : goal.survey_train-found-requires-clause-few
survey_train-found-requires-clause-few g c =
    let L = g.L.Layout in
    (known_first_cars L.table L.code g.met.L.Layout.lawful _ (subst (Known L.table L.code) (sym c.memory.view_is) (c.requires.known.0, c.requires.known.1)) c.train.result.now c.train.ensures.cars).few

pub asked_first-requires : goal.asked_first-requires
asked_first-requires g c =
    let L = g.L.Layout in
    let law = g.met.L.Layout.lawful in
    let h = c.requires.known.0 in
    let st = subst (Stands L.table L.code (space_of L.table h)) (sym c.memory.view_is) c.requires.known.1 in
    found_below L.table law L.code h _ st (subst (λ s. 0 < length s.trains.trains) (sym c.memory.view_is) c.requires.train) c.survey_train-found.result.first
    (λ t ts e. surveyed L.table law L.code h _ st (g.R.RememberedSet.has c.args.set.now) c.requires.known.2 t ts e c.train.result.now c.train.ensures.cars c.survey_train-found.result.first c.survey_train-found.ensures.first)

pub returns-clause-first : goal.returns-clause-first
returns-clause-first g c = λ h t ts stands keeps e.
    let L = g.L.Layout in
    let law = g.met.L.Layout.lawful in
    let m = space_of L.table h in
    let st = subst (Stands L.table L.code m) (sym c.memory.view_is) stands in
    let first = c.survey_train-found.result.first in
    c.asked_first.ensures
    ∙ (ap (λ s. first_asked s first) (sym c.memory.view_is)
    ∙ first_is L.table law L.code m (halt_at L.table law h) (numbered_at L.table law h) _ st t ts e first
    (surveyed L.table law L.code h _ st (g.R.RememberedSet.has c.args.set.now) keeps t ts e c.train.result.now c.train.ensures.cars first c.survey_train-found.ensures.first))
