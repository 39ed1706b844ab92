use Rattle.std.proofs.Common.{sym, ◌∙◌}
use Rattle.std.proofs.lemmas.Bool.{ltb-false}
use Rattle.trains.specs.Table.{free_record}
use Rattle.trains.proofs.Known.{known_at, past_end}
use Rattle.trains.proofs.Trains.record.Goals as goal

pub returns-in-Some : goal.returns-in-Some
returns-in-Some c =
    let s = c.self.invariant in
    let e = c.in-Some.ensures.lookup in
    known_at c.self.inside.records c.self.inside.trains.items c.self.inside.busy c.args.self.now c.args.car _ s c.self.view_is (sym (e.3.1 free_record))

pub returns-in-None : goal.returns-in-None
returns-in-None c =
    let s = c.self.invariant in
    let e = c.in-None.ensures.lookup in
    known_at c.self.inside.records c.self.inside.trains.items c.self.inside.busy c.args.self.now c.args.car _ s c.self.view_is
    (past_end c.self.inside.records c.args.car (ltb-false _ _ (sym e.0)) ∙ sym c.free.ensures)
