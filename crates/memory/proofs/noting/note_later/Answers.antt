use Rattle.std.proofs.Common.{sym, ◌∙◌}
use Rattle.memory.proofs.Told.{noted, not_noted}
use Rattle.memory.proofs.noting.note_later.Goals as goal

pub returns-then-is_later : goal.returns-then-is_later
returns-then-is_later g c =
    let R = g.R.RememberedSet in
    noted R.has R.says c.args.trains.now.trains c.args.slot c.args.target c.args.set.now c.note.new.self (sym c.is_later.ensures ∙ c.if-is_later.true)
    (c.note.ensures.keeps, c.note.ensures.gains) c.note.ensures.besides

pub returns-else-is_later : goal.returns-else-is_later
returns-else-is_later g c =
    let R = g.R.RememberedSet in
    not_noted R.has R.says c.args.trains.now.trains c.args.slot c.args.target c.args.set.now (sym c.is_later.ensures ∙ c.if-is_later.false)
