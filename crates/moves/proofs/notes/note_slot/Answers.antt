use Rattle.std.proofs.Common.{sym, ◌∙◌}
use Rattle.moves.proofs.Turns.{note_told, note_untold}
use Rattle.moves.proofs.notes.note_slot.Goals as goal

pub returns-then-is_later : goal.returns-then-is_later
returns-then-is_later g c =
    note_told g.R.RememberedSet.has g.R.RememberedSet.says c.args.trains.now.trains c.args.words.now c.args.address _ _
    (sym c.is_later.ensures ∙ c.if-is_later.true) (c.note.ensures.keeps, c.note.ensures.gains) c.note.ensures.besides

pub returns-else-is_later : goal.returns-else-is_later
returns-else-is_later g c =
    note_untold g.R.RememberedSet.has g.R.RememberedSet.says c.args.trains.now.trains c.args.words.now c.args.address _ (sym c.is_later.ensures ∙ c.if-is_later.false)
