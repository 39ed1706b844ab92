use Rattle.std.proofs.Common.{sym, subst}
use Rattle.model.specs.Space.{space_of}
use Rattle.memory.specs.Stands.{Stands}
use Rattle.memory.proofs.Held.{root_word_ok}
use Rattle.memory.proofs.Calls.{drop_acts}
use Rattle.memory.proofs.Memory.drop.Goals as goal

pub returns-clause-acts : goal.returns-clause-acts
returns-clause-acts c = λ M code h st.
    let s = subst (Stands M code (space_of M h)) (sym c.self.view_is) st in
    let w = root_word_ok c.args.self.now.roots c.args.root c.in_ok-root_word.field-0 (sym c.in_ok-root_word.ensures) in
    drop_acts M code (space_of M h) _ s c.args.root w.0
