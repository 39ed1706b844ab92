use Rattle.std.proofs.Common.{[], eqb, sym, subst, ap₂}
use Rattle.calls.specs.declared.answer.Answer.TheVariants.{Same as Alike}
use Rattle.calls.specs.declared.call.Access.TheVariants.{Same}
use Rattle.calls.specs.declared.call.Call.TheVariants.{Access}
use Rattle.model.specs.Calls.{answered}
use Rattle.model.specs.Space.{space_of}
use Rattle.memory.specs.Stands.{Acts}
use Rattle.memory.proofs.Held.{halt_at, root_word_ok}
use Rattle.memory.proofs.Calls.{same_acts}
use Rattle.memory.proofs.Memory.same.Goals as goal

pub returns : goal.returns
returns g c = λ h st.
    let M = g.L.Layout.table in
    let law = g.met.L.Layout.lawful in
    let m = space_of M h in
    let w = root_word_ok c.args.self.now.roots c.args.root c.in_ok-root_word.field-0 (sym c.in_ok-root_word.ensures) in
    let v = root_word_ok c.args.self.now.roots c.args.other c.in_ok-root_word-2.field-0 (sym c.in_ok-root_word-2.ensures) in
    subst (λ t. Acts M g.L.Layout.code (Access (Same c.args.root c.args.other)) m (answered (Alike t)) [] c.args.self.now) (sym (ap₂ eqb w.1 v.1))
    (same_acts M g.L.Layout.code law m (halt_at M law h) c.args.self.now st c.args.root c.args.other w.0 v.0)
