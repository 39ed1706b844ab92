use Rattle.std.proofs.Common.{[], sym, subst}
use Rattle.calls.specs.declared.call.Access.TheVariants.{Follow}
use Rattle.calls.specs.declared.call.Call.TheVariants.{Access}
use Rattle.model.specs.Space.{space_of}
use Rattle.memory.specs.Replies.{done_reply}
use Rattle.memory.specs.Stands.{Stands, Acts}
use Rattle.memory.proofs.Held.{halt_at, handed, root_word_ok}
use Rattle.memory.proofs.Calls.{follow_refused, follow_acts}
use Rattle.memory.proofs.Memory.follow.Goals as goal

pub returns-in_err-address-clause-acts : goal.returns-in_err-address-clause-acts
returns-in_err-address-clause-acts g c = λ h st.
    let M = g.L.Layout.table in
    let law = g.met.L.Layout.lawful in
    let m = space_of M h in
    let e = c.in_err-address.field-0.0 in
    let w = root_word_ok c.args.self.now.roots c.args.root _ (sym c.in_ok-root_word.ensures) in
    subst (λ r. Acts M g.L.Layout.code (Access (Follow c.args.root c.args.from c.args.slot)) m (done_reply r) [] c.args.self.now) (sym (handed c.from_residual-in_err-address.result e c.from_residual-in_err-address.ensures.1))
    (follow_refused M g.L.Layout.code law m (halt_at M law h) c.args.self.now st c.args.root c.args.from c.args.slot e w.0 (c.in_err-address.ensures.found h st))

pub returns-clause-acts : goal.returns-clause-acts
returns-clause-acts g c = λ h st.
    let M = g.L.Layout.table in
    let law = g.met.L.Layout.lawful in
    let m = space_of M h in
    let w = root_word_ok c.args.self.now.roots c.args.root _ (sym c.in_ok-root_word.ensures) in
    follow_acts M g.L.Layout.code law m (halt_at M law h) _ (subst (Stands M g.L.Layout.code m) (sym c.self.view_is) st) c.args.root c.args.from c.args.slot _ w.0 (c.in_ok-address.ensures.found h st)
