use Rattle.std.proofs.Common.{sym, subst, ap, ◌∙◌, get_or}
use Rattle.calls.specs.declared.call.Access.TheVariants.{Link}
use Rattle.calls.specs.declared.call.Call.TheVariants.{Access}
use Rattle.model.specs.Space.{space_of}
use Rattle.memory.specs.Replies.{done_reply}
use Rattle.memory.specs.Stands.{Stands, ContinuesTelling}
use Rattle.memory.proofs.Held.{halt_at, handed, root_word_ok, root_word_err}
use Rattle.memory.proofs.Links.{linked, not_linked, link_no_root, link_not_found}
use Rattle.memory.proofs.Memory.link.Goals as goal

pub returns-in_err-target-clause-acts : goal.returns-in_err-target-clause-acts
returns-in_err-target-clause-acts g c =
    let M = g.L.Layout.table in
    let law = g.met.L.Layout.lawful in
    let R = g.R.RememberedSet in
    let e = c.in_err-target.field-0.0 in
    let w = root_word_err c.args.self.now.roots c.args.from e (sym c.in_err-target.ensures) in
    subst (λ r. ContinuesTelling M g.L.Layout.code R.has R.says (Access (Link c.args.root c.args.slot c.args.from)) (done_reply r) c.args.self.now c.args.self.now c.args.set.now c.args.set.now)
    (sym (handed c.from_residual.result e c.from_residual.ensures.1))
    (λ h st. not_linked M g.L.Layout.code law (space_of M h) (halt_at M law h) c.args.self.now st R.has R.says c.args.set.now c.args.root c.args.slot c.args.from e
    (link_no_root M g.L.Layout.code law (space_of M h) (halt_at M law h) c.args.self.now st c.args.root c.args.slot c.args.from e w.0 w.1))

pub returns-in_err-address-clause-acts : goal.returns-in_err-address-clause-acts
returns-in_err-address-clause-acts g c =
    let M = g.L.Layout.table in
    let law = g.met.L.Layout.lawful in
    let R = g.R.RememberedSet in
    let e = c.in_err-address.field-0.0 in
    let w = root_word_ok c.args.self.now.roots c.args.from _ (sym c.in_ok-target.ensures) in
    subst (λ r. ContinuesTelling M g.L.Layout.code R.has R.says (Access (Link c.args.root c.args.slot c.args.from)) (done_reply r) c.args.self.now c.args.self.now c.args.set.now c.args.set.now)
    (sym (handed c.from_residual-in_err-address.result e c.from_residual-in_err-address.ensures.1))
    (λ h st. not_linked M g.L.Layout.code law (space_of M h) (halt_at M law h) c.args.self.now st R.has R.says c.args.set.now c.args.root c.args.slot c.args.from e
    (link_not_found M g.L.Layout.code law (space_of M h) (halt_at M law h) c.args.self.now st c.args.root c.args.slot c.args.from e w.0 (c.in_err-address.ensures.found h st)))

pub returns-clause-acts : goal.returns-clause-acts
returns-clause-acts g c = λ h st.
    let M = g.L.Layout.table in
    let law = g.met.L.Layout.lawful in
    let m = space_of M h in
    let R = g.R.RememberedSet in
    let w = root_word_ok c.args.self.now.roots c.args.from _ (sym c.in_ok-target.ensures) in
    linked M g.L.Layout.code law m (halt_at M law h) _ (subst (Stands M g.L.Layout.code m) (sym c.self.view_is) st) R.has R.says c.args.set.now _ c.args.root c.args.slot c.args.from _ _
    (c.in_ok-address.ensures.found h st) w.0 (w.1 ∙ ap (λ s. get_or s.roots c.args.from 0) (sym c.self.view_is)) c.note_later.ensures
