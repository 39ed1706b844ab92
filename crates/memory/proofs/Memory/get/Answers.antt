use Rattle.std.proofs.Common.{[], sym, subst, get_or}
use Rattle.calls.specs.declared.answer.Answer.TheVariants.{Value}
use Rattle.calls.specs.declared.call.Access.TheVariants.{Get}
use Rattle.calls.specs.declared.call.Call.TheVariants.{Access}
use Rattle.model.specs.Calls.{answered}
use Rattle.model.specs.Bodies.{give, leave}
use Rattle.model.specs.Space.{space_of}
use Rattle.memory.specs.Replies.{value_reply}
use Rattle.memory.specs.Stands.{Stands, Acts}
use Rattle.memory.proofs.Held.{halt_at, handed}
use Rattle.memory.proofs.Acting.{refused_acts}
use Rattle.memory.proofs.Calls.{get_acts}
use Rattle.memory.proofs.Memory.get.Goals as goal

pub returns-in_err-address : goal.returns-in_err-address
returns-in_err-address g c = λ h st.
    let M = g.L.Layout.table in
    let m = space_of M h in
    let e = c.in_err-address.field-0.0 in
    let call = Get c.args.root c.args.word in
    subst (λ r. Acts M g.L.Layout.code (Access call) m (value_reply r) [] c.args.self.now) (sym (handed c.from_residual.result e c.from_residual.ensures.1))
    (refused_acts M g.L.Layout.code m c.args.self.now st call e (c.in_err-address.ensures.found h st (λ x b. give (answered (Value (get_or b.values c.args.word 0))) leave)))

pub returns : goal.returns
returns g c = λ h st.
    let M = g.L.Layout.table in
    let m = space_of M h in
    subst (λ s. Acts M g.L.Layout.code (Access (Get c.args.root c.args.word)) m (answered (Value (get_or c.self.inside.words c.in_ok-address.address 0))) [] s) c.self.view_is
    (get_acts M g.L.Layout.code g.met.L.Layout.lawful m (halt_at M g.met.L.Layout.lawful h) _ (subst (Stands M g.L.Layout.code m) (sym c.self.view_is) st) c.args.root c.args.word c.in_ok-address.address (c.in_ok-address.ensures.found h st))
