use Rattle.std.proofs.Common.{[], sym, subst}
use Rattle.calls.specs.declared.call.Access.TheVariants.{Put}
use Rattle.calls.specs.declared.call.Call.TheVariants.{Access}
use Rattle.model.specs.Calls.{done}
use Rattle.model.specs.Bodies.{give, store}
use Rattle.model.specs.Space.{space_of}
use Rattle.memory.specs.Replies.{done_reply}
use Rattle.memory.specs.Stands.{Stands, Acts}
use Rattle.memory.proofs.Held.{halt_at, handed}
use Rattle.memory.proofs.Acting.{refused_acts}
use Rattle.memory.proofs.Calls.{put_acts}
use Rattle.memory.proofs.Memory.put.Goals as goal

pub returns-in_err-address-clause-acts : goal.returns-in_err-address-clause-acts
returns-in_err-address-clause-acts g c = λ h st.
    let M = g.L.Layout.table in
    let m = space_of M h in
    let e = c.in_err-address.field-0.0 in
    let call = Put c.args.root c.args.word c.args.value in
    subst (λ r. Acts M g.L.Layout.code (Access call) m (done_reply r) [] c.args.self.now) (sym (handed c.from_residual.result e c.from_residual.ensures.1))
    (refused_acts M g.L.Layout.code m c.args.self.now st call e (c.in_err-address.ensures.found h st (λ x b. give done (store x c.args.word c.args.value))))

pub returns-clause-acts : goal.returns-clause-acts
returns-clause-acts g c = λ h st.
    let M = g.L.Layout.table in
    let m = space_of M h in
    put_acts M g.L.Layout.code g.met.L.Layout.lawful m (halt_at M g.met.L.Layout.lawful h) _ (subst (Stands M g.L.Layout.code m) (sym c.self.view_is) st) c.args.root c.args.word c.args.value _ (c.in_ok-address.ensures.found h st)
