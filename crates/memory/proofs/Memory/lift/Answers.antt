use Rattle.std.proofs.Common.{[], sym, subst, get_or, ◌∙◌, w32, rules}
use Rattle.std.proofs.lemmas.Int.{to_z-of_z}
use Rattle.calls.specs.declared.call.Access.TheVariants.{Lift}
use Rattle.calls.specs.declared.call.Call.TheVariants.{Access}
use Rattle.calls.specs.declared.answer.Refusal.TheVariants.{Range}
use Rattle.model.specs.Calls.{refused}
use Rattle.model.specs.Bodies.{lifted, store_lifted}
use Rattle.model.specs.Space.{space_of}
use Rattle.memory.specs.Replies.{done_reply}
use Rattle.memory.specs.Stands.{Stands, Acts}
use Rattle.memory.proofs.Held.{halt_at, handed}
use Rattle.memory.proofs.Acting.{refused_acts}
use Rattle.memory.proofs.Calls.{lift_refused, lift_acts}
use Rattle.memory.proofs.Lifts.{IsSum, lifted_is, range_of}
use Rattle.memory.proofs.Memory.lift.Goals as goal

pub returns-in_err-address-clause-acts : goal.returns-in_err-address-clause-acts
returns-in_err-address-clause-acts g c = λ h st.
    let M = g.L.Layout.table in
    let m = space_of M h in
    let e = c.in_err-address.field-0.0 in
    let call = Lift c.args.root c.args.word c.args.by in
    subst (λ r. Acts M g.L.Layout.code (Access call) m (done_reply r) [] c.args.self.now) (sym (handed c.from_residual.result e c.from_residual.ensures.1))
    (refused_acts M g.L.Layout.code m c.args.self.now st call e (c.in_err-address.ensures.found h st (λ x b. store_lifted x c.args.word (lifted (get_or b.values c.args.word 0) c.args.by))))

pub returns-in_err-value-clause-acts : goal.returns-in_err-value-clause-acts
returns-in_err-value-clause-acts g c = λ h st.
    let M = g.L.Layout.table in
    let law = g.met.L.Layout.lawful in
    let m = space_of M h in
    let s = subst (Stands M g.L.Layout.code m) (sym c.self.view_is) st in
    let e = c.in_err-value.field-0.0 in
    let call = Lift c.args.root c.args.word c.args.by in
    let v = get_or c.self.inside.words c.in_ok-address.field-0 0 in
    let sum = subst (λ z. IsSum v z c.checked_add_signed.result) (to_z-of_z w32 c.args.by c.ranges.by) c.checked_add_signed.ensures in
    subst (λ r. Acts M g.L.Layout.code (Access call) m (done_reply r) [] c.args.self.now) (sym (handed c.from_residual-in_err-value.result e c.from_residual-in_err-value.ensures.1))
    (subst (λ x. Acts M g.L.Layout.code (Access call) m (refused x) [] c.args.self.now) (range_of c.checked_add_signed.result e c.in_err-value.ensures.ok_part c.in_err-value.ensures.value)
    (subst (Acts M g.L.Layout.code (Access call) m (refused Range) []) c.self.view_is
    (lift_refused M g.L.Layout.code law m (halt_at M law h) _ s c.args.root c.args.word c.in_ok-address.field-0 c.args.by (c.in_ok-address.ensures.found h st)
    (lifted_is v c.args.by c.checked_add_signed.result sum (search rules) ∙ c.in_err-value.ensures.ok_part))))

pub returns-clause-acts : goal.returns-clause-acts
returns-clause-acts g c = λ h st.
    let M = g.L.Layout.table in
    let law = g.met.L.Layout.lawful in
    let m = space_of M h in
    let s = subst (Stands M g.L.Layout.code m) (sym c.self.view_is) st in
    let v = get_or c.self.inside.words c.in_ok-address.field-0 0 in
    let sum = subst (λ z. IsSum v z c.checked_add_signed.result) (to_z-of_z w32 c.args.by c.ranges.by) c.checked_add_signed.ensures in
    lift_acts M g.L.Layout.code law m (halt_at M law h) _ s c.args.root c.args.word c.in_ok-address.field-0 c.in_ok-value.value c.args.by (c.in_ok-address.ensures.found h st)
    (lifted_is v c.args.by c.checked_add_signed.result sum (search rules) ∙ c.in_ok-value.ensures.ok_part)
