use Rattle.std.proofs.Common.{◌≡◌, [], length, sym, subst, Ok}
use Rattle.calls.specs.declared.answer.Answer.TheVariants.{Words as Wrote}
use Rattle.calls.specs.declared.answer.Refusal.TheVariants.{Buffer}
use Rattle.calls.specs.declared.call.Access.TheVariants.{Words}
use Rattle.calls.specs.declared.call.Call.TheVariants.{Access}
use Rattle.model.specs.Bodies.{give, leave, unless}
use Rattle.model.specs.Space.{space_of}
use Rattle.objects.specs.Words.{FillsFront}
use Rattle.std.specs.Prelude.{nat_le}
use Rattle.memory.specs.Found.{object_at}
use Rattle.memory.specs.Replies.{words_reply, Writes}
use Rattle.memory.specs.Stands.{Stands, Acts}
use Rattle.memory.proofs.Held.{halt_at, handed, object_found, object_refused, of_held}
use Rattle.memory.proofs.Acting.{refused_acts}
use Rattle.memory.proofs.Calls.{words_acts, words_writes}
use Rattle.memory.proofs.Memory.words.Goals as goal

pub returns-in_err-object-clause-acts : goal.returns-in_err-object-clause-acts
returns-in_err-object-clause-acts g c = λ h st.
    let M = g.L.Layout.table in
    let m = space_of M h in
    let e = c.in_err-object.field-0.0 in
    let n = length c.args.buffer.now in
    subst (λ r. Acts M g.L.Layout.code (Access (Words c.args.root n)) m (words_reply r c.args.buffer.now) [] c.args.self.now) (sym (handed c.from_residual.result e c.from_residual.ensures.1))
    (refused_acts M g.L.Layout.code m c.args.self.now st (Words c.args.root n) e
    (object_refused M g.L.Layout.code m (halt_at M g.met.L.Layout.lawful h) c.args.self.now st c.args.root e (sym c.in_err-object.ensures.object)
    (λ x b. unless (nat_le (length b.values) n) Buffer (give (record { answer = Wrote (length b.values); written = b.values }) leave))))

pub returns-clause-acts : goal.returns-clause-acts
returns-clause-acts g c = λ h st.
    let M = g.L.Layout.table in
    let law = g.met.L.Layout.lawful in
    let m = space_of M h in
    let s = subst (Stands M g.L.Layout.code m) (sym c.self.view_is) st in
    let w = object_found M g.L.Layout.code m (halt_at M law h) _ s c.args.root c.in_ok-object.object
    (subst (λ t. ◌≡◌ (object_at t.roots c.args.root) (Ok c.in_ok-object.object)) (sym c.self.view_is) (sym c.in_ok-object.ensures.object)) in
    let f = of_held M g.L.Layout.code m (halt_at M law h) _ s c.args.root c.in_ok-object.object w (λ b. FillsFront b.values c.args.buffer.now c.copy_out.new.buffer c.copy_out.result) c.copy_out.ensures in
    subst (λ r. Acts M g.L.Layout.code (Access (Words c.args.root (length c.args.buffer.now))) m (words_reply r c.copy_out.new.buffer) [] c.args.self.now) (sym c.ok_or.ensures.value)
    (subst (Acts M g.L.Layout.code (Access (Words c.args.root (length c.args.buffer.now))) m _ []) c.self.view_is
    (words_acts M g.L.Layout.code law m (halt_at M law h) _ s c.args.root c.in_ok-object.object w c.args.buffer.now c.copy_out.new.buffer c.copy_out.result f))

pub returns-clause-buffer : goal.returns-clause-buffer
returns-clause-buffer g c = λ h st.
    let M = g.L.Layout.table in
    let law = g.met.L.Layout.lawful in
    let m = space_of M h in
    let s = subst (Stands M g.L.Layout.code m) (sym c.self.view_is) st in
    let w = object_found M g.L.Layout.code m (halt_at M law h) _ s c.args.root c.in_ok-object.object
    (subst (λ t. ◌≡◌ (object_at t.roots c.args.root) (Ok c.in_ok-object.object)) (sym c.self.view_is) (sym c.in_ok-object.ensures.object)) in
    let f = of_held M g.L.Layout.code m (halt_at M law h) _ s c.args.root c.in_ok-object.object w (λ b. FillsFront b.values c.args.buffer.now c.copy_out.new.buffer c.copy_out.result) c.copy_out.ensures in
    subst (λ r. Writes (words_reply r c.copy_out.new.buffer) c.args.buffer.now c.copy_out.new.buffer) (sym c.ok_or.ensures.value)
    (words_writes w.body.values c.args.buffer.now c.copy_out.new.buffer c.copy_out.result f)
