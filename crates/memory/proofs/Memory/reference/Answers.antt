use Rattle.std.proofs.Common.{sym, subst, ◌≡◌, Ok}
use Rattle.model.specs.Space.{space_of}
use Rattle.memory.proofs.Held.{halt_at, handed, finds_refused, finds_at}
use Rattle.memory.specs.Found.{ref_count, ref_at, Finds, object_at}
use Rattle.memory.specs.Stands.{Stands}
use Rattle.memory.proofs.Memory.reference.Goals as goal

pub returns-in_err-object-clause-found : goal.returns-in_err-object-clause-found
returns-in_err-object-clause-found g c = λ h st.
    let M = g.L.Layout.table in
    subst (Finds (space_of M h) ref_count (ref_at M) c.args.root c.args.slot) (sym (handed c.from_residual.result c.in_err-object.field-0.0 c.from_residual.ensures.1))
    (finds_refused M g.L.Layout.code (space_of M h) (halt_at M g.met.L.Layout.lawful h) c.args.self.now st ref_count (ref_at M) c.args.root c.args.slot c.in_err-object.field-0.0 (sym c.in_err-object.ensures.object))

pub returns-clause-found : goal.returns-clause-found
returns-clause-found g c = λ h st.
    let M = g.L.Layout.table in
    let s = subst (Stands M g.L.Layout.code (space_of M h)) (sym c.self.view_is) st in
    subst (Finds (space_of M h) ref_count (ref_at M) c.args.root c.args.slot) (sym c.ok_or.ensures.value)
    (finds_at M g.L.Layout.code (space_of M h) (halt_at M g.met.L.Layout.lawful h) _ s ref_count (ref_at M) c.args.root c.args.slot c.in_ok-object.object c.reference_address.result
    (subst (λ t. ◌≡◌ (object_at t.roots c.args.root) (Ok c.in_ok-object.object)) (sym c.self.view_is) (sym c.in_ok-object.ensures.object)) c.reference_address.ensures.of_object)
