use Rattle.std.proofs.Common.{◌<◌, sym, subst}
use Rattle.std.specs.List.{AllByRecursion}
use Rattle.claims.specs.declared.Claim.{Claim}
use Rattle.moves.specs.Fixes.{moved_references}
use Rattle.remembered.specs.Leads.Leads.{untold}
use Rattle.moves.proofs.Turns.{note_moved_turn, moved_references_part}
use Rattle.moves.proofs.notes.note_moved.Goals as goal

pub note_object-requires : goal.note_object-requires
note_object-requires g c =
    let d : Claim = record { place = 0; rank = 0 } in
    let inside = subst (λ os. AllByRecursion (λ a. a < 8192) (moved_references g.L.Layout.decoded c.args.words.now c.args.forward.now c.args.car os)) (sym c.as_slice-claim-items.ensures.value) c.requires.inside in
    (moved_references_part (λ a. a < 8192) g.L.Layout.decoded c.args.words.now c.args.forward.now c.args.car c.as_slice-claim-items.result.now c.loop-claim.claim-index d c.loop-claim-test.true inside).1

pub loop-claim-preserved : goal.loop-claim-preserved
loop-claim-preserved g c =
    let d : Claim = record { place = 0; rank = 0 } in
    note_moved_turn g.R.RememberedSet.has g.R.RememberedSet.says _ _ _ c.args.trains.now.trains g.L.Layout.decoded c.args.words.now c.args.forward.now c.args.car c.as_slice-claim-items.result.now
    c.loop-claim.claim-index d c.loop-claim-test.true c.loop-claim.invariant c.note_object.ensures

pub loop-claim-init : goal.loop-claim-init
loop-claim-init g c = untold c.args.set.now
