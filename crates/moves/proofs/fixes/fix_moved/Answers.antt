use Rattle.std.proofs.Common.{◌+◌, ◌*◌, ◌<◌, ◌∙◌, ap, sym, subst, slice_index_or, take}
use Rattle.std.specs.List.{AllByRecursion}
use Rattle.claims.specs.declared.Claim.{Claim}
use Rattle.model.proofs.Alls.{all_map}
use Rattle.moves.specs.Fixes.{fix_each, references, IsOutside, moved_references}
use Rattle.moves.proofs.Turns.{fix_moved_turn, moved_references_part, header_stays}
use Rattle.moves.proofs.fixes.fix_moved.Goals as goal

pub fix_object-requires : goal.fix_object-requires
fix_object-requires g c =
    let order = c.as_slice-claim-items.result.now in
    let k = c.loop-claim.claim-index in
    let d : Claim = record { place = 0; rank = 0 } in
    let out = subst (λ os. AllByRecursion (IsOutside c.args.car) (moved_references g.L.Layout.decoded c.args.words.now c.args.forward.now c.args.car os)) (sym c.as_slice-claim-items.ensures.value) c.requires.outside in
    let part = moved_references_part (IsOutside c.args.car) g.L.Layout.decoded c.args.words.now c.args.forward.now c.args.car order k d c.loop-claim-test.true out in
    let stays = header_stays c.args.car c.args.forward.now (moved_references g.L.Layout.decoded c.args.words.now c.args.forward.now c.args.car (take k order)) c.args.words.now c.loop-claim.words
    (slice_index_or order k d).place (c.as_slice-claim-items.ensures.inside k d c.loop-claim-test.true) part.0 c.loop-claim.invariant in
    all_map (IsOutside c.args.car) (λ a. a < 8192) (λ a p. p.0) _
    (subst (λ h. AllByRecursion (IsOutside c.args.car) (references (g.L.Layout.decoded h) (slice_index_or c.args.forward.now (slice_index_or order k d).place 0))) (sym stays) part.1)

pub loop-claim-preserved : goal.loop-claim-preserved
loop-claim-preserved g c =
    let order = c.as_slice-claim-items.result.now in
    let k = c.loop-claim.claim-index in
    let d : Claim = record { place = 0; rank = 0 } in
    let out = subst (λ os. AllByRecursion (IsOutside c.args.car) (moved_references g.L.Layout.decoded c.args.words.now c.args.forward.now c.args.car os)) (sym c.as_slice-claim-items.ensures.value) c.requires.outside in
    let part = moved_references_part (IsOutside c.args.car) g.L.Layout.decoded c.args.words.now c.args.forward.now c.args.car order k d c.loop-claim-test.true out in
    let stays = header_stays c.args.car c.args.forward.now (moved_references g.L.Layout.decoded c.args.words.now c.args.forward.now c.args.car (take k order)) c.args.words.now c.loop-claim.words
    (slice_index_or order k d).place (c.as_slice-claim-items.ensures.inside k d c.loop-claim-test.true) part.0 c.loop-claim.invariant in
    let a = slice_index_or c.args.forward.now (slice_index_or order k d).place 0 in
    c.fix_object.ensures ∙ ap (λ h. fix_each c.args.car c.args.forward.now (references (g.L.Layout.decoded h) a) c.loop-claim.words) stays
    ∙ ap (fix_each c.args.car c.args.forward.now (references (g.L.Layout.decoded (slice_index_or c.args.words.now (128 * c.args.car + (slice_index_or order k d).place) 0)) a)) c.loop-claim.invariant
    ∙ sym (fix_moved_turn g.L.Layout.decoded c.args.words.now c.args.forward.now c.args.car order k d c.loop-claim-test.true)
