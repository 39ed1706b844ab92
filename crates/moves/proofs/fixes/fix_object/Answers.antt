use Rattle.std.proofs.Common.{arith, ◌≡◌, ◌+◌, ◌<◌, ◌∙◌, ap, sym}
use Rattle.moves.specs.Fixes.{fix_at}
use Rattle.moves.proofs.Turns.{fix_object_turn, reference_holds}
use Rattle.moves.proofs.fixes.fix_object.Goals.{in-Some, in_default}
use Rattle.moves.proofs.fixes.fix_object.Goals as goal

pub fix_word-requires : goal.fix_word-requires
fix_word-requires g c =
    let o = g.L.Layout.decoded c.args.header in
    let r = reference_holds (λ a. a < 8192) o c.args.object 0 o.refs c.loop-i.i c.requires c.in-Some.ensures.0 in
    let e : 0 + c.loop-i.i ≡ c.loop-i.i = omega arith in
    omega (arith, r, c.in-Some.ensures.1, ap o.ref_at e)

pub overflow_add-object : goal.overflow_add-object
overflow_add-object g c =
    let o = g.L.Layout.decoded c.args.header in
    let r = reference_holds (λ a. a < 8192) o c.args.object 0 o.refs c.loop-i.i c.requires c.in-Some.ensures.0 in
    let e : 0 + c.loop-i.i ≡ c.loop-i.i = omega arith in
    omega (arith, r, c.in-Some.ensures.1, ap o.ref_at e)

pub loop-i-preserved : goal.loop-i-preserved
loop-i-preserved g c =
    let o = g.L.Layout.decoded c.args.header in
    elim c.match-reference_offset.branch [
      | in-Some w ↦
          w.words-is ∙ w.fix_word.ensures ∙ ap (λ a. fix_at c.args.car c.args.forward.now (c.args.object + a) c.loop-i.words) w.in-Some.ensures.1
          ∙ ap (fix_at c.args.car c.args.forward.now (c.args.object + o.ref_at c.loop-i.i)) c.loop-i.invariant
          ∙ sym (fix_object_turn c.args.car c.args.forward.now c.args.words.now o c.args.object c.loop-i.i)
      | in_default w ↦ absurd (omega (arith, c.loop-i-test.true, c.references-i-end.ensures, w.in_default.ensures))
    ]
