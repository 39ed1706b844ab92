use Rattle.std.proofs.Common.{arith, ◌≡◌, ◌+◌, ◌<◌, ap, subst, sym, reverse}
use Rattle.remembered.specs.Leads.{Leads}
use Rattle.moves.specs.Noting.{noted_at}
use Rattle.remembered.specs.Leads.Leads.{untold}
use Rattle.moves.proofs.Turns.{note_object_turn, reference_holds}
use Rattle.moves.proofs.notes.note_object.Goals.{in-Some, in_default}
use Rattle.moves.proofs.notes.note_object.Goals as goal

pub note_slot-requires : goal.note_slot-requires
note_slot-requires g c =
    let o = g.L.Layout.decoded c.args.header in
    let r = reference_holds (λ a. a < 8192) o c.args.object 0 o.refs c.loop-i.i c.requires c.in-Some.ensures.0 in
    let e : 0 + c.loop-i.i ≡ c.loop-i.i = omega arith in
    omega (arith, r, c.in-Some.ensures.1, ap o.ref_at e)

pub overflow_add-object : goal.overflow_add-object
overflow_add-object g c =
    let o = g.L.Layout.decoded c.args.header in
    let r = reference_holds (λ a. a < 8192) o c.args.object 0 o.refs c.loop-i.i c.requires c.in-Some.ensures.0 in
    let e : 0 + c.loop-i.i ≡ c.loop-i.i = omega arith in
    omega (arith, r, c.in-Some.ensures.1, ap o.ref_at e)

pub loop-i-preserved : goal.loop-i-preserved
loop-i-preserved g c =
    let o = g.L.Layout.decoded c.args.header in
    let H = g.R.RememberedSet.has in
    let Y = g.R.RememberedSet.says in
    elim c.match-reference_offset.branch [
      | in-Some w ↦
          note_object_turn H Y _ _ _ c.args.trains.now.trains c.args.words.now o c.args.object c.loop-i.i c.loop-i.invariant
          (subst (λ s. Leads H Y c.loop-i.set (reverse (noted_at c.args.trains.now.trains c.args.words.now (c.args.object + o.ref_at c.loop-i.i))) s) (sym w.set-is)
          (subst (λ a. Leads H Y c.loop-i.set (reverse (noted_at c.args.trains.now.trains c.args.words.now (c.args.object + a))) w.note_slot.new.set) w.in-Some.ensures.1 w.note_slot.ensures))
      | in_default w ↦ absurd (omega (arith, c.loop-i-test.true, c.references-i-end.ensures, w.in_default.ensures))
    ]

pub loop-i-init : goal.loop-i-init
loop-i-init g c = untold c.args.set.now
