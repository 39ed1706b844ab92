use Rattle.std.proofs.Common.{◌∙◌, arith}
use Rattle.slots.proofs.Walking.{walk_none, walk_here, walk_more}
use Rattle.slots.proofs.walk.Walk.is_slot.Goals as goal

pub returns-then-offset-size-clause-slot : goal.returns-then-offset-size-clause-slot
returns-then-offset-size-clause-slot g c = λ at d n from stands walk le.
    let L = g.L.Layout in
    c.is_some.ensures ∙ walk_here L.table g.met.L.Layout.lawful L.code L.decoded g.met.L.Layout.coded at c.args.words.now n c.args.address d c.loop-self.self c.reference_at.result stands
    (c.loop-self.invariant.walks at d from stands walk le) (omega (arith, c.min-end.ensures)) (omega (arith, c.size-size.ensures)) c.reference_at.ensures

pub loop-self-preserved : goal.loop-self-preserved
loop-self-preserved g c = record {
  walks = λ at d from stands walk le.
      let L = g.L.Layout in
      walk_more L.table g.met.L.Layout.lawful L.code L.decoded g.met.L.Layout.coded at c.args.words.now c.args.address d c.loop-self.self _ stands
      (c.loop-self.invariant.walks at d from stands walk le) (omega (arith, c.min-end.ensures)) (omega (arith, c.size-size.ensures)) (omega (arith, c.size-size.ensures)) (omega arith);
  end = c.loop-self.invariant.end;
}

pub returns-clause-slot : goal.returns-clause-slot
returns-clause-slot g c = λ at d n from stands walk le.
    let L = g.L.Layout in
    walk_none L.table g.met.L.Layout.lawful L.code L.decoded g.met.L.Layout.coded at c.args.words.now n c.args.address d c.loop-self.self stands
    (c.loop-self.invariant.walks at d from stands walk le) (omega (arith, c.min-end.ensures))
