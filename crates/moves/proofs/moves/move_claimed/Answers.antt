use Rattle.std.proofs.Common.{arith, ℕ, length, sym, ap, ◌∙◌, subst, refl}
use Rattle.std.proofs.lemmas.List.{length-replicate}
use Rattle.claims.specs.declared.Claim.{Claim}
use Rattle.moves.specs.Moves.{AreMoved}
use Rattle.moves.proofs.Rooms.{none_moved, claim_item, sizes, small, has-room, has-moved, copied_more, out_more, back_more}
use Rattle.moves.proofs.moves.move_claimed.Goals as goal

abbrev d : Claim
d = record { place = 0; rank = 0 }

pub loop-claim-init : goal.loop-claim-init
loop-claim-init g c = record {
  moved = λ q k. record {
    moved = subst (λ z. AreMoved g.L.Layout.table g.L.Layout.code q 0 c.args.words.now z c.args.trains.now) (sym c.clear_table.ensures)
        (none_moved g.L.Layout.table g.L.Layout.code q c.args.words.now c.args.trains.now k.ready);
    out_is = refl;
    back_is = refl;
    copied_is = refl;
  };
  few = omega arith;
  fewer = omega arith;
  little = omega arith;
  long = ap length c.clear_table.ensures ∙ length-replicate {A = ℕ} 128 8192;
}

pub move_object-copied-requires : goal.move_object-copied-requires
move_object-copied-requires g c =
    let q = c.requires.known.0 in
    let k = c.requires.known.1 in
    let i = claim_item q c.as_slice-claim-items.result.now c.args.claims.now c.loop-claim.claim-index d c.as_slice-claim-items.ensures.value k.order_is c.loop-claim-test.true in
    has-room g.L.Layout.table g.L.Layout.code g.L.Layout.decoded g.met.L.Layout.lawful g.met.L.Layout.coded q c.args.words.now c.args.trains.now k.ready c.loop-claim.claim-index i.0
    c.loop-claim.words c.loop-claim.forward c.loop-claim.trains (c.loop-claim.invariant.moved q k).moved c.args.car k.car_is _ i.1

pub overflow_add-copied : goal.overflow_add-copied
overflow_add-copied g c =
    let q = c.requires.known.0 in
    let k = c.requires.known.1 in
    let i = claim_item q c.as_slice-claim-items.result.now c.args.claims.now c.loop-claim.claim-index d c.as_slice-claim-items.ensures.value k.order_is c.loop-claim-test.true in
    let s = sizes g.L.Layout.table g.L.Layout.code g.L.Layout.decoded g.met.L.Layout.lawful g.met.L.Layout.coded q c.args.words.now c.args.trains.now k.ready c.loop-claim.claim-index i.0
    c.loop-claim.words c.loop-claim.forward c.loop-claim.trains (c.loop-claim.invariant.moved q k).moved c.args.car k.car_is _ i.1 in
    let b = small g.L.Layout.table g.L.Layout.code g.L.Layout.decoded g.met.L.Layout.lawful g.met.L.Layout.coded q c.args.words.now c.args.trains.now k.ready c.loop-claim.claim-index i.0
    c.loop-claim.words c.loop-claim.forward c.loop-claim.trains (c.loop-claim.invariant.moved q k).moved c.args.car k.car_is _ i.1 in
    omega (arith, c.move_object-copied.ensures.size, s, b, c.loop-claim.invariant.little, c.loop-claim-test.true, c.as_slice-claim-items.ensures.few)

pub loop-claim-preserved : goal.loop-claim-preserved
loop-claim-preserved g c =
    let q₀ = c.requires.known.0 in
    let k₀ = c.requires.known.1 in
    let i₀ = claim_item q₀ c.as_slice-claim-items.result.now c.args.claims.now c.loop-claim.claim-index d c.as_slice-claim-items.ensures.value k₀.order_is c.loop-claim-test.true in
    let s₀ = sizes g.L.Layout.table g.L.Layout.code g.L.Layout.decoded g.met.L.Layout.lawful g.met.L.Layout.coded q₀ c.args.words.now c.args.trains.now k₀.ready c.loop-claim.claim-index i₀.0
    c.loop-claim.words c.loop-claim.forward c.loop-claim.trains (c.loop-claim.invariant.moved q₀ k₀).moved c.args.car k₀.car_is _ i₀.1 in
    let b = small g.L.Layout.table g.L.Layout.code g.L.Layout.decoded g.met.L.Layout.lawful g.met.L.Layout.coded q₀ c.args.words.now c.args.trains.now k₀.ready c.loop-claim.claim-index i₀.0
    c.loop-claim.words c.loop-claim.forward c.loop-claim.trains (c.loop-claim.invariant.moved q₀ k₀).moved c.args.car k₀.car_is _ i₀.1 in
    record {
      moved = λ q k.
          let i = claim_item q c.as_slice-claim-items.result.now c.args.claims.now c.loop-claim.claim-index d c.as_slice-claim-items.ensures.value k.order_is c.loop-claim-test.true in
          let s = sizes g.L.Layout.table g.L.Layout.code g.L.Layout.decoded g.met.L.Layout.lawful g.met.L.Layout.coded q c.args.words.now c.args.trains.now k.ready c.loop-claim.claim-index i.0
          c.loop-claim.words c.loop-claim.forward c.loop-claim.trains (c.loop-claim.invariant.moved q k).moved c.args.car k.car_is _ i.1 in
          record {
            moved = has-moved g.L.Layout.table g.L.Layout.code g.L.Layout.decoded g.met.L.Layout.lawful g.met.L.Layout.coded q c.args.words.now c.args.trains.now k.ready c.loop-claim.claim-index i.0
                c.loop-claim.words c.loop-claim.forward c.loop-claim.trains (c.loop-claim.invariant.moved q k).moved c.args.car k.car_is _ i.1 c.move_object-copied.new.words c.move_object-copied.new.forward
                c.move_object-copied.new.trains c.loop-claim.invariant.long c.move_object-copied.ensures.moved;
            out_is = grind (arith, (c.loop-claim.invariant.moved q k).out_is, out_more q c.loop-claim.claim-index i.0, ap (λ (e : Claim). e.rank) i.1, c.from-out.ensures);
            back_is = grind (arith, (c.loop-claim.invariant.moved q k).back_is, back_more q c.loop-claim.claim-index i.0, ap (λ (e : Claim). e.rank) i.1, c.from-back.ensures);
            copied_is = omega (arith, (c.loop-claim.invariant.moved q k).copied_is, copied_more q c.loop-claim.claim-index i.0, s, c.move_object-copied.ensures.size);
          };
      few = grind (arith, c.loop-claim.invariant.few, c.from-out.ensures);
      fewer = grind (arith, c.loop-claim.invariant.fewer, c.from-back.ensures);
      little = omega (arith, c.move_object-copied.ensures.size, s₀, b, c.loop-claim.invariant.little);
      long = c.move_object-copied.array_long2;
    }
