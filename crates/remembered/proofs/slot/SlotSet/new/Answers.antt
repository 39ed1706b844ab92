use Rattle.std.proofs.Common.{refl, sym, arith}
use Rattle.remembered.specs.SlotLaws.{start_places, start_pairs}
use Rattle.remembered.proofs.slot.SlotSet.new.Goals as goal

pub invariant_of-result : goal.invariant_of-result
invariant_of-result c = record {
  full = refl;
  tallied = sym (start_places c.none.result c.none.ensures.kept);
  room = omega arith;
}

pub returns-clause-pairs : goal.returns-clause-pairs
returns-clause-pairs c = start_pairs c.none.result c.none.ensures.kept c.none.ensures.over

pub returns-clause-places : goal.returns-clause-places
returns-clause-places c = start_places c.none.result c.none.ensures.kept
