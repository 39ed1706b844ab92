use Rattle.std.proofs.Common.{ap, ◌∙◌, arith}
use Rattle.remembered.specs.BitRow.{bit_in}
use Rattle.remembered.specs.SlotCars.{Car}
use Rattle.remembered.specs.SlotCarLaws.{kept_count_le, kept_count_more}
use Rattle.remembered.proofs.slot.CarPairs.keep.Goals as goal

pub overflow_add-self : goal.overflow_add-self
overflow_add-self c = omega (arith, kept_count_le c.self.inside.kept)

pub invariant_of-self : goal.invariant_of-self
invariant_of-self c =
    let was = ap (λ (v : Car). bit_in v.kept c.args.address) c.self.view_is ∙ c.requires.new in
    omega (arith, kept_count_more c.self.inside.kept c.args.address c.mark.new.self c.requires.address was c.mark.ensures)
