use Rattle.std.proofs.Common.{◌||◌, ◌==◌, ap, ◌∙◌, arith}
use Rattle.remembered.specs.BitRow.{bit_in}
use Rattle.remembered.specs.BitRowLaws.{marked_row}
use Rattle.remembered.proofs.bit_row.BitRow.mark.Goals as goal

pub returns : goal.returns
returns g c = λ j. marked_row c.self.inside.words c.args.k (omega arith) j ∙ ap (λ ws. bit_in ws j || j == c.args.k) c.self.view_is
