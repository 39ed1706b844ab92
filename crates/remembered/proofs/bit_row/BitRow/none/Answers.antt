use Rattle.remembered.specs.BitRowLaws.{zero_row}
use Rattle.remembered.proofs.bit_row.BitRow.none.Goals as goal

pub returns : goal.returns
returns g c = λ k. zero_row g.row.W k
