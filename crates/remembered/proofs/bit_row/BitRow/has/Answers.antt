use Rattle.std.proofs.Common.{ap}
use Rattle.remembered.specs.BitRow.{bit_in}
use Rattle.remembered.proofs.bit_row.BitRow.has.Goals as goal

pub returns : goal.returns
unfolding bit_in
returns g c = ap (λ ws. bit_in ws c.args.k) c.self.view_is
