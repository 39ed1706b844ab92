use Rattle.std.proofs.Common.{arith}
use Rattle.claims.proofs.Orders.{claims_held}
use Rattle.claims.proofs.Claims.claim.Goals as goal

pub returns : goal.returns
returns g c =
    claims_held g.met.L.Layout.lawful g.met.L.Layout.coded c.args.words.now c.told-words c.args.car c.args.rank c.args.word c.args.self.now c.close.new.self
    (grind arith)
