use Rattle.halts.proofs.Halts.{halt_laws}
use Rattle.halts.proofs.laws_at_halts.Goals as goal

pub returns : goal.returns
returns g c = halt_laws g.L.Layout.table g.L.Layout.code g.L.Layout.decoded g.met.L.Layout.lawful g.met.L.Layout.coded
