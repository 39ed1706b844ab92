use Rattle.uses.proofs.Going as going
use Rattle.uses.proofs.calls_go_on.Goals as goal

pub returns : goal.returns
returns g c = going.calls_go_on g.L.Layout.table g.L.Layout.code g.R.RememberedSet.has g.R.RememberedSet.says g.met.L.Layout.lawful
