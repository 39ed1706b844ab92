use Rattle.uses.proofs.Going.{replies_follow}
use Rattle.uses.proofs.replies_follow_from_calls.Goals as goal

pub returns : goal.returns
returns g c = replies_follow g.L.Layout.table g.R.RememberedSet.has g.R.RememberedSet.says g.R.ExactSet.means g.met.R.ExactSet.exact
