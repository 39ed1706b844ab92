use Rattle.remembered.specs.LeadsLaws.{leads_keep}
use Rattle.remembered.proofs.laws.overlooks_nothing.Goals as goal

pub returns : goal.returns
returns g c = leads_keep g.R.RememberedSet.has g.R.RememberedSet.says
