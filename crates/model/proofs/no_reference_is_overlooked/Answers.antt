use Rattle.model.proofs.Overlooked.{overlooked_law}
use Rattle.model.proofs.no_reference_is_overlooked.Goals as goal

pub returns : goal.returns
returns c = overlooked_law
