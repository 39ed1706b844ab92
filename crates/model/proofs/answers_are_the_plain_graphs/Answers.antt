use Rattle.model.proofs.Sim.{graph_law}
use Rattle.model.proofs.answers_are_the_plain_graphs.Goals as goal

pub returns : goal.returns
returns c = graph_law
