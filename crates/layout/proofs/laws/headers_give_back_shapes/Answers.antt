use Rattle.layout.specs.Gapless.{leaves_no_gap}
use Rattle.layout.proofs.laws.headers_give_back_shapes.Goals as goal

pub returns-in_err-header-clause-no_gaps : goal.returns-in_err-header-clause-no_gaps
returns-in_err-header-clause-no_gaps g c = leaves_no_gap g.met.L.Layout.lawful

pub returns-clause-no_gaps : goal.returns-clause-no_gaps
returns-clause-no_gaps g c = leaves_no_gap g.met.L.Layout.lawful
