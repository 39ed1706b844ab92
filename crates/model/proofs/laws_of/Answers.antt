use Rattle.remembered.specs.LeadsLaws.{leads_keep}
use Rattle.model.specs.Space.{updates_of}
use Rattle.model.proofs.Bounded.{words_law}
use Rattle.model.proofs.NeverFail.{never_fail_law}
use Rattle.model.proofs.Overlooked.{overlooked_law}
use Rattle.model.proofs.RememberTold.{still_noted_more}
use Rattle.model.proofs.Sim.{graph_law}
use Rattle.model.proofs.WasteLaws.{waste_near_the_front, waste_leaves}
use Rattle.model.proofs.laws_of.Goals as goal

pub returns : goal.returns
returns g c =
    let M = g.L.Layout.table in
    let law = g.met.L.Layout.lawful in
    let has = g.R.RememberedSet.has in
    record {
      uses = record {
        answers = graph_law M law;
        never_fail = never_fail_law M law;
        sooner = waste_near_the_front M law;
        counted = waste_leaves M law;
        words_bounded = words_law M law;
      };
      remembers = λ h before after way.
          overlooked_law M law h (has after)
          (λ n a e. leads_keep has g.R.RememberedSet.says before after (updates_of M h) way n a (still_noted_more (has before) (updates_of M h) n a e));
    }
