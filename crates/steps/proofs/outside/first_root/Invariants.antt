use Rattle.std.proofs.Common.{◌≡◌, drop}
use Rattle.std.specs.Prelude.{find}
use Rattle.steps.specs.Asked.{leads_to_first}
use Rattle.steps.proofs.outside.first_root.Given as goal

abbrev pub invariant-loop-word : goal.invariant-loop-word
invariant-loop-word l = find (leads_to_first l.trains.trains) l.roots ≡ find (leads_to_first l.trains.trains) (drop l.word-index l.roots)
