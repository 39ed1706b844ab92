use Rattle.std.proofs.Common.{rules}
use Rattle.claims.proofs.Marks.{no_marks}
use Rattle.claims.proofs.Claims.new.Goals as goal

pub invariant_of-result : goal.invariant_of-result
invariant_of-result c = search (rules, no_marks)
