use Rattle.std.proofs.Common.{Some, sym, ◌∙◌}
use Rattle.model.specs.Claims.{claims}
use Rattle.steps.proofs.ClaimingRequests.{mark_asked}
use Rattle.steps.proofs.claiming.claim_mark.Goals as goal

pub returns-in-Some : goal.returns-in-Some
returns-in-Some g c = λ at f mk ws stands own car e before.
    mark_asked at f c.in-Some.mark mk ws c.claim.new.self (sym c.in-Some.is ∙ e)
    (λ x here. c.claim.ensures f at (Some x) (claims ws f.objects).taken (claims ws f.objects).left stands own car here before)
