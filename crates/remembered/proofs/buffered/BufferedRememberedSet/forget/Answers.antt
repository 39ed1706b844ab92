use Rattle.std.proofs.Common.{[], ◌∷◌, sym, subst}
use Rattle.remembered.specs.BufferLaws.{buffer_others}
use Rattle.remembered.specs.Leads.{Leads}
use Rattle.remembered.specs.Leads.Leads.{untold, told}
use Rattle.remembered.specs.declared.Update.TheVariants.{Forget}
use Rattle.remembered.proofs.buffered.BufferedRememberedSet.forget.Goals as goal

pub returns-clause-besides : goal.returns-clause-besides
returns-clause-besides g c =
    let H = g.S.RememberedSet.has in
    let R = g.S.RememberedSet.says in
    let s = c.args.self.now.below in
    let below = told s s c.forget.new.self (Forget c.args.car) [] (untold s) c.forget.ensures.others c.forget.ensures.besides in
    record { below_told = subst (Leads H R s (Forget c.args.car ∷ [])) (sym c.drop_held.ensures.below) below; held_dropped = c.drop_held.ensures.held }

pub returns-clause-others : goal.returns-clause-others
returns-clause-others g c =
    let s = c.args.self.now in
    let t = c.drop_held.new.self in
    buffer_others g.S.RememberedSet.has g.S.RememberedSet.says s.below s.held.items c.args.car t.below t.held.items (returns-clause-besides g c)
