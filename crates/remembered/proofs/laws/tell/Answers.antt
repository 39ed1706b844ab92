use Rattle.std.proofs.Common.{◌+◌, ◌≤◌, length, reverse, take, sym, subst, ap, arith}
use Rattle.std.proofs.lemmas.List.{take_all}
use Rattle.remembered.specs.declared.Update.TheVariants.{Note, Forget}
use Rattle.remembered.specs.Leads.{Leads}
use Rattle.remembered.specs.Leads.Leads.{untold}
use Rattle.remembered.specs.LeadsLaws.{leads_keep, leads_more}
use Rattle.remembered.proofs.laws.tell.Goals as goal
use Rattle.remembered.proofs.laws.tell.Goals.{in-Note, in-Forget}

pub loop-update-init : goal.loop-update-init
loop-update-init g c = untold c.args.set.now

pub loop-update-preserved : goal.loop-update-preserved
loop-update-preserved g c =
    let H = g.R.RememberedSet.has in
    let R = g.R.RememberedSet.says in
    let start = c.args.set.now in
    let updates = c.args.updates.now in
    let i = c.loop-update.update-index in
    let before = c.loop-update.invariant in
    elim c.match-update.branch [
      | in-Note w ↦
          let told = w.note.ensures in
          subst (Leads H R start (reverse (take (i + 1) updates))) (sym w.set-is)
          (leads_more H R start c.loop-update.set w.note.new.self updates i (Note w.in-Note.car w.in-Note.address) _ c.loop-update-test.true w.in-Note.is before (told.keeps, told.gains) told.besides)
      | in-Forget w ↦
          let told = w.forget.ensures in
          subst (Leads H R start (reverse (take (i + 1) updates))) (sym w.set-is)
          (leads_more H R start c.loop-update.set w.forget.new.self updates i (Forget w.in-Forget.car) _ c.loop-update-test.true w.in-Forget.is before told.others told.besides)
    ]

pub returns : goal.returns
returns g c =
    let H = g.R.RememberedSet.has in
    let R = g.R.RememberedSet.says in
    let updates = c.args.updates.now in
    let all : length updates ≤ c.loop-update.update-index = omega (arith, c.loop-update-test.false) in
    let way = subst (λ us. Leads H R c.args.set.now us c.loop-update.set) (ap reverse (take_all c.loop-update.update-index updates all)) c.loop-update.invariant in
    record { way = way; still = leads_keep H R c.args.set.now c.loop-update.set (reverse updates) way }
