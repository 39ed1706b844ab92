use Rattle.std.proofs.Common.{◌==◌, not, rules, sym, subst}
use Rattle.arrayvec.proofs.ArrayVecLemmas.{filter-from_retain}
use Rattle.remembered.specs.declared.Pair.{Pair}
use Rattle.remembered.specs.Buffers.{Ranged}
use Rattle.remembered.specs.BufferLaws.{ranged_without}
use Rattle.remembered.proofs.buffered.Buffered.drop_held.Goals as goal

pub returns-clause-held : goal.returns-clause-held
returns-clause-held g c = filter-from_retain _ (λ (p : Pair). not (p.car == c.args.car)) _ (λ x b f' y called. search rules) _ _ c.retain.ensures.filtered

pub invariant_of-self : goal.invariant_of-self
invariant_of-self g c =
    let s = c.args.self.now in
    let kept = filter-from_retain _ (λ (p : Pair). not (p.car == c.args.car)) _ (λ x b f' y called. search rules) _ _ c.retain.ensures.filtered in
    record { near = subst Ranged (sym kept) (ranged_without s.held.items c.args.car s.near) }
