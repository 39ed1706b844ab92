-- Marks of no claims.
use Rattle.std.proofs.Common.{◌≡◌, false, List, [], replicate, arith, sym, subst}
use Rattle.std.proofs.lemmas.List.{get_or-replicate, length-replicate}
use Rattle.claims.specs.declared.Claim.{Claim}
use Rattle.claims.specs.Marks.{MarksAre}

none_marked : MarksAre [] (replicate 128 false)
none_marked = record {
  wide = length-replicate 128 false;
  few = omega arith;
  inside = λ k d h. absurd (omega arith);
  same = λ p h. get_or-replicate 128 p false false h;
}

pub no_marks : (order : List Claim) → order ≡ [] → MarksAre order (replicate 128 false)
no_marks order e = subst (λ os. MarksAre os (replicate 128 false)) (sym e) none_marked
