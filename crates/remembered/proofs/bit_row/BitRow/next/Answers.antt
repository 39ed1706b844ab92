use Rattle.std.proofs.Common.{◌≡◌, ◌+◌, ◌*◌, ◌≤◌, false, slice_index, Some, sym, ap, ◌∙◌, subst, ⊎_elim, arith}
use Rattle.std.proofs.lemmas.Bool.{cases_lt}
use Rattle.remembered.specs.BitRow.{bit, bit_in}
use Rattle.remembered.specs.BitRowLaws.{none_more, next_row, past_row}
use Rattle.remembered.specs.Laws.{Least}
use Rattle.remembered.proofs.bit_row.BitRow.next.Goals as goal

pub loop-i-preserved : goal.loop-i-preserved
loop-i-preserved g c =
    let ws = c.self.inside.words in
    let i = c.loop-i.i in
    λ k h l. ap (λ xs. bit_in xs k) (sym c.self.view_is)
    ∙ none_more ws c.args.from i (λ j m n. ap (λ xs. bit_in xs j) c.self.view_is ∙ c.loop-i.invariant j m n) (λ j m. c.in_default.ensures.least j (omega (arith, c.saturating_sub.ensures))) k h l

pub returns-in-Some-clause-least : goal.returns-in-Some-clause-least
returns-in-Some-clause-least g c =
    let ws = c.self.inside.words in
    let i = c.loop-i.i in
    let found = subst (λ m. Least (bit (slice_index ws i)) m (Some c.in-Some.k)) c.saturating_sub.ensures c.in-Some.ensures.least in
    subst (λ xs. Least (bit_in xs) c.args.from (Some (64 * i + c.in-Some.k))) c.self.view_is
    (next_row ws c.args.from i c.in-Some.k (λ j m n. ap (λ xs. bit_in xs j) c.self.view_is ∙ c.loop-i.invariant j m n) found c.in-Some.ensures.within)

pub returns-clause-least : goal.returns-clause-least
returns-clause-least g c = λ a h. subst (λ xs. bit_in xs a ≡ false) c.self.view_is
    (⊎_elim
    (λ l. ap (λ xs. bit_in xs a) c.self.view_is ∙ c.loop-i.invariant a h l)
    (λ (ge : 64 * c.loop-i.i ≤ a). past_row c.self.inside.words a (omega arith))
    (cases_lt a (64 * c.loop-i.i)))
