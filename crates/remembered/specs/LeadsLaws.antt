-- Laws of updates that lead from one state of a set to another.
use Rattle.std.specs.Prelude.{◌≡◌, ℕ, ◌+◌, ◌<◌, true, ◌&&◌, List, [], ◌∷◌, ◌++◌, length, take, reverse, slice_index_or, ◌==◌}
use Rattle.std.proofs.Common.{arith, sym, ap, ◌∙◌, subst}
use Rattle.std.proofs.lemmas.Grind.{common_steps}
use Rattle.std.proofs.lemmas.List.{take_more, reverse-append}
use Rattle.remembered.specs.declared.Update.{Update}
use Rattle.remembered.specs.declared.Update.TheVariants.{Note, Forget}
use Rattle.remembered.specs.Laws.{in_range, Keeps}
use Rattle.remembered.specs.Leads.{KeepsFacts, Leads}
use Rattle.remembered.specs.Leads.Leads.{untold, told}
use Rattle.remembered.specs.Updates.{Pairs, Updates, still_noted}

-- every set has what is still noted
pub leads_keep : {S : Type 0} (has : S → Pairs) (says : S → Update → S → Type 0) (s t : S) (us : Updates) → Leads has says s us t → Keeps (still_noted (has s) us) (has t)
leads_keep has says s _ [] (untold _) c a h = h
leads_keep has says s v (Note d b ∷ us) (told _ t _ _ _ before facts _) c a h =
    let gained : (in_range c a && (c == d && a == b)) ≡ true → has v c a ≡ true = λ x. grind (arith, common_steps, facts.1) in
    grind (arith, common_steps, gained, facts.0 c a, leads_keep has says s t us before c a)
leads_keep has says s v (Forget d ∷ us) (told _ t _ _ _ before facts _) c a h = grind (arith, common_steps, facts c a, leads_keep has says s t us before c a)

-- one list of updates, and then another
pub leads_append : {S : Type 0} (has : S → Pairs) (says : S → Update → S → Type 0) (s t v : S) (us later : Updates) → Leads has says s us t → Leads has says t later v → Leads has says s (later ++ us) v
leads_append has says s t _ us [] first (untold _) = first
leads_append has says s t v us (u ∷ later) first (told _ w _ _ _ before facts said) = told s w v u (later ++ us) (leads_append has says s t w us later first before) facts said

-- of a list that is told from its front on, one update more
pub leads_more : {S : Type 0} (has : S → Pairs) (says : S → Update → S → Type 0) (s t v : S) (updates : List Update) (i : ℕ) (u d : Update) → i < length updates → slice_index_or updates i d ≡ u
    → Leads has says s (reverse (take i updates)) t → KeepsFacts (has t) u (has v) → says t u v → Leads has says s (reverse (take (i + 1) updates)) v
leads_more has says s t v updates i u d lt at before facts said =
    let front : take (i + 1) updates ≡ take i updates ++ u ∷ [] = take_more updates i d lt ∙ ap (λ x. take i updates ++ x ∷ []) at in
    subst (λ us. Leads has says s us v) (sym (ap reverse front ∙ reverse-append (take i updates) (u ∷ []))) (told s t v u (reverse (take i updates)) before facts said)
