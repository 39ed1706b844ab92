-- Laws of the card set.
use Rattle.std.specs.Prelude.{◌≡◌, ℕ, ◌/◌, Bool, true, false, not, ◌&&◌, ◌||◌, List, [], ◌∷◌, zero, suc, replicate, slice_index_or, ◌==◌}
use Rattle.std.proofs.Common.{sym, ap, ◌∙◌, ⊎_elim, arith}
use Rattle.std.proofs.lemmas.Bool.{cases_Bool, cond_both, and_right}
use Rattle.std.proofs.lemmas.Grind.{common_steps}
use Rattle.remembered.specs.declared.Pair.{Pair}
use Rattle.remembered.specs.declared.Update.TheVariants.{Note, Forget}
use Rattle.remembered.specs.BitRow.{bit_in}
use Rattle.remembered.specs.Laws.{in_range, new_in}
use Rattle.remembered.specs.Leads.{IsExact}
use Rattle.remembered.specs.Leads.Leads.{untold, told}
use Rattle.remembered.specs.Pairs.{within, without}
use Rattle.remembered.specs.Cards.{card_in, card_note, card_run, card_has, marked, CardSays}
use Rattle.remembered.specs.PairLists.{swap_and, and_none, within-without}
use Rattle.remembered.specs.BitRowLaws.{past_row}

-- the pair (d, b) lies in the card that (c, a) marks
abbrev hits : ℕ → ℕ → ℕ → ℕ → Bool
hits c a d b = in_range c a && (d == c && b / 16 == a / 16)

-- one card more
pub card_step : (c a : ℕ) (cs : List Pair) (d b : ℕ) → card_in (card_note c a cs) d b ≡ (card_in cs d b || hits c a d b)
card_step c a cs d b = cond_both (new_in (card_in cs) c a) _ _ (λ x. card_in x d b ≡ (card_in cs d b || hits c a d b)) (λ e. grind (arith, common_steps)) (λ e. old e)
  where
    old : new_in (card_in cs) c a ≡ false → card_in cs d b ≡ (card_in cs d b || hits c a d b)
    old e =
        ⊎_elim
        (λ (h : hits c a d b ≡ true).
        let there : card_in cs c a ≡ card_in cs d b = grind (arith, common_steps) in
        grind (arith, common_steps, there))
        (λ (h : hits c a d b ≡ false). grind (arith, common_steps))
        (cases_Bool (hits c a d b))

pub card_unstep : (c : ℕ) (cs : List Pair) (d b : ℕ) → card_in (without c cs) d b ≡ (not (d == c) && card_in cs d b)
card_unstep c cs d b = ap (λ x. in_range d b && x) (within-without c cs d (b / 16)) ∙ swap_and (in_range d b) (not (d == c)) (within cs d (b / 16))

-- a card set with no pair has the pairs that what it is told means
pub card_exact : {S : Type 0} (cars : S → List (List ℕ)) → IsExact {S = S} (λ s. marked (cars s)) (λ s u t. CardSays (cars s) u (cars t)) card_has
card_exact cars s _ [] none (untold _) d b = none d b ∙ sym (and_none (in_range d b))
card_exact cars s v (Note c a ∷ us) none (told _ t _ _ _ before _ said) d b = said.pairs d b ∙ ap (λ x. x || hits c a d b) (card_exact cars s t us none before d b) ∙ sym (card_step c a (card_run us) d b)
card_exact cars s v (Forget c ∷ us) none (told _ t _ _ _ before _ said) d b = said d b ∙ ap (λ x. not (d == c) && x) (card_exact cars s t us none before d b) ∙ sym (card_unstep c (card_run us) d b)

pub card_none : (row : List ℕ) → ((k : ℕ) → bit_in row k ≡ false) → (c a : ℕ) → marked (replicate 64 row) c a ≡ false
card_none row none c a = and_right (in_range c a) _ (rows_none row none 64 c (a / 16))
  where
    rows_none : (row : List ℕ) → ((k : ℕ) → bit_in row k ≡ false) → (n c k : ℕ) → bit_in (slice_index_or (replicate n row) c []) k ≡ false
    rows_none row none zero c k = past_row [] k (omega arith)
    rows_none row none (suc n) zero k = none k
    rows_none row none (suc n) (suc c) k = rows_none row none n c k
