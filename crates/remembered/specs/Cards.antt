-- What the card set does.
use Rattle.std.specs.Prelude.{◌≡◌, ℕ, ◌/◌, Bool, false, if◌then◌else◌, not, ◌&&◌, ◌||◌, List, [], ◌∷◌, ◌==◌, slice_index_or}
use Rattle.remembered.specs.declared.Pair.{Pair}
use Rattle.remembered.specs.declared.Update.{Update}
use Rattle.remembered.specs.declared.Update.TheVariants.{Note, Forget}
use Rattle.remembered.specs.BitRow.{bit_in}
use Rattle.remembered.specs.Laws.{in_range, new_in}
use Rattle.remembered.specs.Pairs.{pair, within, without}
use Rattle.remembered.specs.Updates.{Pairs, Updates}

-- a marked card pairs all of its addresses; a card is listed by its car and its number
abbrev pub card_in : List Pair → ℕ → ℕ → Bool
card_in cs c a = in_range c a && within cs c (a / 16)

-- a new pair marks its address's card
abbrev pub card_note : ℕ → ℕ → List Pair → List Pair
card_note c a cs = if new_in (card_in cs) c a then (pair c (a / 16) ∷ cs) else cs

-- the marked cards after what the set was told
abbrev pub card_run : Updates → List Pair
card_run [] = []
card_run (Note c a ∷ us) = card_note c a (card_run us)
card_run (Forget c ∷ us) = without c (card_run us)

-- the pairs that a card set has then
abbrev pub card_has : Updates → Pairs
card_has us = card_in (card_run us)

-- whether an address lies in a marked card, by the set's rows: one for each car, with a bit for each card
abbrev pub marked : List (List ℕ) → ℕ → ℕ → Bool
marked rows c a = in_range c a && bit_in (slice_index_or rows c []) (a / 16)

-- after a note the card of the address is marked besides, and where the pair was not new nothing altered
pub record CardNoted (old : List (List ℕ)) (c a : ℕ) (new : List (List ℕ)) : Type 0 where
  pub pairs : (d b : ℕ) → marked new d b ≡ (marked old d b || (in_range c a && (d == c && b / 16 == a / 16)))
  pub same : new_in (marked old) c a ≡ false → new ≡ old

-- after a forget no card of that car is marked, the others as they were
abbrev pub CardForgot : List (List ℕ) → ℕ → List (List ℕ) → Type 0
CardForgot old c new = (d b : ℕ) → marked new d b ≡ (not (d == c) && marked old d b)

-- what a card set says of an update
abbrev pub CardSays : List (List ℕ) → Update → List (List ℕ) → Type 0
CardSays old (Note c a) new = CardNoted old c a new
CardSays old (Forget c) new = CardForgot old c new
