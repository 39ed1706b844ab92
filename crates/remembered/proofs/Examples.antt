-- Short lists of updates worked out.
use Rattle.std.proofs.Common.{◌≡◌, [], ◌∷◌, refl}
use Rattle.remembered.specs.declared.Update.TheVariants.{Note, Forget}
use Rattle.remembered.specs.Updates.{pairs_of}
use Rattle.remembered.specs.Cards.{card_has}
use Rattle.remembered.specs.Slots.{slot_has}
use Rattle.remembered.specs.Buffers.{buffered}

pub one_card : pairs_of (card_has (Note 3 100 ∷ [])) 3 ≡ 16
one_card = refl

pub one_slot : pairs_of (slot_has (Note 3 100 ∷ [])) 3 ≡ 1
one_slot = refl

pub held_card : pairs_of (buffered card_has (Note 3 100 ∷ [])) 3 ≡ 1
held_card = refl

pub forgotten : pairs_of (buffered slot_has (Forget 3 ∷ Note 4 7 ∷ Note 3 100 ∷ [])) 4 ≡ 1
forgotten = refl

-- the seventeenth pair sends sixteen down, which mark three cards, and is held
pub seventeen : pairs_of (buffered card_has (Note 3 132 ∷ Note 3 130 ∷ Note 3 128 ∷ Note 3 126 ∷ Note 3 124 ∷ Note 3 122 ∷ Note 3 120 ∷ Note 3 118 ∷ Note 3 116 ∷ Note 3 114 ∷ Note 3 112 ∷ Note 3 110 ∷ Note 3 108 ∷ Note 3 106 ∷ Note 3 104 ∷ Note 3 102 ∷ Note 3 100 ∷ [])) 3 ≡ 48
seventeen = refl
