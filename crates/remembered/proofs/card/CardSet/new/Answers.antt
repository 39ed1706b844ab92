use Rattle.remembered.specs.CardLaws.{card_none}
use Rattle.remembered.proofs.card.CardSet.new.Goals as goal

pub returns : goal.returns
returns c = card_none c.none-row.result c.none-row.ensures
