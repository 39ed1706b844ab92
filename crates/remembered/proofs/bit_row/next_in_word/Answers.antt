use Rattle.std.proofs.Common.{arith}
use Rattle.remembered.specs.BitRowLaws.{word_none, word_next}
use Rattle.remembered.proofs.bit_row.next_in_word.Goals as goal

pub returns-then-rest-eq0-clause-least : goal.returns-then-rest-eq0-clause-least
returns-then-rest-eq0-clause-least c = word_none c.args.word c.args.from (omega arith)

pub returns-clause-least : goal.returns-clause-least
returns-clause-least c = (word_next c.args.word c.args.from (omega arith) (omega arith)).0

pub returns-clause-within : goal.returns-clause-within
returns-clause-within c = (word_next c.args.word c.args.from (omega arith) (omega arith)).1
