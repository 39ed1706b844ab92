use Rattle.std.proofs.Common.{rules, []}
use Rattle.objects.specs.Locate.{locate}
use Rattle.memory.proofs.Acting.{empty_roots}
use Rattle.memory.proofs.Memory.open.Goals as goal

pub returns : goal.returns
returns c = λ M code. record {
  word_count = search rules;
  root_word_count = search rules;
  root_count = search rules;
  objects = search rules;
  trains = c.new.ensures;
  roots = empty_roots (locate []) 32;
  mark = search rules;
  used = search rules;
}
