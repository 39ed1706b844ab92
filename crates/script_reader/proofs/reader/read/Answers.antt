use Rattle.std.proofs.Common.{rules}
use Rattle.script_reader.proofs.Spelling.{spelled_exactly}
use Rattle.script_reader.proofs.reader.read.Goals as goal

pub returns-clause-spelling : goal.returns-clause-spelling
returns-clause-spelling c = spelled_exactly c.args.number c.args.line.now _ (search rules)

pub returns-in_err-read_line-clause-spelling : goal.returns-in_err-read_line-clause-spelling
returns-in_err-read_line-clause-spelling c = spelled_exactly c.args.number c.args.line.now _ (search rules)
