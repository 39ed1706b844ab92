use Rattle.std.proofs.Common.{sym, arith}
use Rattle.std.proofs.lemmas.Fmt.{decimal_digit}
use Rattle.script_writer.proofs.Laying.{put_is}
use Rattle.script_writer.proofs.writer.put_code.Goals as goal

pub returns-clause-put : goal.returns-clause-put
returns-clause-put c = put_is (sym (decimal_digit 0 (omega arith))) c.put_text.ensures
