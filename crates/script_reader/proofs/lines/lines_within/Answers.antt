use Rattle.std.proofs.Common.{length, inl, ap, arith}
use Rattle.script_reader.proofs.Cuts.{length-lines}
use Rattle.script_reader.proofs.lines.lines_within.Goals as goal

pub count-count-requires-clause-fits : goal.count-count-requires-clause-fits
count-count-requires-clause-fits c = inl (omega (arith, ap length c.new.ensures, length-lines c.args.script.now))
