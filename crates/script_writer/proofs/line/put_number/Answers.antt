use Rattle.std.proofs.Common.{◌^◌, ◌<◌, ◌≤◌, length, decimal, arith, rules}
use Rattle.std.proofs.lemmas.Fmt.{length-decimal-le}
use Rattle.script_writer.proofs.line.put_number.Goals as goal

pub returns-clause-short : goal.returns-clause-short
returns-clause-short g c =
    let f : c.args.n < 2 ^ 64 = search rules in
    let l : length (decimal c.args.n) ≤ g.row.DIGITS = length-decimal-le g.row.DIGITS c.args.n c.requires.some c.requires.small f in
    omega (arith, c.put_text-digits.ensures.behind, c.put_digits.ensures.behind)
