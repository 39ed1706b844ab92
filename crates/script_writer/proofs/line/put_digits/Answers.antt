use Rattle.std.proofs.Common.{◌^◌, ◌<◌, ◌≤◌, length, decimal, arith, rules}
use Rattle.std.proofs.lemmas.Fmt.{length-decimal-le}
use Rattle.script_writer.proofs.line.put_digits.Goals as goal

pub overflow_add-end : goal.overflow_add-end
overflow_add-end c =
    let f : c.args.n < 2 ^ 64 = search rules in
    let l : length (decimal c.args.n) ≤ 20 = length-decimal-le 20 c.args.n (omega arith) (omega arith) f in
    omega (arith, c.width.ensures)

pub write_digits-requires : goal.write_digits-requires
write_digits-requires c =
    let f : c.args.n < 2 ^ 64 = search rules in
    let l : length (decimal c.args.n) ≤ 20 = length-decimal-le 20 c.args.n (omega arith) (omega arith) f in
    (omega (arith, c.width.ensures), omega (arith, c.width.ensures))
