use Rattle.std.proofs.Common.{◌≡◌, ◌+◌, ◌/◌, ◌%◌, ◌^◌, ◌<◌, ◌≤◌, ℕ, length, ap, ◌∙◌, decimal, arith, rules}
use Rattle.std.proofs.lemmas.List.{length_push}
use Rattle.std.proofs.lemmas.Fmt.{decimal_digit, decimal_step, length-decimal-le}
use Rattle.script_writer.proofs.line.width.Goals as goal

more : (n : ℕ) → 10 ≤ n → n < 2 ^ 64 → length (decimal n) ≡ length (decimal (n / 10)) + 1
more n ge h = ap length (decimal_step n ge h) ∙ length_push (decimal (n / 10)) (48 + n % 10)

one : (n : ℕ) → n < 10 → length (decimal n) ≡ 1
one n h = ap length (decimal_digit n h)

pub overflow_add-count : goal.overflow_add-count
overflow_add-count c =
    let f : c.args.n < 2 ^ 64 = search rules in
    let l : length (decimal c.args.n) ≤ 20 = length-decimal-le 20 c.args.n (omega arith) (omega arith) f in
    omega (arith, c.loop-rest.invariant.1)

pub loop-rest-preserved : goal.loop-rest-preserved
loop-rest-preserved c = (
  omega (arith, c.loop-rest.invariant.0),
  omega (arith, c.loop-rest.invariant.1, more c.loop-rest.rest c.loop-rest-test.true c.loop-rest.invariant.0),
)

pub returns : goal.returns
returns c = omega (arith, c.loop-rest.invariant.1, one c.loop-rest.rest c.loop-rest-test.false)
