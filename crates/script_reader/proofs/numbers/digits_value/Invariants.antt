use Rattle.std.proofs.Common.{◌≡◌, drop}
use Rattle.calls.specs.Numbers.{onward}
use Rattle.script_reader.proofs.numbers.digits_value.Given as goal

abbrev pub invariant-loop-byte : goal.invariant-loop-byte
invariant-loop-byte l = (onward l.value (drop l.byte-index l.text) ≡ onward 0 l.text)
