use Rattle.std.proofs.Common.{◌≡◌, Bool, true, false, [], ◌∷◌, sym, ap, ◌∙◌, arith}
use Rattle.std.proofs.lemmas.Fmt.{decimal_digit}
use Rattle.script_writer.specs.Writer.{flag}
use Rattle.script_writer.proofs.Laying.{put_then, put_is}
use Rattle.script_writer.proofs.writer.put_flag.Goals as goal

yes_byte : (b : Bool) → b ≡ true → 49 ∷ [] ≡ flag b
yes_byte b e = sym (decimal_digit 1 (omega arith)) ∙ ap flag (sym e)

no_byte : (b : Bool) → b ≡ false → 48 ∷ [] ≡ flag b
no_byte b e = sym (decimal_digit 0 (omega arith)) ∙ ap flag (sym e)

pub returns-then-yes-clause-put : goal.returns-then-yes-clause-put
returns-then-yes-clause-put c = put_then c.put_text-digit.ensures (put_is (yes_byte c.args.yes c.if-yes.true) c.put_text.ensures)

pub returns-else-yes-clause-put : goal.returns-else-yes-clause-put
returns-else-yes-clause-put c = put_then c.put_text-digit.ensures (put_is (no_byte c.args.yes c.if-yes.false) c.put_text-else-yes.ensures)
