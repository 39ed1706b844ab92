use Rattle.std.proofs.Common.{◌≡◌, length, ◌<◌, arith, ap, refl, ◌∙◌}
use Rattle.std.specs.List.{after_first}
use Rattle.script_reader.specs.Lines.{is_byte}
use Rattle.script_reader.proofs.Cuts.{lines_cut, behind_is, length-before_first}
use Rattle.script_reader.proofs.lines.first_line.Goals as goal

pub returns : goal.returns
returns c =
    let script = c.args.script.now in
    let some : 0 < length script = grind arith in
    let behind : c.unwrap_or.result.now ≡ after_first (is_byte 10) script = ap (λ r. r.now) c.unwrap_or.ensures ∙ behind_is c.cut_at.result.1 _ refl ∙ c.cut_at.ensures.others in
    let len = length-before_first (is_byte 10) script in
    (some, grind (arith, lines_cut script some), grind arith)
