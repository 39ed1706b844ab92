use Rattle.std.proofs.Common.{arith, sym, ◌∙◌, take_all, length-take-le, length-drop}
use Rattle.std.proofs.lemmas.List.{take_rest, drop_all}
use Rattle.std.proofs.lemmas.List.Splits.{slice_split_first}
use Rattle.script_reader.specs.Lines.{is_byte}
use Rattle.script_reader.proofs.Cuts.{found, not_found, split_whole}
use Rattle.script_reader.proofs.pieces.cut_at.Goals as goal

pub returns-in-Some : goal.returns-in-Some
returns-in-Some c =
    let bytes = c.args.bytes.now in
    let at = found (is_byte c.args.stop) bytes c.in-Some.end (sym c.position_of.ensures ∙ c.in-Some.is) in
    record {
      first = grind arith;
      others = grind (arith, take_rest);
      pieces = grind (arith, take_rest, slice_split_first (is_byte c.args.stop) bytes 0);
      whole = grind (arith, take_rest, length-drop, length-take-le);
    }

pub returns-in-None : goal.returns-in-None
returns-in-None c =
    let bytes = c.args.bytes.now in
    let past = not_found (is_byte c.args.stop) bytes (sym c.position_of.ensures ∙ c.in-None.is) in
    record {
      first = grind (arith, take_all);
      others = grind (arith, drop_all);
      pieces = split_whole (is_byte c.args.stop) bytes past;
      whole = omega arith;
    }
