use Rattle.std.proofs.Common.{arith}
use Rattle.script_writer.proofs.Laying.{put_then, put_as}
use Rattle.script_writer.proofs.writer.put_value.Goals as goal

pub returns : goal.returns
returns c =
    let p = put_then c.put_code-code.ensures.put (put_then (put_as c.from.ensures c.put_number-part.ensures.put) c.put_text.ensures) in
    record { room = c.requires; bytes = p.bytes_at; behind = p.behind; short = omega (arith, p.behind, c.put_text.ensures.behind) }
