use Rattle.std.proofs.Common.{arith}
use Rattle.script_writer.proofs.Laying.{put_then, put_as}
use Rattle.script_writer.proofs.writer.put_step.Goals as goal

pub returns : goal.returns
returns c =
    let p =
    put_then c.put_code-code.ensures.put
    (put_then c.put_kind-kind.ensures.put
    (put_then (put_as c.from.ensures c.put_number-carried.ensures.put)
    (put_then (put_as c.from-2.ensures c.put_number-back.ensures.put)
    (put_then (put_as c.from-3.ensures c.put_number-copied.ensures.put)
    (put_then (put_as c.from-4.ensures c.put_number-lost.ensures.put)
    (put_then (put_as c.from-5.ensures c.put_number-looked.ensures.put)
    (put_then (put_as c.from-6.ensures c.put_number-cars.ensures.put) c.put_text.ensures))))))) in
    record { room = c.requires; bytes = p.bytes_at; behind = p.behind; short = omega (arith, p.behind, c.put_text.ensures.behind) }
