use Rattle.std.proofs.Common.{ap, ◌∙◌, arith}
use Rattle.script_writer.proofs.Laying.{put_then, put_as}
use Rattle.script_writer.proofs.writer.put_reader_fault.Goals as goal

pub returns : goal.returns
returns c =
    let at = c.position-position.ensures in
    let p =
    put_then c.put_text-layer.ensures
    (put_then (put_as (c.from.ensures ∙ c.number.ensures) c.put_number-number.ensures.put)
    (put_then c.put_text-before_line.ensures
    (put_then (put_as (c.from-2.ensures ∙ ap (λ p. p.line) at) c.put_number-line.ensures.put)
    (put_then c.put_text-before_place.ensures
    (put_then (put_as (ap (λ p. p.place) at) c.put_number-place.ensures.put) c.put_text.ensures))))) in
    record { room = c.requires; bytes = p.bytes_at; behind = p.behind; short = omega (arith, p.behind, c.put_text.ensures.behind) }
