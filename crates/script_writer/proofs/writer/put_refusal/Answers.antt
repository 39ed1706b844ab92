use Rattle.std.proofs.Common.{◌+◌, ◌<◌, [], ◌∷◌, sym, ap, ◌∙◌, arith}
use Rattle.std.proofs.lemmas.Fmt.{decimal_digit}
use Rattle.calls.specs.declared.answer.Refusal.{Refusal}
use Rattle.calls.specs.declared.answer.Refusal.TheVariants.{Root, Empty, Missing, Shape, Full, Range, Buffer}
use Rattle.calls.specs.Answers.{refusal_number}
use Rattle.script_writer.proofs.Laying.{put_then, put_is}
use Rattle.script_writer.proofs.writer.put_refusal.Goals as goal

one_digit : (r : Refusal) → refusal_number r < 10
one_digit Root = omega arith
one_digit Empty = omega arith
one_digit Missing = omega arith
one_digit Shape = omega arith
one_digit Full = omega arith
one_digit Range = omega arith
one_digit Buffer = omega arith

pub returns : goal.returns
returns c =
    let few : refusal_number c.args.refusal < 10 = one_digit c.args.refusal in
    let e = ap (λ n. (48 + n) ∷ []) c.number.ensures ∙ sym (decimal_digit (refusal_number c.args.refusal) few) in
    let p = put_then (put_is e c.put_text-code.ensures) c.put_text.ensures in
    record { room = c.requires; bytes = p.bytes_at; behind = p.behind; short = omega (arith, p.behind, c.put_text-code.ensures.behind, c.put_text.ensures.behind) }
