use Rattle.std.proofs.Common.{◌≡◌, ℕ, ◌+◌, ◌<◌, List, [], ◌∷◌, ◌++◌, length, get_or, set, take, drop, ap, ◌∙◌, sym, arith}
use Rattle.std.proofs.lemmas.List.{length-take-le, set_at, drop_more, take_more, take_all, append_assoc}
use Rattle.objects.proofs.Objects.{word_at-value}
use Rattle.objects.proofs.copy_out.Goals as goal

-- one word more at the front
front_more : (vs old buffer : List ℕ) (j v : ℕ) → j < length vs → j < length old → buffer ≡ take j vs ++ drop j old → v ≡ get_or vs j 0
    → set buffer j v ≡ take (j + 1) vs ++ drop (j + 1) old
front_more vs old buffer j v h k e f =
    ap (λ (b : List ℕ). set b j v) (e ∙ ap (λ (r : List ℕ). take j vs ++ r) (drop_more old j 0 k))
    ∙ set_at (take j vs) (get_or old j 0) (drop (j + 1) old) v j (length-take-le j vs (omega arith))
    ∙ ap (λ (u : ℕ). take j vs ++ u ∷ drop (j + 1) old) f
    ∙ sym (append_assoc (take j vs) (get_or vs j 0 ∷ []) (drop (j + 1) old))
    ∙ ap (λ (t : List ℕ). t ++ drop (j + 1) old) (sym (take_more vs j 0 h))

pub loop-j-preserved : goal.loop-j-preserved
loop-j-preserved g c = λ at b lies fits.
    let inv = c.loop-j.invariant at b lies fits in
    let here = c.in_ok-buffer.ensures.of_object at b lies fits in
    let word = word_at-value g.L.Layout.table g.L.Layout.code at c.args.words.now c.args.object b lies c.loop-j.j here.0 in (
      inv.0,
      inv.1,
      front_more b.values c.args.buffer.now c.loop-j.buffer c.loop-j.j _ here.0 (omega (arith, here.0, inv.0, inv.1)) inv.2
          (ap (λ (a : ℕ). get_or c.args.words.now a 0) here.1 ∙ word),
    )

pub returns : goal.returns
returns g c = λ at b lies fits.
    let inv = c.loop-j.invariant at b lies fits in
    let all : c.loop-j.j ≡ length b.values = omega (arith, inv.0, c.loop-j-test.false, c.loop-j.auto.j-end) in (
      sym inv.0,
      omega (arith, inv.0, inv.1),
      inv.2 ∙ ap (λ (j : ℕ). take j b.values ++ drop j c.args.buffer.now) all ∙ ap (λ (t : List ℕ). t ++ drop (length b.values) c.args.buffer.now) (take_all (length b.values) b.values (omega arith)),
    )
