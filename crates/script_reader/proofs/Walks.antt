-- Going from line to line meets the lines of the script.
use Rattle.std.proofs.Common.{◌≡◌, ℕ, zero, suc, ◌+◌, ◌<◌, ◌≤◌, min, List, [], ◌∷◌, length, drop, Some, sym, refl, ap, subst, ◌∙◌, inl, inr, arith, length-drop}
use Rattle.std.proofs.lemmas.Bool.{cases_lt}
use Rattle.std.proofs.lemmas.List.{drop_all, drop-drop}
use Rattle.std.proofs.lemmas.Option.{cond_some}
use Rattle.std.specs.List.{before_first, after_first}
use Rattle.script_reader.specs.declared.lines.Line.{Line}
use Rattle.script_reader.specs.Lines.{is_byte, lines, lines_within, BeginsLine, Walks, ends, goes_on}
use Rattle.script_reader.proofs.Cuts.{lines_cut, length-before_first}

drop-min : (n : ℕ) (bs : List ℕ) → drop (min n (length bs)) bs ≡ drop n bs
drop-min n bs = grind (arith, drop_all)

-- what stands behind the line that begins at start
behind_line : (script : List ℕ) (start n : ℕ) → n ≡ length (before_first (is_byte 10) (drop start script)) → after_first (is_byte 10) (drop start script) ≡ drop (min (start + n + 1) (length script)) script
behind_line script start n e =
    drop-drop _ start script ∙ ap (λ k. drop k script) (omega (arith, length-before_first (is_byte 10) (drop start script))) ∙ sym (drop-min (start + n + 1) script)

-- where a script goes on, a line begins
line_from : (script : List ℕ) (start : ℕ) → start < length script → (l : Line) × BeginsLine script start l
line_from script start inside =
    let text : List ℕ = before_first (is_byte 10) (drop start script) in
    let cut = lines_cut (drop start script) (omega (arith, length-drop start script)) in (
      record { text = record { ref_ptr = (0, 0); now = text }; next = min (start + length text + 1) (length script) },
      record { inside = inside; first = cut ∙ ap (λ bs. text ∷ lines bs) (behind_line script start _ refl); next = refl },
    )

met : (script : List ℕ) (start : ℕ) (texts : List (List ℕ)) → Walks script start texts → texts ≡ lines (drop start script)
met script start [] (ends h) = sym (ap lines (drop_all start script h))
met script start (t ∷ texts) (goes_on l h w) = ap (λ ls. l.text.now ∷ ls) (met script l.next texts w) ∙ sym h.first

walk_from : (turns : ℕ) (script : List ℕ) (start : ℕ) → length script ≤ start + turns → Walks script start (lines (drop start script))
walk_from zero script start h = subst (Walks script start) (sym (ap lines (drop_all start script (omega arith)))) (ends (omega arith))
walk_from (suc turns) script start h =
    elim (cases_lt start (length script)) [
      | inr past ↦ subst (Walks script start) (sym (ap lines (drop_all start script past))) (ends past)
      | inl inside ↦
          let l = line_from script start inside in
          subst (Walks script start) (sym l.1.first) (goes_on l.0 l.1 (walk_from turns script l.0.next (omega (arith, l.1.next))))
    ]

pub walked : (script : List ℕ) → Walks script 0 (lines script)
walked script = walk_from (length script) script 0 (omega arith)

pub in_order : (script : List ℕ) (texts : List (List ℕ)) → Walks script 0 texts → texts ≡ lines script
in_order script texts w = met script 0 texts w

pub counted : (script : List ℕ) (texts : List (List ℕ)) (n : ℕ) → Walks script 0 texts → lines_within script ≡ Some n → length texts ≡ n
counted script texts n w e = ap length (in_order script texts w) ∙ (cond_some _ _ _ e).1
