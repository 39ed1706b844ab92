-- How a script is cut into lines, and a line into words.
use Rattle.std.proofs.Common.{◌≡◌, ℕ, ◌+◌, ◌≤◌, ◌<◌, List, [], ◌∷◌, length, Bool, true, false, not, eqb, cond, length-take-le, position, Option, Some, None, refl, arith}
use Rattle.std.specs.List.{onto_first, before_first, after_first, position_or_len, slice_split}
use Rattle.std.proofs.lemmas.Bool.{ltb-true}
use Rattle.std.proofs.lemmas.List.Sums.{prefix_len-le-length}
use Rattle.std.proofs.lemmas.Option.{cond_some}
use Rattle.std.specs.Borrow.{Bor}
use Rattle.std.specs.Option.{unwrap_or, option_map_or}
use Rattle.script_reader.specs.Lines.{is_byte, lines}

length-onto_first : (b : ℕ) (ls : List (List ℕ)) → length (onto_first b ls) ≤ length ls + 1
length-onto_first b [] = omega arith
length-onto_first b (l ∷ ls) = omega arith

-- each line has a byte, or the byte that ends it
pub length-lines : (bs : List ℕ) → length (lines bs) ≤ length bs
length-lines [] = omega arith
length-lines (b ∷ bs) =
    elim (eqb b 10) as (λ v. length (cond v ([] ∷ lines bs) (onto_first b (lines bs))) ≤ length (b ∷ bs)) [
      | true ↦ omega (arith, length-lines bs)
      | false ↦ omega (arith, length-lines bs, length-onto_first b (lines bs))
    ]

-- the first line reaches to the first byte 10
pub lines_first : (b : ℕ) (bs : List ℕ) → lines (b ∷ bs) ≡ before_first (is_byte 10) (b ∷ bs) ∷ lines (after_first (is_byte 10) (b ∷ bs))
lines_first b [] = grind arith
lines_first b (c ∷ bs) = grind (arith, lines_first c bs)

pub found : (p : ℕ → Bool) (bs : List ℕ) (i : ℕ) → position p bs ≡ Some i → (position_or_len p bs ≡ i) × (i < length bs)
found p bs i e = let h = cond_some _ _ _ e in (h.1, omega (arith, ltb-true _ _ h.0, h.1))

pub not_found : (p : ℕ → Bool) (bs : List ℕ) → position p bs ≡ None → length bs ≤ position_or_len p bs
not_found p bs e = grind arith

pub split_whole : (p : ℕ → Bool) (bs : List ℕ) → length bs ≤ position_or_len p bs → slice_split p bs ≡ bs ∷ []
split_whole p [] h = refl
split_whole p (b ∷ bs) h = grind (arith, split_whole p bs)

pub lines_cut : (bs : List ℕ) → 0 < length bs → lines bs ≡ before_first (is_byte 10) bs ∷ lines (after_first (is_byte 10) bs)
lines_cut [] some = absurd (omega arith)
lines_cut (b ∷ bs) some = lines_first b bs

pub behind_is : (o : Option (Bor (List ℕ))) (d : Bor (List ℕ)) → d.now ≡ [] → (unwrap_or o d).now ≡ option_map_or (λ r. r.now) o []
behind_is None d e = e
behind_is (Some r) d e = refl

pub length-before_first : (p : ℕ → Bool) (bs : List ℕ) → length (before_first p bs) ≡ position_or_len p bs
length-before_first p bs = length-take-le _ bs (prefix_len-le-length (λ b. not (p b)) bs)
