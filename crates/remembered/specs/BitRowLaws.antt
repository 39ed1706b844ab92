-- Laws of the bits of a row.
use Rattle.std.specs.Prelude.{◌≡◌, ℕ, ◌+◌, ◌-◌, ◌*◌, ◌/◌, ◌%◌, ◌^◌, ◌<◌, ◌≤◌, true, false, ◌||◌, List, length, replicate, Some, ◌==◌, ◌≢◌, nat_eq, slice_index, slice_set, refl}
use Rattle.std.proofs.Common.{sym, ap, ◌∙◌, ⊎_elim, arith, w64}
use Rattle.std.specs.Int.{bit_at, trailing_zeros}
use Rattle.std.specs.Int.Bits.{bit_or}
use Rattle.std.proofs.lemmas.Nat.{shr-shr, shr_le}
use Rattle.std.proofs.lemmas.Nat.Bits.{bit_at_above, bit_at-zero, bit_at-trailing_zeros, bit_at_set_same, bit_at_set_other}
use Rattle.std.proofs.lemmas.Grind.{common_steps}
use Rattle.std.proofs.lemmas.Bool.{cases_eq, cases_lt}
use Rattle.remembered.specs.BitRow.{bit, bit_in, Marked}
use Rattle.remembered.specs.Laws.{Least}

-- a bit of a word shifted down is a higher one of the word
bit_at_shift : (w from j k : ℕ) → from + j ≡ k → bit_at w k ≡ bit_at (w / 2 ^ from) j
bit_at_shift w from j k e = ap (bit_at w) (sym e) ∙ sym (ap (λ m. m % 2) (shr-shr w from j))

-- a word whose bits from some place on are all 0
pub word_none : (w from : ℕ) → w / 2 ^ from ≡ 0 → (k : ℕ) → from ≤ k → bit w k ≡ false
word_none w from e k h = ap (λ b. nat_eq b 1) (bit_at_shift w from (k - from) k (omega arith) ∙ ap (λ m. bit_at m (k - from)) e ∙ bit_at-zero (k - from))

-- a word has 64 bits
pub bit_within : (w k : ℕ) → w < 2 ^ 64 → bit w k ≡ true → k < 64
bit_within w k fits is = ⊎_elim (λ l. l) (λ (g : 64 ≤ k). cc (ap (λ b. nat_eq b 1) (bit_at_above w 64 k fits g))) (cases_lt k 64)

-- the lowest bit, at or above some place, of a word that has one
pub word_next : (w from : ℕ) → w < 2 ^ 64 → 0 < w / 2 ^ from
    → Least (bit w) from (Some (from + trailing_zeros w64 (w / 2 ^ from))) × (from + trailing_zeros w64 (w / 2 ^ from) < 64)
word_next w from fits pos =
    let first = bit_at-trailing_zeros w64 (w / 2 ^ from) pos (omega (arith, shr_le w from)) in
    let is : bit w (from + trailing_zeros w64 (w / 2 ^ from)) ≡ true = ap (λ b. nat_eq b 1) (bit_at_shift w from _ _ refl ∙ first.1) in
    ((omega arith, is, λ k h l. ap (λ b. nat_eq b 1) (bit_at_shift w from (k - from) k (omega arith) ∙ first.2 (k - from) (omega arith))), bit_within w _ fits is)

-- one bit of a word is set
bit_set : (w k j : ℕ) → k < 64 → bit (bit_or w (1 * 2 ^ k % 2 ^ 64)) j ≡ (bit w j || j == k)
bit_set w k j lt =
    ⊎_elim
    (λ (e : j ≡ k). grind (arith, common_steps, e, bit_at_set_same w64 w k lt))
    (λ (ne : j ≢ k). grind (arith, common_steps, ne, bit_at_set_other w64 w k lt j ne))
    (cases_eq j k)

-- the row after one bit of it is set
pub marked_row : (ws : List ℕ) (k : ℕ) → k / 64 < length ws → Marked ws k (slice_set ws (k / 64) (bit_or (slice_index ws (k / 64)) (1 * 2 ^ (k % 64) % 2 ^ 64)))
unfolding bit_in
marked_row ws k h j =
    ⊎_elim
    (λ (e : j / 64 ≡ k / 64). grind (arith, common_steps, e, bit_set (slice_index ws (k / 64)) (k % 64) (j % 64) (omega arith)))
    (λ (ne : j / 64 ≢ k / 64). grind (arith, common_steps, ne))
    (cases_eq (j / 64) (k / 64))

zeros : (n i : ℕ) → slice_index (replicate n 0) i ≡ 0
zeros n i = grind (arith, common_steps)

-- a row of zeros has no bit
pub zero_row : (n k : ℕ) → bit_in (replicate n 0) k ≡ false
unfolding bit_in
zero_row n k = ap (λ w. nat_eq (bit_at w (k % 64)) 1) (zeros n (k / 64)) ∙ ap (λ b. nat_eq b 1) (bit_at-zero (k % 64))

past : (ws : List ℕ) (i : ℕ) → length ws ≤ i → slice_index ws i ≡ 0
past ws i h = grind (arith, common_steps)

-- nor has a row any behind its words
pub past_row : (ws : List ℕ) (k : ℕ) → 64 * length ws ≤ k → bit_in ws k ≡ false
unfolding bit_in
past_row ws k h = ap (λ w. nat_eq (bit_at w (k % 64)) 1) (past ws (k / 64) (omega arith)) ∙ ap (λ b. nat_eq b 1) (bit_at-zero (k % 64))

-- a bit of a row is a bit of one of its words
pub word_bit : (ws : List ℕ) (i j k : ℕ) → 64 * i + j ≡ k → j < 64 → bit_in ws k ≡ bit (slice_index ws i) j
unfolding bit_in
word_bit ws i j k e h = let d : k / 64 ≡ i = omega arith in let m : k % 64 ≡ j = omega arith in ap (λ x. bit (slice_index ws x) (k % 64)) d ∙ ap (λ x. bit (slice_index ws i) x) m

-- no bit is found in one word more
pub none_more : (ws : List ℕ) (from i : ℕ) → ((k : ℕ) → from ≤ k → k < 64 * i → bit_in ws k ≡ false) → ((k : ℕ) → from - 64 * i ≤ k → bit (slice_index ws i) k ≡ false)
    → (k : ℕ) → from ≤ k → k < 64 * (i + 1) → bit_in ws k ≡ false
none_more ws from i before here k h l =
    ⊎_elim (λ lt. before k h lt) (λ (ge : 64 * i ≤ k). word_bit ws i (k - 64 * i) k (omega arith) (omega arith) ∙ here (k - 64 * i) (omega arith)) (cases_lt k (64 * i))

-- the first that a word has is the row's
pub next_row : (ws : List ℕ) (from i x : ℕ) → ((k : ℕ) → from ≤ k → k < 64 * i → bit_in ws k ≡ false) → Least (bit (slice_index ws i)) (from - 64 * i) (Some x) → x < 64 → Least (bit_in ws) from (Some (64 * i + x))
next_row ws from i x before found lt = (
  omega (arith, found.0),
  word_bit ws i x (64 * i + x) refl lt ∙ found.1,
  λ k h l.
      ⊎_elim (λ s. before k h s) (λ (ge : 64 * i ≤ k). word_bit ws i (k - 64 * i) k (omega arith) (omega arith) ∙ found.2 (k - 64 * i) (omega arith) (omega arith)) (cases_lt k (64 * i)),
)
