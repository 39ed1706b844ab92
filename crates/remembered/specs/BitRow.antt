-- Bits of a row of 64-bit words.
use Rattle.std.specs.Prelude.{◌≡◌, ℕ, ◌/◌, ◌%◌, Bool, ◌||◌, List, ◌==◌, slice_index}
use Rattle.std.specs.Int.{bit_at}

-- whether bit k of a word is set
abbrev pub bit : ℕ → ℕ → Bool
bit word k = bit_at word k == 1

-- whether bit k of a row is set, counted from the first bit of the first word
unfoldable pub bit_in : List ℕ → ℕ → Bool
bit_in words k = bit (slice_index words (k / 64)) (k % 64)

-- one bit more is set, every other bit is as it was
abbrev pub Marked : List ℕ → ℕ → List ℕ → Type 0
Marked old k new = (j : ℕ) → bit_in new j ≡ (bit_in old j || j == k)
