-- What a header says in its low bits.
use Rattle.std.specs.Prelude.{◌≡◌, ℕ, ◌%◌, ◌<◌, ◌≤◌, if◌then◌else◌, ◌==◌}
use Rattle.std.proofs.Common.{arith}
use Rattle.std.proofs.Math.Nat.{mod-eq_of_lt}
use Rattle.std.proofs.lemmas.Bool.Decides.{nat_tests}

-- the remainder of a header, and another number in the place of 0, which is no shape's
abbrev pub low_part : (modulus empty : ℕ) → ℕ → ℕ
low_part m e h = if h % m == 0 then e else h % m

-- a number that is there already is read back as it is
pub low_part_self : (m e n : ℕ) → 1 ≤ n → n < m → low_part m e n ≡ n
low_part_self m e n some below = grind (arith, nat_tests, mod-eq_of_lt)
