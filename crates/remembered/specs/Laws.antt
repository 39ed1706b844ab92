-- What every remembered set owes.
use Rattle.std.specs.Prelude.{◌≡◌, ℕ, ◌<◌, ◌≤◌, Bool, true, false, not, ◌&&◌, Option, MatchOption, ◌≢◌, nat_lt}

-- a car and an address that can be paired
abbrev pub in_range : ℕ → ℕ → Bool
in_range c a = nat_lt c 64 && nat_lt a 8192

-- a pair that a set could have and lacks
abbrev pub new_in : (ℕ → ℕ → Bool) → ℕ → ℕ → Bool
new_in has c a = in_range c a && not (has c a)

-- no pair is in P
abbrev pub HasNone : (ℕ → ℕ → Bool) → Type 0
HasNone P = (c a : ℕ) → P c a ≡ false

-- all pairs of P are in Q
abbrev pub Keeps : (ℕ → ℕ → Bool) → (ℕ → ℕ → Bool) → Type 0
Keeps P Q = (c a : ℕ) → P c a ≡ true → Q c a ≡ true

-- all pairs of P are in Q, but for those of one car
abbrev pub KeepsOthers : ℕ → (ℕ → ℕ → Bool) → (ℕ → ℕ → Bool) → Type 0
KeepsOthers car P Q = (c a : ℕ) → (c ≢ car) → P c a ≡ true → Q c a ≡ true

-- r is the least number in P at or above from, or there is none
abbrev pub Least : (ℕ → Bool) → ℕ → Option ℕ → Type 0
Least P from r = MatchOption r ((a : ℕ) → from ≤ a → P a ≡ false) (λ x. (from ≤ x) × (P x ≡ true) × ((a : ℕ) → from ≤ a → a < x → P a ≡ false))
