-- Lists of pairs of a car and an address.
use Rattle.std.specs.Prelude.{ℕ, Bool, not, ◌&&◌, List, filter, ◌==◌}
use Rattle.std.specs.List.{list_any, count_by}
use Rattle.remembered.specs.declared.Pair.{Pair}

abbrev pub pair : ℕ → ℕ → Pair
pair c a = record { car = c; address = a }

-- whether it is that pair
abbrev pub is_pair : Pair → ℕ → ℕ → Bool
is_pair p c a = p.car == c && p.address == a

-- whether a pair is in a list
abbrev pub within : List Pair → ℕ → ℕ → Bool
within ps c a = list_any (λ p. is_pair p c a) ps

-- a list without the pairs of a car, the others in their order
abbrev pub without : ℕ → List Pair → List Pair
without c ps = filter (λ p. not (p.car == c)) ps

-- how many pairs of a car a list has
abbrev pub number_of : ℕ → List Pair → ℕ
number_of c ps = count_by (λ p. p.car == c) ps
