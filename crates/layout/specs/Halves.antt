-- A header of a pair, as a header of one of its halves: the lowest bit tells whose it is.
use Rattle.std.specs.Prelude.{◌≡◌, ℕ, ◌+◌, ◌*◌, ◌/◌, ◌%◌, Bool, if◌then◌else◌, ◌==◌}
use Rattle.std.proofs.Common.{arith}
use Rattle.std.proofs.lemmas.Bool.Decides.{nat_tests}
use Rattle.layout.specs.declared.pair.Half.{Half}
use Rattle.layout.specs.declared.pair.Half.TheVariants.{First, Second}

-- the first layout's headers are the even words
abbrev pub of_first : ℕ → Bool
of_first h = h % 2 == 0

abbrev pub half_of : ℕ → Half
half_of h = if of_first h then First (h / 2) else Second (h / 2)

-- the header in the pair
abbrev pub header_of : Half → ℕ
header_of (First h) = 2 * h
header_of (Second h) = 2 * h + 1

-- the header in the half's own layout
abbrev pub own_header : Half → ℕ
own_header (First h) = h
own_header (Second h) = h

-- what the half's own layout says of its header
abbrev pub in_half : {X : Type 0} → (first second : ℕ → X) → Half → X
in_half f g (First h) = f h
in_half f g (Second h) = g h

-- what holds of the header in the half's own layout
abbrev pub OfHalf : (first second : ℕ → Type 0) → Half → Type 0
OfHalf P Q (First h) = P h
OfHalf P Q (Second h) = Q h

pub half_of-header_of : (x : Half) → half_of (header_of x) ≡ x
half_of-header_of (First h) = grind (arith, nat_tests)
half_of-header_of (Second h) = grind (arith, nat_tests)
