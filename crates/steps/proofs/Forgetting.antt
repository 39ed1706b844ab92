-- Telling a set to forget one car after another.
use Rattle.std.proofs.Common.{◌≡◌, ℕ, zero, suc, List, [], ◌∷◌, length, get_or, map, refl, arith}
use Rattle.remembered.specs.declared.Update.TheVariants.{Forget}

pub length-forgets : (ns : List ℕ) → length (map Forget ns) ≡ length ns
length-forgets [] = refl
length-forgets (n ∷ ns) = grind (arith, length-forgets ns)

pub forget_at : (ns : List ℕ) (i : ℕ) → get_or (map Forget ns) i (Forget 0) ≡ Forget (get_or ns i 0)
forget_at [] i = refl
forget_at (n ∷ ns) zero = refl
forget_at (n ∷ ns) (suc i) = forget_at ns i
