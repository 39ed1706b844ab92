-- Numbers as a script and an output line have them.
use Rattle.std.specs.Prelude.{◌≡◌, ℕ, zero, suc, ◌+◌, ◌-◌, ◌*◌, ◌≤◌, Bool, true, false, cond, not, ◌&&◌, List, [], ◌∷◌, ℤ, pos, negsuc, Some, None, Option, ◌==◌, nat_le}
use Rattle.std.specs.Char.{is_ascii_digit}
use Rattle.std.specs.Fmt.{decimal, signed_decimal}

-- n and then these digits, as long as that is at most 4,294,967,295
abbrev pub onward : ℕ → List ℕ → Option ℕ
onward n [] = Some n
onward n (c ∷ cs) = cond (is_ascii_digit c && nat_le (n * 10 + (c - 48)) 4294967295) (onward (n * 10 + (c - 48)) cs) None

-- there is a byte, and no 0 in front of another
abbrev pub no_leading_zero : List ℕ → Bool
no_leading_zero [] = false
no_leading_zero (c ∷ []) = true
no_leading_zero (c ∷ d ∷ cs) = not (c == 48)

-- the number from 0 to 4,294,967,295 that these bytes write
abbrev pub natural_of : List ℕ → Option ℕ
natural_of text = cond (no_leading_zero text) (onward 0 text) None

-- with no sign, 2,147,483,647 is the largest
abbrev pub plus : Option ℕ → Option ℤ
plus None = None
plus (Some n) = cond (nat_le n 2147483647) (Some (pos n)) None

-- with a minus sign there is no 0, and -2,147,483,648 is the least
abbrev pub minus : Option ℕ → Option ℤ
minus None = None
minus (Some zero) = None
minus (Some (suc n)) = cond (nat_le n 2147483647) (Some (negsuc n)) None

-- the number from -2,147,483,648 to 2,147,483,647 that these bytes write; byte 45 is the minus sign
abbrev pub integer_of : List ℕ → Option ℤ
integer_of [] = None
integer_of (c ∷ cs) = cond (c == 45) (minus (natural_of cs)) (plus (natural_of (c ∷ cs)))

-- from -2,147,483,648 to 2,147,483,647
abbrev pub FitsLift : ℤ → Type 0
FitsLift (pos n) = n ≤ 2147483647
FitsLift (negsuc n) = n ≤ 2147483647

-- each number in range is read from its digits, and from no other bytes
pub record NumbersReadBack : Type 0 where
  pub natural_back : (n : ℕ) → n ≤ 4294967295 → natural_of (decimal n) ≡ Some n
  pub natural_only : (text : List ℕ) (n : ℕ) → natural_of text ≡ Some n → (text ≡ decimal n) × (n ≤ 4294967295)
  pub integer_back : (z : ℤ) → FitsLift z → integer_of (signed_decimal z) ≡ Some z
  pub integer_only : (text : List ℕ) (z : ℤ) → integer_of text ≡ Some z → (text ≡ signed_decimal z) × FitsLift z
