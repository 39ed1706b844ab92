-- Laws of what is in range.
use Rattle.std.specs.Prelude.{◌≡◌, ℕ, ◌<◌, true, nat_lt}
use Rattle.std.proofs.lemmas.Bool.{and_from, and_parts, lt-ltb, ltb-true}
use Rattle.remembered.specs.Laws.{in_range}

pub range_from : (c a : ℕ) → c < 64 → a < 8192 → in_range c a ≡ true
range_from c a hc ha = and_from (nat_lt c 64) (nat_lt a 8192) (lt-ltb c 64 hc) (lt-ltb a 8192 ha)

pub range_parts : (c a : ℕ) → in_range c a ≡ true → (c < 64) × (a < 8192)
range_parts c a e = let p = and_parts (nat_lt c 64) (nat_lt a 8192) e in (ltb-true c 64 p.0, ltb-true a 8192 p.1)
