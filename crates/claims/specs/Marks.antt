-- The marks of a car's places go with the order of its claims.
use Rattle.std.specs.Prelude.{◌≡◌, ℕ, ◌<◌, ◌≤◌, Bool, false, List, length, slice_index_or}
use Rattle.std.specs.List.{All}
use Rattle.claims.specs.declared.Claim.{Claim}
use Rattle.claims.specs.Words.{is_claimed}

pub record MarksAre (order : List Claim) (marks : List Bool) : Type 0 where
  pub wide : length marks ≡ 128
  pub few : length order ≤ 64
  pub inside : All (λ c. c.place < 128) order
  pub same : (p : ℕ) → p < 128 → slice_index_or marks p false ≡ is_claimed p order
