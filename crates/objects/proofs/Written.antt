-- The words of a new object while they are written, one behind another.
use Rattle.std.proofs.Common.{◌≡◌, ℕ, ◌+◌, ◌<◌, ◌≤◌, ◌≢◌, List, get_or}
use Rattle.layout.specs.ShapeTable.{Offsets}
use Rattle.objects.specs.Words.{SameOutside}

-- the header and the words behind it, up to the offset n, are written; a reference holds nothing, and every other word is 0
pub record Written (o : Offsets) (header : ℕ) (v w : List ℕ) (a n : ℕ) : Type 0 where
  pub head : get_or w a 0 ≡ header
  pub refs : (i : ℕ) → i < o.refs → 1 ≤ o.ref_at i → o.ref_at i < n → get_or w (a + o.ref_at i) 0 ≡ 8192
  pub rest : (k : ℕ) → 1 ≤ k → k < n → ((i : ℕ) → i < o.refs → o.ref_at i ≢ k) → get_or w (a + k) 0 ≡ 0
  pub frame : SameOutside v w a n
