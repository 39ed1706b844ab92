-- One reference more, one claimed object more.
use Rattle.std.proofs.Common.{◌≡◌, ℕ, suc, ◌+◌, ◌-◌, ◌<◌, ◌≤◌, true, ltb, List, length, Option, arith, lt-ltb, refl}
use Rattle.layout.specs.ShapeTable.{Offsets}
use Rattle.claims.specs.declared.Claim.{Claim}
use Rattle.claims.specs.Words.{visited_if, scanned, object_scanned, place_at, closed}

pub scanned_turn : (car k : ℕ) (ws : ℕ → Option ℕ) (i n : ℕ) (order : List Claim) → i < n
    → scanned car k ws i (n - i) order ≡ scanned car k ws (i + 1) (n - (i + 1)) (visited_if car k (ws i) order)
scanned_turn car k ws i n order lt =
    let e : n - i ≡ suc (n - (i + 1)) = omega arith in rw e refl

pub closed_turn : (decoded : ℕ → Offsets) (words : List ℕ) (car k h : ℕ) (order : List Claim) → h < length order → length order ≤ 64
    → closed decoded words car k (64 - h) h order ≡ closed decoded words car k (64 - (h + 1)) (h + 1) (object_scanned decoded words car k (place_at order h) order)
closed_turn decoded words car k h order lt few =
    let e : 64 - h ≡ suc (64 - (h + 1)) = omega arith in
    let b : ltb h (length order) ≡ true = lt-ltb _ _ lt in
    rw e (grind (arith, b))
