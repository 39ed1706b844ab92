-- The code's moves are those of the claimed objects.
use Rattle.std.proofs.Common.{◌≡◌, ℕ, ◌+◌, ◌<◌, ◌≤◌, ◌⊎◌, Bool, true, false, not, eqb, cond, List, [], ◌∷◌, ◌++◌, length, get_or, set, take, map, replicate, sym, refl, ap, ◌∙◌, subst, arith, inl, inr}
use Rattle.std.proofs.lemmas.Bool.{cases_lt}
use Rattle.std.proofs.lemmas.List.{take_more, get_or-map, get_or-replicate, length-map}
use Rattle.layout.specs.ShapeTable.{ShapeTable, Lawful, Offsets}
use Rattle.layout.specs.Coding.{Coded, size_of}
use Rattle.layout.specs.declared.Shape.{Shape}
use Rattle.model.specs.Bodies.{size}
use Rattle.model.specs.Claims.{Claim as ObjectClaim}
use Rattle.model.specs.Step.{out_of, back_of, copied_of}
use Rattle.model.proofs.Totals.{sums}
use Rattle.objects.specs.Words.{Copied, SameOutside}
use Rattle.claims.specs.Claimed.{place_of, claim_of}
use Rattle.claims.specs.declared.Claim.{Claim}
use Rattle.trains.specs.Fills.{Placement, free_car, spot_at, placed}
use Rattle.moves.specs.Copies.{stands_at, told_size, spot_of, HasRoom, HasMoved}
use Rattle.moves.specs.Moves.{Carrying, moved_to, CanMove, AreMoved}
use Rattle.moves.proofs.Filling.{spot_at-fills, emptying-free, emptying-length}
use Rattle.moves.proofs.Steps.{no_claim, claim_at, free_at, goes_to, Next, next, moved_step, header_size}

-- a table that tells of nothing leads out of every car
pub none_moved : (M : ShapeTable) (code : Shape → ℕ) (q : Carrying) (words : List ℕ) (p : Placement) → CanMove M code q words p → AreMoved M code q 0 words (replicate 128 8192) p
none_moved M code q words p m = record {
  lies = m.lies;
  placement = m.placement;
  forwards = tt;
  away = λ i h e. omega (arith, e, m.lies.below.0, get_or-replicate {A = ℕ} 128 i 8192 0 h);
}

module _ (M : ShapeTable) (code : Shape → ℕ) (decoded : ℕ → Offsets) (law : Lawful M) (coded : Coded M code decoded) (q : Carrying) (v₀ : List ℕ) (p₀ : Placement) (m : CanMove M code q v₀ p₀) (k : ℕ) (h : k < length q.row)
    (v forward : List ℕ) (p : Placement) (r : AreMoved M code q k v forward p) (car : ℕ) (is : car ≡ q.emptied.number) (c : Claim) (claim-is : c ≡ claim_of q.at q.emptied (claim_at q k)) where
  n : Next M code q k v
  n = next M code law q v₀ p₀ m k h v forward p r

  stands : stands_at car c ≡ q.at (claim_at q k).object.id
  stands = omega (arith, is, ap (λ (d : Claim). d.place) claim-is, n.lies.above)

  -- the header tells the object's size
  pub sizes : told_size decoded v car c ≡ size (claim_at q k).object.body
  sizes = ap (λ a. size_of (decoded (get_or v a 0))) stands ∙ (header_size law coded q.at v (q.at (claim_at q k).object.id) (claim_at q k).object.body n.lies.lies).0

  free-is : free_car p ≡ free_at q k
  free-is = ap free_car r.placement ∙ emptying-free q.emptied (moved_to q k)

  spot-is : spot_of decoded v car c p ≡ goes_to q k
  spot-is =
      ap (λ (d : Claim). spot_at d.rank (free_car p) (told_size decoded v car c) p.trains) claim-is
      ∙ ap (λ w. spot_at (claim_at q k).rank (free_car p) w p.trains) sizes
      ∙ ap (λ z. spot_at (claim_at q k).rank z (size (claim_at q k).object.body) p.trains) free-is
      ∙ ap (λ (z : Placement). spot_at (claim_at q k).rank (free_at q k) (size (claim_at q k).object.body) z.trains) r.placement
      ∙ spot_at-fills (claim_at q k).rank (free_at q k) (claim_at q k).object (moved_to q k)

  rank-is : c.rank ≡ (claim_at q k).rank
  rank-is = ap (λ (d : Claim). d.rank) claim-is

  apart : (stands_at car c + told_size decoded v car c ≤ spot_of decoded v car c p) ⊎ (spot_of decoded v car c p + told_size decoded v car c ≤ stands_at car c)
  apart = elim (cases_lt q.emptied.number n.goes.car) [
    | inl g ↦ inl (omega (arith, g, stands, sizes, spot-is, n.lies.below, n.goes.low))
    | inr g ↦ inr (omega (arith, g, n.away, stands, sizes, spot-is, n.lies.above, n.goes.high))
  ]

  pub has-room : HasRoom decoded v car c p
  has-room = record {
    car_low = omega (arith, is, n.number);
    place_low = omega (arith, is, stands, n.lies.below, n.lies.above);
    near = omega (arith, rank-is, n.near, emptying-length q.emptied (moved_to q k), ap (λ (z : Placement). length z.trains) r.placement);
    low = omega (arith, rank-is, n.low);
    free = omega (arith, free-is, n.free);
    size = omega (arith, sizes, n.small);
    from = omega (arith, stands, sizes, n.number, n.lies.below);
    to = omega (arith, spot-is, sizes, n.below, n.goes.high);
    apart = apart;
  }

  pub has-moved : (w table : List ℕ) (after : Placement) → length forward ≡ 128 → HasMoved decoded v car c p forward w table after → AreMoved M code q (k + 1) w table after
  has-moved w table after long s =
      let place-is : c.place ≡ place_of q.at q.emptied (claim_at q k).object = ap (λ (d : Claim). d.place) claim-is in
      let copied : Copied v w (q.at (claim_at q k).object.id) (goes_to q k) (size (claim_at q k).object.body) =
      subst (λ a. Copied v w a (goes_to q k) (size (claim_at q k).object.body)) stands
      (subst (λ a. Copied v w (stands_at car c) a (size (claim_at q k).object.body)) spot-is
      (subst (λ a. Copied v w (stands_at car c) (spot_of decoded v car c p) a) sizes s.copied)) in
      let frame : SameOutside v w (goes_to q k) (size (claim_at q k).object.body) =
      subst (λ a. SameOutside v w a (size (claim_at q k).object.body)) spot-is (subst (λ a. SameOutside v w (spot_of decoded v car c p) a) sizes s.frame) in
      let trains-is : placed (claim_at q k).rank (size (claim_at q k).object.body) p ≡ after =
      ap (λ z. placed z (size (claim_at q k).object.body) p) (sym rank-is) ∙ ap (λ z. placed c.rank z p) (sym sizes) ∙ sym s.trains_are in
      let table-is : set forward (place_of q.at q.emptied (claim_at q k).object) (goes_to q k) ≡ table =
      ap (λ z. set forward z (goes_to q k)) (sym place-is) ∙ ap (set forward c.place) (sym spot-is) ∙ sym s.table_is in
      subst (λ z. AreMoved M code q (k + 1) w table z) trains-is
      (subst (λ z. AreMoved M code q (k + 1) w z (placed (claim_at q k).rank (size (claim_at q k).object.body) p)) table-is
      (moved_step M code law q v₀ p₀ m k h v w forward p r long copied frame))

  pub small : size (claim_at q k).object.body ≤ 64
  small = n.small

-- what is counted of the claims, one more
pub copied_more : (q : Carrying) (k : ℕ) → k < length q.row → copied_of (take (k + 1) q.row) ≡ copied_of (take k q.row) + size (claim_at q k).object.body
copied_more q k h = ap copied_of (take_more q.row k no_claim h) ∙ more (take k q.row)
  where
    more : (row : List ObjectClaim) → copied_of (row ++ claim_at q k ∷ []) ≡ copied_of row + size (claim_at q k).object.body
    more [] = omega (arith, sums)
    more (c ∷ row) = omega (arith, sums, more row)

pub out_more : (q : Carrying) (k : ℕ) → k < length q.row → out_of (take (k + 1) q.row) ≡ out_of (take k q.row) + cond (eqb (claim_at q k).rank 0) 0 1
out_more q k h = ap out_of (take_more q.row k no_claim h) ∙ more (take k q.row)
  where
    one : (b : Bool) → ◌≡◌ {A = ℕ} (cond (not b) 1 0) (cond b 0 1)
    one true = refl
    one false = refl

    more : (row : List ObjectClaim) → out_of (row ++ claim_at q k ∷ []) ≡ out_of row + cond (eqb (claim_at q k).rank 0) 0 1
    more [] = omega (arith, sums, one (eqb (claim_at q k).rank 0))
    more (c ∷ row) = omega (arith, sums, more row)

pub back_more : (q : Carrying) (k : ℕ) → k < length q.row → back_of (take (k + 1) q.row) ≡ back_of (take k q.row) + cond (eqb (claim_at q k).rank 0) 1 0
back_more q k h = ap back_of (take_more q.row k no_claim h) ∙ more (take k q.row)
  where
    more : (row : List ObjectClaim) → back_of (row ++ claim_at q k ∷ []) ≡ back_of row + cond (eqb (claim_at q k).rank 0) 1 0
    more [] = omega (arith, sums)
    more (c ∷ row) = omega (arith, sums, more row)

-- the claims of the code are those of the row, in order
pub claim_item : (q : Carrying) (items claims : List Claim) (k : ℕ) (d : Claim) → items ≡ claims → claims ≡ map (claim_of q.at q.emptied) q.row → k < length items
    → (k < length q.row) × (get_or items k d ≡ claim_of q.at q.emptied (claim_at q k))
claim_item q items claims k d e f h =
    let long : length items ≡ length q.row = ap length (e ∙ f) ∙ length-map q.row (claim_of q.at q.emptied) in
    let low : k < length q.row = omega (arith, h, long) in
    (low, ap (λ xs. get_or xs k d) (e ∙ f) ∙ get_or-map (claim_of q.at q.emptied) q.row k no_claim d low)

pub all_items : (q : Carrying) (items claims : List Claim) → items ≡ claims → claims ≡ map (claim_of q.at q.emptied) q.row → length items ≡ length q.row
all_items q items claims e f = ap length (e ∙ f) ∙ length-map q.row (claim_of q.at q.emptied)
