-- One claimed object more is moved.
use Rattle.std.proofs.Common.{◌≡◌, ℕ, zero, suc, ◌+◌, ◌*◌, ◌/◌, ◌<◌, ◌≤◌, ◌≢◌, Bool, true, false, eqb, List, [], ◌∷◌, ◌++◌, length, get_or, set, take, sym, refl, ap, ◌∙◌, subst, arith}
use Rattle.std.proofs.lemmas.Bool.{eqb-false, ne_eqb, eqb-true, eq-eqb, or_parts, or_from}
use Rattle.std.proofs.lemmas.List.{take_more, get_or-set_same, get_or-set_other, map-append}
use Rattle.std.specs.List.{AllByRecursion, Contains}
use native.Mathlib.Decide.{ℕ_discrete}
use Rattle.layout.specs.ShapeTable.{ShapeTable, Lawful, Offsets}
use Rattle.layout.specs.Coding.{Coded, size_of}
use Rattle.layout.specs.Admitted.{admitted_header}
use Rattle.layout.specs.declared.Shape.{Shape}
use Rattle.model.specs.Bodies.{Body, size}
use Rattle.model.specs.Claims.{Claim as ObjectClaim}
use Rattle.model.specs.Step.{placing, place_all, claimed}
use Rattle.model.specs.Trains.{Obj, Car, Trains, objects, times, words_of, place_at, car_numbers, numbers, one_of, lowest_free, car_words}
use Rattle.model.proofs.Alls.{all_++, all_with, claimed_all_take}
use Rattle.model.proofs.Distinct.{one_of_apart, all_at, distinct_head, lowest_unused}
use Rattle.model.proofs.Cars.{length-numbers, total-take}
use Rattle.model.proofs.Keeps.{times_self}
use Rattle.model.proofs.RememberCars.{cars_in_row, row_numbers}
use Rattle.model.proofs.Totals.{is, one_if, sums, place_all-total}
use Rattle.objects.specs.Lies.{Lies, LieFrom, ArePlaced}
use Rattle.objects.specs.Locate.{locate}
use Rattle.objects.specs.Words.{Copied, SameOutside}
use Rattle.objects.specs.Stand.{next_address_at}
use Rattle.claims.specs.Claimed.{place_of}
use Rattle.trains.specs.Fills.{Placement, placed}
use Rattle.moves.specs.Fills.{emptying}
use Rattle.moves.specs.Moves.{Carrying, moved_to, CanMove, AreMoved}
use Rattle.moves.specs.Seats.{RowLies, later}
use Rattle.moves.proofs.Seating.{seat_at, StandsIn, seated, row_seated}
use Rattle.moves.proofs.Locating.{locate-other, locate-new}
use Rattle.moves.proofs.Filling.{emptying-placed}

-- what holds of each holds of the k-th
pub all_nth : {X : Type 0} (P : X → Type 0) (xs : List X) (k : ℕ) (d : X) → AllByRecursion P xs → k < length xs → P (get_or xs k d)
all_nth P [] k d p h = absurd (omega (arith, h))
all_nth P (x ∷ xs) zero d p h = p.0
all_nth P (x ∷ xs) (suc k) d p h = all_nth P xs k d p.1 (omega (arith, h))

-- some objects placed, then others
place_all-++ : (busy : List ℕ) (xs ys : List ObjectClaim) (ts : Trains) → place_all busy (xs ++ ys) ts ≡ place_all busy ys (place_all busy xs ts)
place_all-++ busy [] ys ts = refl
place_all-++ busy (c ∷ xs) ys ts = place_all-++ busy xs ys (place_at c.rank (lowest_free (busy ++ numbers ts)) c.object ts)

-- no claim
abbrev pub no_claim : ObjectClaim
no_claim = record { object = record { id = 0; body = record { shape = record { kind = 0; refs = 0; words = 0 }; refs = []; values = [] } }; rank = 0 }

abbrev pub claim_at : Carrying → ℕ → ObjectClaim
claim_at q k = get_or q.row k no_claim

abbrev pub free_at : Carrying → ℕ → ℕ
free_at q k = lowest_free (q.emptied.number ∷ numbers (moved_to q k))

abbrev pub goes_to : Carrying → ℕ → ℕ
goes_to q k = next_address_at (claim_at q k).rank (free_at q k) (claim_at q k).object (moved_to q k)

pub moved_more : (q : Carrying) (k : ℕ) → k < length q.row → moved_to q (k + 1) ≡ place_at (claim_at q k).rank (free_at q k) (claim_at q k).object (moved_to q k)
moved_more q k h =
    ap (λ row. placing q.emptied row q.trains) (take_more q.row k no_claim h) ∙ place_all-++ (q.emptied.number ∷ []) (take k q.row) (claim_at q k ∷ []) q.trains

claimed_more : (q : Carrying) (k : ℕ) → k < length q.row → claimed (take (k + 1) q.row) ≡ claimed (take k q.row) ++ (claim_at q k).object ∷ []
claimed_more q k h = ap claimed (take_more q.row k no_claim h) ∙ map-append (λ (c : ObjectClaim). c.object) (take k q.row) (claim_at q k ∷ [])

claimed_nth : (P : Obj → Type 0) (row : List ObjectClaim) (k : ℕ) (d : ObjectClaim) → AllByRecursion P (claimed row) → k < length row → P (get_or row k d).object
claimed_nth P [] k d p h = absurd (omega (arith, h))
claimed_nth P (c ∷ row) zero d p h = p.0
claimed_nth P (c ∷ row) (suc k) d p h = claimed_nth P row k d p.1 (omega (arith, h))

pub all_contained : {X : Type 0} (P : X → Type 0) (xs : List X) (x : X) → AllByRecursion P xs → Contains xs x → P x
all_contained P xs x p c = subst P c.2 (all_nth P xs c.0 x p c.1)

-- no object has the identity
none_of : (x : ℕ) (os : List Obj) → times x os ≡ 0 → AllByRecursion (λ p. p.id ≢ x) os
none_of x [] h = tt
none_of x (o ∷ os) h = ((λ e. let z : is x o ≡ 1 = ap one_if (eq-eqb x o.id (sym e)) in omega (arith, sums, h, z)), none_of x os (omega (arith, sums, h)))

-- the trains do not get fewer
grows : (k n : ℕ) (o : Obj) (ts : Trains) → length ts ≤ length (place_at k n o ts)
grows k n o [] = omega arith
grows zero n o (t ∷ ts) = omega arith
grows (suc k) n o (t ∷ ts) = omega (arith, grows k n o ts)

grows_all : (busy : List ℕ) (row : List ObjectClaim) (ts : Trains) → length ts ≤ length (place_all busy row ts)
grows_all busy [] ts = omega arith
grows_all busy (c ∷ row) ts =
    let n = lowest_free (busy ++ numbers ts) in
    omega (arith, grows c.rank n c.object ts, grows_all busy row (place_at c.rank n c.object ts))

-- objects behind one another lie from the first address on, at addresses of their own

placed_low : (at : ℕ → ℕ) (a : ℕ) (os : List Obj) → ArePlaced at a os → (x : ℕ) → 1 ≤ times x os → a ≤ at x
placed_low at a [] p x h = absurd (omega (arith, h))
placed_low at a (o ∷ os) p x h = go (eqb x o.id) refl (placed_low at (a + size o.body) os p.1 x)
  where
    go : (b : Bool) → eqb x o.id ≡ b → (1 ≤ times x os → a + size o.body ≤ at x) → a ≤ at x
    go true e r = let q : at x ≡ at o.id = ap at (eqb-true x o.id e) in omega (arith, q, p.0)
    go false e r = let z : is x o ≡ 0 = ap one_if e in omega (arith, r (omega (arith, sums, h, z)))

pub placed_differ : (at : ℕ → ℕ) (a : ℕ) (os : List Obj) → ArePlaced at a os → (x y : ℕ) → 1 ≤ times x os → 1 ≤ times y os → at x ≡ at y → x ≡ y
placed_differ at a [] p x y h k e = absurd (omega (arith, h))
placed_differ at a (o ∷ os) p x y h k e = go (eqb x o.id) refl (eqb y o.id) refl (placed_low at (a + size o.body) os p.1) (placed_differ at (a + size o.body) os p.1 x y)
  where
    go : (b : Bool) → eqb x o.id ≡ b → (d : Bool) → eqb y o.id ≡ d → ((z : ℕ) → 1 ≤ times z os → a + size o.body ≤ at z)
        → (1 ≤ times x os → 1 ≤ times y os → at x ≡ at y → x ≡ y) → x ≡ y
    go true f true g low r = eqb-true x o.id f ∙ sym (eqb-true y o.id g)
    go true f false g low r =
        let q : at x ≡ at o.id = ap at (eqb-true x o.id f) in let z : is y o ≡ 0 = ap one_if g in
        absurd (omega (arith, q, p.0, e, low y (omega (arith, sums, k, z))))
    go false f true g low r =
        let q : at y ≡ at o.id = ap at (eqb-true y o.id g) in let z : is x o ≡ 0 = ap one_if f in
        absurd (omega (arith, q, p.0, e, low x (omega (arith, sums, h, z))))
    go false f false g low r =
        let z : is x o ≡ 0 = ap one_if f in let w : is y o ≡ 0 = ap one_if g in
        r (omega (arith, sums, h, z)) (omega (arith, sums, k, w)) e

-- each object lies at its address, within the words of its car
pub record LiesIn (M : ShapeTable) (code : Shape → ℕ) (at : ℕ → ℕ) (words : List ℕ) (low high : ℕ) (o : Obj) : Type 0 where
  pub lies : Lies M code at words (at o.id) o.body
  pub above : low ≤ at o.id
  pub below : at o.id + size o.body ≤ high

pub all_lie : (M : ShapeTable) (code : Shape → ℕ) (at : ℕ → ℕ) (words : List ℕ) (low high a : ℕ) (os : List Obj) → LieFrom M code at words a os → ArePlaced at a os
    → low ≤ a → a + words_of os ≤ high → AllByRecursion (LiesIn M code at words low high) os
all_lie M code at words low high a [] l p f g = tt
all_lie M code at words low high a (o ∷ os) l p f g = (
  record {
    lies = subst (λ b. Lies M code at words b o.body) (sym p.0) l.0;
    above = omega (arith, p.0, f);
    below = omega (arith, sums, p.0, g);
  },
  all_lie M code at words low high (a + size o.body) os l.1 p.1 (omega (arith, f)) (omega (arith, sums, g)),
)

-- the words of an object by its header
pub header_size : {M : ShapeTable} {code : Shape → ℕ} {decoded : ℕ → Offsets} → Lawful M → Coded M code decoded → (at : ℕ → ℕ) (words : List ℕ) (a : ℕ) (b : Body)
    → Lies M code at words a b → (size_of (decoded (get_or words a 0)) ≡ size b) × (size b ≤ 64)
header_size {decoded = decoded} law coded at words a b l =
    let t = admitted_header law coded b.shape l.offsets l.admitted in
    let e = ap (λ h. size_of (decoded h)) l.header in
    (omega (arith, e, t.size, l.ref_count, l.word_count), omega (arith, t.size, t.most, l.ref_count, l.word_count))

-- what is known of the k-th object as it is moved: where it lies, and where it goes to
pub record Next (M : ShapeTable) (code : Shape → ℕ) (q : Carrying) (k : ℕ) (words : List ℕ) : Type 0 where
  pub lies : LiesIn M code q.at words (car_words * q.emptied.number) (car_words * q.emptied.number + car_words) (claim_at q k).object
  pub number : q.emptied.number < 64
  pub there : 1 ≤ times (claim_at q k).object.id q.emptied.objects
  pub small : size (claim_at q k).object.body ≤ 64
  pub free : free_at q k < 64
  pub unused : one_of (free_at q k) (q.emptied.number ∷ car_numbers (cars_in_row (moved_to q k))) ≡ false
  pub near : (claim_at q k).rank ≤ length (moved_to q k)
  pub low : (claim_at q k).rank < 8
  pub earlier : times (claim_at q k).object.id (claimed (take k q.row)) ≡ 0
  pub new : times (claim_at q k).object.id (objects (moved_to q k)) ≡ 0
  pub goes : StandsIn (free_at q k) (claim_at q k).object (goes_to q k) (cars_in_row (moved_to q k))
  pub away : goes.car ≢ q.emptied.number
  pub below : goes.car < 64

module _ (M : ShapeTable) (code : Shape → ℕ) (law : Lawful M) (q : Carrying) (v₀ : List ℕ) (p₀ : Placement) (m : CanMove M code q v₀ p₀) (k : ℕ) (h : k < length q.row) where
  f : Car
  f = q.emptied

  o : Obj
  o = (claim_at q k).object

  contained : Contains f.objects o
  unfolding f o
  contained = claimed_nth (λ p. Contains q.emptied.objects p) q.row k no_claim m.of_car h

  split : (x : ℕ) → times x (claimed (take k q.row)) + is x o ≤ times x (claimed q.row)
  unfolding f o
  split x = omega (arith, sums, total-take (is x) (k + 1) q.row, ap (times x) (claimed_more q k h))

  pub next : (words forward : List ℕ) (p : Placement) → AreMoved M code q k words forward p → Next M code q k words
  unfolding f o
  next words forward p r =
      let at_home = all_contained (LiesIn M code q.at words (car_words * q.emptied.number) (car_words * q.emptied.number + car_words)) q.emptied.objects o
      (all_lie M code q.at words (car_words * q.emptied.number) (car_words * q.emptied.number + car_words) (car_words * q.emptied.number) q.emptied.objects
      r.lies.lies.0 m.placed (omega arith) (omega (arith, r.lies.within.0))) contained in
      let one : is o.id o ≡ 1 = ap one_if (eq-eqb o.id o.id refl) in
      let F = m.free k in
      let used = q.emptied.number ∷ numbers (moved_to q k) in
      let free = lowest_unused used (omega (arith, length-numbers (moved_to q k), F.few, sums)) in
      let same = ap (λ ns. q.emptied.number ∷ ns) (row_numbers (moved_to q k)) in
      let unused = subst (λ ns. one_of (free_at q k) ns ≡ false) (sym same) free.1 in
      let rank = all_nth (λ (c : ObjectClaim). (c.rank ≤ length q.trains) × (c.rank < 8)) q.row k no_claim m.ranks h in
      let small = small_body law at_home.lies in
      let goes = seated (free_at q k) o (seat_at (claim_at q k).rank (free_at q k) o (moved_to q k)) (omega (arith, small)) in
      let num = r.lies.below in
      let out = or_parts (eqb (free_at q k) q.emptied.number) _ unused in
      let apart : one_of q.emptied.number (free_at q k ∷ car_numbers (cars_in_row (moved_to q k))) ≡ false =
      or_from (eqb q.emptied.number (free_at q k)) _ (ne_eqb q.emptied.number (free_at q k) (λ e. eqb-false (free_at q k) q.emptied.number out.0 (sym e)))
      (distinct_head q.emptied.number (car_numbers (cars_in_row (moved_to q k))) r.lies.differ) in
      record {
        lies = at_home;
        number = num.0;
        there = all_contained (λ p. 1 ≤ times p.id q.emptied.objects) q.emptied.objects o (times_self q.emptied.objects) contained;
        small = small;
        free = free.0;
        unused = unused;
        near = omega (arith, rank.0, grows_all (q.emptied.number ∷ []) (take k q.row) q.trains);
        low = rank.1;
        earlier = omega (arith, split o.id, one, m.once o.id);
        new = omega (arith, split o.id, one, m.once o.id, place_all-total (is o.id) (q.emptied.number ∷ []) (take k q.row) q.trains);
        goes = goes;
        away = eqb-false goes.car q.emptied.number (one_of_apart goes.car q.emptied.number (free_at q k ∷ car_numbers (cars_in_row (moved_to q k))) goes.known apart);
        below = all_at (λ z. z < 64) goes.car (free_at q k ∷ car_numbers (cars_in_row (moved_to q k))) (free.0, num.1) goes.known;
      }
    where
      small_body : {at : ℕ → ℕ} {words : List ℕ} {a : ℕ} {b : Body} → Lawful M → Lies M code at words a b → size b ≤ 64
      small_body law l = omega (arith, (law.apart _ l.offsets l.admitted).few, l.ref_count, l.word_count)

  pub moved_step : (v w forward : List ℕ) (p : Placement) → AreMoved M code q k v forward p → length forward ≡ 128
      → Copied v w (q.at (claim_at q k).object.id) (goes_to q k) (size (claim_at q k).object.body) → SameOutside v w (goes_to q k) (size (claim_at q k).object.body)
      → AreMoved M code q (k + 1) w (set forward (place_of q.at q.emptied (claim_at q k).object) (goes_to q k)) (placed (claim_at q k).rank (size (claim_at q k).object.body) p)
  unfolding f o
  moved_step v w forward p r long copied same =
      let n = next v forward p r in
      let c = claim_at q k in
      let ts = moved_to q k in
      let a = goes_to q k in
      let s = place_of q.at q.emptied o in
      let inside : s < 128 = omega (arith, n.lies.above, n.lies.below) in
      let more = moved_more q k h in
      record {
        lies = subst (λ us. RowLies M code q.at w (q.emptied ∷ cars_in_row us)) (sym more)
            (row_seated M code law q.at v w (free_at q k) o a (q.at o.id) (q.emptied ∷ cars_in_row ts) (q.emptied ∷ cars_in_row (place_at c.rank (free_at q k) o ts))
            (later a q.emptied (cars_in_row ts) (cars_in_row (place_at c.rank (free_at q k) o ts)) (seat_at c.rank (free_at q k) o ts)) (omega (arith, n.small)) n.free n.unused r.lies n.lies.lies copied same);
        placement = ap (placed c.rank (size o.body)) r.placement ∙ emptying-placed c.rank q.emptied o ts ∙ ap (emptying q.emptied) (sym more);
        forwards = subst (AllByRecursion (λ x. get_or (set forward s a) (place_of q.at q.emptied x) 0 ≡ locate (moved_to q (k + 1)) x.id)) (sym (claimed_more q k h))
            (all_++ _ (claimed (take k q.row)) (o ∷ [])
            (all_with (λ x. get_or forward (place_of q.at q.emptied x) 0 ≡ locate ts x.id) (λ x. (x.id ≢ o.id) × Contains q.emptied.objects x) _
            (λ x e d. old n x e d.0 d.1) (claimed (take k q.row)) r.forwards
            (all_with (λ x. x.id ≢ o.id) (Contains q.emptied.objects) _ (λ x d e. (d, e)) (claimed (take k q.row)) (none_of o.id (claimed (take k q.row)) n.earlier)
            (claimed_all_take (Contains q.emptied.objects) k q.row m.of_car)))
            (get_or-set_same forward s a 0 (omega (arith, long, inside)) ∙ sym (locate-new c.rank (free_at q k) o ts n.new) ∙ ap (λ us. locate us o.id) (sym more), tt));
        away = λ i l. elim (ℕ_discrete i s) [
          | yes e ↦ λ z. n.away (omega (arith, n.goes.low, n.goes.high, subst (λ (j : ℕ). get_or (set forward s a) j 0 ≡ a) (sym e) (get_or-set_same forward s a 0 (omega (arith, long, inside))), z))
          | no ne ↦ λ z. r.away i l (ap (λ w. w / car_words) (sym (get_or-set_other forward s i a 0 ne)) ∙ z)
        ];
      }
    where
      old : Next M code q k v → (x : Obj) → get_or forward (place_of q.at q.emptied x) 0 ≡ locate (moved_to q k) x.id → x.id ≢ o.id → Contains q.emptied.objects x
          → get_or (set forward (place_of q.at q.emptied o) (goes_to q k)) (place_of q.at q.emptied x) 0 ≡ locate (moved_to q (k + 1)) x.id
      old n x e ne d =
          let there = all_contained (λ p. 1 ≤ times p.id q.emptied.objects) q.emptied.objects x (times_self q.emptied.objects) d in
          let low = placed_low q.at (car_words * q.emptied.number) q.emptied.objects m.placed x.id there in
          let apart : place_of q.at q.emptied x ≢ place_of q.at q.emptied o =
          λ z. ne (placed_differ q.at (car_words * q.emptied.number) q.emptied.objects m.placed x.id o.id there n.there (omega (arith, z, low, n.lies.above))) in
          get_or-set_other forward (place_of q.at q.emptied o) (place_of q.at q.emptied x) (goes_to q k) 0 apart
          ∙ e ∙ sym (locate-other (claim_at q k).rank (free_at q k) o (moved_to q k) x.id ne) ∙ ap (λ us. locate us x.id) (sym (moved_more q k h))
