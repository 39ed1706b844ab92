-- What has to be fixed, and that fixing it one word after another fixes each once.
use Rattle.std.proofs.Common.{◌≡◌, ℕ, ◌+◌, ◌*◌, ◌<◌, ◌≤◌, Bool, true, false, ◌||◌, ◌&&◌, not, cond, eqb, ◌⊎◌, List, [], ◌∷◌, ◌++◌, length, get_or, take, map, filter, flat_map, Option, sym, refl, ap, ◌∙◌, subst, arith, inl, inr}
use Rattle.std.proofs.lemmas.Bool.{both_ways, cases_Bool, or_left, or_right, or_cases, eq-eqb, ltb-true, eqb-true, eqb-false}
use Rattle.std.proofs.lemmas.List.{get_or-set_same, get_or-set_other, length-set, take_all}
use Rattle.std.specs.List.{AllByRecursion}
use Rattle.std.specs.Option.{option_map_or}
use Rattle.layout.specs.ShapeTable.{ShapeTable, Offsets}
use Rattle.layout.specs.Coding.{Coded}
use Rattle.layout.specs.declared.Shape.{Shape}
use Rattle.model.specs.Claims.{Claim as ObjectClaim}
use Rattle.model.specs.Notes.{Slot, ref_offset, ref_slots, train_slots, slots, corrected}
use Rattle.model.specs.Step.{claimed}
use Rattle.model.specs.Trains.{Obj, Car, Trains, train_objects, objects, times, among, one_of, car_words}
use Rattle.model.proofs.Alls.{all_map, all_with, place_all_all}
use Rattle.model.proofs.Keeps.{times_self}
use Rattle.model.proofs.RememberCars.{cars_in_row, row_objects, row_slots}
use Rattle.objects.specs.Lies.{Lies, ArePlaced}
use Rattle.objects.specs.Locate.{locate}
use Rattle.objects.proofs.Locates.{locate-placed}
use Rattle.objects.proofs.Places.{row_each}
use Rattle.claims.specs.Claimed.{place_of, claim_of}
use Rattle.trains.specs.Fills.{Placement}
use Rattle.moves.specs.Fixes.{fixed, fix_at, fix_each, references_from, references, moved_references, addresses_of, own_references, Corrected, Suffices, CanFix, moved_out}
use Rattle.moves.specs.Moves.{Carrying, CanMove, AreMoved}
use Rattle.moves.proofs.Fixing.{total}
use Rattle.moves.proofs.Gathered.{one_of-left, one_of-right, one_of-parts, cars_among, cars_own, placing_has}
use Rattle.moves.proofs.Steps.{LiesIn}

-- fixing one word after another
pub corrected_each : (car : ℕ) (forward addresses v : List ℕ) → ((w : ℕ) → fixed car forward (fixed car forward w) ≡ fixed car forward w) → AllByRecursion (λ a. a < length v) addresses
    → Corrected car forward addresses v (fix_each car forward addresses v)
corrected_each car forward [] v twice inside = record { words = λ k. refl }
corrected_each car forward (a ∷ more) v twice inside =
    let w = fix_at car forward a v in
    let r = corrected_each car forward more w twice (all_map _ _ (λ b h. omega (arith, h, length-set v a (fixed car forward (get_or v a 0)))) more inside.1) in
    record { words = λ k. r.words k ∙ step k (eqb k a) refl (one_of k more) }
  where
    step : (k : ℕ) (b : Bool) → eqb k a ≡ b → (d : Bool)
        → cond d (fixed car forward (get_or (fix_at car forward a v) k 0)) (get_or (fix_at car forward a v) k 0) ≡ cond (b || d) (fixed car forward (get_or v k 0)) (get_or v k 0)
    step k true e d =
        let q : k ≡ a = eqb-true k a e in
        let here : get_or (fix_at car forward a v) k 0 ≡ fixed car forward (get_or v k 0) =
        ap (λ j. get_or (fix_at car forward a v) j 0) q ∙ get_or-set_same v a (fixed car forward (get_or v a 0)) 0 inside.0 ∙ ap (λ j. fixed car forward (get_or v j 0)) (sym q) in
        both d here
      where
        both : (d : Bool) → get_or (fix_at car forward a v) k 0 ≡ fixed car forward (get_or v k 0)
            → cond d (fixed car forward (get_or (fix_at car forward a v) k 0)) (get_or (fix_at car forward a v) k 0) ≡ fixed car forward (get_or v k 0)
        both true here = ap (fixed car forward) here ∙ twice (get_or v k 0)
        both false here = here
    step k false e d =
        let there : get_or (fix_at car forward a v) k 0 ≡ get_or v k 0 = get_or-set_other v a k (fixed car forward (get_or v a 0)) 0 (eqb-false k a e) in
        ap (λ u. cond d (fixed car forward u) u) there

-- lists made of others
flat_has : (f : Obj → List ℕ) (os : List Obj) → AllByRecursion (λ o. (k : ℕ) → one_of k (f o) ≡ true → one_of k (flat_map f os) ≡ true) os
flat_has f [] = tt
flat_has f (o ∷ os) = ((λ k e. one_of-left k (f o) (flat_map f os) e), all_map _ _ (λ x g k e. one_of-right k (f o) (flat_map f os) (g k e)) os (flat_has f os))

flat_in : (f : Obj → List ℕ) (os : List Obj) (xs : List ℕ) → AllByRecursion (λ o. (k : ℕ) → one_of k (f o) ≡ true → one_of k xs ≡ true) os → (k : ℕ) → one_of k (flat_map f os) ≡ true → one_of k xs ≡ true
flat_in f [] xs p k e = absurd (both_ways false refl e)
flat_in f (o ∷ os) xs p k e = elim (either k (f o) (flat_map f os) e) [ inl q ↦ p.0 k q | inr q ↦ flat_in f os xs p.1 k q ]
  where
    either : (k : ℕ) (as' bs : List ℕ) → one_of k (as' ++ bs) ≡ true → (one_of k as' ≡ true) ⊎ (one_of k bs ≡ true)
    either k as' bs e = or_cases (one_of k as') (one_of k bs) (sym (one_of-parts k as' bs) ∙ e)

filter_has : (p : Slot → Bool) (ss : List Slot) → AllByRecursion (λ s. p s ≡ true → one_of s.address (addresses_of (filter p ss)) ≡ true) ss
filter_has p [] = tt
filter_has p (s ∷ ss) = go (p s) (filter_has p ss)
  where
    go : (b : Bool) → AllByRecursion (λ s. p s ≡ true → one_of s.address (addresses_of (filter p ss)) ≡ true) ss
        → (b ≡ true → one_of s.address (addresses_of (cond b (s ∷ filter p ss) (filter p ss))) ≡ true)
        × AllByRecursion (λ t. p t ≡ true → one_of t.address (addresses_of (cond b (s ∷ filter p ss) (filter p ss))) ≡ true) ss
    go true r = ((λ e. or_left (eqb s.address s.address) _ (eq-eqb s.address s.address refl)), all_map _ _ (λ t f e. or_right (eqb t.address s.address) _ (f e)) ss r)
    go false r = ((λ e. absurd (both_ways false refl e)), r)

filter_in : (p : Slot → Bool) (ss : List Slot) (k : ℕ) → one_of k (addresses_of (filter p ss)) ≡ true → one_of k (addresses_of ss) ≡ true
filter_in p [] k e = e
filter_in p (s ∷ ss) k e = go (p s) (filter_in p ss k) e
  where
    go : (b : Bool) → (one_of k (addresses_of (filter p ss)) ≡ true → one_of k (addresses_of ss) ≡ true) → one_of k (addresses_of (cond b (s ∷ filter p ss) (filter p ss))) ≡ true
        → one_of k (addresses_of (s ∷ ss)) ≡ true
    go true r e = elim (or_cases (eqb k s.address) (one_of k (addresses_of (filter p ss))) e) [
      | inl q ↦ or_left (eqb k s.address) _ q
      | inr q ↦ or_right (eqb k s.address) _ (r q)
    ]
    go false r e = or_right (eqb k s.address) _ (r e)

-- by its header an object's references stand where its slots are
refs_are : (M : ShapeTable) (x : Offsets) (s : Shape) (n y a i : ℕ) (hs : List (Option ℕ)) → ((j : ℕ) → j < i + length hs → x.ref_at j ≡ ref_offset M s j)
    → references_from x a i (length hs) ≡ addresses_of (ref_slots M s n y a i hs)
refs_are M x s n y a i [] f = refl
refs_are M x s n y a i (h ∷ hs) f =
    ap (λ b. (a + b) ∷ references_from x a (i + 1) (length hs)) (f i (omega arith)) ∙ ap (λ bs. (a + ref_offset M s i) ∷ bs) (refs_are M x s n y a (i + 1) hs (λ j lt. f j (omega (arith, lt))))

one_are : (M : ShapeTable) (code : Shape → ℕ) (decoded : ℕ → Offsets) → Coded M code decoded → (at : ℕ → ℕ) (v : List ℕ) (b a : ℕ) (o : Obj) → Lies M code at v b o.body
    → references (decoded (get_or v b 0)) a ≡ addresses_of (ref_slots M o.body.shape 0 o.id a 0 o.body.refs)
one_are M code decoded coded at v b a o l =
    let same = coded.gives_back o.body.shape l.offsets l.admitted in
    ap (λ h. references (decoded h) a) l.header
    ∙ ap (references_from (decoded (code o.body.shape)) a 0) (same.refs ∙ sym l.ref_count)
    ∙ refs_are M (decoded (code o.body.shape)) o.body.shape 0 o.id a 0 o.body.refs (λ j lt. same.ref_at j (omega (arith, lt, l.ref_count)) ∙ sym (ap (λ x. ref_at_of x j) l.admitted))
  where
    ref_at_of : Option Offsets → ℕ → ℕ
    ref_at_of o j = option_map_or (λ (p : Offsets). p.ref_at j) o 0

-- the references of all moved objects, by their headers
pub moved_are : (M : ShapeTable) (code : Shape → ℕ) (decoded : ℕ → Offsets) → Coded M code decoded → (at to : ℕ → ℕ) (f : Car) (v forward : List ℕ) (low high : ℕ) (row : List ObjectClaim)
    → low ≡ car_words * f.number → AllByRecursion (λ o. LiesIn M code at v low high o × (get_or forward (place_of at f o) 0 ≡ to o.id)) (claimed row)
    → moved_references decoded v forward f.number (map (claim_of at f) row) ≡ flat_map (own_references M to) (claimed row)
moved_are M code decoded coded at to f v forward low high [] e p = refl
moved_are M code decoded coded at to f v forward low high (c ∷ row) e p =
    let spot : car_words * f.number + place_of at f c.object ≡ at c.object.id = omega (arith, e, p.0.0.above) in
    let rest = moved_references decoded v forward f.number (map (claim_of at f) row) in
    ap (λ b. references (decoded (get_or v b 0)) (get_or forward (place_of at f c.object) 0) ++ rest) spot
    ∙ ap (λ b. references (decoded (get_or v (at c.object.id) 0)) b ++ rest) p.0.1
    ∙ ap (λ xs. xs ++ rest) (one_are M code decoded coded at v (at c.object.id) (to c.object.id) c.object p.0.0.lies)
    ∙ ap (λ xs. own_references M to c.object ++ xs) (moved_are M code decoded coded at to f v forward low high row e p.1)

-- the references of the moved objects and the slots of others that hold one are all that has to be fixed
pub suffice : (M : ShapeTable) (code : Shape → ℕ) (q : Carrying) (v₀ : List ℕ) (p₀ : Placement) → CanMove M code q v₀ p₀ → CanFix q → (v forward : List ℕ) (p : Placement)
    → AreMoved M code q (length q.row) v forward p
    → Suffices M q (flat_map (own_references M (locate (moved_out q))) (claimed q.row) ++ addresses_of (filter (corrected (claimed q.row)) (slots M 0 (moved_out q))))
suffice M code q v₀ p₀ m c v forward p r = record {
  only = λ k e. elim (either k own others e) [
    | inl z ↦ flat_in (own_references M to) (claimed q.row) (addresses_of (slots M 0 ts)) has k z
    | inr z ↦ filter_in (corrected (claimed q.row)) (slots M 0 ts) k z
  ];
  all = all_with (λ s. among s.holder (claimed q.row) ≡ true → one_of s.address own ≡ true) (λ s. corrected (claimed q.row) s ≡ true → one_of s.address others ≡ true) _
      (λ s f g t. elim (cases_Bool (among s.holder (claimed q.row))) [
        | inl a ↦ one_of-left s.address own others (f a)
        | inr a ↦ one_of-right s.address own others (g (ap (λ b. b && not (among s.holder (claimed q.row))) t ∙ ap not a))
      ])
      (slots M 0 ts) (subst (AllByRecursion _) (sym (row_slots M 0 ts)) holders) (filter_has (corrected (claimed q.row)) (slots M 0 ts));
}
  where
    ts : Trains
    ts = moved_out q

    to : ℕ → ℕ
    to = locate ts

    own : List ℕ
    own = flat_map (own_references M to) (claimed q.row)

    others : List ℕ
    others = addresses_of (filter (corrected (claimed q.row)) (slots M 0 ts))

    either : (k : ℕ) (as' bs : List ℕ) → one_of k (as' ++ bs) ≡ true → (one_of k as' ≡ true) ⊎ (one_of k bs ≡ true)
    either k as' bs e = or_cases (one_of k as') (one_of k bs) (sym (one_of-parts k as' bs) ∙ e)

    placed : AllByRecursion (λ d. ArePlaced to (car_words * d.number) d.objects) (cars_in_row ts)
    placed = row_each _ ts (locate-placed ts (λ x. omega (arith, total M code q v₀ p₀ m c v forward p r x, m.once x)))

    row-is : take (length q.row) q.row ≡ q.row
    row-is = take_all (length q.row) q.row (omega arith)

    has : AllByRecursion (λ o. (k : ℕ) → one_of k (own_references M to o) ≡ true → one_of k (addresses_of (slots M 0 ts)) ≡ true) (claimed q.row)
    has =
        let P : Obj → Type 0 = λ o. (k : ℕ) → one_of k (own_references M to o) ≡ true → one_of k (addresses_of (slots M 0 ts)) ≡ true in
        let h = placing_has P (q.emptied.number ∷ []) (take (length q.row) q.row) q.trains
        (subst (AllByRecursion P) (row_objects ts) (subst (λ ss. AllByRecursion (λ o. (k : ℕ) → one_of k (own_references M to o) ≡ true → one_of k (addresses_of ss) ≡ true) (train_objects (cars_in_row ts))) (sym (row_slots M 0 ts))
        (cars_among M to 0 (cars_in_row ts) placed))) in
        subst (λ row. AllByRecursion P (claimed row)) row-is h.0

    Q : Obj → Type 0
    Q o = (k : ℕ) → one_of k (own_references M to o) ≡ true → among o.id (claimed q.row) ≡ true → one_of k own ≡ true

    holders : AllByRecursion (λ s. among s.holder (claimed q.row) ≡ true → one_of s.address own ≡ true) (train_slots M 0 (cars_in_row ts))
    holders = cars_own M to (λ x k. among x (claimed q.row) ≡ true → one_of k own ≡ true) 0 (cars_in_row ts) placed
        (subst (AllByRecursion Q) (sym (row_objects ts))
        (place_all_all Q (q.emptied.number ∷ []) (take (length q.row) q.row) q.trains
        (all_map (λ o. 1 ≤ times o.id (objects q.trains)) Q (λ o h k e a. absurd (omega (arith, m.once o.id, h, ltb-true 0 (times o.id (claimed q.row)) a))) (objects q.trains) (times_self (objects q.trains)))
        (subst (λ row. AllByRecursion Q (claimed row)) (sym row-is)
        (all_map (λ o. (k : ℕ) → one_of k (own_references M to o) ≡ true → one_of k own ≡ true) Q (λ o f k e a. f k e) (claimed q.row) (flat_has (own_references M to) (claimed q.row))))))
