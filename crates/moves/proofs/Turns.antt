-- One word more is fixed.
use Rattle.std.proofs.Common.{◌≡◌, ℕ, zero, suc, ◌+◌, ◌*◌, ◌/◌, ◌<◌, true, false, cond, List, [], ◌∷◌, ◌++◌, length, get_or, set, take, drop, map, reverse, sym, refl, ap, ◌∙◌, subst, arith}
use Rattle.std.proofs.lemmas.List.{take_more, drop_more, set_at, map-append, length-take-le, length-map, get_or-set_other, append_assoc, append-nil, reverse-append}
use Rattle.std.proofs.lemmas.List.Concat.{flat_map-append}
use Rattle.std.specs.List.{AllByRecursion}
use Rattle.layout.specs.ShapeTable.{Offsets}
use Rattle.model.specs.Trains.{car_words}
use Rattle.model.proofs.Alls.{all_++, all_left, all_right}
use Rattle.claims.specs.declared.Claim.{Claim}
use Rattle.remembered.specs.declared.Update.{Update}
use Rattle.remembered.specs.declared.Update.TheVariants.{Note}
use Rattle.remembered.specs.Leads.{Leads, KeepsFacts}
use Rattle.remembered.specs.Leads.Leads.{untold, told}
use Rattle.remembered.specs.LeadsLaws.{leads_append}
use Rattle.remembered.specs.Updates.{Pairs}
use Rattle.trains.specs.Fills.{TrainFill}
use Rattle.trains.specs.Orders.{stands_later}
use Rattle.moves.specs.Noting.{noted_at, noted_each}
use Rattle.moves.specs.Fixes.{fixed, fix_at, fix_each, references_from, references, told_of, moved_references, IsOutside}

pub fix_each-++ : (car : ℕ) (forward xs ys words : List ℕ) → fix_each car forward (xs ++ ys) words ≡ fix_each car forward ys (fix_each car forward xs words)
fix_each-++ car forward [] ys words = refl
fix_each-++ car forward (a ∷ xs) ys words = fix_each-++ car forward xs ys (fix_at car forward a words)

-- of a list, one address more
pub fix_slots_turn : (car : ℕ) (forward slots words : List ℕ) (k : ℕ) → k < length slots
    → fix_each car forward (take (k + 1) slots) words ≡ fix_at car forward (get_or slots k 0) (fix_each car forward (take k slots) words)
fix_slots_turn car forward slots words k h =
    ap (λ xs. fix_each car forward xs words) (take_more slots k 0 h) ∙ fix_each-++ car forward (take k slots) (get_or slots k 0 ∷ []) words

-- of the roots
pub fix_roots_turn : (f : ℕ → ℕ) (roots : List ℕ) (k : ℕ) → k < length roots
    → map f (take (k + 1) roots) ++ drop (k + 1) roots ≡ set (map f (take k roots) ++ drop k roots) k (f (get_or roots k 0))
fix_roots_turn f roots k h =
    let here : map f (take (k + 1) roots) ≡ map f (take k roots) ++ f (get_or roots k 0) ∷ [] =
    ap (map f) (take_more roots k 0 h) ∙ map-append f (take k roots) (get_or roots k 0 ∷ []) in
    let long : length (map f (take k roots)) ≡ k = length-map (take k roots) f ∙ length-take-le k roots (omega (arith, h)) in
    ap (λ (xs : List ℕ). xs ++ drop (k + 1) roots) here ∙ append_assoc (map f (take k roots)) (f (get_or roots k 0) ∷ []) (drop (k + 1) roots)
    ∙ sym (set_at (map f (take k roots)) (get_or roots k 0) (drop (k + 1) roots) (f (get_or roots k 0)) k long)
    ∙ ap (λ (xs : List ℕ). set (map f (take k roots) ++ xs) k (f (get_or roots k 0))) (sym (drop_more roots k 0 h))

pub fix_roots_read : (f : ℕ → ℕ) (roots : List ℕ) (k : ℕ) → k < length roots → get_or (map f (take k roots) ++ drop k roots) k 0 ≡ get_or roots k 0
fix_roots_read f [] k h = absurd (omega (arith, h))
fix_roots_read f (r ∷ roots) zero h = refl
fix_roots_read f (r ∷ roots) (suc k) h = fix_roots_read f roots k (omega (arith, h))

-- of an object's references
references_more : (o : Offsets) (a i n : ℕ) → references_from o a i (suc n) ≡ references_from o a i n ++ (a + o.ref_at (i + n)) ∷ []
references_more o a i zero = let e : i ≡ i + 0 = omega arith in ap (λ j. (a + o.ref_at j) ∷ []) e
references_more o a i (suc n) =
    let e : i + 1 + n ≡ i + suc n = omega arith in
    ap (λ xs. (a + o.ref_at i) ∷ xs) (references_more o a (i + 1) n ∙ ap (λ j. references_from o a (i + 1) n ++ (a + o.ref_at j) ∷ []) e)

pub fix_object_turn : (car : ℕ) (forward words : List ℕ) (o : Offsets) (a i : ℕ)
    → fix_each car forward (references_from o a 0 (i + 1)) words ≡ fix_at car forward (a + o.ref_at i) (fix_each car forward (references_from o a 0 i) words)
fix_object_turn car forward words o a i =
    let e : i + 1 ≡ suc i = omega arith in
    ap (λ n. fix_each car forward (references_from o a 0 n) words) e ∙ ap (λ xs. fix_each car forward xs words) (references_more o a 0 i) ∙ fix_each-++ car forward (references_from o a 0 i) ((a + o.ref_at (0 + i)) ∷ []) words
    ∙ (let z : 0 + i ≡ i = omega arith in ap (λ j. fix_at car forward (a + o.ref_at j) (fix_each car forward (references_from o a 0 i) words)) z)

pub reference_holds : (P : ℕ → Type 0) (o : Offsets) (a j n i : ℕ) → AllByRecursion P (references_from o a j n) → i < n → P (a + o.ref_at (j + i))
reference_holds P o a j zero i p h = absurd (omega (arith, h))
reference_holds P o a j (suc n) zero p h = let e : j ≡ j + 0 = omega arith in subst (λ k. P (a + o.ref_at k)) e p.0
reference_holds P o a j (suc n) (suc i) p h = let e : j + 1 + i ≡ j + suc i = omega arith in subst (λ k. P (a + o.ref_at k)) e (reference_holds P o a (j + 1) n i p.1 (omega (arith, h)))

-- what lies in the car stays
pub fix_each_outside : (car : ℕ) (forward slots words : List ℕ) (k : ℕ) → AllByRecursion (IsOutside car) slots → k / car_words ≡ car
    → get_or (fix_each car forward slots words) k 0 ≡ get_or words k 0
fix_each_outside car forward [] words k p e = refl
fix_each_outside car forward (a ∷ slots) words k p e =
    fix_each_outside car forward slots (fix_at car forward a words) k p.1 e
    ∙ get_or-set_other words a k (fixed car forward (get_or words a 0)) 0 (λ f. p.0.1 (ap (λ j. j / car_words) (sym f) ∙ e))

abbrev no_claim : Claim
no_claim = record { place = 0; rank = 0 }

moved_references_more : (decoded : ℕ → Offsets) (words forward : List ℕ) (car : ℕ) (order : List Claim) (k : ℕ) (d : Claim) → k < length order
    → moved_references decoded words forward car (take (k + 1) order)
    ≡ moved_references decoded words forward car (take k order) ++ references (told_of decoded words car (get_or order k d)) (get_or forward (get_or order k d).place 0)
moved_references_more decoded words forward car order k d h =
    ap (moved_references decoded words forward car) (take_more order k d h)
    ∙ flat_map-append (λ (c : Claim). references (told_of decoded words car c) (get_or forward c.place 0)) (take k order) (get_or order k d ∷ [])
    ∙ ap (λ xs. moved_references decoded words forward car (take k order) ++ xs) (append-nil (references (told_of decoded words car (get_or order k d)) (get_or forward (get_or order k d).place 0)))

pub moved_references_part : (P : ℕ → Type 0) (decoded : ℕ → Offsets) (words forward : List ℕ) (car : ℕ) (order : List Claim) (k : ℕ) (d : Claim) → k < length order
    → AllByRecursion P (moved_references decoded words forward car order)
    → AllByRecursion P (moved_references decoded words forward car (take k order)) × AllByRecursion P (references (told_of decoded words car (get_or order k d)) (get_or forward (get_or order k d).place 0))
moved_references_part P decoded words forward car [] k d h p = absurd (omega (arith, h))
moved_references_part P decoded words forward car (c ∷ order) zero d h p = (tt, all_left P (references (told_of decoded words car c) (get_or forward c.place 0)) (moved_references decoded words forward car order) p)
moved_references_part P decoded words forward car (c ∷ order) (suc k) d h p =
    let here = references (told_of decoded words car c) (get_or forward c.place 0) in
    let r = moved_references_part P decoded words forward car order k d (omega (arith, h)) (all_right P here (moved_references decoded words forward car order) p) in
    (all_++ P here (moved_references decoded words forward car (take k order)) (all_left P here (moved_references decoded words forward car order) p) r.0, r.1)

pub fix_moved_turn : (decoded : ℕ → Offsets) (words forward : List ℕ) (car : ℕ) (order : List Claim) (k : ℕ) (d : Claim) → k < length order
    → fix_each car forward (moved_references decoded words forward car (take (k + 1) order)) words
    ≡ fix_each car forward (references (told_of decoded words car (get_or order k d)) (get_or forward (get_or order k d).place 0)) (fix_each car forward (moved_references decoded words forward car (take k order)) words)
fix_moved_turn decoded words forward car order k d h =
    ap (λ xs. fix_each car forward xs words) (moved_references_more decoded words forward car order k d h)
    ∙ fix_each-++ car forward (moved_references decoded words forward car (take k order)) _ words

-- a claimed object's header is read where it stood
pub header_stays : (car : ℕ) (forward slots words now : List ℕ) (p : ℕ) → p < car_words → AllByRecursion (IsOutside car) slots → now ≡ fix_each car forward slots words
    → get_or now (car_words * car + p) 0 ≡ get_or words (car_words * car + p) 0
header_stays car forward slots words now p h out e =
    ap (λ xs. get_or xs (car_words * car + p) 0) e ∙ fix_each_outside car forward slots words (car_words * car + p) out (omega (arith, h))

-- One slot more is noted.

module _ {S : Type 0} (has : S → Pairs) (says : S → Update → S → Type 0) (s t v : S) where
  -- updates in their order, and then others
  pub leads_on : (us more all : List Update) → all ≡ us ++ more → Leads has says s (reverse us) t → Leads has says t (reverse more) v → Leads has says s (reverse all) v
  leads_on us more all e a b =
      subst (λ xs. Leads has says s xs v) (sym (ap reverse e ∙ reverse-append us more)) (leads_append has says s t v (reverse us) (reverse more) a b)

  pub note_slots_turn : (ts : List TrainFill) (words slots : List ℕ) (k : ℕ) → k < length slots → Leads has says s (reverse (noted_each ts words (take k slots))) t
      → Leads has says t (reverse (noted_at ts words (get_or slots k 0))) v → Leads has says s (reverse (noted_each ts words (take (k + 1) slots))) v
  note_slots_turn ts words slots k h a b =
      leads_on (noted_each ts words (take k slots)) (noted_at ts words (get_or slots k 0)) (noted_each ts words (take (k + 1) slots))
      (ap (noted_each ts words) (take_more slots k 0 h) ∙ flat_map-append (noted_at ts words) (take k slots) (get_or slots k 0 ∷ [])
      ∙ ap (λ us. noted_each ts words (take k slots) ++ us) (append-nil (noted_at ts words (get_or slots k 0)))) a b

  pub note_object_turn : (ts : List TrainFill) (words : List ℕ) (o : Offsets) (a i : ℕ) → Leads has says s (reverse (noted_each ts words (references_from o a 0 i))) t
      → Leads has says t (reverse (noted_at ts words (a + o.ref_at i))) v → Leads has says s (reverse (noted_each ts words (references_from o a 0 (i + 1)))) v
  note_object_turn ts words o a i p q =
      let e : i + 1 ≡ suc i = omega arith in
      let z : 0 + i ≡ i = omega arith in
      leads_on (noted_each ts words (references_from o a 0 i)) (noted_at ts words (a + o.ref_at i)) (noted_each ts words (references_from o a 0 (i + 1)))
      (ap (λ n. noted_each ts words (references_from o a 0 n)) e ∙ ap (noted_each ts words) (references_more o a 0 i)
      ∙ flat_map-append (noted_at ts words) (references_from o a 0 i) ((a + o.ref_at (0 + i)) ∷ [])
      ∙ ap (λ us. noted_each ts words (references_from o a 0 i) ++ us) (append-nil (noted_at ts words (a + o.ref_at (0 + i))) ∙ ap (λ j. noted_at ts words (a + o.ref_at j)) z)) p q

  pub note_moved_turn : (ts : List TrainFill) (decoded : ℕ → Offsets) (words forward : List ℕ) (car : ℕ) (order : List Claim) (k : ℕ) (d : Claim) → k < length order
      → Leads has says s (reverse (noted_each ts words (moved_references decoded words forward car (take k order)))) t
      → Leads has says t (reverse (noted_each ts words (references (told_of decoded words car (get_or order k d)) (get_or forward (get_or order k d).place 0)))) v
      → Leads has says s (reverse (noted_each ts words (moved_references decoded words forward car (take (k + 1) order)))) v
  note_moved_turn ts decoded words forward car order k d h p q =
      let more = references (told_of decoded words car (get_or order k d)) (get_or forward (get_or order k d).place 0) in
      leads_on (noted_each ts words (moved_references decoded words forward car (take k order))) (noted_each ts words more)
      (noted_each ts words (moved_references decoded words forward car (take (k + 1) order)))
      (ap (noted_each ts words) (moved_references_more decoded words forward car order k d h) ∙ flat_map-append (noted_at ts words) (moved_references decoded words forward car (take k order)) more) p q

module _ {S : Type 0} (has : S → Pairs) (says : S → Update → S → Type 0) (ts : List TrainFill) (words : List ℕ) (a : ℕ) where
  pub note_told : (s t : S) → stands_later (a / car_words) (get_or words a 0 / car_words) ts ≡ true → KeepsFacts (has s) (Note (get_or words a 0 / car_words) a) (has t)
      → says s (Note (get_or words a 0 / car_words) a) t → Leads has says s (reverse (noted_at ts words a)) t
  note_told s t e facts said =
      subst (λ (us : List Update). Leads has says s (reverse us) t) (sym (ap (λ b. cond b (Note (get_or words a 0 / car_words) a ∷ []) []) e))
      (told s s t (Note (get_or words a 0 / car_words) a) [] (untold s) facts said)

  pub note_untold : (s : S) → stands_later (a / car_words) (get_or words a 0 / car_words) ts ≡ false → Leads has says s (reverse (noted_at ts words a)) s
  note_untold s e =
      subst (λ (us : List Update). Leads has says s (reverse us) s) (sym (ap (λ b. cond b (Note (get_or words a 0 / car_words) a ∷ []) []) e)) (untold s)
