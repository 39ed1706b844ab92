-- The first reference from outside, in words and by identities.
use Rattle.std.proofs.Common.{◌≡◌, ℕ, zero, suc, ◌+◌, ◌*◌, ◌/◌, ◌<◌, ◌≤◌, Bool, true, false, cond, ◌||◌, eqb, ltb, List, [], ◌∷◌, ◌++◌, length, get_or, drop, Option, Some, None, refl, sym, ap, ◌∙◌, subst, arith, eq-eqb, inl, inr}
use Rattle.std.specs.List.{AllByRecursion, filter_map, cons_option}
use Rattle.std.specs.Option.{option_map, option_or}
use Rattle.std.specs.Prelude.{find, IfSome}
use Rattle.std.proofs.lemmas.Bool.{cases_eq, lt-ltb, ne_eqb}
use Rattle.std.proofs.lemmas.List.{map-append}
use Rattle.std.proofs.lemmas.List.Elements.{filter_map-append}
use Rattle.layout.specs.ShapeTable.{ShapeTable, Lawful}
use Rattle.layout.specs.declared.Shape.{Shape}
use Rattle.model.specs.Calls.{History}
use Rattle.model.specs.Bodies.{Roots, size}
use Rattle.model.specs.Claims.{MoveRequest, request, ref_requests, object_requests, train_requests, trains_requests}
use Rattle.model.specs.Notes.{Slot, ref_offset, ref_slots, object_slots, train_slots, slots, target_among}
use Rattle.model.specs.Remembered.{StepFinds}
use Rattle.model.specs.Space.{Model, space_of, updates_of}
use Rattle.model.specs.Step.{first_to, outside}
use Rattle.model.specs.Trains.{Obj, Car, Train, Trains, train_objects, among, times, car_numbers, one_of, words_of, car_words, arrival}
use Rattle.model.proofs.Alls.{all_left, all_right, all_++, all_map}
use Rattle.model.proofs.Distinct.{one_of_here, one_of_there, one_of_left, one_of_right}
use Rattle.model.proofs.Overlooked.{rises_within, overlooked_law}
use Rattle.model.proofs.Remember.{numbered_at, slot_addresses}
use Rattle.model.proofs.RememberCars.{cars_in_row, Numbered, numbered_apart, numbered_right}
use Rattle.model.proofs.Totals.{sums}
use Rattle.objects.specs.Lies.{CarStands, HoldsItsOwn, word_of}
use Rattle.objects.specs.Locate.{locate}
use Rattle.objects.specs.Stand.{EachCar, TrainsStand}
use Rattle.objects.proofs.Frames.{each_with, each_map}
use Rattle.objects.proofs.Locates.{seated_own}
use Rattle.objects.proofs.Places.{car_of, row_each}
use Rattle.objects.proofs.SlotWords.{words_at_slots}
use Rattle.remembered.specs.Laws.{Keeps}
use Rattle.remembered.specs.Updates.{Pairs, no_pairs, still_noted}
use Rattle.slots.specs.Order.{AreTold, cars_of}
use Rattle.slots.specs.Slots.{AddressTells, ArePaired, addresses, first_into}
use Rattle.slots.proofs.Holding.{address_tells}
use Rattle.slots.proofs.Paired.{train_paired}
use Rattle.slots.proofs.Walking.{slots_rise}
use Rattle.trains.specs.Fills.{Placement, TrainFill, fill_numbers}
use Rattle.trains.specs.Orders.{rank_from, rank_of}
use Rattle.trains.specs.Ties.{fills}
use Rattle.memory.specs.declared.Mark.{Mark}
use Rattle.memory.specs.Heap.{Heap}
use Rattle.memory.specs.Stands.{Stands, halted, mark_at}
use Rattle.memory.proofs.Held.{Halt, halt_at}
use Rattle.trains.proofs.Follow.{fills_follow}
use Rattle.steps.specs.Others.{is_other, other_words, is_later}
use Rattle.steps.proofs.Told.{others_told}
use Rattle.steps.specs.Asked.{leads_to_first, to_rank, first_asked}
use Rattle.steps.proofs.Rows.{fill-numbers}

pub find_at : (p : ℕ → Bool) (xs : List ℕ) (i : ℕ) → i < length xs → find p (drop i xs) ≡ cond (p (get_or xs i 0)) (Some (get_or xs i 0)) (find p (drop (i + 1) xs))
find_at p [] i l = absurd (omega (arith, l))
find_at p (x ∷ xs) zero l = refl
find_at p (x ∷ xs) (suc i) l = let e : suc i + 1 ≡ suc (i + 1) = omega arith in rw e (find_at p xs i (omega (arith, l)))

pub find_past : (p : ℕ → Bool) (xs : List ℕ) (i : ℕ) → length xs ≤ i → find p (drop i xs) ≡ None
find_past p [] zero l = refl
find_past p [] (suc i) l = refl
find_past p (x ∷ xs) zero l = absurd (omega (arith, l))
find_past p (x ∷ xs) (suc i) l = find_past p xs i (omega (arith, l))

-- Which train an object lies in, by its address.

pub tells_train : (at : ℕ → ℕ) (x : ℕ) (t : Train) → AllByRecursion (AddressTells at) t → one_of (at x / 128) (car_numbers t) ≡ among x (train_objects t)
tells_train at x [] h = refl
tells_train at x (c ∷ t) h = elim (cases_eq (at x / 128) c.number) [
  | inl e ↦ ap (λ b. b || one_of (at x / 128) (car_numbers t)) (eq-eqb (at x / 128) c.number e) ∙ sym (lt-ltb 0 (times x (train_objects (c ∷ t))) (omega (arith, sums, (h.0 x).0 e)))
  | inr ne ↦
      let none : times x c.objects ≡ 0 = elim (cases_eq (times x c.objects) 0) [ inl z ↦ z | inr nz ↦ absurd (ne ((h.0 x).1 (omega (arith, nz)))) ] in
      let same : times x (train_objects (c ∷ t)) ≡ times x (train_objects t) = omega (arith, sums, none) in
      ap (λ b. b || one_of (at x / 128) (car_numbers t)) (ne_eqb (at x / 128) c.number ne) ∙ (tells_train at x t h.1 ∙ ap (ltb 0) (sym same))
]

rank_least : (r n : ℕ) (fs : List TrainFill) → 1 ≤ r → r + length fs ≤ 8 → 1 ≤ rank_from r n fs
rank_least r n [] l k = omega arith
rank_least r n (t ∷ fs) l k = go (one_of n (fill_numbers t)) (rank_least (r + 1) n fs (omega arith) (omega (arith, k)))
  where
    go : (b : Bool) → 1 ≤ rank_from (r + 1) n fs → 1 ≤ cond b r (rank_from (r + 1) n fs)
    go true m = l
    go false m = m

pub leads_by_number : (n : ℕ) (t : Train) (ts : Trains) → length (fills (t ∷ ts)) ≤ 8 → eqb (rank_of n (fills (t ∷ ts))) 0 ≡ one_of n (car_numbers t)
leads_by_number n t ts k = ap (λ ns. eqb (cond (one_of n ns) 0 (rank_from 1 n (fills ts))) 0) (fill-numbers t) ∙ go (one_of n (car_numbers t)) (rank_least 1 n (fills ts) (omega arith) (omega (arith, k)))
  where
    go : (b : Bool) → 1 ≤ rank_from 1 n (fills ts) → eqb (cond b 0 (rank_from 1 n (fills ts))) 0 ≡ b
    go true m = refl
    go false m = ne_eqb (rank_from 1 n (fills ts)) 0 (λ e. omega (arith, e, m))

not_numbered : (n : ℕ) (t : Train) → AllByRecursion (λ c. c.number < 64) t → 64 ≤ n → one_of n (car_numbers t) ≡ false
not_numbered n [] h l = refl
not_numbered n (c ∷ t) h l = ap (λ b. b || one_of n (car_numbers t)) (ne_eqb n c.number (λ e. omega (arith, e, h.0, l))) ∙ not_numbered n t h.1 l

-- Roots.

module _ (at : ℕ → ℕ) (os : List Obj) (p : ℕ → Bool) (none : p 8192 ≡ false) (some : (x : ℕ) → p (at x) ≡ among x os) (to : MoveRequest → Mark) (k : ℕ)
    (same : (x : ℕ) → to (request k x) ≡ to_rank k (at x)) where
  pub roots_first : (rs : Roots) (ws : List ℕ) → length ws ≡ length rs → ((r : ℕ) → r < length rs → get_or ws r 0 ≡ word_of at (get_or rs r None))
      → option_map (to_rank k) (find p ws) ≡ option_map to (first_to os (ref_requests k rs))
  roots_first [] [] l f = refl
  roots_first [] (w ∷ ws) l f = absurd (omega (arith, l))
  roots_first (h ∷ rs) [] l f = absurd (omega (arith, l))
  roots_first (h ∷ rs) (w ∷ ws) l f = go h (f zero (omega arith)) (roots_first rs ws (omega (arith, l)) (λ r m. f (suc r) (omega (arith, m))))
    where
      go : (h : Option ℕ) → w ≡ word_of at h → option_map (to_rank k) (find p ws) ≡ option_map to (first_to os (ref_requests k rs))
          → option_map (to_rank k) (find p (w ∷ ws)) ≡ option_map to (first_to os (ref_requests k (h ∷ rs)))
      go None e more = ap (λ b. option_map (to_rank k) (cond b (Some w) (find p ws))) (ap p e ∙ none) ∙ more
      go (Some x) e more = ap (λ b. option_map (to_rank k) (cond b (Some w) (find p ws))) (ap p e ∙ some x) ∙ pick (among x os)
        where
          pick : (b : Bool) → option_map (to_rank k) (cond b (Some w) (find p ws)) ≡ option_map to (cond b (Some (request k x)) (first_to os (ref_requests k rs)))
          pick true = ap (λ z. Some (to_rank k z)) e ∙ ap Some (sym (same x))
          pick false = more

-- Slots.

-- what slots ask for, where the rank of a slot's train is told by its address
abbrev pub asks : (ℕ → ℕ) → List Slot → List MoveRequest
asks rank ss = filter_map (λ s. option_map (request (rank s.address)) s.target) ss

asks-append : (rank : ℕ → ℕ) (ss us : List Slot) → asks rank (ss ++ us) ≡ asks rank ss ++ asks rank us
asks-append rank ss us = filter_map-append (λ (s : Slot). option_map (request (rank s.address)) s.target) ss us

module _ (at : ℕ → ℕ) (os : List Obj) (words : List ℕ) (rank : ℕ → ℕ) (to : MoveRequest → Mark) (same : (k x : ℕ) → to (request k x) ≡ to_rank k (at x)) where
  pub slots_first : (ss : List Slot) → AllByRecursion (λ s. get_or words s.address 0 ≡ word_of at s.target) ss
      → option_map (λ a. to_rank (rank a) (get_or words a 0)) (first_into os ss) ≡ option_map to (first_to os (asks rank ss))
  slots_first [] h = refl
  slots_first (s ∷ ss) h = go s.target h.0 (slots_first ss h.1)
    where
      go : (y : Option ℕ) → get_or words s.address 0 ≡ word_of at y → option_map (λ a. to_rank (rank a) (get_or words a 0)) (first_into os ss) ≡ option_map to (first_to os (asks rank ss))
          → option_map (λ a. to_rank (rank a) (get_or words a 0)) (option_map (λ s. s.address) (cond (target_among os y) (Some s) (find (λ s. target_among os s.target) ss)))
          ≡ option_map to (first_to os (cons_option (option_map (request (rank s.address)) y) (asks rank ss)))
      go None e more = more
      go (Some x) e more = pick (among x os)
        where
          pick : (b : Bool)
              → option_map (λ a. to_rank (rank a) (get_or words a 0)) (option_map (λ s. s.address) (cond b (Some s) (find (λ s. target_among os s.target) ss)))
              ≡ option_map to (cond b (Some (request (rank s.address) x)) (first_to os (asks rank ss)))
          pick true = ap (λ z. Some (to_rank (rank s.address) z)) e ∙ ap Some (sym (same (rank s.address) x))
          pick false = more

module _ (M : ShapeTable) (rank : ℕ → ℕ) where
  abbrev Ranked : ℕ → Slot → Type 0
  Ranked k s = rank s.address ≡ k

  refs_ask : (s : Shape) (n x a i k : ℕ) (hs : List (Option ℕ)) → AllByRecursion (Ranked k) (ref_slots M s n x a i hs) → ref_requests k hs ≡ asks rank (ref_slots M s n x a i hs)
  refs_ask s n x a i k [] h = refl
  refs_ask s n x a i k (None ∷ hs) h = refs_ask s n x a (i + 1) k hs h.1
  refs_ask s n x a i k (Some y ∷ hs) h = ap (λ j. request j y ∷ ref_requests k hs) (sym h.0) ∙ ap (λ ws. request (rank (a + ref_offset M s i)) y ∷ ws) (refs_ask s n x a (i + 1) k hs h.1)

  objects_ask : (n a k : ℕ) (os : List Obj) → AllByRecursion (Ranked k) (object_slots M n a os) → object_requests k os ≡ asks rank (object_slots M n a os)
  objects_ask n a k [] h = refl
  objects_ask n a k (o ∷ os) h =
      let A = ref_slots M o.body.shape n o.id a 0 o.body.refs in
      let B = object_slots M n (a + size o.body) os in
      ap (λ ws. ws ++ object_requests k os) (refs_ask o.body.shape n o.id a 0 k o.body.refs (all_left (Ranked k) A B h))
      ∙ (ap (λ ws. asks rank A ++ ws) (objects_ask n (a + size o.body) k os (all_right (Ranked k) A B h)) ∙ sym (asks-append rank A B))

  train_asks : (n k : ℕ) (t : Train) → AllByRecursion (Ranked k) (train_slots M n t) → train_requests k t ≡ asks rank (train_slots M n t)
  train_asks n k [] h = refl
  train_asks n k (c ∷ cs) h =
      let A = object_slots M n (car_words * c.number) c.objects in
      let B = train_slots M (n + 1) cs in
      ap (λ ws. ws ++ train_requests k cs) (objects_ask n (car_words * c.number) k c.objects (all_left (Ranked k) A B h))
      ∙ (ap (λ ws. asks rank A ++ ws) (train_asks (n + 1) k cs (all_right (Ranked k) A B h)) ∙ sym (asks-append rank A B))

all_addresses : (P : ℕ → Type 0) (ss : List Slot) → AllByRecursion P (addresses ss) → AllByRecursion (λ s. P s.address) ss
all_addresses P [] h = tt
all_addresses P (s ∷ ss) h = (h.0, all_addresses P ss h.1)

module _ (M : ShapeTable) (law : Lawful M) (code : Shape → ℕ) (at : ℕ → ℕ) (words : List ℕ) (of_car : ℕ → ℕ) where
  abbrev of_address : ℕ → ℕ
  of_address a = of_car (a / 128)

  car_ranked : (n k : ℕ) (c : Car) → CarStands M code at words c → of_car c.number ≡ k → AllByRecursion (Ranked M of_address k) (object_slots M n (car_words * c.number) c.objects)
  car_ranked n k c s e =
      all_addresses (λ a. of_address a ≡ k) (object_slots M n (car_words * c.number) c.objects)
      (all_map (λ a. (car_words * c.number ≤ a) × (a < car_words * c.number + words_of c.objects)) (λ a. of_address a ≡ k)
      (λ a p. ap of_car (car_of a c.number p.0 (omega (arith, p.1, s.within))) ∙ e)
      (addresses (object_slots M n (car_words * c.number) c.objects))
      (rises_within (car_words * c.number) (car_words * c.number + words_of c.objects) (addresses (object_slots M n (car_words * c.number) c.objects))
      (slots_rise M code at words law n (car_words * c.number) c.objects s.lies)))

  train_ranked : (n k : ℕ) (t : Train) → AllByRecursion (CarStands M code at words) t → ((z : ℕ) → one_of z (car_numbers t) ≡ true → of_car z ≡ k)
      → AllByRecursion (Ranked M of_address k) (train_slots M n t)
  train_ranked n k [] s f = tt
  train_ranked n k (c ∷ cs) s f =
      all_++ (Ranked M of_address k) (object_slots M n (car_words * c.number) c.objects) (train_slots M (n + 1) cs)
      (car_ranked n k c s.0 (f c.number (one_of_here c.number (car_numbers cs))))
      (train_ranked (n + 1) k cs s.1 (λ z e. f z (one_of_there z c.number (car_numbers cs) e)))

  -- what all slots of trains from the rank k on ask for
  pub trains_ask : (n k : ℕ) (ts : Trains) → TrainsStand M code at words ts → Numbered (cars_in_row ts) → ((z : ℕ) → one_of z (car_numbers (cars_in_row ts)) ≡ true → of_car z ≡ rank_from k z (fills ts))
      → trains_requests k ts ≡ asks of_address (slots M n ts)
  trains_ask n k [] s num f = refl
  trains_ask n k (t ∷ ts) s num f =
      let row = map-append (λ (c : Car). c.number) t (cars_in_row ts) in
      let here : (z : ℕ) → one_of z (car_numbers t) ≡ true → of_car z ≡ k = λ z e.
      f z (ap (one_of z) row ∙ one_of_left z (car_numbers t) (car_numbers (cars_in_row ts)) e)
      ∙ ap (λ b. cond b k (rank_from (k + 1) z (fills ts))) (ap (one_of z) (fill-numbers t) ∙ e) in
      let behind : (z : ℕ) → one_of z (car_numbers (cars_in_row ts)) ≡ true → of_car z ≡ rank_from (k + 1) z (fills ts) = λ z e.
      f z (ap (one_of z) row ∙ one_of_right z (car_numbers t) (car_numbers (cars_in_row ts)) e)
      ∙ ap (λ b. cond b k (rank_from (k + 1) z (fills ts))) (ap (one_of z) (fill-numbers t) ∙ numbered_apart t (cars_in_row ts) num z e) in
      ap (λ ws. ws ++ trains_requests (k + 1) ts) (train_asks M of_address n k t (train_ranked n k t s.0 here))
      ∙ (ap (λ ws. asks of_address (train_slots M n t) ++ ws) (trains_ask (n + length t) (k + 1) ts s.1 (numbered_right t (cars_in_row ts) num) behind)
      ∙ sym (asks-append of_address (train_slots M n t) (slots M (n + length t) ts)))

pub first_either : (to : MoveRequest → Mark) (os : List Obj) (ws vs : List MoveRequest) → option_map to (first_to os (ws ++ vs)) ≡ option_or (option_map to (first_to os ws)) (option_map to (first_to os vs))
first_either to os [] vs = refl
first_either to os (w ∷ ws) vs = go (among w.who os) (first_either to os ws vs)
  where
    go : (b : Bool) → option_map to (first_to os (ws ++ vs)) ≡ option_or (option_map to (first_to os ws)) (option_map to (first_to os vs))
        → option_map to (cond b (Some w) (first_to os (ws ++ vs))) ≡ option_or (option_map to (cond b (Some w) (first_to os ws))) (option_map to (first_to os vs))
    go true m = refl
    go false m = m

-- A memory that stands for a space at a halt.

module _ (M : ShapeTable) (law : Lawful M) (code : Shape → ℕ) (m : Model) (halt : Halt m) (num : Numbered (cars_in_row m.trains)) (s : Heap) (st : Stands M code m s) (t : Train) (ts : Trains) (e : m.trains ≡ t ∷ ts) where
  stand : TrainsStand M code (locate (t ∷ ts)) s.words (t ∷ ts)
  stand = subst (λ us. TrainsStand M code (locate us) s.words us) e st.objects

  placed : s.trains ≡ halted (t ∷ ts)
  placed = st.trains ∙ ap halted e

  few : length (t ∷ ts) ≤ 8
  few = subst (λ us. length us ≤ 8) e halt.sound.few

  row : Numbered (cars_in_row (t ∷ ts))
  row = subst (λ us. Numbered (cars_in_row us)) e num

  tells : EachCar (AddressTells (locate (t ∷ ts))) (t ∷ ts)
  tells =
      each_with (CarStands M code (locate (t ∷ ts)) s.words) (HoldsItsOwn (locate (t ∷ ts))) (AddressTells (locate (t ∷ ts)))
      (λ c p q. address_tells (locate (t ∷ ts)) c p.placed p.within q) (t ∷ ts) stand (subst (λ us. EachCar (HoldsItsOwn (locate us)) us) e (seated_own m.trains halt.seated))

  -- the first reference from outside is the one that is found
  pub first_is : (slot : Option ℕ) → slot ≡ first_into (train_objects t) (slots M (length t) ts)
      → first_asked s slot ≡ option_map (mark_at (t ∷ ts)) (first_to (train_objects t) (outside m.roots (t ∷ ts) ts))
  first_is slot k =
      let F = fills (t ∷ ts) in
      let P = ap (λ (p : Placement). p.trains) placed in
      let of_car : ℕ → ℕ = λ z. rank_of z F in
      let count : length F ≤ 8 = omega (arith, few, fills_follow.counted (t ∷ ts)) in
      let some : (x : ℕ) → leads_to_first F (locate (t ∷ ts) x) ≡ among x (train_objects t) = λ x. leads_by_number (locate (t ∷ ts) x / 128) t ts count ∙ tells_train (locate (t ∷ ts)) x t tells.0 in
      let none : leads_to_first F 8192 ≡ false =
      leads_by_number 64 t ts count ∙ not_numbered 64 t (all_map (CarStands M code (locate (t ∷ ts)) s.words) (λ c. c.number < 64) (λ c p. p.number) t stand.0) (omega arith) in
      let roots = roots_first (locate (t ∷ ts)) (train_objects t) (leads_to_first F) none some (mark_at (t ∷ ts)) (arrival (t ∷ ts)) (λ x. refl) m.roots s.roots (omega (arith, st.root_word_count, st.root_count))
      (λ r l. st.roots r (omega (arith, l, st.root_count)) ∙ ap (λ us. word_of (locate us) (get_or m.roots r None)) e) in
      let behind : (z : ℕ) → one_of z (car_numbers (cars_in_row ts)) ≡ true → of_car z ≡ rank_from 1 z (fills ts) = λ z o.
      ap (λ b. cond b 0 (rank_from 1 z (fills ts))) (ap (one_of z) (fill-numbers t) ∙ numbered_apart t (cars_in_row ts) row z o) in
      let stand_there : TrainsStand M code (locate (t ∷ ts)) s.words ts = stand.1 in
      let asked = trains_ask M law code (locate (t ∷ ts)) s.words of_car (length t) 1 ts stand_there (numbered_right t (cars_in_row ts) row) behind in
      let slots = slots_first (locate (t ∷ ts)) (train_objects t) s.words (λ a. of_car (a / 128)) (mark_at (t ∷ ts)) (λ k x. refl) (slots M (length t) ts)
      (words_at_slots M code (locate (t ∷ ts)) s.words (length t) ts stand_there) in
      ap (λ (p : Placement). first_asked (record { words = s.words; roots = s.roots; trains = p; mark = s.mark; used = s.used }) slot) placed
      ∙ (ap (λ k. option_or (option_map (to_rank k) (find (leads_to_first F) s.roots)) (option_map (λ a. to_rank (of_car (a / 128)) (get_or s.words a 0)) slot)) (sym (fills_follow.arrives (t ∷ ts)))
      ∙ (ap (λ o. option_or o (option_map (λ a. to_rank (of_car (a / 128)) (get_or s.words a 0)) slot)) roots
      ∙ (ap (λ o. option_or (option_map (mark_at (t ∷ ts)) (first_to (train_objects t) (ref_requests (arrival (t ∷ ts)) m.roots))) (option_map (λ a. to_rank (of_car (a / 128)) (get_or s.words a 0)) o)) k
      ∙ (ap (option_or (option_map (mark_at (t ∷ ts)) (first_to (train_objects t) (ref_requests (arrival (t ∷ ts)) m.roots))))
      (slots ∙ ap (λ ws. option_map (mark_at (t ∷ ts)) (first_to (train_objects t) ws)) (sym asked))
      ∙ sym (first_either (mark_at (t ∷ ts)) (train_objects t) (ref_requests (arrival (t ∷ ts)) m.roots) (trains_requests 1 ts))))))

  -- what the survey of the train is told
  pub told : AreTold (is_other s.trains) (other_words s.trains) (is_later s.trains) (cars_of ts)
  told = subst (λ p. AreTold (is_other p) (other_words p) (is_later p) (cars_of ts)) (sym placed)
      (others_told t ts few row (each_map (CarStands M code (locate (t ∷ ts)) s.words) (λ c. words_of c.objects ≤ 128) (λ c p. p.within) (t ∷ ts) stand))

  pub train_tells : AllByRecursion (AddressTells (locate (t ∷ ts))) t
  train_tells = tells.0

  pub others_stand : AllByRecursion (CarStands M code (locate (t ∷ ts)) s.words) (cars_of ts)
  others_stand = row_each (CarStands M code (locate (t ∷ ts)) s.words) ts stand.1

  pub numbers_are : (cars : List ℕ) → cars ≡ fill_numbers (get_or s.trains.trains 0 []) → car_numbers t ≡ cars
  numbers_are cars k = sym (k ∙ (ap (λ (p : Placement). fill_numbers (get_or p.trains 0 [])) placed ∙ fill-numbers t))

  -- the pairs have each slot of another train that holds an object of the train
  pub train_pairs : (P : Pairs) → StepFinds M P (t ∷ ts) → AllByRecursion (λ c. ArePaired P c (slots M (length t) ts)) t
  train_pairs P f = paired t f
    where
      paired : (u : Train) → StepFinds M P (u ∷ ts) → AllByRecursion (λ c. ArePaired P c (slots M (length u) ts)) u
      paired [] f = tt
      paired (c ∷ cs) f = train_paired M P c cs ts f

-- what a survey found is the first slot that holds an object of the train
pub surveyed : (M : ShapeTable) (law : Lawful M) (code : Shape → ℕ) (h : History) (s : Heap) → Stands M code (space_of M h) s → (P : Pairs) → Keeps (still_noted no_pairs (updates_of M h)) P
    → (t : Train) (ts : Trains) → (space_of M h).trains ≡ t ∷ ts → (cars : List ℕ) → cars ≡ fill_numbers (get_or s.trains.trains 0 []) → (first : Option ℕ)
    → ((at : ℕ → ℕ) (t : Train) (n : ℕ) (ts : Trains) → car_numbers t ≡ cars → AllByRecursion (AddressTells at) t → AllByRecursion (CarStands M code at s.words) (cars_of ts)
    → AreTold (is_other s.trains) (other_words s.trains) (is_later s.trains) (cars_of ts) → AllByRecursion (λ c. ArePaired P c (slots M n ts)) t → first ≡ first_into (train_objects t) (slots M n ts))
    → first ≡ first_into (train_objects t) (slots M (length t) ts)
surveyed M law code h s st P keeps t ts e cars k first found =
    let m = space_of M h in
    let halt = halt_at M law h in
    let num = numbered_at M law h in
    found (locate (t ∷ ts)) t (length t) ts (numbers_are M law code m halt num s st t ts e cars k) (train_tells M law code m halt num s st t ts e)
    (others_stand M law code m halt num s st t ts e) (told M law code m halt num s st t ts e)
    (train_pairs M law code m halt num s st t ts e P (subst (StepFinds M P) e (overlooked_law M law h P keeps).found))

-- its address is one of memory
pub found_below : (M : ShapeTable) (law : Lawful M) (code : Shape → ℕ) (h : History) (s : Heap) → Stands M code (space_of M h) s → 0 < length s.trains.trains → (first : Option ℕ)
    → ((t : Train) (ts : Trains) → (space_of M h).trains ≡ t ∷ ts → first ≡ first_into (train_objects t) (slots M (length t) ts)) → IfSome first (λ a. a < 8192)
found_below M law code h s st some first found = go (space_of M h).trains refl
  where
    below : (os : List Obj) (ss : List Slot) → AllByRecursion (λ s. s.address < 8192) ss → IfSome (first_into os ss) (λ a. a < 8192)
    below os [] a = tt
    below os (s ∷ ss) a = pick (target_among os s.target) (below os ss a.1)
      where
        pick : (b : Bool) → IfSome (first_into os ss) (λ a. a < 8192) → IfSome (option_map (λ s. s.address) (cond b (Some s) (find (λ s. target_among os s.target) ss))) (λ a. a < 8192)
        pick true more = a.0
        pick false more = more

    go : (us : Trains) → (space_of M h).trains ≡ us → IfSome first (λ a. a < 8192)
    go [] e = absurd (omega (arith, some, ap (λ (p : Placement). length p.trains) (st.trains ∙ ap halted e)))
    go (t ∷ ts) e =
        let all : AllByRecursion (λ s. s.address < 8192) (train_slots M 0 t ++ slots M (0 + length t) ts) = subst (λ us. AllByRecursion (λ s. s.address < 8192) (slots M 0 us)) e (slot_addresses M law h) in
        let z : 0 + length t ≡ length t = omega arith in
        subst (λ o. IfSome o (λ a. a < 8192)) (sym (found t ts e))
        (below (train_objects t) (slots M (length t) ts) (subst (λ n. AllByRecursion (λ s. s.address < 8192) (slots M n ts)) z (all_right (λ s. s.address < 8192) (train_slots M 0 t) (slots M (0 + length t) ts) all)))
