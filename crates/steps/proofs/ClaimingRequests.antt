-- What slots ask of a step, and that those which do not lead into the first car claim nothing.
use Rattle.std.proofs.Common.{◌≡◌, ℕ, zero, suc, ◌+◌, ◌*◌, ◌/◌, ◌<◌, Bool, true, false, cond, List, [], ◌∷◌, ◌++◌, length, take, get_or, Some, None, Option, refl, sym, ap, ◌∙◌, subst, append_assoc, append-nil, arith, filter}
use Rattle.std.specs.List.{AllByRecursion}
use Rattle.std.proofs.lemmas.Bool.{ltb-false}
use Rattle.std.proofs.lemmas.List.Concat.{flat_map-append}
use Rattle.model.specs.Bodies.{size}
use Rattle.layout.specs.declared.Shape.{Shape}
use Rattle.layout.specs.ShapeTable.{ShapeTable}
use Rattle.model.specs.Claims.{MoveRequest, request, ref_requests, object_requests, train_requests, trains_requests, claims, all_to}
use Rattle.model.specs.Notes.{Slot, ref_slots, object_slots, train_slots, slots, target_among}
use Rattle.model.specs.Remembered.{slots_into}
use Rattle.model.specs.Trains.{Obj, Car, Train, Trains, car_words, times, among}
use Rattle.model.proofs.Alls.{all_left, all_right}
use Rattle.model.proofs.Totals.{claims-total, is}
use Rattle.claims.proofs.Requests.{claims-append, claims-filter, MayGo, then_claims}
use Rattle.std.proofs.lemmas.List.{take_more}
use Rattle.std.proofs.lemmas.List.Elements.{filter_map-append}
use Rattle.std.specs.Option.{option_map}
use Rattle.objects.specs.Words.{HasItsWord}
use Rattle.slots.specs.Slots.{addresses}
use Rattle.claims.specs.declared.Claim.{Claim}
use Rattle.claims.specs.Claimed.{Claimed, claim_held}
use Rattle.claims.proofs.Claimed.{claimed_last}
use Rattle.memory.specs.declared.Mark.{Mark}
use Rattle.model.specs.Step.{mark_requests}
use Rattle.steps.specs.Claiming.{slot_requests, ClaimedFor}

pub slot_requests-append : (rank : ℕ → ℕ) (ss us : List Slot) → slot_requests rank (ss ++ us) ≡ slot_requests rank ss ++ slot_requests rank us
slot_requests-append rank ss us = flat_map-append (λ (s : Slot). ref_requests (rank (s.address / car_words)) (s.target ∷ [])) ss us

-- The slots that hold an object of a car are asked for the same as all slots, without what is for other objects.

module _ (rank : ℕ → ℕ) (f : Car) where
  asked : (b : Bool) (s : Slot) (ss : List Slot)
      → slot_requests rank (cond b (s ∷ ss) ss) ≡ cond b (ref_requests (rank (s.address / car_words)) (s.target ∷ []) ++ slot_requests rank ss) (slot_requests rank ss)
  asked true s ss = refl
  asked false s ss = refl

  kept : (k : ℕ) (h : Option ℕ) (xs ys : List MoveRequest) → xs ≡ filter (λ w. among w.who f.objects) ys
      → cond (target_among f.objects h) (ref_requests k (h ∷ []) ++ xs) xs ≡ filter (λ w. among w.who f.objects) (ref_requests k (h ∷ []) ++ ys)
  kept k None xs ys e = e
  kept k (Some y) xs ys e = ap (λ (ws : List MoveRequest). cond (among y f.objects) (request k y ∷ ws) ws) e

  pub into_requests : (ss : List Slot) → slot_requests rank (slots_into f ss) ≡ filter (λ w. among w.who f.objects) (slot_requests rank ss)
  into_requests [] = refl
  into_requests (s ∷ ss) =
      asked (target_among f.objects s.target) s (slots_into f ss)
      ∙ kept (rank (s.address / car_words)) s.target (slot_requests rank (slots_into f ss)) (slot_requests rank ss) (into_requests ss)

-- requests for objects of other cars may be dropped behind others
pub claims_dropped : (ws vs : List MoveRequest) (os : List Obj) → claims (ws ++ filter (λ w. among w.who os) vs) os ≡ claims (ws ++ vs) os
claims_dropped ws vs os =
    claims-append ws (filter (λ w. among w.who os) vs) os
    ∙ (ap (then_claims (claims ws os)) (claims-filter (λ w. among w.who os) vs (claims ws os).left (may_go vs)) ∙ sym (claims-append ws vs os))
  where
    may_go : (vs : List MoveRequest) → AllByRecursion (MayGo (λ w. among w.who os) (claims ws os).left) vs
    may_go [] = tt
    may_go (v ∷ vs) = ((λ e. let z = ltb-false 0 (times v.who os) e in omega (arith, z, claims-total (is v.who) ws os)), may_go vs)

-- Slots ask for the trains that they lie in.

module _ (rank : ℕ → ℕ) where
  abbrev pub AtRank : ℕ → Slot → Type 0
  AtRank k s = rank (s.address / car_words) ≡ k

  refs_ask : (M : ShapeTable) (s : Shape) (n x a i k : ℕ) (hs : List (Option ℕ)) → AllByRecursion (AtRank k) (ref_slots M s n x a i hs)
      → slot_requests rank (ref_slots M s n x a i hs) ≡ ref_requests k hs
  refs_ask M s n x a i k [] p = refl
  refs_ask M s n x a i k (None ∷ hs) p = refs_ask M s n x a (i + 1) k hs p.1
  refs_ask M s n x a i k (Some y ∷ hs) p = rw p.0 (ap (λ (ws : List MoveRequest). request k y ∷ ws) (refs_ask M s n x a (i + 1) k hs p.1))

  objects_ask : (M : ShapeTable) (n a k : ℕ) (os : List Obj) → AllByRecursion (AtRank k) (object_slots M n a os) → slot_requests rank (object_slots M n a os) ≡ object_requests k os
  objects_ask M n a k [] p = refl
  objects_ask M n a k (o ∷ os) p =
      let here = ref_slots M o.body.shape n o.id a 0 o.body.refs in
      let rest = object_slots M n (a + size o.body) os in
      slot_requests-append rank here rest
      ∙ (ap (λ ws. ws ++ slot_requests rank rest) (refs_ask M o.body.shape n o.id a 0 k o.body.refs (all_left (AtRank k) here rest p))
      ∙ ap (λ ws. ref_requests k o.body.refs ++ ws) (objects_ask M n (a + size o.body) k os (all_right (AtRank k) here rest p)))

  pub train_asks : (M : ShapeTable) (n k : ℕ) (t : Train) → AllByRecursion (AtRank k) (train_slots M n t) → slot_requests rank (train_slots M n t) ≡ train_requests k t
  train_asks M n k [] p = refl
  train_asks M n k (c ∷ cs) p =
      let here = object_slots M n (car_words * c.number) c.objects in
      let rest = train_slots M (n + 1) cs in
      slot_requests-append rank here rest
      ∙ (ap (λ ws. ws ++ slot_requests rank rest) (objects_ask M n (car_words * c.number) k c.objects (all_left (AtRank k) here rest p))
      ∙ ap (λ ws. object_requests k c.objects ++ ws) (train_asks M (n + 1) k cs (all_right (AtRank k) here rest p)))

  -- the slots of trains from a rank on
  abbrev pub AtRanks : ShapeTable → (n k : ℕ) → Trains → Type 0
  AtRanks M n k [] = Unit {0}
  AtRanks M n k (t ∷ ts) = AllByRecursion (AtRank k) (train_slots M n t) × AtRanks M (n + length t) (k + 1) ts

  pub trains_ask : (M : ShapeTable) (n k : ℕ) (ts : Trains) → AtRanks M n k ts → slot_requests rank (slots M n ts) ≡ trains_requests k ts
  trains_ask M n k [] p = refl
  trains_ask M n k (t ∷ ts) p =
      slot_requests-append rank (train_slots M n t) (slots M (n + length t) ts)
      ∙ (ap (λ ws. ws ++ slot_requests rank (slots M (n + length t) ts)) (train_asks M n k t p.0)
      ∙ ap (λ ws. train_requests k t ++ ws) (trains_ask M (n + length t) (k + 1) ts p.1))

-- Claims, one request after another.

pub claimed_for : {at : ℕ → ℕ} {f : Car} {order : List Claim} (ws vs : List MoveRequest) → ws ≡ vs → ClaimedFor at f ws order → ClaimedFor at f vs order
claimed_for {at} {f} {order} ws vs e c = subst (λ us. ClaimedFor at f us order) e c

pub roots_asked : (k i : ℕ) (hs : List (Option ℕ)) (ws : List MoveRequest) → i < length hs
    → (ws ++ ref_requests k (take i hs)) ++ ref_requests k (get_or hs i None ∷ []) ≡ ws ++ ref_requests k (take (i + 1) hs)
roots_asked k i hs ws l =
    append_assoc ws (ref_requests k (take i hs)) (ref_requests k (get_or hs i None ∷ []))
    ∙ ap (λ us. ws ++ us) (sym (filter_map-append (option_map (request k)) (take i hs) (get_or hs i None ∷ [])) ∙ ap (ref_requests k) (sym (take_more hs i None l)))

-- the slot at a place
pub record SlotAt (at : ℕ → ℕ) (words : List ℕ) (rank : ℕ → ℕ) (ss : List Slot) (i : ℕ) : Type 0 where
  pub slot : Slot
  pub address : get_or (addresses ss) i 0 ≡ slot.address
  pub word : HasItsWord at words slot
  pub asks : slot_requests rank (take (i + 1) ss) ≡ slot_requests rank (take i ss) ++ ref_requests (rank (slot.address / car_words)) (slot.target ∷ [])

pub slot_at : (at : ℕ → ℕ) (words : List ℕ) (rank : ℕ → ℕ) (ss : List Slot) (i : ℕ) → i < length (addresses ss) → AllByRecursion (HasItsWord at words) ss → SlotAt at words rank ss i
slot_at at words rank [] i l p = absurd (omega arith)
slot_at at words rank (s ∷ ss) zero l p = record { slot = s; address = refl; word = p.0; asks = append-nil (ref_requests (rank (s.address / car_words)) (s.target ∷ [])) }
slot_at at words rank (s ∷ ss) (suc i) l p =
    let r = slot_at at words rank ss i (omega (arith, l)) p.1 in
    let here = ref_requests (rank (s.address / car_words)) (s.target ∷ []) in
    let e : suc i + 1 ≡ suc (i + 1) = omega arith in
    record {
      slot = r.slot;
      address = r.address;
      word = r.word;
      asks = ap (λ k. slot_requests rank (take k (s ∷ ss))) e
          ∙ (ap (λ us. here ++ us) r.asks ∙ sym (append_assoc here (slot_requests rank (take i ss)) (ref_requests (rank (r.slot.address / car_words)) (r.slot.target ∷ []))));
    }

-- the marked object's request
pub mark_asked : (at : ℕ → ℕ) (f : Car) (mark : Mark) (mk : Option MoveRequest) (ws : List MoveRequest) (order : List Claim)
    → Some mark ≡ option_map (λ w. record { object = at w.who; rank = w.rank }) mk
    → ((x : ℕ) → mark.object ≡ at x → Claimed at f ((claims ws f.objects).taken ++ all_to mark.rank (claim_held (Some x) (claims ws f.objects).left).taken) (claim_held (Some x) (claims ws f.objects).left).left order)
    → ClaimedFor at f (ws ++ mark_requests mk) order
mark_asked at f mark None ws order e c = absurd (cc)
mark_asked at f mark (Some w) ws order e c =
    let same : ◌≡◌ {A = Mark} mark (record { object = at w.who; rank = w.rank }) = cc in
    claimed_for (ws ++ ref_requests mark.rank (Some w.who ∷ [])) (ws ++ (w ∷ [])) (ap (λ (j : ℕ). ws ++ (request j w.who ∷ [])) (ap (λ (v : Mark). v.rank) same))
    (claimed_last ws mark.rank (Some w.who) order (c w.who (ap (λ (v : Mark). v.object) same)))
