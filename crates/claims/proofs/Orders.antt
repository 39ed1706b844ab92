-- Cheney's order by words and by identities.
use Rattle.std.proofs.Common.{◌≡◌, ℕ, zero, suc, ◌+◌, ◌-◌, ◌*◌, ◌<◌, ◌≤◌, true, ltb, List, [], ◌∷◌, ◌++◌, map, length, get_or, Some, None, Option, sym, refl, subst, ap, ◌∙◌, arith, length-append, append-nil, lt-ltb, slice_get, slice_index, cond}
use Rattle.std.proofs.lemmas.List.{length-map, map-append}
use Rattle.std.proofs.lemmas.Option.{slice_get-get_or}
use Rattle.std.specs.List.{AllByRecursion, Contains}
use Rattle.layout.specs.declared.Shape.{Shape}
use Rattle.layout.specs.Coding.{Coded}
use Rattle.layout.specs.ShapeTable.{ShapeTable, Lawful, Offsets}
use Rattle.layout.specs.Admitted.{admitted_header}
use Rattle.model.specs.Trains.{Obj, Car}
use Rattle.model.specs.Claims.{Claim as ObjectClaim, in_front, scan, cheney, all_to}
use Rattle.model.specs.Step.{claimed}
use Rattle.model.proofs.Totals.{scan-total, take_out-total}
use Rattle.model.proofs.Closure.{length-total}
use Rattle.model.proofs.Alls.{all_right}
use Rattle.objects.specs.Lies.{CarStands, HoldsItsOwn, word_of}
use Rattle.claims.specs.declared.Claim.{Claim}
use Rattle.claims.specs.Words.{visited, visited_if, scanned, ref_word, object_scanned, place_at, closed, to_train}
use Rattle.claims.specs.Claimed.{place_of, claim_of, Claimed, claim_held, ClaimsHeld}
use Rattle.claims.proofs.Standing.{standing, few_objects}
use Rattle.claims.proofs.Places.{spot}
use Rattle.claims.proofs.Claimed.{claimed_same, count_all}
use Rattle.claims.proofs.Visits.{take_held, object_claim, visit}

scan_held : (h : Option ℕ) (hs : List (Option ℕ)) (left : List Obj) → scan (h ∷ hs) left ≡ in_front (take_held h left).taken (scan hs (take_held h left).left)
scan_held None hs left = refl
scan_held (Some x) hs left = refl

joined : (k : ℕ) (taken : List ObjectClaim) (xs ys : List Obj) → (taken ++ all_to k xs) ++ all_to k ys ≡ taken ++ all_to k (xs ++ ys)
joined k [] xs ys = sym (map-append (object_claim k) xs ys)
joined k (c ∷ cs) xs ys = ap (λ ds. c ∷ ds) (joined k cs xs ys)

claimed_more : (k : ℕ) (queue : List ObjectClaim) (os : List Obj) → claimed (queue ++ all_to k os) ≡ claimed queue ++ os
claimed_more k [] [] = refl
claimed_more k [] (o ∷ os) = ap (λ ps. o ∷ ps) (claimed_more k [] os)
claimed_more k (c ∷ cs) os = ap (λ ps. c.object ∷ ps) (claimed_more k cs os)

get_at : {X Y : Type 0} (g : X → Y) (xs : List X) (y : X) (ys : List X) (d : Y) → get_or (map g (xs ++ y ∷ ys)) (length xs) d ≡ g y
get_at g [] y ys d = refl
get_at g (x ∷ xs) y ys d = get_at g xs y ys d

moved : {X : Type 0} (xs : List X) (y : X) (ys zs : List X) → (xs ++ y ∷ ys) ++ zs ≡ (xs ++ y ∷ []) ++ (ys ++ zs)
moved [] y ys zs = refl
moved (x ∷ xs) y ys zs = ap (λ vs. x ∷ vs) (moved xs y ys zs)

-- with all of them scanned nothing more is claimed
closed_end : (decoded : ℕ → Offsets) (words : List ℕ) (car k turns h : ℕ) (order : List Claim) → length order ≤ h → closed decoded words car k turns h order ≡ order
closed_end decoded words car k zero h order le = refl
closed_end decoded words car k (suc n) h order le = grind arith

module _ {M : ShapeTable} {code : Shape → ℕ} {decoded : ℕ → Offsets} (lawful : Lawful M) (coded : Coded M code decoded)
    (words : List ℕ) (wide : length words ≡ 8192) (at : ℕ → ℕ) (f : Car) (s : CarStands M code at words f) (own : HoldsItsOwn at f) (k : ℕ) where
  scan_same : (ws : ℕ → Option ℕ) (rs : List (Option ℕ)) (i : ℕ) → ((j : ℕ) → j < length rs → ws (i + j) ≡ Some (word_of at (get_or rs j None)))
      → (taken : List ObjectClaim) (left : List Obj) (order : List Claim) → Claimed at f taken left order
      → Claimed at f (taken ++ all_to k (scan rs left).taken) (scan rs left).left (scanned f.number k ws i (length rs) order)
  scan_same ws [] i e taken left order c = claimed_same c (sym (append-nil taken)) refl refl
  scan_same ws (h ∷ hs) i e taken left order c =
      let t = take_held h left in
      let w : ws i ≡ Some (word_of at h) = ap ws (omega arith) ∙ e 0 (omega arith) in
      let more = scan_same ws hs (i + 1) (λ j lt. ap ws (omega arith) ∙ e (suc j) (omega arith)) (taken ++ all_to k t.taken) t.left
      (visited f.number k (word_of at h) order) (visit M code at words f s own lawful k taken left order c h) in
      let q = scan_held h hs left in
      claimed_same more (joined k taken t.taken (scan hs t.left).taken ∙ ap (λ r. taken ++ all_to k r.taken) (sym q)) (ap (λ r. r.left) (sym q))
      (ap (λ v. scanned f.number k ws (i + 1) (length hs) (visited_if f.number k v order)) (sym w))

  object_same : (o : Obj) → Contains f.objects o → (taken : List ObjectClaim) (left : List Obj) (order : List Claim) → Claimed at f taken left order
      → Claimed at f (taken ++ all_to k (scan o.body.refs left).taken) (scan o.body.refs left).left
      (object_scanned decoded words f.number k (place_of at f o) order)
  unfolding object_scanned
  object_same o i taken left order c =
      let t = standing M code at words f s o i in
      let l = t.lies in
      let p = spot M code at words f s o i in
      let a = 128 * f.number + place_of at f o in
      let header : slice_index words a ≡ code o.body.shape = ap (slice_index words) (sym p.1) ∙ l.header in
      let x = admitted_header lawful coded o.body.shape l.offsets l.admitted in
      let count : (decoded (slice_index words a)).refs ≡ length o.body.refs = ap (λ v. (decoded v).refs) header ∙ x.same.refs ∙ sym l.ref_count in
      let ws : (j : ℕ) → j < length o.body.refs → ref_word decoded words a j ≡ Some (word_of at (get_or o.body.refs j None)) = λ j lt.
      let b : j < l.offsets.refs = omega (arith, l.ref_count) in
      let y = lawful.apart o.body.shape l.offsets l.admitted in
      let d : (decoded (slice_index words a)).ref_at j ≡ l.offsets.ref_at j = ap (λ v. (decoded v).ref_at j) header ∙ x.same.ref_at j b in
      let r : a + (decoded (slice_index words a)).ref_at j ≡ at o.id + l.offsets.ref_at j = omega (arith, p.1, d) in
      let within : at o.id + l.offsets.ref_at j < length words = omega (arith, t.high, s.within, s.number, wide, (y.ref_inside j b).1, l.ref_count, l.word_count) in
      ap (slice_get words) r ∙ slice_get-get_or words (at o.id + l.offsets.ref_at j) 0 within ∙ ap Some (l.refs j b) in
      claimed_same (scan_same (ref_word decoded words a) o.body.refs 0 (λ j lt. ap (ref_word decoded words a) (omega arith) ∙ ws j lt) taken left order c) refl refl
      (ap (λ n. scanned f.number k (ref_word decoded words a) 0 n order) (sym count))

  -- the queue is empty
  ended : (turns h : ℕ) (done : List ObjectClaim) (left : List Obj) (order : List Claim) → Claimed at f (done ++ []) left order → length done ≡ h
      → Claimed at f ((done ++ []) ++ []) left (closed decoded words f.number k turns h order)
  ended turns h done left order c e =
      let long : length order ≡ length done + 0 = ap length c.order_is ∙ length-map (done ++ []) (claim_of at f) ∙ length-append done [] in
      claimed_same c (sym (append-nil (done ++ []))) refl (sym (closed_end decoded words f.number k turns h order (omega (arith, long, e))))

  close_same : (n turns h : ℕ) (done queue : List ObjectClaim) (left : List Obj) (order : List Claim) → Claimed at f (done ++ queue) left order → length done ≡ h
      → length queue + length left ≤ n → length queue + length left ≤ turns
      → Claimed at f ((done ++ queue) ++ all_to k (cheney n (claimed queue) left).taken) (cheney n (claimed queue) left).left
      (closed decoded words f.number k turns h order)
  close_same zero turns h done [] left order c e few fuel = ended turns h done left order c e
  close_same (suc n) turns h done [] left order c e few fuel = ended turns h done left order c e
  close_same zero turns h done (d ∷ queue) left order c e few fuel = absurd (omega (arith, few))
  close_same (suc n) zero h done (d ∷ queue) left order c e few fuel = absurd (omega (arith, fuel))
  close_same (suc n) (suc m) h done (d ∷ queue) left order c e few fuel =
      let found = scan d.object.body.refs left in
      let more = all_to k found.taken in
      let long : length order ≡ length done + suc (length queue) = ap length c.order_is ∙ length-map (done ++ d ∷ queue) (claim_of at f) ∙ length-append done (d ∷ queue) in
      let lt : h < length order = omega (arith, long, e) in
      let b : ltb h (length order) ≡ true = lt-ltb h (length order) lt in
      let place : place_at order h ≡ place_of at f d.object =
      ap (λ os. place_at os h) c.order_is ∙ ap (place_at (map (claim_of at f) (done ++ d ∷ queue))) (sym e) ∙ ap (λ (v : Claim). v.place) (get_at (claim_of at f) done d queue (to_train 0 0)) in
      let inside : Contains f.objects d.object = (all_right (λ o. Contains f.objects o) (claimed done) (d.object ∷ claimed queue)
      (subst (AllByRecursion (λ o. Contains f.objects o)) (map-append (λ (v : ObjectClaim). v.object) done (d ∷ queue)) c.of_car)).0 in
      let next = object_scanned decoded words f.number k (place_at order h) order in
      let scanned_one : Claimed at f ((done ++ d ∷ []) ++ (queue ++ more)) found.left next =
      claimed_same (object_same d.object inside (done ++ d ∷ queue) left order c) (moved done d queue more) refl
      (ap (λ p. object_scanned decoded words f.number k p order) (sym place)) in
      let sum : length (queue ++ more) + length found.left ≡ length queue + length left =
      omega (
        arith,
        length-append queue more,
        length-map found.taken (object_claim k),
        scan-total (λ o. 1) d.object.body.refs left,
        length-total found.taken,
        length-total found.left,
        length-total left,
      ) in
      let rest = close_same n m (h + 1) (done ++ d ∷ []) (queue ++ more) found.left next scanned_one
      (omega (arith, length-append done (d ∷ []), e)) (omega (arith, sum, few)) (omega (arith, sum, fuel)) in
      let q = claimed_more k queue found.taken in
      claimed_same rest
      (ap (λ v. v ++ all_to k (cheney n (claimed (queue ++ more)) found.left).taken) (sym (moved done d queue more))
      ∙ joined k (done ++ d ∷ queue) found.taken (cheney n (claimed (queue ++ more)) found.left).taken
      ∙ ap (λ v. (done ++ d ∷ queue) ++ all_to k (found.taken ++ (cheney n v found.left).taken)) q)
      (ap (λ v. (cheney n v found.left).left) q)
      (sym (ap (λ v. cond v (closed decoded words f.number k m (h + 1) next) order) b))

  -- whatever the word holds, it claims what the definition says
  held_same : (taken : List ObjectClaim) (left : List Obj) (order : List Claim) → Claimed at f taken left order → (h : Option ℕ)
      → Claimed at f (taken ++ all_to k (claim_held h left).taken) (claim_held h left).left
      (closed decoded words f.number k (64 - length order) (length order) (visited f.number k (word_of at h) order))
  held_same taken left order c None =
      let one = visit M code at words f s own lawful k taken left order c None in
      let e : length taken ≡ length order = sym (ap length c.order_is ∙ length-map taken (claim_of at f)) in
      claimed_same (ended (64 - length order) (length order) taken left (visited f.number k (word_of at None) order) one e) (append-nil (taken ++ [])) refl refl
  held_same taken left order c (Some x) =
      let t = take_held (Some x) left in
      let one = visit M code at words f s own lawful k taken left order c (Some x) in
      let e : length taken ≡ length order = sym (ap length c.order_is ∙ length-map taken (claim_of at f)) in
      let sum : length (all_to k t.taken) + length t.left ≡ length left =
      omega (arith, length-map t.taken (object_claim k), take_out-total (λ o. 1) x left, length-total t.taken, length-total t.left, length-total left) in
      let rest = close_same (length left) (64 - length order) (length order) taken (all_to k t.taken) t.left
      (visited f.number k (at x) order) one e (omega (arith, sum)) (omega (arith, sum, count_all c, few_objects M code at words lawful f s)) in
      let q = claimed_more k [] t.taken in
      claimed_same rest
      (joined k taken t.taken (cheney (length left) (claimed (all_to k t.taken)) t.left).taken ∙ ap (λ v. taken ++ all_to k (t.taken ++ (cheney (length left) v t.left).taken)) q)
      (ap (λ v. (cheney (length left) v t.left).left) q) refl

pub claims_held : {M : ShapeTable} {code : Shape → ℕ} {decoded : ℕ → Offsets} → Lawful M → Coded M code decoded → (words : List ℕ) → length words ≡ 8192
    → (car k word : ℕ) (old new : List Claim) → new ≡ closed decoded words car k (64 - length old) (length old) (visited car k word old)
    → ClaimsHeld M code words car k word old new
claims_held {M} {code} {decoded} lawful coded words wide car k word old new e f at h taken left s own q w c =
    claimed_same (held_same lawful coded words wide at f s own k taken left old c h) refl refl
    (ap (λ n. closed decoded words n k (64 - length old) (length old) (visited n k (word_of at h) old)) (sym q)
    ∙ ap (λ v. closed decoded words car k (64 - length old) (length old) (visited car k v old)) (sym w) ∙ sym e)
