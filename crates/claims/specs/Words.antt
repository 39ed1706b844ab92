-- How the words of memory add to the claims of a car.
use Rattle.std.specs.Prelude.{ℕ, zero, suc, ◌+◌, ◌*◌, ◌/◌, ◌%◌, Bool, ◌&&◌, not, List, [], ◌∷◌, ◌++◌, length, Some, None, Option, ◌==◌, nat_lt, slice_get, slice_index, slice_index_or, if◌then◌else◌}
use Rattle.std.specs.List.{list_any}
use Rattle.layout.specs.ShapeTable.{Offsets}
use Rattle.model.specs.Trains.{car_words}
use Rattle.claims.specs.declared.Claim.{Claim}

-- the object at a place goes to the train of a rank
abbrev pub to_train : (rank place : ℕ) → Claim
to_train k p = record { place = p; rank = k }

abbrev pub is_claimed : ℕ → List Claim → Bool
is_claimed p order = list_any (λ c. p == c.place) order

-- the word leads to a place of the car that is not claimed, and there is room
abbrev pub leads_on : (car word : ℕ) → List Claim → Bool
leads_on car w order = w / car_words == car && (not (is_claimed (w % car_words) order) && nat_lt (length order) 64)

-- the claims with what one word leads to
abbrev pub visited : (car rank word : ℕ) → List Claim → List Claim
visited car k w order = if leads_on car w order then order ++ (to_train k (w % car_words) ∷ []) else order

-- the same for a word that may be none
abbrev pub visited_if : (car rank : ℕ) → Option ℕ → List Claim → List Claim
visited_if car k None order = order
visited_if car k (Some w) order = visited car k w order

-- n words from number i on
abbrev pub scanned : (car rank : ℕ) → (ℕ → Option ℕ) → (i n : ℕ) → List Claim → List Claim
scanned car k ws i zero order = order
scanned car k ws i (suc n) order = scanned car k ws (i + 1) n (visited_if car k (ws i) order)

-- the word of reference number i of the object whose header stands at a, if memory has it
abbrev pub ref_word : (decoded : ℕ → Offsets) → List ℕ → (a i : ℕ) → Option ℕ
ref_word decoded words a i = slice_get words (a + (decoded (slice_index words a)).ref_at i)

-- what the references of the object at a place of the car lead to
unfoldable pub object_scanned : (decoded : ℕ → Offsets) → List ℕ → (car rank place : ℕ) → List Claim → List Claim
object_scanned decoded words car k p order =
    let a = car_words * car + p in scanned car k (ref_word decoded words a) 0 (decoded (slice_index words a)).refs order

-- the place that is claimed as the h-th
abbrev pub place_at : List Claim → ℕ → ℕ
place_at order h = (slice_index_or order h (to_train 0 0)).place

-- the claimed objects are scanned in their order, the h-th next
abbrev pub closed : (decoded : ℕ → Offsets) → List ℕ → (car rank turns h : ℕ) → List Claim → List Claim
closed decoded words car k zero h order = order
closed decoded words car k (suc n) h order =
    if nat_lt h (length order) then closed decoded words car k n (h + 1) (object_scanned decoded words car k (place_at order h) order) else order
