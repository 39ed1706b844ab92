-- Correcting the references that held a moved object.
use Rattle.std.specs.Prelude.{◌≡◌, ℕ, zero, suc, ◌+◌, ◌*◌, ◌/◌, ◌%◌, ◌<◌, ◌≤◌, true, List, [], ◌∷◌, length, map, flat_map, ◌==◌, slice_index, slice_set, if◌then◌else◌, ◌≢◌}
use Rattle.std.specs.List.{AllByRecursion}
use Rattle.layout.specs.ShapeTable.{Offsets, ShapeTable}
use Rattle.model.specs.Notes.{Slot, ref_slots, slots, target_among}
use Rattle.model.specs.Sound.{Points}
use Rattle.model.specs.Step.{claimed}
use Rattle.model.specs.Trains.{Obj, Trains, objects, times, one_of, car_words}
use Rattle.objects.specs.Locate.{locate}
use Rattle.claims.specs.declared.Claim.{Claim}
use Rattle.moves.specs.Moves.{Carrying, moved_to}

-- what the word of a reference or a root becomes: the table tells of a word that leads into the car where its object is now
abbrev pub fixed : (car : ℕ) → (forward : List ℕ) → (word : ℕ) → ℕ
fixed car forward w = if w / car_words == car then slice_index forward (w % car_words) else w

-- the word at an address is fixed
abbrev pub fix_at : (car : ℕ) → (forward : List ℕ) → (address : ℕ) → List ℕ → List ℕ
fix_at car forward a words = slice_set words a (fixed car forward (slice_index words a))

-- those at some addresses, one after another
abbrev pub fix_each : (car : ℕ) → (forward addresses : List ℕ) → List ℕ → List ℕ
fix_each car forward [] words = words
fix_each car forward (a ∷ more) words = fix_each car forward more (fix_at car forward a words)

-- where the references of an object stand, by what its header tells, from number i on; n of them
abbrev pub references_from : Offsets → (object i n : ℕ) → List ℕ
references_from o a i zero = []
references_from o a i (suc n) = (a + o.ref_at i) ∷ references_from o a (i + 1) n

abbrev pub references : Offsets → (object : ℕ) → List ℕ
references o a = references_from o a 0 o.refs

-- what the header of a claimed object tells; it is read where the object stood
abbrev pub told_of : (decoded : ℕ → Offsets) → List ℕ → (car : ℕ) → Claim → Offsets
told_of decoded words car c = decoded (slice_index words (car_words * car + c.place))

-- where the references of the claimed objects stand once they were moved
abbrev pub moved_references : (decoded : ℕ → Offsets) → (words forward : List ℕ) → (car : ℕ) → List Claim → List ℕ
moved_references decoded words forward car order = flat_map (λ c. references (told_of decoded words car c) (slice_index forward c.place)) order

-- an address of memory, outside of the car
abbrev pub IsOutside : (car address : ℕ) → Type 0
IsOutside car a = (a < 8192) × (a / car_words ≢ car)

-- the words at these addresses were fixed, and all others are as they were
pub record Corrected (car : ℕ) (forward : List ℕ) (addresses v w : List ℕ) : Type 0 where
  pub words : (k : ℕ) → slice_index w k ≡ (if one_of k addresses then fixed car forward (slice_index v k) else slice_index v k)

abbrev pub addresses_of : List Slot → List ℕ
addresses_of ss = map (λ s. s.address) ss

-- where the references of an object stand, by the addresses of objects
abbrev pub own_references : ShapeTable → (at : ℕ → ℕ) → Obj → List ℕ
own_references M at o = addresses_of (ref_slots M o.body.shape 0 o.id (at o.id) 0 o.body.refs)

-- the trains when all objects were placed
abbrev pub moved_out : Carrying → Trains
moved_out q = moved_to q (length q.row)

-- the references in the trains hold what lies in them, and the objects that were there before are where the trains say
pub record CanFix (q : Carrying) : Type 0 where
  pub closed : AllByRecursion (Points (λ y. 1 ≤ times y (objects (moved_out q)))) (objects (moved_out q))
  pub others : (y : ℕ) → 1 ≤ times y (objects q.trains) → q.at y ≡ locate q.trains y

-- these are addresses of slots, and among them are those of all slots that hold a moved object
pub record Suffices (M : ShapeTable) (q : Carrying) (addresses : List ℕ) : Type 0 where
  pub only : (k : ℕ) → one_of k addresses ≡ true → one_of k (addresses_of (slots M 0 (moved_out q))) ≡ true
  pub all : AllByRecursion (λ s. target_among (claimed q.row) s.target ≡ true → one_of s.address addresses ≡ true) (slots M 0 (moved_out q))
