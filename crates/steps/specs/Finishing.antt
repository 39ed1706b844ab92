-- The end of a step: what it still has to know once the first car was emptied.
use Rattle.std.specs.Prelude.{◌≡◌, ℕ, List, ◌∷◌, length, filter, flat_map}
use Rattle.layout.specs.declared.Shape.{Shape}
use Rattle.layout.specs.ShapeTable.{Offsets, ShapeTable}
use Rattle.model.specs.Notes.{corrected, slots}
use Rattle.model.specs.Space.{Model, carried, space_of}
use Rattle.model.specs.Step.{claimed, out_of, back_of, copied_of}
use Rattle.model.specs.Trains.{Car, Train, Trains}
use Rattle.objects.specs.Locate.{locate}
use Rattle.claims.specs.declared.Claim.{Claim}
use Rattle.memory.specs.Heap.{Heap}
use Rattle.moves.specs.Fixes.{addresses_of, moved_references, own_references}
use Rattle.steps.specs.Emptying.{Leaving, IsEmptied, placed_out}

-- the space is that of before the car was emptied; the slots are those that were corrected, where they are now; and the headers
-- in the emptied car, with the table, tell where the references of the moved objects are now
pub record CanFinishFrom (M : ShapeTable) (decoded : ℕ → Offsets) (m : Model) (f : Car) (cs : Train) (ts : Trains) (forward : List ℕ) (car : ℕ) (order : List Claim) (addresses words : List ℕ) : Type 0 where
  pub trains : m.trains ≡ (f ∷ cs) ∷ ts
  pub root_count : length m.roots ≡ 32
  pub car_is : car ≡ f.number
  pub slots_are : addresses ≡ addresses_of (filter (corrected (claimed (carried f cs ts m).taken)) (slots M 0 (placed_out m f cs ts)))
  pub references_are : moved_references decoded words forward car order ≡ flat_map (own_references M (locate (placed_out m f cs ts))) (claimed (carried f cs ts m).taken)

abbrev pub CanFinish : ShapeTable → (decoded : ℕ → Offsets) → Leaving → (forward : List ℕ) → (car : ℕ) → List Claim → (addresses words : List ℕ) → Type 0
CanFinish M decoded e forward car order addresses words = CanFinishFrom M decoded (space_of M e.history) e.first e.cars e.rest forward car order addresses words

-- the first car was emptied, this was counted, and so many of its objects are left
pub record CanEnd (M : ShapeTable) (code : Shape → ℕ) (decoded : ℕ → Offsets) (forward : List ℕ) (car : ℕ) (order : List Claim) (addresses : List ℕ) (out back copied lost : ℕ) (s : Heap) (e : Leaving) : Type 0 where
  pub emptied : IsEmptied M code (space_of M e.history) e.first e.cars e.rest forward s
  pub ready : CanFinish M decoded e forward car order addresses s.words
  pub out_is : out ≡ out_of (carried e.first e.cars e.rest (space_of M e.history)).taken
  pub back_is : back ≡ back_of (carried e.first e.cars e.rest (space_of M e.history)).taken
  pub copied_is : copied ≡ copied_of (carried e.first e.cars e.rest (space_of M e.history)).taken
  pub lost_is : lost ≡ length (carried e.first e.cars e.rest (space_of M e.history)).left
