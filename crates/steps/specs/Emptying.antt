-- Emptying the first car: what was claimed of it is moved into other trains, and all that held it is corrected.
use Rattle.std.specs.Prelude.{◌≡◌, ℕ, ◌<◌, ◌≤◌, List, ◌∷◌, ◌++◌, length, map, slice_index, option_map}
use Rattle.layout.specs.declared.Shape.{Shape}
use Rattle.layout.specs.ShapeTable.{ShapeTable}
use Rattle.model.specs.Bodies.{held}
use Rattle.model.specs.Calls.{History}
use Rattle.model.specs.Notes.{train_slots, slots}
use Rattle.model.specs.Remembered.{slots_into}
use Rattle.model.specs.Space.{Model, carried, space_of}
use Rattle.model.specs.Step.{placing, mark_after}
use Rattle.model.specs.Trains.{Car, Train, Trains, objects, times, words_in_use}
use Rattle.objects.specs.Lies.{word_of}
use Rattle.objects.specs.Locate.{locate}
use Rattle.objects.specs.Stand.{TrainsStand}
use Rattle.claims.specs.declared.Claim.{Claim}
use Rattle.claims.specs.Claimed.{claim_of}
use Rattle.memory.specs.Heap.{Heap}
use Rattle.memory.specs.Stands.{Stands, mark_at}
use Rattle.moves.specs.Fills.{emptying}
use Rattle.moves.specs.Fixes.{fixed, addresses_of}
use Rattle.moves.specs.Moves.{Carrying}

-- a history, and the first car of the space that it leads to, with the other cars of its train and the other trains
pub record Leaving : Type 0 where
  pub history : History
  pub first : Car
  pub cars : Train
  pub rest : Trains

-- the memory stands for that space; the claims are those of its first car, in order, and the slots are those that hold an
-- object of it
pub record CanEmptyFrom (M : ShapeTable) (code : Shape → ℕ) (m : Model) (f : Car) (cs : Train) (ts : Trains) (car : ℕ) (order : List Claim) (addresses : List ℕ) (s : Heap) : Type 0 where
  pub stands : Stands M code m s
  pub trains : m.trains ≡ (f ∷ cs) ∷ ts
  pub car_is : car ≡ f.number
  pub order_is : order ≡ map (claim_of (locate m.trains) f) (carried f cs ts m).taken
  pub slots_are : addresses ≡ addresses_of (slots_into f (train_slots M 1 cs ++ slots M (length (f ∷ cs)) ts))

abbrev pub CanEmpty : ShapeTable → (Shape → ℕ) → Leaving → (car : ℕ) → List Claim → (addresses : List ℕ) → Heap → Type 0
CanEmpty M code e car order addresses s = CanEmptyFrom M code (space_of M e.history) e.first e.cars e.rest car order addresses s

-- what goes out of the car, by where objects are before
abbrev pub carrying_of : Model → Car → Train → Trains → Carrying
carrying_of m f cs ts = record { at = locate m.trains; emptied = f; row = (carried f cs ts m).taken; trains = cs ∷ ts }

-- the trains once all that was claimed was placed; the emptied car is in none, and the first train may be without cars
abbrev pub placed_out : Model → Car → Train → Trains → Trains
placed_out m f cs ts = placing f (carried f cs ts m).taken (cs ∷ ts)

-- the words of the objects, the roots and the mark are those of the trains once all was placed; the table tells by an object's
-- old address where it is now
pub record IsEmptied (M : ShapeTable) (code : Shape → ℕ) (m : Model) (f : Car) (cs : Train) (ts : Trains) (forward : List ℕ) (s : Heap) : Type 0 where
  pub word_count : length s.words ≡ 8192
  pub root_word_count : length s.roots ≡ 32
  pub stand : TrainsStand M code (locate (placed_out m f cs ts)) s.words (placed_out m f cs ts)
  pub trains : s.trains ≡ emptying f (placed_out m f cs ts)
  pub roots : (r : ℕ) → r < 32 → slice_index s.roots r ≡ word_of (locate (placed_out m f cs ts)) (held m.roots r)
  pub mark : s.mark ≡ option_map (mark_at (placed_out m f cs ts)) (mark_after f.objects m.mark)
  pub used : s.used ≡ words_in_use m.trains
  pub forwards : (x : ℕ) → 1 ≤ times x (objects (placed_out m f cs ts)) → fixed f.number forward (locate m.trains x) ≡ locate (placed_out m f cs ts) x
