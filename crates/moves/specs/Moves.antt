-- Moving the claimed objects of the car that is emptied into their trains, one after another.
use Rattle.std.specs.Prelude.{◌≡◌, ℕ, ◌+◌, ◌/◌, ◌*◌, ◌<◌, ◌≤◌, List, [], ◌∷◌, length, map, take, slice_index, ◌≢◌}
use Rattle.std.specs.List.{AllByRecursion, Contains}
use Rattle.layout.specs.declared.Shape.{Shape}
use Rattle.layout.specs.ShapeTable.{ShapeTable}
use Rattle.model.specs.Claims.{Claim as ObjectClaim}
use Rattle.model.specs.Laws.{FreeCar}
use Rattle.model.specs.Step.{placing, claimed}
use Rattle.model.specs.Trains.{Car, Trains, objects, times, car_words, most_trains}
use Rattle.objects.specs.Lies.{ArePlaced}
use Rattle.objects.specs.Locate.{locate}
use Rattle.claims.specs.declared.Claim.{Claim}
use Rattle.claims.specs.Claimed.{place_of, claim_of}
use Rattle.trains.specs.Fills.{Placement}
use Rattle.moves.specs.Fills.{emptying}
use Rattle.moves.specs.Seats.{RowLies, cars_of}

-- the objects that go out of a car, with the ranks of the trains that they go to, where each object of the car is, and
-- the trains behind the car
pub record Carrying : Type 0 where
  pub at : ℕ → ℕ
  pub emptied : Car
  pub row : List ObjectClaim
  pub trains : Trains

-- the trains when k of the objects were placed
abbrev pub moved_to : Carrying → (k : ℕ) → Trains
moved_to q k = placing q.emptied (take k q.row) q.trains

-- the emptied car, and the cars of all trains
abbrev pub all_cars : Carrying → (k : ℕ) → List Car
all_cars q k = q.emptied ∷ cars_of (moved_to q k)

-- what is known as the moves begin
pub record CanMove (M : ShapeTable) (code : Shape → ℕ) (q : Carrying) (words : List ℕ) (p : Placement) : Type 0 where
  pub lies : RowLies M code q.at words (all_cars q 0)
  pub placed : ArePlaced q.at (car_words * q.emptied.number) q.emptied.objects
  pub of_car : AllByRecursion (λ o. Contains q.emptied.objects o) (claimed q.row)
  -- an object is claimed once, and is not in the trains
  pub once : (x : ℕ) → times x (claimed q.row) + times x (objects q.trains) ≤ 1
  pub ranks : AllByRecursion (λ c. (c.rank ≤ length q.trains) × (c.rank < most_trains)) q.row
  -- a car is free whenever an object is placed
  pub free : (k : ℕ) → FreeCar ((q.emptied ∷ []) ∷ moved_to q k)
  pub placement : p ≡ emptying q.emptied q.trains

-- k objects were moved: their words stand at their new places, the old ones are as they were, and the table tells by an
-- object's old place where it is now
pub record AreMoved (M : ShapeTable) (code : Shape → ℕ) (q : Carrying) (k : ℕ) (words forward : List ℕ) (p : Placement) : Type 0 where
  pub lies : RowLies M code q.at words (all_cars q k)
  pub placement : p ≡ emptying q.emptied (moved_to q k)
  pub forwards : AllByRecursion (λ o. slice_index forward (place_of q.at q.emptied o) ≡ locate (moved_to q k) o.id) (claimed (take k q.row))
  -- the table leads out of the car
  pub away : (i : ℕ) → i < car_words → slice_index forward i / car_words ≢ q.emptied.number

-- the car and the claims, in order, are those of a carrying that can begin
pub record Carries (M : ShapeTable) (code : Shape → ℕ) (words : List ℕ) (p : Placement) (car : ℕ) (order : List Claim) (q : Carrying) : Type 0 where
  pub ready : CanMove M code q words p
  pub car_is : car ≡ q.emptied.number
  pub order_is : order ≡ map (claim_of q.at q.emptied) q.row
