-- How the claims of a car stand for objects with identities.
use Rattle.std.specs.Prelude.{◌≡◌, ℕ, ◌+◌, ◌-◌, ◌*◌, not, List, [], ◌++◌, Some, None, Option, map, filter, sum_by}
use Rattle.std.specs.List.{AllByRecursion, Contains}
use Rattle.layout.specs.declared.Shape.{Shape}
use Rattle.layout.specs.ShapeTable.{ShapeTable}
use Rattle.model.specs.Trains.{Obj, Car, among, car_words}
use Rattle.model.specs.Claims.{Claim as ObjectClaim, Taken, claim, all_to}
use Rattle.model.specs.Step.{claimed}
use Rattle.objects.specs.Lies.{CarStands, HoldsItsOwn, word_of}
use Rattle.claims.specs.declared.Claim.{Claim}

-- how many words behind the car's first word the object's header stands
abbrev pub place_of : (at : ℕ → ℕ) → Car → Obj → ℕ
place_of at f o = at o.id - car_words * f.number

-- an object claimed, as the words have it
abbrev pub claim_of : (at : ℕ → ℕ) → Car → ObjectClaim → Claim
claim_of at f c = record { place = place_of at f c.object; rank = c.rank }

-- these objects of the car are claimed in this order, and those are left
pub record Claimed (at : ℕ → ℕ) (f : Car) (taken : List ObjectClaim) (left : List Obj) (order : List Claim) : Type 0 where
  pub order_is : order ≡ map (claim_of at f) taken
  pub left_is : left ≡ filter (λ o. not (among o.id (claimed taken))) f.objects
  pub of_car : AllByRecursion (λ o. Contains f.objects o) (claimed taken)
  -- each object of the car is one of the two: any numbers added over both come out as over the car
  pub sums : (g : Obj → ℕ) → sum_by g (claimed taken) + sum_by g left ≡ sum_by g f.objects

-- what is claimed for a word that holds an object or none
abbrev pub claim_held : Option ℕ → List Obj → Taken Obj
claim_held None left = record { taken = []; left = left }
claim_held (Some x) left = claim x left

-- whatever objects the words of the car stand for: those are claimed that the definition takes out of the objects left
abbrev pub ClaimsHeld : ShapeTable → (Shape → ℕ) → List ℕ → (car rank word : ℕ) → (old new : List Claim) → Type 0
ClaimsHeld M code words car k word old new =
    (f : Car) (at : ℕ → ℕ) (h : Option ℕ) (taken : List ObjectClaim) (left : List Obj) → CarStands M code at words f → HoldsItsOwn at f
    → car ≡ f.number → word ≡ word_of at h → Claimed at f taken left old
    → Claimed at f (taken ++ all_to k (claim_held h left).taken) (claim_held h left).left new
