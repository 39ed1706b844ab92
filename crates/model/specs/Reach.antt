-- What the roots reach.
use Rattle.std.specs.Prelude.{◌≡◌, ℕ, ◌<◌, Some, None, Option, slice_index_or, slice_get}
use Rattle.model.specs.Bodies.{Body, Roots, held}
use Rattle.model.specs.Plain.{Graph}
use Rattle.model.specs.Trains.{inside}
use Rattle.model.specs.Space.{Model, all_objects}

-- a root holds it, or a reference of something reached
pub data Reaches (rs : Roots) (find : ℕ → Option Body) : ℕ → Type 0 where
  by_root : {x : ℕ} (r : ℕ) → held rs r ≡ Some x → Reaches rs find x
  by_ref : {x y : ℕ} (i : ℕ) (b : Body) → Reaches rs find x → find x ≡ Some b → slice_index_or b.refs i None ≡ Some y → Reaches rs find y

abbrev pub GraphReaches : Graph → ℕ → Type 0
GraphReaches g x = Reaches g.roots (slice_get g.entries) x

abbrev pub SpaceReaches : Model → ℕ → Type 0
SpaceReaches m x = Reaches m.roots (inside (all_objects m)) x

-- made, and not reached from the roots
pub record Unreachable (m : Model) (x : ℕ) : Type 0 where
  pub old : x < m.made
  pub unreached : SpaceReaches m x → ⊥
