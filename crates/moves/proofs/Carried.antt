-- How far moving has come, for one way to read the car.
use Rattle.std.proofs.Common.{◌≡◌, ℕ, List, take}
use Rattle.layout.specs.declared.Shape.{Shape}
use Rattle.layout.specs.ShapeTable.{ShapeTable}
use Rattle.model.specs.Step.{out_of, back_of, copied_of}
use Rattle.trains.specs.Fills.{Placement}
use Rattle.moves.specs.Moves.{Carrying, AreMoved}

pub record MovedSome (M : ShapeTable) (code : Shape → ℕ) (q : Carrying) (k : ℕ) (words forward : List ℕ) (p : Placement) (out back copied : ℕ) : Type 0 where
  pub moved : AreMoved M code q k words forward p
  pub out_is : out ≡ out_of (take k q.row)
  pub back_is : back ≡ back_of (take k q.row)
  pub copied_is : copied ≡ copied_of (take k q.row)
