-- What a memory holds, as clauses see it.
use Rattle.std.specs.Prelude.{ℕ, List, Option}
use Rattle.memory.specs.declared.Mark.{Mark}
use Rattle.trains.specs.Fills.{Placement}

pub record Heap : Type 0 where
  pub words : List ℕ
  pub roots : List ℕ
  pub trains : Placement
  pub mark : Option Mark
  pub used : ℕ
