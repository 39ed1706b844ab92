-- What a step has to do.
use Rattle.std.specs.Prelude.{◌≡◌, []}
use Rattle.calls.specs.declared.answer.Report.{Report}
use Rattle.layout.specs.declared.Shape.{Shape}
use Rattle.std.specs.Prelude.{ℕ}
use Rattle.layout.specs.ShapeTable.{ShapeTable}
use Rattle.remembered.specs.declared.Update.{Update}
use Rattle.remembered.specs.Leads.{Leads}
use Rattle.remembered.specs.Updates.{Pairs}
use Rattle.model.specs.Notes.{tell}
use Rattle.model.specs.Space.{Acted, reported}
use Rattle.memory.specs.Heap.{Heap}
use Rattle.memory.specs.Stands.{Stands}

-- the memory stands for the space that a call leads to, the report is the call's reply with the pairs that the set had, and what
-- the call tells the set leads it from one state to the other
pub record Steps {S : Type 0} (M : ShapeTable) (code : Shape → ℕ) (has : S → Pairs) (says : S → Update → S → Type 0) (a : Acted) (report : Report)
    (after : Heap) (set set_after : S) : Type 0 where
  pub stands : Stands M code a.state after
  pub reply : a.reply (has set) ≡ reported report
  pub told : Leads has says set (tell a.updates []) set_after
