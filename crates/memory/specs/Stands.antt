-- How a memory stands for a space, and what a call on it has to do.
use Rattle.std.specs.Prelude.{◌≡◌, ℕ, ◌<◌, List, [], length, None, slice_index, option_map}
use Rattle.calls.specs.declared.call.Call.{Call}
use Rattle.layout.specs.declared.Shape.{Shape}
use Rattle.layout.specs.ShapeTable.{ShapeTable}
use Rattle.remembered.specs.declared.Update.{Update}
use Rattle.remembered.specs.Leads.{Leads}
use Rattle.remembered.specs.Updates.{Pairs}
use Rattle.model.specs.Calls.{Reply, History}
use Rattle.model.specs.Bodies.{held}
use Rattle.model.specs.Claims.{MoveRequest}
use Rattle.model.specs.Trains.{Trains, words_in_use}
use Rattle.model.specs.Notes.{tell}
use Rattle.model.specs.Space.{Model, act, space_of}
use Rattle.objects.specs.Lies.{word_of}
use Rattle.objects.specs.Locate.{locate}
use Rattle.objects.specs.Stand.{TrainsStand}
use Rattle.trains.specs.Fills.{Placement}
use Rattle.trains.specs.Ties.{fills}
use Rattle.memory.specs.declared.Mark.{Mark}
use Rattle.memory.specs.Heap.{Heap}

-- the trains, and no car that is being emptied
abbrev pub halted : Trains → Placement
halted ts = record { trains = fills ts; busy = None }

-- a mark by the address of its object
abbrev pub mark_at : Trains → MoveRequest → Mark
mark_at ts w = record { object = locate ts w.who; rank = w.rank }

-- this memory stands for the space m
pub record Stands (M : ShapeTable) (code : Shape → ℕ) (m : Model) (s : Heap) : Type 0 where
  pub word_count : length s.words ≡ 8192
  pub root_word_count : length s.roots ≡ 32
  pub root_count : length m.roots ≡ 32
  pub objects : TrainsStand M code (locate m.trains) s.words m.trains
  pub trains : s.trains ≡ halted m.trains
  pub roots : (r : ℕ) → r < 32 → slice_index s.roots r ≡ word_of (locate m.trains) (held m.roots r)
  pub mark : s.mark ≡ option_map (mark_at m.trains) m.mark
  pub used : s.used ≡ words_in_use m.trains

-- some history leads to a space that this memory stands for
abbrev pub Known : ShapeTable → (Shape → ℕ) → Heap → Type 0
Known M code s = (h : History) × Stands M code (space_of M h) s

-- a call on the space m is answered so, whichever pairs the remembered set has; the set is told this, in order, and the memory
-- then stands for the space after the call
pub record Acts (M : ShapeTable) (code : Shape → ℕ) (call : Call) (m : Model) (reply : Reply) (told : List Update) (after : Heap) : Type 0 where
  pub answered : (P : Pairs) → (act M call m).reply P ≡ reply
  pub updates : (act M call m).updates ≡ told
  pub stands : Stands M code (act M call m).state after

-- whichever history a memory stands for, this call, which tells the remembered set nothing, is answered so and leaves this
abbrev pub Continues : ShapeTable → (Shape → ℕ) → Call → Reply → (before after : Heap) → Type 0
Continues M code call reply before after = (h : History) → Stands M code (space_of M h) before → Acts M code call (space_of M h) reply [] after

-- the same of a call that may tell the set, where what it is told leads the set from one state to the other
abbrev pub ContinuesTelling : {S : Type 0} → ShapeTable → (Shape → ℕ) → (has : S → Pairs) → (says : S → Update → S → Type 0) → Call → Reply
    → (before after : Heap) → (set set_after : S) → Type 0
ContinuesTelling M code has says call reply before after set set_after =
    (h : History) → Stands M code (space_of M h) before
    → Acts M code call (space_of M h) reply (act M call (space_of M h)).updates after × Leads has says set (tell (act M call (space_of M h)).updates []) set_after
