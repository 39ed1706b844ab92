-- What follows for a space with its set from what its calls do to the memory.
use Rattle.std.specs.Prelude.{◌≡◌, ℕ, [], ◌∷◌}
use Rattle.calls.specs.declared.call.Call.{Call}
use Rattle.layout.specs.declared.Shape.{Shape}
use Rattle.layout.specs.ShapeTable.{ShapeTable}
use Rattle.remembered.specs.declared.Update.{Update}
use Rattle.remembered.specs.Laws.{Keeps, HasNone}
use Rattle.remembered.specs.Leads.{Leads}
use Rattle.remembered.specs.Updates.{Pairs, Updates, no_pairs, still_noted}
use Rattle.model.specs.Calls.{Reply, History}
use Rattle.model.specs.Exact.{use_of, calls_of, replies_of}
use Rattle.model.specs.Notes.{tell}
use Rattle.model.specs.Space.{opening, act, space_of, updates_of, Use}
use Rattle.memory.specs.Heap.{Heap}
use Rattle.memory.specs.Stands.{Stands, Continues, ContinuesTelling}
use Rattle.uses.specs.Held.{Held}
use Rattle.uses.specs.Uses.{Went, Brings, event, GoesOn, IsTold, RefusesFirst}

abbrev pub held : {R : Type 0} → Heap → R → Held R
held heap set = record { heap = heap; set = set }

pub record CallsGoOn {R : Type 0} (M : ShapeTable) (code : Shape → ℕ) (has : R → Pairs) (says : R → Update → R → Type 0) : Type 0 where
  -- a memory with nothing in it, and a set in any state
  pub opened : (heap : Heap) (set : R) → Stands M code opening heap → Brings M code has says [] (held heap set)
  -- a call that tells the set nothing goes on from every history, and refuses as the table of refusals says
  pub quiet : (call : Call) (reply : Reply) (before after : Heap) (set : R) → Continues M code call reply before after
      → GoesOn M code has says call reply (held before set) (held after set)
      × IsTold M code has says call (held before set) (held after set)
      × RefusesFirst M code has says call reply (held before set)
  -- so does a link, which tells the set what it notes
  pub links : (call : Call) (reply : Reply) (before after : Heap) (old new : R) → ContinuesTelling M code has says call reply before after old new
      → GoesOn M code has says call reply (held before old) (held after new) × RefusesFirst M code has says call reply (held before old)
  -- so does any call whose reply is the model's with the pairs that the set has, whose memory stands for the space after it, and
  -- which tells the set what the model says
  pub any_call : (call : Call) (reply : Reply) (before after : Heap) (old new : R) (h : History) → Brings M code has says h (held before old)
      → reply ≡ (act M call (space_of M h)).reply (has old) → Stands M code (act M call (space_of M h)).state after
      → Leads has says old (tell (act M call (space_of M h)).updates []) new
      → Brings M code has says (event call reply (has old) ∷ h) (held after new)
  -- whatever pairs the set came with, it has what is still noted
  pub overlooks : (h : History) (s : Held R) → Brings M code has says h s → Keeps (still_noted no_pairs (updates_of M h)) (has s.set)

-- with an exact set that began with no pair all replies follow from the calls alone
abbrev pub RepliesFollow : {R : Type 0} → ShapeTable → (R → Pairs) → (R → Update → R → Type 0) → (Updates → Pairs) → Type 0
RepliesFollow {R = R} M has says means =
    (s t : R) (h : History) → HasNone (has s) → Use M h → Went M has says s h t → replies_of h ≡ replies_of (use_of M means (calls_of h))
