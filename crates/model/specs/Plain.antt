-- The plain graph: nothing is ever lost in it. An object's identity is its entry's number.
use Rattle.std.specs.Prelude.{ℕ, zero, suc, Bool, List, [], ◌∷◌, ◌++◌, length, replicate, Some, None, slice_set, slice_get}
use Rattle.calls.specs.declared.call.Call.{Call}
use Rattle.calls.specs.declared.call.Call.TheVariants.{Make, Access, Step, Tally}
use Rattle.layout.specs.ShapeTable.{ShapeTable}
use Rattle.model.specs.Calls.{done, History, is_full}
use Rattle.model.specs.Bodies.{Body, Roots, shape_of, new_body, with_ref, with_value, root_count, is_root, Effect, leave, hold, point, store, response, Outcome, outcome, make_outcome}

pub record Graph : Type 0 where
  pub entries : List Body
  pub roots : Roots

abbrev pub no_entries : Graph
no_entries = record { entries = []; roots = replicate root_count None }

abbrev pub alter_entry : ℕ → (Body → Body) → List Body → List Body
alter_entry x f [] = []
alter_entry zero f (b ∷ bs) = f b ∷ bs
alter_entry (suc x) f (b ∷ bs) = b ∷ alter_entry x f bs

abbrev pub with_effect : Effect → Graph → Graph
with_effect leave g = g
with_effect (hold r h) g = record { entries = g.entries; roots = slice_set g.roots r h }
with_effect (point x i h) g = record { entries = alter_entry x (with_ref i h) g.entries; roots = g.roots }
with_effect (store x w v) g = record { entries = alter_entry x (with_value w v) g.entries; roots = g.roots }

-- a new entry, and the root holds it
abbrev pub with_entry : Body → ℕ → Graph → Graph
with_entry b r g = record { entries = g.entries ++ (b ∷ []); roots = slice_set g.roots r (Some (length g.entries)) }

-- it is told whether the space refused a make as full; a step and a tally do nothing to the graph, and it gives no reply to
-- them that anything rests on
abbrev pub plain : ShapeTable → (was_full : Bool) → Call → Graph → Outcome Graph
plain M was_full (Make r k a b) g =
    make_outcome (is_root r) (new_body M (shape_of k a b)) (λ x. was_full) g (λ x. with_entry x r g)
plain M was_full (Access c) g = let p = response (slice_get g.entries) g.roots c in outcome (with_effect p.effect g) p.reply
plain M was_full Step g = outcome g done
plain M was_full Tally g = outcome g done

-- the graph after a history, fed only the calls and which makes were refused as full
abbrev pub graph_of : ShapeTable → History → Graph
graph_of M [] = no_entries
graph_of M (e ∷ h) = (plain M (is_full e.reply) e.call (graph_of M h)).state
