-- With an exact set, one whose pairs follow from what it was told, all replies follow from the calls alone.
use Rattle.std.specs.Prelude.{◌≡◌, ℕ, List, [], ◌∷◌, map}
use Rattle.calls.specs.declared.call.Call.{Call}
use Rattle.layout.specs.ShapeTable.{ShapeTable}
use Rattle.remembered.specs.Updates.{Pairs, Updates}
use Rattle.model.specs.Calls.{History, Reply, AtEach}
use Rattle.model.specs.Space.{act, space_of, updates_of, Use}

-- the use that calls make, the newest first, with a set that has the pairs which its updates mean
abbrev pub use_of : ShapeTable → (Updates → Pairs) → List Call → History
use_of M means [] = []
use_of M means (c ∷ cs) =
    let h = use_of M means cs in
    let P = means (updates_of M h) in
    record { call = c; reply = (act M c (space_of M h)).reply P; pairs = P } ∷ h

-- as each call began the set had the pairs which its updates mean
abbrev pub HasWhatIsMeant : ShapeTable → (Updates → Pairs) → History → Type 0
HasWhatIsMeant M means history = AtEach (λ e h. (c a : ℕ) → e.pairs c a ≡ means (updates_of M h) c a) history

abbrev pub calls_of : History → List Call
calls_of h = map (λ e. e.call) h

abbrev pub replies_of : History → List Reply
replies_of h = map (λ e. e.reply) h

abbrev pub ExactSetsReplyByTheCalls : Type 0
ExactSetsReplyByTheCalls =
    (M : ShapeTable) (means : Updates → Pairs) (h : History) → Use M h → HasWhatIsMeant M means h
    → replies_of h ≡ replies_of (use_of M means (calls_of h))
