-- What the buffered set does, over any remembered set.
use Rattle.std.specs.Prelude.{◌≡◌, ℕ, ◌<◌, ◌≤◌, true, false, if◌then◌else◌, ◌||◌, List, [], ◌∷◌, ◌++◌, length, nat_lt}
use Rattle.remembered.specs.declared.Pair.{Pair}
use Rattle.remembered.specs.declared.Update.{Update}
use Rattle.remembered.specs.declared.Update.TheVariants.{Note, Forget}
use Rattle.remembered.specs.Laws.{new_in}
use Rattle.remembered.specs.Leads.{Leads}
use Rattle.remembered.specs.Pairs.{pair, within, without}
use Rattle.remembered.specs.Updates.{Pairs, Updates}

-- all pairs of a list are in range
abbrev pub Ranged : List Pair → Type 0
Ranged ps = (c a : ℕ) → within ps c a ≡ true → (c < 64) × (a < 8192)

-- the pairs that a set and a list have together
abbrev pub with_held : Pairs → List Pair → Pairs
with_held has ps c a = has c a || within ps c a

-- what a set was told when the pairs of a list are noted in their order
abbrev pub sent : List Pair → Updates → Updates
sent [] us = us
sent (p ∷ ps) us = sent ps (Note p.car p.address ∷ us)

-- what a note does to the set below and to the pairs held
pub record BufferNoted {S : Type 0} (has : S → Pairs) (says : S → Update → S → Type 0) (s : S) (hs : List Pair) (c a : ℕ) (t : S) (ks : List Pair) : Type 0 where
  -- noting a pair that is not new alters nothing
  pub same : new_in (with_held (has s) hs) c a ≡ false → (t ≡ s) × (ks ≡ hs)
  -- a new pair is held where fewer than 16 are, else the 16 are sent down first
  pub holds : new_in (with_held (has s) hs) c a ≡ true → length hs < 16 → (t ≡ s) × (ks ≡ hs ++ (pair c a ∷ []))
  pub sends : new_in (with_held (has s) hs) c a ≡ true → 16 ≤ length hs → Leads has says s (sent hs []) t × (ks ≡ pair c a ∷ [])

-- what a forget does: the car is forgotten below too, and its held pairs are dropped
pub record BufferForgot {S : Type 0} (has : S → Pairs) (says : S → Update → S → Type 0) (s : S) (hs : List Pair) (c : ℕ) (t : S) (ks : List Pair) : Type 0 where
  pub below_told : Leads has says s (Forget c ∷ []) t
  pub held_dropped : ks ≡ without c hs

-- what a buffered set says of an update
abbrev pub BufferSays : {S : Type 0} → (S → Pairs) → (S → Update → S → Type 0) → S → List Pair → Update → S → List Pair → Type 0
BufferSays has says s hs (Note c a) t ks = BufferNoted has says s hs c a t ks
BufferSays has says s hs (Forget c) t ks = BufferForgot has says s hs c t ks

-- what the set below was told, and the pairs held, the oldest first
pub record Buffer : Type 0 where
  pub below : Updates
  pub held : List Pair

-- the pairs below and the pairs held, where the set below has what it was told means
abbrev pub buffer_in : (Updates → Pairs) → Buffer → Pairs
buffer_in m β = with_held (m β.below) β.held

-- a new pair is held; if there is no room for it among 16, all held pairs are sent down first; another alters nothing
abbrev pub buffer_note : (Updates → Pairs) → ℕ → ℕ → Buffer → Buffer
buffer_note m c a β =
    if new_in (buffer_in m β) c a then (
    if nat_lt (length β.held) 16 then record { below = β.below; held = β.held ++ (pair c a ∷ []) }
    else record { below = sent β.held β.below; held = pair c a ∷ [] }
    ) else β

-- the car is forgotten below, and its held pairs are dropped
abbrev pub buffer_forget : ℕ → Buffer → Buffer
buffer_forget c β = record { below = Forget c ∷ β.below; held = without c β.held }

-- the buffer over a set after what it was told
abbrev pub buffer_run : (Updates → Pairs) → Updates → Buffer
buffer_run m [] = record { below = []; held = [] }
buffer_run m (Note c a ∷ us) = buffer_note m c a (buffer_run m us)
buffer_run m (Forget c ∷ us) = buffer_forget c (buffer_run m us)

-- the pairs that a buffered set has then
abbrev pub buffered : (Updates → Pairs) → Updates → Pairs
buffered m us = buffer_in m (buffer_run m us)
