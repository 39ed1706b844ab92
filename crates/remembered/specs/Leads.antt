-- How updates lead from one state of a set to another, and what an exact set has then.
use Rattle.std.specs.Prelude.{◌≡◌, ℕ, ◌<◌, true, [], ◌∷◌}
use Rattle.remembered.specs.declared.Update.{Update}
use Rattle.remembered.specs.declared.Update.TheVariants.{Note, Forget}
use Rattle.remembered.specs.Laws.{HasNone, Keeps, KeepsOthers}
use Rattle.remembered.specs.Updates.{Pairs, Updates}

-- what every set keeps at an update: P are its pairs before and Q those after
abbrev pub KeepsFacts : Pairs → Update → Pairs → Type 0
KeepsFacts P (Note c a) Q = Keeps P Q × (c < 64 → a < 8192 → Q c a ≡ true)
KeepsFacts P (Forget c) Q = KeepsOthers c P Q

-- a set in one state can come to another by these updates, the newest first: each keeps the facts, and the set says of each
-- what it says
pub data Leads {S : Type 0} (has : S → Pairs) (says : S → Update → S → Type 0) : S → Updates → S → Type 0 where
  untold : (s : S) → Leads has says s [] s
  told : (s t v : S) (u : Update) (us : Updates) → Leads has says s us t → KeepsFacts (has t) u (has v) → says t u v → Leads has says s (u ∷ us) v

-- whichever way a set with no pair went, it has the pairs that the updates mean, and no others
abbrev pub IsExact : {S : Type 0} → (S → Pairs) → (S → Update → S → Type 0) → (Updates → Pairs) → Type 0
IsExact {S = S} has says means = (s t : S) (us : Updates) → HasNone (has s) → Leads has says s us t → (c a : ℕ) → has t c a ≡ means us c a
