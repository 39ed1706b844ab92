-- What contracts say of a buffered set.
use Rattle.std.specs.Prelude.{List}
use Rattle.remembered.specs.declared.Pair.{Pair}
use Rattle.remembered.specs.declared.buffered.Buffered.{Buffered}

-- the set that it stands over
abbrev pub set_below : {S : Type 0} → Buffered S → S
set_below b = b.below

-- the pairs that it holds, the oldest first
abbrev pub held_pairs : {S : Type 0} → Buffered S → List Pair
held_pairs b = b.held.items
