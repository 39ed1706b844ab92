-- Data words are words: below 4,294,967,296, if the values that are put are.
use Rattle.std.specs.Prelude.{ℕ, ◌<◌}
use Rattle.std.specs.List.{AllByRecursion}
use Rattle.calls.specs.declared.call.Call.{Call}
use Rattle.calls.specs.declared.call.Call.TheVariants.{Make, Access, Step, Tally}
use Rattle.calls.specs.declared.call.Access.{Access as OnRoots}
use Rattle.calls.specs.declared.call.Access.TheVariants.{Link, Follow, Drop, Put, Lift, Get, Words, Same}
use Rattle.layout.specs.ShapeTable.{ShapeTable}
use Rattle.model.specs.Calls.{History}
use Rattle.model.specs.Space.{space_of, all_objects}

-- a word is a number below this
abbrev pub word_limit : ℕ
word_limit = 4294967296

abbrev pub PutsAWordBy : OnRoots → Type 0
PutsAWordBy (Link r i q) = Unit {0}
PutsAWordBy (Follow r q i) = Unit {0}
PutsAWordBy (Drop r) = Unit {0}
PutsAWordBy (Put r w v) = v < word_limit
PutsAWordBy (Lift r w by) = Unit {0}
PutsAWordBy (Get r w) = Unit {0}
PutsAWordBy (Words r n) = Unit {0}
PutsAWordBy (Same r q) = Unit {0}

-- a call puts a word, if it puts anything
abbrev pub PutsAWord : Call → Type 0
PutsAWord (Make r k a b) = Unit {0}
PutsAWord (Access c) = PutsAWordBy c
PutsAWord Step = Unit {0}
PutsAWord Tally = Unit {0}

-- where only words were put, each data word of an object in a car is a word, of waste too
abbrev pub DataWordsAreWords : Type 0
DataWordsAreWords =
    (M : ShapeTable) (h : History) → AllByRecursion (λ e. PutsAWord e.call) h
    → AllByRecursion (λ o. AllByRecursion (λ v. v < word_limit) o.body.values) (all_objects (space_of M h))
