-- The line that spells a call.
use Rattle.std.specs.Prelude.{◌≡◌, ℕ, ◌≤◌, List, [], ◌∷◌, codes}
use Rattle.std.specs.Fmt.{decimal, signed_decimal}
use Rattle.std.specs.List.{join_with_byte}
use Rattle.calls.specs.declared.call.Access.{Access}
use Rattle.calls.specs.declared.call.Access.TheVariants as access
use Rattle.calls.specs.declared.call.Call.{Call}
use Rattle.calls.specs.declared.call.Call.TheVariants as call
use Rattle.calls.specs.Numbers.{FitsLift}

-- the words of a call on what the roots hold
abbrev pub access_words : Access → List (List ℕ)
access_words (access.Link root slot from) = codes "link" ∷ decimal root ∷ decimal slot ∷ decimal from ∷ []
access_words (access.Follow root from slot) = codes "follow" ∷ decimal root ∷ decimal from ∷ decimal slot ∷ []
access_words (access.Drop root) = codes "drop" ∷ decimal root ∷ []
access_words (access.Put root word value) = codes "put" ∷ decimal root ∷ decimal word ∷ decimal value ∷ []
access_words (access.Lift root word by) = codes "lift" ∷ decimal root ∷ decimal word ∷ signed_decimal by ∷ []
access_words (access.Get root word) = codes "get" ∷ decimal root ∷ decimal word ∷ []
access_words (access.Words root room) = codes "words" ∷ decimal root ∷ decimal room ∷ []
access_words (access.Same root other) = codes "same" ∷ decimal root ∷ decimal other ∷ []

-- the words of a call: its name, and then its numbers in their order
abbrev pub call_words : Call → List (List ℕ)
call_words (call.Make root kind refs words) = codes "make" ∷ decimal root ∷ decimal kind ∷ decimal refs ∷ decimal words ∷ []
call_words (call.Access a) = access_words a
call_words call.Step = codes "step" ∷ []
call_words call.Tally = codes "tally" ∷ []

-- the bytes that spell a call: its words, with one space between two
abbrev pub spelled : Call → List ℕ
spelled c = join_with_byte 32 (call_words c)

-- from 0 to 4,294,967,295
abbrev pub FitsWord : ℕ → Type 0
FitsWord n = n ≤ 4294967295

-- a script can have this call on what the roots hold
abbrev pub IsScriptAccess : Access → Type 0
IsScriptAccess (access.Link root slot from) = FitsWord root × FitsWord slot × FitsWord from
IsScriptAccess (access.Follow root from slot) = FitsWord root × FitsWord from × FitsWord slot
IsScriptAccess (access.Drop root) = FitsWord root
IsScriptAccess (access.Put root word value) = FitsWord root × FitsWord word × FitsWord value
IsScriptAccess (access.Lift root word by) = FitsWord root × FitsWord word × FitsLift by
IsScriptAccess (access.Get root word) = FitsWord root × FitsWord word
IsScriptAccess (access.Words root room) = ⊥
IsScriptAccess (access.Same root other) = FitsWord root × FitsWord other

-- a script can have this call: its numbers are in their range, and it is not `words`
abbrev pub IsScriptCall : Call → Type 0
IsScriptCall (call.Make root kind refs words) = FitsWord root × FitsWord kind × FitsWord refs × FitsWord words
IsScriptCall (call.Access a) = IsScriptAccess a
IsScriptCall call.Step = Unit {0}
IsScriptCall call.Tally = Unit {0}

-- the line is a script's spelling of the call
pub record Spells (line : List ℕ) (c : Call) : Type 0 where
  pub bytes : line ≡ spelled c
  pub call : IsScriptCall c
