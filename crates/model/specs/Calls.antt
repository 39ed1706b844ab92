-- What a call gives back, and the history of a use.
use Rattle.std.specs.Prelude.{ℕ, Bool, true, false, List, [], ◌∷◌, Some, None, Option, ⊤}
use Rattle.calls.specs.declared.call.Call.{Call}
use Rattle.calls.specs.declared.answer.Answer.{Answer}
use Rattle.calls.specs.declared.answer.Answer.TheVariants.{Refused, Done, Value, Words, Same, Tally, Step}
use Rattle.calls.specs.declared.answer.Refusal.{Refusal}
use Rattle.calls.specs.declared.answer.Refusal.TheVariants.{Root, Empty, Missing, Shape, Full, Range, Buffer}
use Rattle.remembered.specs.Updates.{Pairs}

-- a call's answer, and the words that it puts to the front of the caller's buffer
pub record Reply : Type 0 where
  pub answer : Answer
  pub written : List ℕ

-- an answer with nothing written
abbrev pub answered : Answer → Reply
answered a = record { answer = a; written = [] }

abbrev pub refused : Refusal → Reply
refused n = answered (Refused n)

abbrev pub done : Reply
done = answered Done

-- a call, its reply, and the pairs that the remembered set had as the call began
pub record Event : Type 0 where
  pub call : Call
  pub reply : Reply
  pub pairs : Pairs

-- the newest event first
abbrev pub History : Type 0
History = List Event

-- P holds of each event and the history before it
abbrev pub AtEach : (Event → History → Type 0) → History → Type 0
AtEach P [] = ⊤
AtEach P (e ∷ h) = P e h × AtEach P h

-- why a call was refused, if it was
abbrev pub refusal_in : Answer → Option Refusal
refusal_in (Refused n) = Some n
refusal_in Done = None
refusal_in (Value v) = None
refusal_in (Words n) = None
refusal_in (Same b) = None
refusal_in (Tally u) = None
refusal_in (Step r) = None

abbrev pub is_full_refusal : Refusal → Bool
is_full_refusal Root = false
is_full_refusal Empty = false
is_full_refusal Missing = false
is_full_refusal Shape = false
is_full_refusal Full = true
is_full_refusal Range = false
is_full_refusal Buffer = false

abbrev pub is_full_answer : Answer → Bool
is_full_answer (Refused n) = is_full_refusal n
is_full_answer Done = false
is_full_answer (Value v) = false
is_full_answer (Words n) = false
is_full_answer (Same b) = false
is_full_answer (Tally u) = false
is_full_answer (Step r) = false

-- whether a make was refused, since there is no room
abbrev pub is_full : Reply → Bool
is_full p = is_full_answer p.answer
