-- Which call a line asks for, or which fault it has.
use Rattle.std.specs.Prelude.{ℕ, ◌+◌, List, [], length, ℤ, Some, None, Ok, Err, Option, Result, slice_get}
use Rattle.std.specs.Option.{ok_or, unwrap_or}
use Rattle.std.specs.Result.{result_map_both}
use Rattle.calls.specs.declared.call.Call.{Call}
use Rattle.calls.specs.declared.call.Call.TheVariants as call
use Rattle.calls.specs.declared.call.Access.TheVariants as access
use Rattle.script_reader.specs.declared.names.Name.{Name}
use Rattle.script_reader.specs.declared.names.Name.TheVariants.{Make, Link, Follow, Drop, Put, Lift, Get, Same, Step, Tally}
use Rattle.calls.specs.declared.faults.WordFault.{WordFault}
use Rattle.calls.specs.declared.faults.LineFault.{LineFault}
use Rattle.calls.specs.declared.faults.PlayerFault.{PlayerFault}
use Rattle.script_reader.specs.Words.{Word, words}
use Rattle.script_reader.specs.Names.{called, count_of}
use Rattle.calls.specs.Numbers.{natural_of, integer_of}
use Rattle.calls.specs.Faults.{no_number, bad_words, line_fault, player_fault}

-- the first fault counts; where there is none, f goes on with the value
infixl 10 ◌>>=◌
abbrev pub ◌>>=◌ : {X Y E : Type 0} → Result X E → (X → Result Y E) → Result Y E
(Ok x) >>= f = f x
(Err e) >>= f = Err e

-- word k of a line; one that is missing stands, empty, at the line's end
abbrev pub word : List ℕ → ℕ → Word
word line k = unwrap_or (slice_get (words line) k) (record { text = []; place = length line })

-- word k of line n as a number of the range that `written` reads, or the word's fault
abbrev pub number_at : {X : Type 0} → (List ℕ → Option X) → ℕ → List ℕ → ℕ → Result X WordFault
number_at written n line k = ok_or (written (word line k).text) (no_number n (word line k).place)

-- word k of line n as a number from 0 to 4,294,967,295
abbrev pub natural_at : ℕ → List ℕ → ℕ → Result ℕ WordFault
natural_at n line k = number_at natural_of n line k

-- word k of line n as a number from -2,147,483,648 to 2,147,483,647
abbrev pub integer_at : ℕ → List ℕ → ℕ → Result ℤ WordFault
integer_at n line k = number_at integer_of n line k

-- the call with its numbers, in their order
abbrev pub numbers_of : Name → ℕ → List ℕ → Result Call WordFault
numbers_of Make n line = do
  root ← natural_at n line 1
  kind ← natural_at n line 2
  refs ← natural_at n line 3
  words ← natural_at n line 4
  Ok (call.Make root kind refs words)
numbers_of Link n line = do
  root ← natural_at n line 1
  slot ← natural_at n line 2
  from ← natural_at n line 3
  Ok (call.Access (access.Link root slot from))
numbers_of Follow n line = do
  root ← natural_at n line 1
  from ← natural_at n line 2
  slot ← natural_at n line 3
  Ok (call.Access (access.Follow root from slot))
numbers_of Drop n line = do
  root ← natural_at n line 1
  Ok (call.Access (access.Drop root))
numbers_of Put n line = do
  root ← natural_at n line 1
  word ← natural_at n line 2
  value ← natural_at n line 3
  Ok (call.Access (access.Put root word value))
numbers_of Lift n line = do
  root ← natural_at n line 1
  word ← natural_at n line 2
  by ← integer_at n line 3
  Ok (call.Access (access.Lift root word by))
numbers_of Get n line = do
  root ← natural_at n line 1
  word ← natural_at n line 2
  Ok (call.Access (access.Get root word))
numbers_of Same n line = do
  root ← natural_at n line 1
  other ← natural_at n line 2
  Ok (call.Access (access.Same root other))
numbers_of Step n line = Ok call.Step
numbers_of Tally n line = Ok call.Tally

-- the call that the first word names
abbrev pub name_of : ℕ → List ℕ → Result Name LineFault
name_of n line = ok_or (called (word line 0).text) (bad_words n 0)

-- behind the first word stand just `count` words: none is missing and none is surplus
abbrev pub counted : ℕ → List ℕ → ℕ → Result (Unit {0}) LineFault
counted n line count =
    elim (slice_get (words line) count) [
      | None ↦ Err (bad_words n (length line))
      | Some _ ↦ elim (slice_get (words line) (count + 1)) [ None ↦ Ok tt | Some w ↦ Err (bad_words n w.place) ]
    ]

-- what line n of a script asks for: its words are tested before its numbers
abbrev pub line_of : ℕ → List ℕ → Result Call LineFault
line_of n line = do
  name ← name_of n line
  _ ← counted n line (count_of name)
  result_map_both (λ call. call) line_fault (numbers_of name n line)

-- the same as the player is told it
abbrev pub player_of : ℕ → List ℕ → Result Call PlayerFault
player_of n line = result_map_both (λ call. call) player_fault (line_of n line)
