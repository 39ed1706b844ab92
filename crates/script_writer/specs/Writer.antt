-- The output lines, and where they are written.
use Rattle.std.specs.Prelude.{◌≡◌, ℕ, ◌+◌, ◌<◌, ◌≤◌, Bool, List, [], ◌∷◌, ◌++◌, length, take, drop, Some, None, codes, Option}
use Rattle.calls.specs.declared.answer.Answer.{Answer}
use Rattle.calls.specs.declared.answer.Answer.TheVariants.{Refused, Done, Value, Words, Same, Tally, Step}
use Rattle.calls.specs.declared.answer.StepKind.{StepKind}
use Rattle.calls.specs.declared.answer.StepKind.TheVariants.{Idle, Train, Car}
use Rattle.calls.specs.declared.faults.PlayerFault.{PlayerFault}
use Rattle.calls.specs.declared.faults.PlayerFault.TheVariants.{Reader}
use Rattle.calls.specs.Faults.{fault_number, fault_position}
use Rattle.calls.specs.Answers.{refusal_number}
use Rattle.std.specs.Fmt.{decimal}
use Rattle.std.specs.Int.{from_bool}

-- the kind of a step's report
abbrev pub kind_word : StepKind → List ℕ
kind_word Idle = codes "idle"
kind_word Train = codes "train"
kind_word Car = codes "car"

-- yes is 1, and no is 0
abbrev pub flag : Bool → List ℕ
flag b = decimal (from_bool b)

-- a space before each part, and byte 10 behind the last
abbrev pub spaced : List (List ℕ) → List ℕ
spaced [] = 10 ∷ []
spaced (p ∷ ps) = 32 ∷ (p ++ spaced ps)

-- 0, or the number of the refusal
abbrev pub code_of : Answer → ℕ
code_of (Refused r) = refusal_number r
code_of _ = 0

-- what stands behind the code
abbrev pub parts : Answer → List (List ℕ)
parts (Refused r) = []
parts Done = []
parts (Value n) = decimal n ∷ []
parts (Words n) = decimal n ∷ []
parts (Same b) = flag b ∷ []
parts (Tally u) = decimal u.words ∷ decimal u.cars ∷ decimal u.trains ∷ flag u.mark ∷ []
parts (Step s) =
    kind_word s.kind ∷ decimal s.out ∷ decimal s.back ∷ decimal s.copied ∷ decimal s.lost ∷ decimal s.looked ∷ decimal s.cars ∷ []

-- the line that answers a call
abbrev pub answer_line : Answer → List ℕ
answer_line a = decimal (code_of a) ++ spaced (parts a)

-- the line of a data word, or of how many there are
abbrev pub value_line : ℕ → List ℕ
value_line n = decimal 0 ++ spaced (decimal n ∷ [])

-- the line that tells a fault, as `reader 9 line 4 at 8`
abbrev pub fault_line : PlayerFault → List ℕ
fault_line (Reader f) =
    codes "reader" ++ spaced (decimal (fault_number f) ∷ codes "line" ∷ decimal (fault_position f).line ∷ codes "at" ∷ decimal (fault_position f).place ∷ [])

-- the buffer with these bytes from `at` on, and all its other bytes as they were
abbrev pub laid : List ℕ → ℕ → List ℕ → List ℕ
laid buffer at bytes = take at buffer ++ (bytes ++ drop (at + length bytes) buffer)

-- the line is whole in the buffer, no longer than 64 bytes, and next is the place behind it
pub record WritesLineAt (before : List ℕ) (at : ℕ) (line after : List ℕ) (next : ℕ) : Type 0 where
  pub room : at + 64 ≤ length before
  pub bytes : after ≡ laid before at line
  pub behind : next ≡ at + length line
  pub short : length line ≤ 64

-- a line is written where 64 bytes stand behind `at`; elsewhere the buffer stays as it was
abbrev pub WritesLine : List ℕ → ℕ → List ℕ → List ℕ → Option ℕ → Type 0
WritesLine before at line after None = (length before < at + 64) × (after ≡ before)
WritesLine before at line after (Some next) = WritesLineAt before at line after next

-- some bytes are written, and next is the place behind them
pub record Puts (before : List ℕ) (at : ℕ) (bytes after : List ℕ) (next : ℕ) : Type 0 where
  pub fits : at + length bytes ≤ length before
  pub bytes_at : after ≡ laid before at bytes
  pub behind : next ≡ at + length bytes
