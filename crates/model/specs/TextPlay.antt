-- What a script plays to, byte for byte.
use Rattle.std.specs.Prelude.{ℕ, ◌+◌, List, [], ◌∷◌, ◌++◌, Ok, Err, flat_map}
use Rattle.layout.specs.ShapeTable.{ShapeTable}
use Rattle.remembered.specs.Updates.{Pairs, Updates}
use Rattle.script_reader.specs.Lines.{lines}
use Rattle.script_reader.specs.Reader.{player_of}
use Rattle.script_writer.specs.Writer.{answer_line, fault_line}
use Rattle.model.specs.Space.{Model, opening, act}
use Rattle.model.specs.Notes.{tell}

-- the output of lines that are still to come, the first of which has the number n: a line for each, until a fault of the
-- reader, whose line is the last; the set has the pairs which its updates mean
abbrev pub rest_played : ShapeTable → (Updates → Pairs) → (n : ℕ) → Model → Updates → List (List ℕ) → List ℕ
rest_played M means n m us [] = []
rest_played M means n m us (line ∷ ls) =
    elim (player_of n line) [
      | Err fault ↦ fault_line fault
      | Ok call ↦
          let a = act M call m in
          answer_line (a.reply (means us)).answer ++ rest_played M means (n + 1) a.state (tell a.updates us) ls
    ]

-- a script's output, with a set that starts with no pair
abbrev pub played : ShapeTable → (Updates → Pairs) → List ℕ → List ℕ
played M means script = rest_played M means 1 opening [] (lines script)

-- lines as bytes, byte 10 behind each
abbrev pub text : List (List ℕ) → List ℕ
text ls = flat_map (λ l. l ++ 10 ∷ []) ls
