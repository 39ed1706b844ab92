-- The words of a line.
use Rattle.std.specs.Prelude.{ℕ, ◌+◌, ◌-◌, Bool, true, false, List, [], ◌∷◌, length, Option}
use Rattle.std.specs.Borrow.{Bor}
use Rattle.std.specs.List.{slice_split}
use Rattle.std.specs.Option.{option_map_or}
use Rattle.script_reader.specs.declared.words.Word as lent
use Rattle.script_reader.specs.declared.words.Token.{Token}
use Rattle.script_reader.specs.declared.words.Token.TheVariants.{Name, Number}
use Rattle.script_reader.specs.Lines.{is_byte}

-- a piece of a line with the place where it begins
pub record Word : Type 0 where
  pub text : List ℕ
  pub place : ℕ

-- the first piece begins at `at`, and each other one behind the space that ends the one before
abbrev pub placed : ℕ → List (List ℕ) → List Word
placed at [] = []
placed at (p ∷ ps) = record { text = p; place = at } ∷ placed (at + length p + 1) ps

-- the words of a line, which is cut at every single space, so that one may be empty; the first begins at 0
abbrev pub words : List ℕ → List Word
words line = placed 0 (slice_split (is_byte 32) line)

-- the words of what is left of a line at its end
abbrev pub words_left : List ℕ → Option (Bor (List ℕ)) → List Word
words_left line rest = option_map_or (λ r. placed (length line - length r.now) (slice_split (is_byte 32) r.now)) rest []

-- a word's text without the reference to it, and its place
abbrev pub piece : lent.Word → Word
piece w = record { text = w.text.now; place = w.place }

-- a token's piece of the line and its place
abbrev pub seen : Token → Word
seen (Name word) = piece word
seen (Number word) = piece word

-- whether a token is a call's name
abbrev pub is_name : Token → Bool
is_name (Name word) = true
is_name (Number word) = false
