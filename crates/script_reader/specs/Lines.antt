-- A script's lines.
use Rattle.std.specs.Prelude.{◌≡◌, ℕ, ◌+◌, ◌<◌, ◌≤◌, min, Bool, cond, ◌&&◌, List, [], ◌∷◌, length, drop, Some, None, Option, ◌==◌, nat_le}
use Rattle.std.specs.Borrow.{Bor}
use Rattle.std.specs.List.{onto_first, slice_split, before_first, after_first}
use Rattle.std.specs.Option.{option_map_or}
use Rattle.script_reader.specs.declared.lines.Line.{Line}

-- whether b is the byte c
abbrev pub is_byte : ℕ → ℕ → Bool
is_byte c b = b == c

-- the lines of a script, without the byte 10 that ends each; bytes behind the last byte 10 are a line too
abbrev pub lines : List ℕ → List (List ℕ)
lines [] = []
lines (b ∷ bs) = cond (is_byte 10 b) ([] ∷ lines bs) (onto_first b (lines bs))

-- the number of lines of a script of at most 32,768 bytes and 512 lines, none of a larger one
abbrev pub lines_within : List ℕ → Option ℕ
lines_within script = cond (nat_le (length script) 32768 && nat_le (length (lines script)) 512) (Some (length (lines script))) None

-- l is the first line of what stands in the script from start on, and behind it the other lines follow
pub record BeginsLine (script : List ℕ) (start : ℕ) (l : Line) : Type 0 where
  pub inside : start < length script
  pub first : lines (drop start script) ≡ l.text.now ∷ lines (drop l.next script)
  pub next : l.next ≡ min (start + length l.text.now + 1) (length script)

-- a line begins at start if the script goes on there
abbrev pub LineAt : List ℕ → ℕ → Option Line → Type 0
LineAt script start None = length script ≤ start
LineAt script start (Some l) = BeginsLine script start l

-- going from line to line, at first to the one at start and from each on to its `next`, until no line begins there, meets
-- these texts
pub data Walks (script : List ℕ) : ℕ → List (List ℕ) → Type 0 where
  ends : {start : ℕ} → LineAt script start None → Walks script start []
  goes_on : {start : ℕ} {texts : List (List ℕ)} (l : Line) → LineAt script start (Some l) → Walks script l.next texts → Walks script start (l.text.now ∷ texts)

-- from the front of each script there is a walk, each walk meets the script's lines in their order, and they are as many as
-- are counted
pub record WalksMeetLines : Type 0 where
  pub walked : (script : List ℕ) → Walks script 0 (lines script)
  pub in_order : (script : List ℕ) (texts : List (List ℕ)) → Walks script 0 texts → texts ≡ lines script
  pub counted : (script : List ℕ) (texts : List (List ℕ)) (n : ℕ) → Walks script 0 texts → lines_within script ≡ Some n → length texts ≡ n

-- the bytes are cut at the first byte stop into what stands before it and what stands behind it, if it is there
pub record CutsAt (stop : ℕ) (bytes before : List ℕ) (behind : Option (Bor (List ℕ))) : Type 0 where
  pub first : before ≡ before_first (is_byte stop) bytes
  pub others : option_map_or (λ rest. rest.now) behind [] ≡ after_first (is_byte stop) bytes
  pub pieces : slice_split (is_byte stop) bytes ≡ before ∷ option_map_or (λ rest. slice_split (is_byte stop) rest.now) behind []
  pub whole : length bytes ≡ length before + option_map_or (λ rest. length rest.now + 1) behind 0

-- a script that is not empty is cut into its first line and what stands behind the byte that ends it
abbrev pub CutsLine : List ℕ → Option (Bor (List ℕ) × Bor (List ℕ)) → Type 0
CutsLine script None = script ≡ []
CutsLine script (Some l) = (0 < length script) × (lines script ≡ l.0.now ∷ lines l.1.now) × (l.1.now ≡ drop (length l.0.now + 1) script)
