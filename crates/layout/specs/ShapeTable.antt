-- Which shapes of objects a layout admits, and where the words of an object of each shape stand.
use Rattle.std.specs.Prelude.{◌≡◌, ℕ, ◌+◌, ◌<◌, ◌≤◌, Some, Option, ◌≢◌}
use Rattle.layout.specs.declared.Shape.{Shape}

-- how many references and data words an object has, and how far behind the header each of them stands
pub record Offsets : Type 0 where
  pub refs : ℕ
  pub words : ℕ
  pub ref_at : (i : ℕ) → ℕ
  pub word_at : (j : ℕ) → ℕ

-- how many kinds there are, and the words of an object of each shape: none if the shape is not admitted
pub record ShapeTable : Type 0 where
  pub kinds : ℕ
  pub offsets : Shape → Option Offsets

-- from 1 to 63 words behind the header: each has a place of its own there, references and data words in rising order
pub record Apart (o : Offsets) : Type 0 where
  pub some : 1 ≤ o.refs + o.words
  pub few : o.refs + o.words ≤ 63
  pub ref_inside : (i : ℕ) → i < o.refs → (1 ≤ o.ref_at i) × (o.ref_at i ≤ o.refs + o.words)
  pub word_inside : (j : ℕ) → j < o.words → (1 ≤ o.word_at j) × (o.word_at j ≤ o.refs + o.words)
  pub refs_rise : (i j : ℕ) → i < j → j < o.refs → o.ref_at i < o.ref_at j
  pub words_rise : (i j : ℕ) → i < j → j < o.words → o.word_at i < o.word_at j
  pub different : (i j : ℕ) → i < o.refs → j < o.words → o.ref_at i ≢ o.word_at j

-- what a layout owes: its kinds are counted from 0, and the words of an admitted shape stand apart
pub record Lawful (M : ShapeTable) : Type 0 where
  pub known : (s : Shape) (o : Offsets) → M.offsets s ≡ Some o → s.kind < M.kinds
  pub apart : (s : Shape) (o : Offsets) → M.offsets s ≡ Some o → Apart o

-- the references first, then the data words, without a gap
abbrev pub refs_first : (refs words : ℕ) → Offsets
refs_first p q = record { refs = p; words = q; ref_at = λ i. 1 + i; word_at = λ j. 1 + p + j }
