-- Where the object that a root holds stands, and where one of its words does.
use Rattle.std.specs.Prelude.{◌≡◌, ℕ, ◌+◌, ◌<◌, true, List, length, Some, Ok, Err, Result, slice_index, nat_lt, if◌then◌else◌}
use Rattle.calls.specs.declared.answer.Refusal.{Refusal}
use Rattle.calls.specs.declared.answer.Refusal.TheVariants.{Root, Empty, Missing}
use Rattle.layout.specs.declared.Shape.{Shape}
use Rattle.layout.specs.ShapeTable.{ShapeTable}
use Rattle.model.specs.Calls.{History}
use Rattle.model.specs.Bodies.{Body, held, is_root, Response, refuse, object_of, unless, on_object}
use Rattle.model.specs.Trains.{inside}
use Rattle.model.specs.Notes.{ref_offset}
use Rattle.model.specs.Space.{Model, all_objects, space_of}
use Rattle.objects.specs.Locate.{locate}
use Rattle.objects.specs.Words.{word_offset}
use Rattle.memory.specs.Heap.{Heap}
use Rattle.memory.specs.Stands.{Stands}

-- what holds of each space that a memory stands for and a history leads to
abbrev pub AtEachSpace : ShapeTable → (Shape → ℕ) → Heap → (Model → Type 0) → Type 0
AtEachSpace M code s P = (h : History) → Stands M code (space_of M h) s → P (space_of M h)

-- the word of a root
abbrev pub root_word : List ℕ → ℕ → Result ℕ Refusal
root_word roots r = if is_root r then Ok (slice_index roots r) else Err Root

-- a word that is an address; a root whose word is none holds no object
abbrev pub address_of : ℕ → Result ℕ Refusal
address_of w = if nat_lt w 8192 then Ok w else Err Empty

-- the address of the object that a root holds
abbrev pub object_at : List ℕ → ℕ → Result ℕ Refusal
object_at roots r = if is_root r then address_of (slice_index roots r) else Err Root

-- the i-th word of some kind of the object that the root r holds stands at the address a
pub record Found (m : Model) (count : Body → ℕ) (offset : Body → ℕ → ℕ) (r i a : ℕ) : Type 0 where
  pub object : ℕ
  pub body : Body
  pub root : is_root r ≡ true
  pub held : held m.roots r ≡ Some object
  pub inside : inside (all_objects m) object ≡ Some body
  pub there : i < count body
  pub address : a ≡ locate m.trains object + offset body i

-- every call for such a word is refused with e
abbrev pub RefusesWord : Model → (count : Body → ℕ) → (r i : ℕ) → Refusal → Type 0
RefusesWord m count r i e =
    (k : ℕ → Body → Response) → on_object (is_root r) (object_of (inside (all_objects m)) (held m.roots r)) (λ x b. unless (nat_lt i (count b)) Missing (k x b)) ≡ refuse e

abbrev pub Finds : Model → (count : Body → ℕ) → (offset : Body → ℕ → ℕ) → (r i : ℕ) → Result ℕ Refusal → Type 0
Finds m count offset r i (Ok a) = Found m count offset r i a
Finds m count offset r i (Err e) = RefusesWord m count r i e

abbrev pub ref_count : Body → ℕ
ref_count b = length b.refs

abbrev pub word_count : Body → ℕ
word_count b = length b.values

-- where a reference stands behind its header, and where a data word does
abbrev pub ref_at : ShapeTable → Body → ℕ → ℕ
ref_at M b i = ref_offset M b.shape i

abbrev pub word_at : ShapeTable → Body → ℕ → ℕ
word_at M b j = word_offset M b.shape j
