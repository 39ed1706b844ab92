-- What an object has inside, and what a call on the roots' objects answers and changes.
use Rattle.std.specs.Prelude.{ℕ, ◌+◌, ◌-◌, Bool, ◌&&◌, List, length, replicate, ℤ, pos, negsuc, Some, None, Option, nat_le, nat_lt, slice_index, slice_index_or, slice_set, nat_eq, option_and_then, option_map, if◌then◌else◌}
use Rattle.std.specs.Option.{option_eq}
use Rattle.calls.specs.declared.call.Access.{Access}
use Rattle.calls.specs.declared.call.Access.TheVariants.{Link, Follow, Drop, Put, Lift, Get, Words, Same}
use Rattle.calls.specs.declared.answer.Answer.TheVariants.{Value, Words as Wrote, Same as Alike}
use Rattle.calls.specs.declared.answer.Refusal.{Refusal}
use Rattle.calls.specs.declared.answer.Refusal.TheVariants.{Root, Empty, Missing, Shape as NoShape, Full, Range, Buffer}
use Rattle.layout.specs.ShapeTable.{Offsets, ShapeTable}
use Rattle.layout.specs.declared.Shape.{Shape}
use Rattle.model.specs.Calls.{Reply, answered, refused, done}

-- a reference holds an identity or none
pub record Body : Type 0 where
  pub shape : Shape
  pub refs : List (Option ℕ)
  pub values : List ℕ

abbrev pub size : Body → ℕ
size b = 1 + (length b.refs + length b.values)

abbrev pub shape_of : (kind refs words : ℕ) → Shape
shape_of k r w = record { kind = k; refs = r; words = w }

-- a new object: as many references and data words as the layout says, all of them none or 0
abbrev pub fresh : Shape → Offsets → Body
fresh s o = record { shape = s; refs = replicate o.refs None; values = replicate o.words 0 }

-- a new object of a shape, or none if the layout does not admit it
abbrev pub new_body : ShapeTable → Shape → Option Body
new_body M s = option_map (fresh s) (M.offsets s)

abbrev pub with_ref : ℕ → Option ℕ → Body → Body
with_ref i h b = record { shape = b.shape; refs = slice_set b.refs i h; values = b.values }

abbrev pub with_value : ℕ → ℕ → Body → Body
with_value w v b = record { shape = b.shape; refs = b.refs; values = slice_set b.values w v }

abbrev pub root_count : ℕ
root_count = 32

abbrev pub Roots : Type 0
Roots = List (Option ℕ)

abbrev pub held : Roots → ℕ → Option ℕ
held rs r = slice_index_or rs r None

abbrev pub is_root : ℕ → Bool
is_root r = nat_lt r root_count

-- what a call changes: a root, a reference of an object, a data word of one, or nothing
pub data Effect : Type 0 where
  leave : Effect
  hold : (root : ℕ) → Option ℕ → Effect
  point : (object slot : ℕ) → Option ℕ → Effect
  store : (object word value : ℕ) → Effect

-- what a call on the roots' objects replies and changes
pub record Response : Type 0 where
  pub reply : Reply
  pub effect : Effect

abbrev pub refuse : Refusal → Response
refuse n = record { reply = refused n; effect = leave }

abbrev pub give : Reply → Effect → Response
give p e = record { reply = p; effect = e }

-- the object that a root holds, with its identity
abbrev pub object_of : (ℕ → Option Body) → Option ℕ → Option (ℕ × Body)
object_of find h = option_and_then (λ x. option_map (λ b. (x, b)) (find x)) h

-- a test that refuses with n where it fails; it takes the test's answer, since each refusal has a test of its own
abbrev pub unless : Bool → Refusal → Response → Response
unless ok n r = if ok then r else refuse n

abbrev pub on_found : Option (ℕ × Body) → (ℕ → Body → Response) → Response
on_found None k = refuse Empty
on_found (Some p) k = k p.0 p.1

-- root numbers first, then whether the root holds an object; which root numbers are tested is the call's affair
abbrev pub on_object : Bool → Option (ℕ × Body) → (ℕ → Body → Response) → Response
on_object roots-ok f k = unless roots-ok Root (on_found f k)

-- what a word is after a lift: none if it would leave 0 to 4,294,967,295
abbrev pub lifted : ℕ → ℤ → Option ℕ
lifted v (pos n) = if nat_le (v + n) 4294967295 then Some (v + n) else None
lifted v (negsuc n) = if nat_lt n v && nat_le (v - (n + 1)) 4294967295 then Some (v - (n + 1)) else None

abbrev pub store_lifted : (object word : ℕ) → Option ℕ → Response
store_lifted x w None = refuse Range
store_lifted x w (Some v) = give done (store x w v)

-- a call's reply and effect, where find tells what the object of an identity has inside
abbrev pub response : (ℕ → Option Body) → Roots → Access → Response
response find rs (Link r i q) =
    on_object (is_root r && is_root q) (object_of find (held rs r)) (λ x b. unless (nat_lt i (length b.refs)) Missing (give done (point x i (held rs q))))
response find rs (Follow r q i) =
    on_object (is_root r && is_root q) (object_of find (held rs q)) (λ x b. unless (nat_lt i (length b.refs)) Missing (give done (hold r (slice_index_or b.refs i None))))
response find rs (Drop r) = unless (is_root r) Root (give done (hold r None))
response find rs (Put r w v) =
    on_object (is_root r) (object_of find (held rs r)) (λ x b. unless (nat_lt w (length b.values)) Missing (give done (store x w v)))
response find rs (Lift r w by) =
    on_object (is_root r) (object_of find (held rs r)) (λ x b. unless (nat_lt w (length b.values)) Missing (store_lifted x w (lifted (slice_index b.values w) by)))
response find rs (Get r w) =
    on_object (is_root r) (object_of find (held rs r)) (λ x b. unless (nat_lt w (length b.values)) Missing (give (answered (Value (slice_index b.values w))) leave))
response find rs (Words r n) =
    on_object (is_root r) (object_of find (held rs r))
    (λ x b. unless (nat_le (length b.values) n) Buffer (give (record { answer = Wrote (length b.values); written = b.values }) leave))
response find rs (Same r q) =
    unless (is_root r && is_root q) Root (give (answered (Alike (option_eq nat_eq (held rs r) (held rs q)))) leave)

pub record Outcome (S : Type 0) : Type 0 where
  pub state : S
  pub reply : Reply

abbrev pub outcome : {S : Type 0} → S → Reply → Outcome S
outcome s p = record { state = s; reply = p }

-- a make of an admitted shape is refused if the state has no room for the object
abbrev pub make_admitted : {S : Type 0} → (is_filled : Body → Bool) → (before : S) → (after : Body → S) → Option Body → Outcome S
make_admitted is_filled before after None = outcome before (refused NoShape)
make_admitted is_filled before after (Some b) = if is_filled b then outcome before (refused Full) else outcome (after b) done

-- a make, by its tests in their order: the first that fails refuses, and leaves the state as it was before
abbrev pub make_outcome : {S : Type 0} → (root_ok : Bool) → Option Body → (is_filled : Body → Bool) → (before : S) → (after : Body → S) → Outcome S
make_outcome root_ok body is_filled before after =
    if root_ok then make_admitted is_filled before after body else outcome before (refused Root)
