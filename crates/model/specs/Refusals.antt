-- When a call is refused: each refusal's condition by itself, and the smallest number whose condition holds.
use Rattle.std.specs.Prelude.{◌≡◌, ℕ, Bool, false, not, List, [], ◌∷◌, Some, None, Option, length, nat_le, nat_lt, slice_get, find, map, option_and_then}
use Rattle.std.specs.List.{list_any}
use Rattle.std.specs.Option.{option_map_or, is_none}
use Rattle.calls.specs.declared.call.Call.{Call}
use Rattle.calls.specs.declared.call.Call.TheVariants.{Make, Access, Step, Tally}
use Rattle.calls.specs.declared.call.Access.TheVariants.{Link, Follow, Drop, Put, Lift, Get, Words, Same}
use Rattle.calls.specs.declared.answer.Refusal.{Refusal}
use Rattle.calls.specs.declared.answer.Refusal.TheVariants.{Root, Empty, Missing, Shape as NoShape, Full, Range, Buffer}
use Rattle.calls.specs.Answers.{refusal_number}
use Rattle.layout.specs.ShapeTable.{ShapeTable, Lawful}
use Rattle.remembered.specs.Updates.{Pairs}
use Rattle.model.specs.Calls.{History, refused, refusal_in}
use Rattle.model.specs.Bodies.{Body, held, is_root, lifted, shape_of, new_body}
use Rattle.model.specs.Trains.{inside}
use Rattle.model.specs.Space.{Model, all_objects, has_room, act, space_of}

-- the root numbers of a call
abbrev pub root_numbers : Call → List ℕ
root_numbers (Make r k a b) = r ∷ []
root_numbers (Access (Link r i q)) = r ∷ q ∷ []
root_numbers (Access (Follow r q i)) = r ∷ q ∷ []
root_numbers (Access (Drop r)) = r ∷ []
root_numbers (Access (Put r w v)) = r ∷ []
root_numbers (Access (Lift r w by)) = r ∷ []
root_numbers (Access (Get r w)) = r ∷ []
root_numbers (Access (Words r n)) = r ∷ []
root_numbers (Access (Same r q)) = r ∷ q ∷ []
root_numbers Step = []
root_numbers Tally = []

-- the root whose object is wanted, if a call wants one
abbrev pub wanted : Call → Option ℕ
wanted (Make r k a b) = None
wanted (Access (Link r i q)) = Some r
wanted (Access (Follow r q i)) = Some q
wanted (Access (Drop r)) = None
wanted (Access (Put r w v)) = Some r
wanted (Access (Lift r w by)) = Some r
wanted (Access (Get r w)) = Some r
wanted (Access (Words r n)) = Some r
wanted (Access (Same r q)) = None
wanted Step = None
wanted Tally = None

-- what the wanted object has inside
abbrev pub wanted_body : Model → Call → Option Body
wanted_body m c = option_and_then (inside (all_objects m)) (option_and_then (held m.roots) (wanted c))

-- whether the number of a reference or of a data word is too high for an object
abbrev pub lacks : Call → Body → Bool
lacks (Make r k a b) o = false
lacks (Access (Link r i q)) o = nat_le (length o.refs) i
lacks (Access (Follow r q i)) o = nat_le (length o.refs) i
lacks (Access (Drop r)) o = false
lacks (Access (Put r w v)) o = nat_le (length o.values) w
lacks (Access (Lift r w by)) o = nat_le (length o.values) w
lacks (Access (Get r w)) o = nat_le (length o.values) w
lacks (Access (Words r n)) o = false
lacks (Access (Same r q)) o = false
lacks Step o = false
lacks Tally o = false

-- what a make is to make, if the layout admits it
abbrev pub made_body : ShapeTable → Call → Option Body
made_body M (Make r k a b) = new_body M (shape_of k a b)
made_body M (Access c) = None
made_body M Step = None
made_body M Tally = None

-- whether a call is to make an object that the layout does not admit
abbrev pub makes_no_shape : ShapeTable → Call → Bool
makes_no_shape M (Make r k a b) = is_none (M.offsets (shape_of k a b))
makes_no_shape M (Access c) = false
makes_no_shape M Step = false
makes_no_shape M Tally = false

-- whether a lift would bring the data word below 0 or above 4,294,967,295
abbrev pub lifts_too_far : Call → Body → Bool
lifts_too_far (Access (Lift r w by)) o = option_map_or (λ v. is_none (lifted v by)) (slice_get o.values w) false
lifts_too_far _ o = false

-- whether there are more data words than the buffer has room for
abbrev pub is_too_short : Call → Body → Bool
is_too_short (Access (Words r n)) o = nat_lt n (length o.values)
is_too_short _ o = false

-- whether a refusal's condition holds of a call on a space
abbrev pub applies : ShapeTable → Model → Call → Refusal → Bool
-- a root number is 32 or more
applies M m c Root = list_any (λ r. not (is_root r)) (root_numbers c)
-- an object is wanted of a root that is empty
applies M m c Empty = option_map_or (λ r. is_none (held m.roots r)) (wanted c) false
-- the number of a reference or of a data word is too high for the object
applies M m c Missing = option_map_or (lacks c) (wanted_body m c) false
-- kind and numbers are no shape that the layout admits
applies M m c NoShape = makes_no_shape M c
-- words in use and the new object's size exceed the capacity
applies M m c Full = option_map_or (λ x. not (has_room x m)) (made_body M c) false
-- the lifted word would lie below 0 or above 4,294,967,295
applies M m c Range = option_map_or (lifts_too_far c) (wanted_body m c) false
-- there are more data words than the buffer has room for
applies M m c Buffer = option_map_or (is_too_short c) (wanted_body m c) false

-- all refusals, by their numbers
abbrev pub every_refusal : List Refusal
every_refusal = Root ∷ Empty ∷ Missing ∷ NoShape ∷ Full ∷ Range ∷ Buffer ∷ []

-- the refusal of the smallest number whose condition holds, if one does
abbrev pub first_refusal : ShapeTable → Model → Call → Option Refusal
first_refusal M m c = find (applies M m c) every_refusal

-- a call is refused exactly if a condition holds, with the smallest such number, whatever pairs the set has; then the space
-- stays as it was, the set is told nothing, and no word of the buffer is written
pub record RefusedAt (M : ShapeTable) (m : Model) (c : Call) : Type 0 where
  pub smallest : (P : Pairs) → refusal_in ((act M c m).reply P).answer ≡ first_refusal M m c
  pub nothing_written : (P : Pairs) (n : Refusal) → first_refusal M m c ≡ Some n → (act M c m).reply P ≡ refused n
  pub unchanged : (n : Refusal) → first_refusal M m c ≡ Some n → (act M c m).state ≡ m
  pub not_told : (n : Refusal) → first_refusal M m c ≡ Some n → (act M c m).updates ≡ []

pub record RefusalsFollowTheTable : Type 0 where
  pub by_number : map refusal_number every_refusal ≡ 1 ∷ 2 ∷ 3 ∷ 4 ∷ 5 ∷ 6 ∷ 7 ∷ []
  pub refused_at : (M : ShapeTable) → Lawful M → (h : History) (c : Call) → RefusedAt M (space_of M h) c
