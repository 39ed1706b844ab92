-- Which objects a step carries out of a car, in which order, and to which train.
use Rattle.std.specs.Prelude.{ℕ, zero, suc, List, [], ◌∷◌, ◌++◌, length, Some, None, Option, ◌==◌, flat_map, map, filter_map, option_map, filter, not}
use Rattle.std.specs.List.{enumerate_from}
use Rattle.model.specs.Trains.{Obj, Train, Trains}

-- an identity, with the rank of the train that its object is to go to: what a reference or the mark asks of a step
pub record MoveRequest : Type 0 where
  pub who : ℕ
  pub rank : ℕ

abbrev pub request : (rank who : ℕ) → MoveRequest
request k x = record { who = x; rank = k }

abbrev pub ref_requests : ℕ → List (Option ℕ) → List MoveRequest
ref_requests k rs = filter_map (option_map (request k)) rs

abbrev pub object_requests : ℕ → List Obj → List MoveRequest
object_requests k os = flat_map (λ o. ref_requests k o.body.refs) os

-- the slots of a train, by car and then by address
abbrev pub train_requests : ℕ → Train → List MoveRequest
train_requests k t = flat_map (λ c. object_requests k c.objects) t

-- the slots of all trains from the rank k on
abbrev pub trains_requests : ℕ → Trains → List MoveRequest
trains_requests k ts = flat_map (λ p. train_requests p.0 p.1) (enumerate_from k ts)

-- what is taken out of a row of objects, in order, and the objects left
pub record Taken (X : Type 0) : Type 0 where
  pub taken : List X
  pub left : List Obj

-- the object of identity x, taken out
abbrev pub take_out : ℕ → List Obj → Taken Obj
take_out x os = record { taken = filter (λ o. x == o.id) os; left = filter (λ o. not (x == o.id)) os }

-- one row of taken objects in front of another
abbrev pub in_front : List Obj → Taken Obj → Taken Obj
in_front os t = record { taken = os ++ t.taken; left = t.left }

-- the objects left that the references hold, by number
abbrev pub scan : List (Option ℕ) → List Obj → Taken Obj
scan [] left = record { taken = []; left = left }
scan (None ∷ rs) left = scan rs left
scan (Some x ∷ rs) left = let t = take_out x left in in_front t.taken (scan rs t.left)

-- Cheney's order: what the references of the queue's objects hold, and so on in the order of taking;
-- each turn takes one object from the queue, so there are no more turns than objects
abbrev pub cheney : (turns : ℕ) → (queue left : List Obj) → Taken Obj
cheney zero queue left = record { taken = []; left = left }
cheney (suc n) [] left = record { taken = []; left = left }
cheney (suc n) (o ∷ queue) left = let t = scan o.body.refs left in in_front t.taken (cheney n (queue ++ t.taken) t.left)

-- the object of identity x if it is still left, and all that follows it
abbrev pub claim : ℕ → List Obj → Taken Obj
claim x left = let t = take_out x left in in_front t.taken (cheney (length left) t.taken t.left)

pub record Claim : Type 0 where
  pub object : Obj
  pub rank : ℕ

abbrev pub all_to : ℕ → List Obj → List Claim
all_to k os = map (λ o. record { object = o; rank = k }) os

-- the objects carried, in order, with their ranks, and those that nothing claimed
abbrev pub claims : List MoveRequest → List Obj → Taken Claim
claims [] left = record { taken = []; left = left }
claims (w ∷ ws) left =
    let t = claim w.who left in
    let c = claims ws t.left in
    record { taken = all_to w.rank t.taken ++ c.taken; left = c.left }
