-- A step: the first car of the first train is emptied and freed.
use Rattle.std.specs.Prelude.{ℕ, zero, suc, List, [], ◌∷◌, ◌++◌, Some, None, Option, ◌==◌, map, find, option_to_list, if◌then◌else◌, count_by, not}
use Rattle.model.specs.Bodies.{Roots}
use Rattle.model.specs.Trains.{Obj, Car, Train, Trains, words_of, numbers, lowest_free, place_at, arrival, among}
use Rattle.model.specs.Claims.{MoveRequest, ref_requests, train_requests, trains_requests, Claim}

-- the first of the references that hold one of the objects
abbrev pub first_to : List Obj → List MoveRequest → Option MoveRequest
first_to os ws = find (λ w. among w.who os) ws

-- the references from outside the first train: the roots, which send to the arrival rank, then the slots of other trains
abbrev pub outside : Roots → Trains → Trains → List MoveRequest
outside rs all rest = ref_requests (arrival all) rs ++ trains_requests 1 rest

abbrev pub mark_requests : Option MoveRequest → List MoveRequest
mark_requests mk = option_to_list mk

-- all that may claim objects of the first car, in order: roots, the mark, slots of other trains, slots of the first train's other cars
abbrev pub requests : Roots → Option MoveRequest → Car → Train → Trains → List MoveRequest
requests rs mk f cs ts =
    ref_requests (arrival ((f ∷ cs) ∷ ts)) rs ++ (mark_requests mk ++ (trains_requests 1 ts ++ train_requests 0 cs))

-- each claimed object is placed in its train, while the cars numbered in busy are not free
abbrev pub place_all : (busy : List ℕ) → List Claim → Trains → Trains
place_all busy [] ts = ts
place_all busy (c ∷ row) ts = place_all busy row (place_at c.rank (lowest_free (busy ++ numbers ts)) c.object ts)

-- the trains behind the first car while it is emptied, once these objects were placed; its number is not free
abbrev pub placing : Car → List Claim → Trains → Trains
placing f row ts = place_all (f.number ∷ []) row ts

-- a first train without cars ends
abbrev pub trim : Trains → Trains
trim [] = []
trim ([] ∷ ts) = ts
trim ((c ∷ cs) ∷ ts) = (c ∷ cs) ∷ ts

-- how many of the claimed objects leave the first train, and how many go back into it
abbrev pub out_of : List Claim → ℕ
out_of row = count_by (λ c. not (c.rank == 0)) row

abbrev pub back_of : List Claim → ℕ
back_of row = count_by (λ c. c.rank == 0) row

abbrev pub claimed : List Claim → List Obj
claimed row = map (λ c. c.object) row

abbrev pub copied_of : List Claim → ℕ
copied_of row = words_of (claimed row)

-- a mark whose object lay in the freed car goes
abbrev pub mark_after : List Obj → Option MoveRequest → Option MoveRequest
mark_after f None = None
mark_after f (Some m) = if among m.who f then None else Some m

-- the guard against futile steps: with no mark, and no object that left the first train, a mark is set on the object of the
-- first outside reference
abbrev pub guard : Option MoveRequest → (out : ℕ) → MoveRequest → Option MoveRequest
guard (Some m) out w = Some m
guard None zero w = Some w
guard None (suc n) w = None
