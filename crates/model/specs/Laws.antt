-- The laws over whole uses, for every layout and whatever the remembered set.
use Rattle.std.specs.Prelude.{◌≡◌, ℕ, ◌+◌, ◌-◌, ◌*◌, ◌<◌, ◌≤◌, true, false, List, [], ◌∷◌, ◌++◌, length, take, Some, None, Option, slice_index_or, slice_get, sum_by, count_by, option_map, unwrap_or, Bool, nat_eq}
use Rattle.std.specs.List.{range_with_len, AllByRecursion, IsDistinct}
use Rattle.calls.specs.declared.call.Call.{Call}
use Rattle.calls.specs.declared.call.Call.TheVariants.{Make, Access, Step, Tally}
use Rattle.calls.specs.declared.answer.Answer.TheVariants.{Step as Stepped}
use Rattle.calls.specs.declared.answer.Refusal.TheVariants.{Full}
use Rattle.calls.specs.declared.answer.Report.{Report}
use Rattle.layout.specs.ShapeTable.{ShapeTable, Lawful}
use Rattle.model.specs.Calls.{Reply, refused, Event, History, is_full, AtEach}
use Rattle.model.specs.Bodies.{Body, shape_of, new_body, size, is_root}
use Rattle.model.specs.Plain.{Graph, graph_of, plain}
use Rattle.model.specs.Trains.{Trains, train_objects, words_in_use, cars_in_use, numbers, one_of, times, inside, capacity, car_count, car_words}
use Rattle.model.specs.Step.{placing}
use Rattle.model.specs.Space.{Model, space_of, Use, all_objects, carried}
use Rattle.model.specs.Sound.{Sound}
use Rattle.model.specs.Reach.{GraphReaches, SpaceReaches, Unreachable}
use Rattle.model.specs.Claims.{MoveRequest}

-- a law of each use, with one layout
abbrev pub EachUse : (ShapeTable → History → Type 0) → ShapeTable → Type 0
EachUse Law M = (h : History) → Use M h → Law M h

-- a law with every lawful layout
abbrev pub Everywhere : (ShapeTable → Type 0) → Type 0
Everywhere Law = (M : ShapeTable) → Lawful M → Law M

-- the reply to a make and to a call on the roots' objects is the plain graph's; it gives none to a step or a tally
abbrev pub PlainReply : ShapeTable → Call → Reply → Graph → Type 0
PlainReply M (Make r k a b) reply g = reply ≡ (plain M (is_full reply) (Make r k a b) g).reply
PlainReply M (Access c) reply g = reply ≡ (plain M false (Access c) g).reply
PlainReply M Step reply g = Unit {0}
PlainReply M Tally reply g = Unit {0}

abbrev pub PlainReplies : ShapeTable → History → Type 0
PlainReplies M history = AtEach (λ e h. PlainReply M e.call e.reply (graph_of M h)) history

-- a make of a lawful root and an admitted shape is refused as full exactly when words in use and its size exceed the capacity
pub record FullExactly (M : ShapeTable) (e : Event) (m : Model) : Type 0 where
  pub only : (r k a b : ℕ) → e.call ≡ Make r k a b → e.reply ≡ refused Full
      → (x : Body) × (new_body M (shape_of k a b) ≡ Some x) × (capacity < words_in_use m.trains + size x)
  pub always : (r k a b : ℕ) (x : Body) → e.call ≡ Make r k a b → is_root r ≡ true → new_body M (shape_of k a b) ≡ Some x
      → capacity < words_in_use m.trains + size x → e.reply ≡ refused Full

abbrev pub FullExactlyWhen : ShapeTable → History → Type 0
FullExactlyWhen M history = AtEach (λ e h. FullExactly M e (space_of M h)) history

-- what the roots reach in the space is what they reach in the graph: identities match entries one to one, with equal shapes
-- (so equal counts and offsets), equal data words, and references that hold matched ones
pub record SameReach (g : Graph) (m : Model) : Type 0 where
  pub roots : m.roots ≡ g.roots
  pub forth : (x : ℕ) → GraphReaches g x → SpaceReaches m x
  pub back : (x : ℕ) → SpaceReaches m x → GraphReaches g x
  pub once : (x : ℕ) → GraphReaches g x → times x (all_objects m) ≡ 1
  pub bodies : (x : ℕ) → GraphReaches g x → inside (all_objects m) x ≡ slice_get g.entries x

pub record AnswersAsTheGraph (M : ShapeTable) (h : History) : Type 0 where
  pub replies : PlainReplies M h
  pub full_when : FullExactlyWhen M h
  pub same : SameReach (graph_of M h) (space_of M h)

-- every reply is the plain graph's, and the roots reach the same in both
abbrev pub AnswersAreThePlainGraphs : Type 0
AnswersAreThePlainGraphs = Everywhere (EachUse AnswersAsTheGraph)

abbrev pub is_step : Call → Bool
is_step (Make r k a b) = false
is_step (Access c) = false
is_step Step = true
is_step Tally = false

abbrev pub steps : History → ℕ
steps h = count_by (λ e. is_step e.call) h

-- no first train lasts for more steps
abbrev pub train_steps : ℕ
train_steps = 99840

-- no unreachable object lies in a train of a rank above j, and a mark on one does not send it above j
pub record WasteUpTo (j : ℕ) (m : Model) : Type 0 where
  pub lies : (k x : ℕ) → j < k → 1 ≤ times x (train_objects (slice_index_or m.trains k [])) → Unreachable m x → ⊥
  pub marked : (w : MoveRequest) → m.mark ≡ Some w → j < w.rank → Unreachable m w.who → ⊥

-- a use goes on after h by what is more, with at least n further steps
pub record GoesOn (M : ShapeTable) (h : History) (n : ℕ) (more : History) : Type 0 where
  pub use_after : Use M (more ++ h)
  pub many : n ≤ steps more

-- however the use goes on, with so many further steps no object that was unreachable at the halt lies in a car
abbrev pub GoneAfter : ShapeTable → History → ℕ → Type 0
GoneAfter M h n =
    (more : History) → GoesOn M h n more → (x : ℕ) → Unreachable (space_of M h) x → times x (all_objects (space_of M (more ++ h))) ≡ 0

-- waste is gone after as many times the steps of a train as there are ranks up to j
abbrev pub GoneByRank : ShapeTable → History → Type 0
GoneByRank M h = (j : ℕ) → WasteUpTo j (space_of M h) → GoneAfter M h ((j + 1) * train_steps)

-- the same by the number of trains: so many steps are enough for all waste
abbrev pub enough_steps : Model → ℕ
enough_steps m = (length m.trains + 1) * train_steps

abbrev pub GoneByTrains : ShapeTable → History → Type 0
GoneByTrains M h = GoneAfter M h (enough_steps (space_of M h))

abbrev pub WasteNearTheFrontLeavesSooner : Type 0
WasteNearTheFrontLeavesSooner = Everywhere (EachUse GoneByRank)

abbrev pub WasteLeavesInCountedSteps : Type 0
WasteLeavesInCountedSteps = Everywhere (EachUse GoneByTrains)

-- the sizes of the objects of these identities
abbrev pub size_of : Option Body → ℕ
size_of b = unwrap_or (option_map size b) 0

abbrev pub sizes : List Body → List ℕ → ℕ
sizes es xs = sum_by (λ x. size_of (slice_get es x)) xs

-- a list of the reachable objects, each once
pub record ListsReachable (m : Model) (xs : List ℕ) : Type 0 where
  pub once : IsDistinct nat_eq xs
  pub all : (x : ℕ) → SpaceReaches m x → one_of x xs ≡ true
  pub only : (x : ℕ) → one_of x xs ≡ true → SpaceReaches m x

-- after so many steps no more words are in use than the reachable objects of the halt have, together with those made since; the
-- latter have the identities from there on
abbrev pub BoundedBy : ShapeTable → (h more : History) → List ℕ → Type 0
BoundedBy M h more xs =
    let m = space_of M h in
    let n = space_of M (more ++ h) in
    let es = (graph_of M (more ++ h)).entries in
    words_in_use n.trains ≤ sizes es xs + sizes es (range_with_len m.made (n.made - m.made))

-- there is a list of the reachable objects, and with each such list the words are bounded
pub record WordsBoundedAt (M : ShapeTable) (h : History) : Type 0 where
  pub listed : (xs : List ℕ) × ListsReachable (space_of M h) xs
  pub bounded : (xs : List ℕ) → ListsReachable (space_of M h) xs
      → (more : History) → GoesOn M h (enough_steps (space_of M h)) more → BoundedBy M h more xs

abbrev pub WordsInUseAreOfTheReachableAndTheNew : Type 0
WordsInUseAreOfTheReachableAndTheNew = Everywhere (EachUse WordsBoundedAt)

-- the cars while a step goes on and n objects were placed; the first car, not yet freed, stands apart as a train of its own
abbrev pub moment : ℕ → Model → Trains → Trains
moment n m [] = []
moment n m ([] ∷ ts) = [] ∷ ts
moment n m ((f ∷ cs) ∷ ts) = (f ∷ []) ∷ placing f (take n (carried f cs ts m).taken) (cs ∷ ts)

-- a car is in one place: numbers are below 64 and no two cars have the same
pub record CarsApart (ts : Trains) : Type 0 where
  pub below : AllByRecursion (λ n. n < car_count) (numbers ts)
  pub differ : IsDistinct nat_eq (numbers ts)

-- at most 57 cars are in use, so some number below 64 is free: no car in use has it
pub record FreeCar (ts : Trains) : Type 0 where
  pub few : cars_in_use ts ≤ 57
  pub free : ℕ
  pub there : free < car_count
  pub unused : one_of free (numbers ts) ≡ false

-- a step answers a report, and the words copied are at most those of a car
abbrev pub CopiesFew : Reply → Type 0
CopiesFew p = (r : Report) × ((p.answer ≡ Stepped r) × (r.copied ≤ car_words))

abbrev pub CopiesFewIfStep : Call → Reply → Type 0
CopiesFewIfStep (Make r k a b) p = Unit {0}
CopiesFewIfStep (Access c) p = Unit {0}
CopiesFewIfStep Step p = CopiesFew p
CopiesFewIfStep Tally p = Unit {0}

abbrev pub CopiesFewEach : History → Type 0
CopiesFewEach h = AllByRecursion (λ e. CopiesFewIfStep e.call e.reply) h

pub record StepsNeverFailAt (M : ShapeTable) (h : History) : Type 0 where
  -- cars and trains stand as they should, and each car is in one place
  pub stands : Sound (space_of M h)
  pub apart : CarsApart (space_of M h).trains
  -- the same at each moment of a step made then, the car that is emptied among the others: no object goes into a car in use
  pub apart_in_a_step : (n : ℕ) → CarsApart (moment n (space_of M h) (space_of M h).trains)
  -- a car is free at the halt and at each of those moments
  pub free : FreeCar (space_of M h).trains
  pub free_in_a_step : (n : ℕ) → FreeCar (moment n (space_of M h) (space_of M h).trains)
  pub copies : CopiesFewEach h
  -- what is reachable lies in a car, and each reference of an object in a car, waste too, holds an object in a car or none
  pub nothing_lost : (x : ℕ) → SpaceReaches (space_of M h) x → times x (all_objects (space_of M h)) ≡ 1
  pub nothing_dangles : (x y i : ℕ) (b : Body) → inside (all_objects (space_of M h)) x ≡ Some b → slice_index_or b.refs i None ≡ Some y → times y (all_objects (space_of M h)) ≡ 1

-- a step always finds a free car, copies little, loses nothing reachable and leaves nothing dangling
abbrev pub StepsNeverFail : Type 0
StepsNeverFail = Everywhere (EachUse StepsNeverFailAt)

-- all the laws for one layout
pub record LawsOf (M : ShapeTable) : Type 0 where
  pub answers : EachUse AnswersAsTheGraph M
  pub never_fail : EachUse StepsNeverFailAt M
  pub sooner : EachUse GoneByRank M
  pub counted : EachUse GoneByTrains M
  pub words_bounded : EachUse WordsBoundedAt M
