-- What is asked for from outside the first train: by the first root, or else the first slot, that holds an object of it.
use Rattle.std.specs.Prelude.{ℕ, ◌/◌, Bool, List, Option, ◌==◌, find, option_map, slice_index}
use Rattle.std.specs.Option.{option_or}
use Rattle.layout.specs.declared.Shape.{Shape}
use Rattle.layout.specs.ShapeTable.{ShapeTable}
use Rattle.remembered.specs.Laws.{Keeps}
use Rattle.remembered.specs.Updates.{Pairs, no_pairs, still_noted}
use Rattle.model.specs.Calls.{History}
use Rattle.model.specs.Trains.{car_words}
use Rattle.model.specs.Space.{space_of, updates_of}
use Rattle.trains.specs.Fills.{TrainFill, arrival_of}
use Rattle.trains.specs.Orders.{rank_of}
use Rattle.memory.specs.declared.Mark.{Mark}
use Rattle.memory.specs.Heap.{Heap}
use Rattle.memory.specs.Stands.{Stands}

-- whether a word leads into the first train
abbrev pub leads_to_first : List TrainFill → ℕ → Bool
leads_to_first ts w = rank_of (w / car_words) ts == 0

abbrev pub to_rank : (rank word : ℕ) → Mark
to_rank k w = record { object = w; rank = k }

-- what the slot at an address holds, to the slot's own train
abbrev pub asked_at : Heap → ℕ → Mark
asked_at s a = to_rank (rank_of (a / car_words) s.trains.trains) (slice_index s.words a)

-- what the first root that leads into the first train holds, to the arrival rank; without one, what the slot asks for
abbrev pub first_asked : Heap → Option ℕ → Option Mark
first_asked s slot = option_or (option_map (to_rank (arrival_of s.trains.trains)) (find (leads_to_first s.trains.trains) s.roots)) (option_map (asked_at s) slot)

-- some history leads to a space that this memory stands for, and the pairs have all that was noted since
abbrev pub Remembers : ShapeTable → (Shape → ℕ) → Pairs → Heap → Type 0
Remembers M code P s = (h : History) × Stands M code (space_of M h) s × Keeps (still_noted no_pairs (updates_of M h)) P
