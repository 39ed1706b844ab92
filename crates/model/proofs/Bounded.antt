-- The words in use, bounded by the list of the reachable objects.
use Rattle.std.proofs.Common.{◌≡◌, ℕ, ◌≤◌, true, List, [], ◌∷◌, ◌++◌, arith}
use Rattle.std.specs.Prelude.{slice_get}
use Rattle.layout.specs.ShapeTable.{ShapeTable, Lawful}
use Rattle.model.specs.Calls.{History}
use Rattle.model.specs.Plain.{graph_of}
use Rattle.model.specs.Trains.{one_of}
use Rattle.model.specs.Space.{space_of, Use}
use Rattle.model.specs.Reach.{SpaceReaches}
use Rattle.model.specs.Laws.{WordsInUseAreOfTheReachableAndTheNew, BoundedBy, enough_steps, size_of, steps}
use Rattle.model.proofs.Distinct.{sum_within}
use Rattle.model.proofs.Reached.{reachable_listed}
use Rattle.model.proofs.WasteLaws.{words_bounded}

pub words_law : WordsInUseAreOfTheReachableAndTheNew
words_law M law h u = record { listed = reachable_listed M law h; bounded = λ xs list more on_use. words_bounded M law h u xs list more on_use }

use_before : (M : ShapeTable) (more h : History) → Use M (more ++ h) → Use M h
use_before M [] h u = u
use_before M (e ∷ more) h u = use_before M more h u.1

-- a list that has at least the reachable objects bounds them too
pub words_bounded_within : (M : ShapeTable) → Lawful M → (h more : History) → Use M (more ++ h) → enough_steps (space_of M h) ≤ steps more
    → (xs : List ℕ) → ((x : ℕ) → SpaceReaches (space_of M h) x → one_of x xs ≡ true) → BoundedBy M h more xs
words_bounded_within M law h more u many xs reached =
    let w = words_law M law h (use_before M more h u) in
    let ys = w.listed.0 in
    let list = w.listed.1 in
    let fewer = sum_within (λ x. size_of (slice_get (graph_of M (more ++ h)).entries x)) ys xs list.once (λ x e. reached x (list.only x e)) in
    omega (arith, w.bounded ys list more (record { use_after = u; many = many }), fewer)
