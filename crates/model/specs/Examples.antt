-- Worked examples, with the product's layout: what scripts play to, and what holds of every space.
use Rattle.std.specs.Prelude.{◌≡◌, ℕ, true, List, [], ◌∷◌, length, Some, None, Err, codes, map}
use Rattle.std.specs.List.{AllByRecursion}
use Rattle.calls.specs.declared.call.Call.TheVariants.{Make, Access}
use Rattle.calls.specs.declared.call.Access.TheVariants.{Same}
use Rattle.calls.specs.declared.answer.Answer.TheVariants.{Same as Alike}
use Rattle.calls.specs.declared.answer.Refusal.TheVariants.{Full}
use Rattle.calls.specs.Faults.{player_fault, line_fault, no_number, bad_words}
use Rattle.script_reader.specs.Reader.{player_of}
use Rattle.layout.specs.Product.{product_table}
use Rattle.remembered.specs.Updates.{Pairs, Updates}
use Rattle.remembered.specs.Slots.{slot_has}
use Rattle.remembered.specs.Cards.{card_has}
use Rattle.model.specs.Calls.{answered, refused, History}
use Rattle.model.specs.Bodies.{Body, is_root, held, shape_of, new_body}
use Rattle.model.specs.Space.{Model, act, space_of}
use Rattle.model.specs.Exact.{calls_of}
use Rattle.model.specs.TextPlay.{played, text}

-- a script of these lines plays to these lines, with a set that means this
abbrev pub Plays : (Updates → Pairs) → (script output : List (List ℕ)) → Type 0
Plays means script output = played product_table means (text script) ≡ text output

-- two records hold each other and are let go; the first lies in the first train, the second in the next
abbrev pub cycle : List (List ℕ)
cycle =
    codes "make 0 0 1 1" ∷ codes "make 1 0 1 0" ∷ codes "link 0 0 1" ∷ codes "link 1 0 0" ∷ codes "drop 0" ∷ codes "drop 1"
    ∷ codes "step" ∷ codes "step" ∷ codes "tally" ∷ []

-- the first is carried to the train of the slot that holds it, then both go with that train
abbrev pub cycle_output : (looked : List ℕ) → List (List ℕ)
cycle_output line =
    codes "0" ∷ codes "0" ∷ codes "0" ∷ codes "0" ∷ codes "0" ∷ codes "0"
    ∷ line ∷ codes "0 train 0 0 0 2 0 1" ∷ codes "0 0 0 0 0" ∷ []

-- The first train has two cars, and nothing but a slot of its second car holds an object of the first: that one goes back, the
-- other of the first car is lost, and the object that a slot of the next train holds is marked. A pair of each car is looked at.
-- In the next step the marked object leaves the train, and what it holds follows it.
abbrev pub carried_back : List (List ℕ)
carried_back =
    codes "make 0 0 0 1" ∷ codes "make 1 1 63 0" ∷ codes "make 2 1 63 0" ∷ codes "make 3 1 63 0" ∷ codes "link 3 0 1" ∷ codes "drop 0"
    ∷ codes "step" ∷ codes "make 4 0 1 0" ∷ codes "link 4 0 3" ∷ codes "drop 1" ∷ codes "drop 2" ∷ codes "drop 3"
    ∷ codes "step" ∷ codes "tally" ∷ codes "step" ∷ codes "tally" ∷ []

abbrev pub carried_back_output : List (List ℕ)
carried_back_output =
    codes "0" ∷ codes "0" ∷ codes "0" ∷ codes "0" ∷ codes "0" ∷ codes "0"
    ∷ codes "0 train 0 0 0 1 0 1" ∷ codes "0" ∷ codes "0" ∷ codes "0" ∷ codes "0" ∷ codes "0"
    ∷ codes "0 car 0 1 64 1 2 1" ∷ codes "0 130 2 2 1" ∷ codes "0 car 2 0 128 0 1 1" ∷ codes "0 130 2 1 0" ∷ []

-- with a fourth car in the last train the next object opens a train
abbrev pub fourth_car : List (List ℕ)
fourth_car =
    codes "make 0 0 0 1" ∷ codes "make 1 1 63 0" ∷ codes "make 1 1 63 0" ∷ codes "make 1 1 63 0" ∷ codes "make 1 1 63 0"
    ∷ codes "make 1 1 63 0" ∷ codes "make 1 1 63 0" ∷ codes "tally" ∷ codes "make 1 1 63 0" ∷ codes "tally" ∷ codes "make 1 0 0 1" ∷ codes "tally" ∷ []

abbrev pub fourth_car_output : List (List ℕ)
fourth_car_output =
    codes "0" ∷ codes "0" ∷ codes "0" ∷ codes "0" ∷ codes "0" ∷ codes "0" ∷ codes "0"
    ∷ codes "0 386 4 2 0" ∷ codes "0" ∷ codes "0 450 5 2 0" ∷ codes "0" ∷ codes "0 452 6 3 0" ∷ []

-- all in one list
pub record WorkedExamples : Type 0 where
  pub cycle_across_two_trains : Plays slot_has cycle (cycle_output (codes "0 car 1 0 3 0 1 1"))
  -- a card has 16 addresses
  pub cycle_with_cards : Plays card_has cycle (cycle_output (codes "0 car 1 0 3 0 16 1"))
  pub car_carried_back : Plays slot_has carried_back carried_back_output
  pub fourth_car_opens_a_train : Plays slot_has fourth_car fourth_car_output
  pub records_have_a_word : Plays slot_has (codes "make 0 0 0 0" ∷ codes "make 0 0 15 15" ∷ []) (codes "4" ∷ codes "0" ∷ [])
  pub arrays_have_references : Plays slot_has (codes "make 0 1 63 0" ∷ codes "make 0 1 64 0" ∷ codes "make 0 1 63 1" ∷ []) (codes "0" ∷ codes "4" ∷ codes "4" ∷ [])
  -- 48 arrays of 64 words fill the space, whichever roots they went to
  pub full_after_48_arrays : (rs : List ℕ) → length rs ≡ 48 → AllByRecursion (λ r. is_root r ≡ true) rs
      → (h : History) → calls_of h ≡ map (λ r. Make r 1 63 0) rs
      → (r k a b : ℕ) (x : Body) (P : Pairs) → is_root r ≡ true → new_body product_table (shape_of k a b) ≡ Some x
      → (act product_table (Make r k a b) (space_of product_table h)).reply P ≡ refused Full
  pub lift_to_zero : Plays slot_has (codes "make 0 0 0 1" ∷ codes "put 0 0 10" ∷ codes "lift 0 0 -10" ∷ codes "get 0 0" ∷ []) (codes "0" ∷ codes "0" ∷ codes "0" ∷ codes "0 0" ∷ [])
  pub lift_below_zero : Plays slot_has (codes "make 0 0 0 1" ∷ codes "put 0 0 10" ∷ codes "lift 0 0 -11" ∷ codes "get 0 0" ∷ []) (codes "0" ∷ codes "0" ∷ codes "6" ∷ codes "0 10" ∷ [])
  pub lift_beyond_a_word : Plays slot_has (codes "make 0 0 0 1" ∷ codes "put 0 0 4294967295" ∷ codes "lift 0 0 1" ∷ codes "get 0 0" ∷ []) (codes "0" ∷ codes "0" ∷ codes "6" ∷ codes "0 4294967295" ∷ [])
  -- in every space
  pub empty_roots_are_the_same : (m : Model) (r q : ℕ) (P : Pairs) → is_root r ≡ true → is_root q ≡ true → held m.roots r ≡ None → held m.roots q ≡ None
      → (act product_table (Access (Same r q)) m).reply P ≡ answered (Alike true)
  pub leading_zero : player_of 1 (codes "drop 07") ≡ Err (player_fault (line_fault (no_number 1 5)))
  pub space_behind : player_of 1 (codes "step ") ≡ Err (player_fault (bad_words 1 5))
  pub faults_are_lines : Plays slot_has (codes "tally" ∷ codes "drop 07" ∷ codes "tally" ∷ []) (codes "0 0 0 0 0" ∷ codes "reader 10 line 2 at 5" ∷ [])
