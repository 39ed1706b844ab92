-- Which of two slots comes first, and what has to be known of the cars for it.
use Rattle.std.specs.Prelude.{◌≡◌, ℕ, ◌/◌, ◌<◌, Bool, true, false, List, [], ◌∷◌, Some, None, Option, ◌==◌, nat_lt, flat_map, if◌then◌else◌, ⊤}
use Rattle.std.specs.List.{AllByRecursion}
use Rattle.model.specs.Trains.{Car, Trains, car_words, car_count, car_numbers, one_of, words_of}

-- an address comes before another by their cars, and in one car by the addresses
abbrev pub is_earlier : (later : ℕ → ℕ → Bool) → (a b : ℕ) → Bool
is_earlier later a b = if a / car_words == b / car_words then nat_lt a b else later (b / car_words) (a / car_words)

-- the earlier of the address found so far and of another
abbrev pub earliest : (later : ℕ → ℕ → Bool) → Option ℕ → ℕ → ℕ
earliest later None a = a
earliest later (Some b) a = if is_earlier later a b then a else b

-- the words to walk over in a car: none, where it is not an outside one
abbrev pub outside_words : (outside : ℕ → Bool) → (filled : ℕ → ℕ) → ℕ → ℕ
outside_words outside filled n = if outside n then filled n else 0

-- the cars of all trains, one train after another
abbrev pub cars_of : Trains → List Car
cars_of ts = flat_map (λ t. t) ts

-- each car is later than those before it, and none of those is later than it
abbrev pub AreInOrder : (later : ℕ → ℕ → Bool) → List Car → Type 0
AreInOrder later [] = ⊤
AreInOrder later (c ∷ cs) = AllByRecursion (λ d. (later d.number c.number ≡ true) × (later c.number d.number ≡ false)) cs × AreInOrder later cs

-- what is told of cars is right: these and no others are outside, so many words of each are filled, and this is their order
pub record AreTold (outside : ℕ → Bool) (filled : ℕ → ℕ) (later : ℕ → ℕ → Bool) (cs : List Car) : Type 0 where
  pub which : (n : ℕ) → n < car_count → outside n ≡ one_of n (car_numbers cs)
  pub words : AllByRecursion (λ c. filled c.number ≡ words_of c.objects) cs
  pub order : AreInOrder later cs
