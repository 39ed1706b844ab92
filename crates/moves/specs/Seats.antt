-- Cars in one row, and an object that comes to stand behind those of one of them, or alone in a car of its own.
use Rattle.std.specs.Prelude.{◌≡◌, ℕ, ◌+◌, ◌*◌, ◌<◌, ◌≤◌, true, List, ◌∷◌, nat_eq, flat_map}
use Rattle.std.specs.List.{AllByRecursion, IsDistinct}
use Rattle.layout.specs.declared.Shape.{Shape}
use Rattle.layout.specs.ShapeTable.{ShapeTable}
use Rattle.model.specs.Trains.{Obj, Car, Train, Trains, car_numbers, words_of, fits, with_object, opened, car_words, car_count}
use Rattle.objects.specs.Lies.{CarLies}

-- the cars of all trains, one train after another
abbrev pub cars_of : Trains → Train
cars_of ts = flat_map (λ t. t) ts

-- the object o comes to stand at the address a: in a car of the number n put in somewhere, or behind the objects of a car that has room
pub data Seat (n : ℕ) (o : Obj) : (a : ℕ) → Train → Train → Type 0 where
  opens : (t : Train) → Seat n o (car_words * n) t (opened n o ∷ t)
  joins : (c : Car) (t : Train) → fits c o ≡ true → Seat n o (car_words * c.number + words_of c.objects) (c ∷ t) (with_object o c ∷ t)
  later : (a : ℕ) (c : Car) (t u : Train) → Seat n o a t u → Seat n o a (c ∷ t) (c ∷ u)

-- cars in one row: each has at most its 128 words and a number of its own below 64, and its objects stand in it
pub record RowLies (M : ShapeTable) (code : Shape → ℕ) (at : ℕ → ℕ) (words : List ℕ) (row : Train) : Type 0 where
  pub lies : AllByRecursion (CarLies M code at words) row
  pub within : AllByRecursion (λ c. words_of c.objects ≤ car_words) row
  pub below : AllByRecursion (λ n. n < car_count) (car_numbers row)
  pub differ : IsDistinct nat_eq (car_numbers row)
