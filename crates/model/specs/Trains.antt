-- Objects in cars, cars in trains, trains in a row.
use Rattle.std.specs.Prelude.{ℕ, zero, suc, pred, ◌+◌, Bool, cond, ◌&&◌, List, [], ◌∷◌, ◌++◌, length, Option, ◌==◌, nat_le, nat_lt, flat_map, map, find, option_map, if◌then◌else◌, sum_by, count_by}
use Rattle.std.specs.List.{list_any, prefix_len, range_with_len}
use Rattle.model.specs.Bodies.{Body, size}

pub record Obj : Type 0 where
  pub id : ℕ
  pub body : Body

-- a car's number, and its objects in the order of their addresses
pub record Car : Type 0 where
  pub number : ℕ
  pub objects : List Obj

abbrev pub Train : Type 0
Train = List Car

-- the first train is the head
abbrev pub Trains : Type 0
Trains = List Train

abbrev pub car_words : ℕ
car_words = 128

abbrev pub car_count : ℕ
car_count = 64

abbrev pub most_trains : ℕ
most_trains = 8

abbrev pub capacity : ℕ
capacity = 3072

abbrev pub train_objects : Train → List Obj
train_objects t = flat_map (λ c. c.objects) t

abbrev pub objects : Trains → List Obj
objects ts = flat_map train_objects ts

abbrev pub obj_size : Obj → ℕ
obj_size o = size o.body

abbrev pub words_of : List Obj → ℕ
words_of os = sum_by obj_size os

abbrev pub words_in_use : Trains → ℕ
words_in_use ts = words_of (objects ts)

abbrev pub cars_in_use : Trains → ℕ
cars_in_use ts = sum_by length ts

abbrev pub car_numbers : Train → List ℕ
car_numbers t = map (λ c. c.number) t

abbrev pub numbers : Trains → List ℕ
numbers ts = flat_map car_numbers ts

abbrev pub one_of : ℕ → List ℕ → Bool
one_of n ns = list_any (λ m. n == m) ns

-- the lowest number that is not among the used ones, or the number of cars if all are used
abbrev pub lowest_free : List ℕ → ℕ
lowest_free used = prefix_len (λ n. one_of n used) (range_with_len 0 car_count)

abbrev pub fits : Car → Obj → Bool
fits c o = nat_le (words_of c.objects + size o.body) car_words

abbrev pub with_object : Obj → Car → Car
with_object o c = record { number = c.number; objects = c.objects ++ (o ∷ []) }

-- a car opened with the number n for one object
abbrev pub opened : ℕ → Obj → Car
opened n o = record { number = n; objects = o ∷ [] }

-- at the end of the last car, provided that it has room; if not, the car of number n is opened behind it
abbrev pub place : (n : ℕ) → Obj → Train → Train
place n o [] = opened n o ∷ []
place n o (c ∷ []) = if fits c o then with_object o c ∷ [] else c ∷ opened n o ∷ []
place n o (c ∷ d ∷ cs) = c ∷ place n o (d ∷ cs)

-- in the train of a rank; behind the last train an object opens one more
abbrev pub place_at : (rank n : ℕ) → Obj → Trains → Trains
place_at k n o [] = place n o [] ∷ []
place_at zero n o (t ∷ ts) = place n o t ∷ ts
place_at (suc k) n o (t ∷ ts) = t ∷ place_at k n o ts

abbrev pub last_cars : Trains → ℕ
last_cars [] = 0
last_cars (t ∷ []) = length t
last_cars (t ∷ u ∷ ts) = last_cars (u ∷ ts)

-- from two trains on: a rank of its own behind them, where the last has four cars at least and there are not eight yet; in all
-- other cases the rank of the last
abbrev pub arrival : Trains → ℕ
arrival [] = 0
arrival (t ∷ []) = 1
arrival (t ∷ u ∷ ts) =
    let n = length (t ∷ u ∷ ts) in if nat_lt n most_trains && nat_le 4 (last_cars (t ∷ u ∷ ts)) then n else pred n

-- how many of the objects have the identity x
abbrev pub times : ℕ → List Obj → ℕ
times x os = count_by (λ o. x == o.id) os

abbrev pub among : ℕ → List Obj → Bool
among x os = nat_lt 0 (times x os)

-- what the object of identity x has inside, if it is among these
abbrev pub inside : List Obj → ℕ → Option Body
inside os x = option_map (λ o. o.body) (find (λ o. x == o.id) os)

abbrev pub alter_object : ℕ → (Body → Body) → Obj → Obj
alter_object x f o = record { id = o.id; body = cond (x == o.id) (f o.body) o.body }

abbrev pub alter_car : ℕ → (Body → Body) → Car → Car
alter_car x f c = record { number = c.number; objects = map (alter_object x f) c.objects }

abbrev pub alter_train : ℕ → (Body → Body) → Train → Train
alter_train x f t = map (alter_car x f) t

abbrev pub alter : ℕ → (Body → Body) → Trains → Trains
alter x f ts = map (alter_train x f) ts
