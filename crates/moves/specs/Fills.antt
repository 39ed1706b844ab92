-- The trains of a space while a car is emptied, as the code has them.
use Rattle.std.specs.Prelude.{Some}
use Rattle.model.specs.Trains.{Car, Trains}
use Rattle.trains.specs.Fills.{Placement}
use Rattle.trains.specs.Ties.{car_fill, fills}

-- the trains behind the car f, which is in no train any more
abbrev pub emptying : Car → Trains → Placement
emptying f ts = record { trains = fills ts; busy = Some (car_fill f) }
