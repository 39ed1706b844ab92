-- Placing an object, seen by how full the cars are.
use Rattle.std.proofs.Common.{◌≡◌, ℕ, zero, suc, [], ◌∷◌, length, Some, sym, refl, ap, ◌∙◌}
use Rattle.model.specs.Bodies.{size}
use Rattle.model.specs.Trains.{Obj, Car, Train, Trains, place_at, numbers, lowest_free}
use Rattle.objects.specs.Stand.{next_address, next_address_at}
use Rattle.trains.specs.Fills.{free_car, place_fill, spot_in, spot_at, placed}
use Rattle.trains.specs.Ties.{car_fill, train_fills, fills}
use Rattle.trains.proofs.Follow.{fills_follow}
use Rattle.moves.specs.Fills.{emptying}

spot_in-fill : (n : ℕ) (o : Obj) (t : Train) → spot_in n (size o.body) (train_fills t) ≡ next_address n o t
spot_in-fill n o [] = refl
spot_in-fill n o (c ∷ []) = refl
spot_in-fill n o (c ∷ d ∷ cs) = spot_in-fill n o (d ∷ cs)

pub spot_at-fills : (k n : ℕ) (o : Obj) (ts : Trains) → spot_at k n (size o.body) (fills ts) ≡ next_address_at k n o ts
spot_at-fills k n o [] = refl
spot_at-fills zero n o (t ∷ ts) = spot_in-fill n o t
spot_at-fills (suc k) n o (t ∷ ts) = spot_at-fills k n o ts

pub emptying-free : (f : Car) (ts : Trains) → free_car (emptying f ts) ≡ lowest_free (f.number ∷ numbers ts)
emptying-free f ts = sym (fills_follow.free (Some (car_fill f)) ts)

pub emptying-length : (f : Car) (ts : Trains) → length (emptying f ts).trains ≡ length ts
emptying-length f ts = sym (fills_follow.counted ts)

pub emptying-placed : (k : ℕ) (f : Car) (o : Obj) (ts : Trains)
    → placed k (size o.body) (emptying f ts) ≡ emptying f (place_at k (lowest_free (f.number ∷ numbers ts)) o ts)
unfolding free_car
emptying-placed k f o ts =
    ap (λ n. record { trains = place_fill k n (size o.body) (fills ts); busy = (emptying f ts).busy }) (emptying-free f ts)
    ∙ ap (λ us. record { trains = us; busy = (emptying f ts).busy }) (sym (fills_follow.placed k (lowest_free (f.number ∷ numbers ts)) o ts))
