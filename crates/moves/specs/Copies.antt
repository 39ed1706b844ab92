-- Moving one object, by words.
use Rattle.std.specs.Prelude.{◌≡◌, ℕ, ◌+◌, ◌*◌, ◌<◌, ◌≤◌, ◌⊎◌, List, length, slice_set}
use Rattle.layout.specs.ShapeTable.{Offsets}
use Rattle.layout.specs.Coding.{size_of}
use Rattle.model.specs.Trains.{car_words, car_count, most_trains}
use Rattle.objects.specs.Words.{SameOutside, Copied}
use Rattle.claims.specs.declared.Claim.{Claim}
use Rattle.trains.specs.Fills.{Placement, free_car, spot_at, placed}
use Rattle.moves.specs.Fixes.{told_of}

-- where the object of a claim stands, how many words it has by its header, and where it goes to
abbrev pub stands_at : (car : ℕ) → Claim → ℕ
stands_at car c = car_words * car + c.place

abbrev pub told_size : (decoded : ℕ → Offsets) → List ℕ → (car : ℕ) → Claim → ℕ
told_size decoded words car c = size_of (told_of decoded words car c)

abbrev pub spot_of : (decoded : ℕ → Offsets) → List ℕ → (car : ℕ) → Claim → Placement → ℕ
spot_of decoded words car c p = spot_at c.rank (free_car p) (told_size decoded words car c) p.trains

-- both places lie in memory and apart, and the rank's train has room for the words or a car is free
pub record HasRoom (decoded : ℕ → Offsets) (words : List ℕ) (car : ℕ) (c : Claim) (p : Placement) : Type 0 where
  pub car_low : car < car_count
  pub place_low : c.place < car_words
  pub near : c.rank ≤ length p.trains
  pub low : c.rank < most_trains
  pub free : free_car p < car_count
  pub size : told_size decoded words car c ≤ car_words
  pub from : stands_at car c + told_size decoded words car c ≤ 8192
  pub to : spot_of decoded words car c p + told_size decoded words car c ≤ 8192
  pub apart : (stands_at car c + told_size decoded words car c ≤ spot_of decoded words car c p) ⊎ (spot_of decoded words car c p + told_size decoded words car c ≤ stands_at car c)

-- the words are copied, and the trains and the table know of it
pub record HasMoved (decoded : ℕ → Offsets) (v : List ℕ) (car : ℕ) (c : Claim) (p : Placement) (forward w table : List ℕ) (after : Placement) : Type 0 where
  pub trains_are : after ≡ placed c.rank (told_size decoded v car c) p
  pub copied : Copied v w (stands_at car c) (spot_of decoded v car c p) (told_size decoded v car c)
  pub frame : SameOutside v w (spot_of decoded v car c p) (told_size decoded v car c)
  pub table_is : table ≡ slice_set forward c.place (spot_of decoded v car c p)
