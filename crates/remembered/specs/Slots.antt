-- What the slot set does.
use Rattle.std.specs.Prelude.{◌≡◌, ℕ, ◌+◌, ◌-◌, ◌<◌, ◌≤◌, Bool, true, false, if◌then◌else◌, not, ◌&&◌, ◌||◌, List, [], ◌∷◌, length, map, ◌==◌, nat_le, nat_lt}
use Rattle.remembered.specs.declared.Pair.{Pair}
use Rattle.remembered.specs.declared.Update.{Update}
use Rattle.remembered.specs.declared.Update.TheVariants.{Note, Forget}
use Rattle.remembered.specs.BitRow.{bit_in}
use Rattle.remembered.specs.Laws.{in_range, new_in}
use Rattle.remembered.specs.Pairs.{pair, within, without, number_of}
use Rattle.remembered.specs.SlotCars.{Car, car_at, places}
use Rattle.remembered.specs.Updates.{Pairs, Updates, count}

-- the pairs kept, and which cars are overflown
pub record Slots : Type 0 where
  pub kept : List Pair
  pub over : ℕ → Bool

-- every address is paired with an overflown car
abbrev pub slot_in : Slots → ℕ → ℕ → Bool
slot_in σ c a = in_range c a && (σ.over c || within σ.kept c a)

-- a new pair is kept if there is room for it among 2,048, else its car overflows; another alters nothing
abbrev pub slot_note : ℕ → ℕ → Slots → Slots
slot_note c a σ =
    if new_in (slot_in σ) c a then (
    if nat_lt (length σ.kept) 2048 then record { kept = pair c a ∷ σ.kept; over = σ.over }
    else record { kept = σ.kept; over = λ d. σ.over d || d == c }
    ) else σ

-- the car's places are free again, and it is overflown no more
abbrev pub slot_forget : ℕ → Slots → Slots
slot_forget c σ = record { kept = without c σ.kept; over = λ d. not (d == c) && σ.over d }

-- the slot set after what it was told
abbrev pub slot_run : Updates → Slots
slot_run [] = record { kept = []; over = λ d. false }
slot_run (Note c a ∷ us) = slot_note c a (slot_run us)
slot_run (Forget c ∷ us) = slot_forget c (slot_run us)

-- the pairs that a slot set has then
abbrev pub slot_has : Updates → Pairs
slot_has us = slot_in (slot_run us)

-- the pairs kept, by the set's rows
abbrev pub kept : List Car → ℕ → ℕ → Bool
kept cars c a = in_range c a && bit_in (car_at cars c).kept a

-- whether a car is overflown
abbrev pub is_over : List Car → ℕ → Bool
is_over cars c = nat_lt c 64 && (car_at cars c).overflown

-- the pairs that the set has
abbrev pub slot_pairs : List Car → ℕ → ℕ → Bool
slot_pairs cars c a = in_range c a && (is_over cars c || bit_in (car_at cars c).kept a)

-- how many pairs of a car are kept
unfoldable pub kept_of : List Car → ℕ → ℕ
kept_of cars c = count (kept cars c) 8192

-- one pair more is kept, in one place more, and no flag alters
pub record KeepsPair (old : List Car) (c a : ℕ) (new : List Car) : Type 0 where
  pub kept_more : (d b : ℕ) → kept new d b ≡ (kept old d b || (d == c && b == a))
  pub over_same : (d : ℕ) → is_over new d ≡ is_over old d
  pub flags_same : map (λ car. car.overflown) new ≡ map (λ car. car.overflown) old
  pub used_more : places new ≡ places old + 1

-- one car more is overflown, and no row alters
pub record OverflowsCar (old : List Car) (c : ℕ) (new : List Car) : Type 0 where
  pub kept_same : (d b : ℕ) → kept new d b ≡ kept old d b
  pub rows_same : map (λ car. car.kept) new ≡ map (λ car. car.kept) old
  pub over_more : (d : ℕ) → is_over new d ≡ (is_over old d || d == c)
  pub used_same : places new ≡ places old

-- what a note does to the cars
pub record SlotNoted (old : List Car) (c a : ℕ) (new : List Car) : Type 0 where
  -- the pairs that the set has then
  pub pairs : (d b : ℕ) → slot_pairs new d b ≡ (slot_pairs old d b || (new_in (slot_pairs old) c a && (in_range d b && (d == c && (nat_le 2048 (places old) || b == a)))))
  -- noting a pair that is not new alters nothing
  pub same : new_in (slot_pairs old) c a ≡ false → new ≡ old
  -- a new pair is kept where fewer than 2,048 are, else its car overflows
  pub keeps : new_in (slot_pairs old) c a ≡ true → places old < 2048 → KeepsPair old c a new
  pub overflows : new_in (slot_pairs old) c a ≡ true → 2048 ≤ places old → OverflowsCar old c new

-- what a forget does: the car's places are free, and it is overflown no more
pub record SlotForgot (old : List Car) (c : ℕ) (new : List Car) : Type 0 where
  pub others : (d b : ℕ) → slot_pairs new d b ≡ (not (d == c) && slot_pairs old d b)
  pub others_kept : (d b : ℕ) → kept new d b ≡ (not (d == c) && kept old d b)
  pub others_over : (d : ℕ) → is_over new d ≡ (not (d == c) && is_over old d)
  pub frees : places new ≡ places old - kept_of old c

-- what a slot set says of an update
abbrev pub SlotSays : List Car → Update → List Car → Type 0
SlotSays old (Note c a) new = SlotNoted old c a new
SlotSays old (Forget c) new = SlotForgot old c new

-- the cars stand for a state
pub record SlotStands (cars : List Car) (σ : Slots) : Type 0 where
  pub kept_is : (c a : ℕ) → kept cars c a ≡ (in_range c a && within σ.kept c a)
  pub over_is : (c : ℕ) → c < 64 → is_over cars c ≡ σ.over c
  pub used_is : places cars ≡ length σ.kept
  pub number_is : (c : ℕ) → kept_of cars c ≡ number_of c σ.kept
