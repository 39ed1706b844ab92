-- Gathering the slots of a car, pair by pair.
use Rattle.std.proofs.Common.{◌≡◌, ℕ, ◌+◌, ◌*◌, ◌<◌, ◌≤◌, Bool, true, false, cond, List, [], ◌∷◌, ◌++◌, length, length-append, sym, ap, ◌∙◌, append_assoc, arith}
use Rattle.std.proofs.lemmas.Bool.{both_ways}
use Rattle.std.proofs.lemmas.List.{append-nil}
use Rattle.layout.specs.ShapeTable.{ShapeTable, Lawful}
use Rattle.layout.specs.declared.Shape.{Shape}
use Rattle.remembered.specs.Updates.{Pairs}
use Rattle.model.specs.Notes.{Slot, object_slots}
use Rattle.model.specs.Remembered.{slots_into}
use Rattle.model.specs.Trains.{Car, car_words, words_of, one_of}
use Rattle.model.proofs.Overlooked.{Rises}
use Rattle.objects.specs.Lies.{CarStands}
use Rattle.slots.specs.Slots.{addresses, ArePaired}
use Rattle.slots.specs.Walks.{WalksIn}
use Rattle.slots.specs.declared.walk.Walk.{Walk}
use Rattle.slots.proofs.Walking.{slots_rise}
use Rattle.slots.proofs.Holding.{into_paired, into_rise}
use Rattle.slots.proofs.Below.{below, below_none, below_done, below_step}

pub walks_later : (c : Car) (a b : ℕ) (w : Walk) → WalksIn c a w → a ≤ b → WalksIn c b w
walks_later c a b w walk l =
    record { passed = walk.passed; ahead = walk.ahead; all = walk.all; here = walk.here; end = walk.end; not_past = omega (arith, walk.not_past, l) }

-- the slots of a car that hold an object of a car rise, and lie in its filled words
pub car_into_rise : (M : ShapeTable) → Lawful M → (code : Shape → ℕ) (at : ℕ → ℕ) (words : List ℕ) (f d : Car) (n : ℕ) → CarStands M code at words d
    → Rises (car_words * d.number) (car_words * d.number + words_of d.objects) (addresses (slots_into f (object_slots M n (car_words * d.number) d.objects)))
car_into_rise M law code at words f d n stands =
    into_rise f (car_words * d.number) (car_words * d.number + words_of d.objects) (object_slots M n (car_words * d.number) d.objects)
    (slots_rise M code at words law n (car_words * d.number) d.objects stands.lies)

-- an address that is not paired is that of no such slot
pub unpaired : (P : Pairs) (f : Car) (emptied x : ℕ) (ss : List Slot) → ArePaired P f ss → f.number ≡ emptied → P emptied x ≡ false
    → one_of x (addresses (slots_into f ss)) ≡ true → ⊥
unpaired P f emptied x ss paired e none h = both_ways (P emptied x) none (ap (λ m. P m x) (sym e) ∙ into_paired P f x ss paired h)

pub gather_init : (out zs : List ℕ) (low high from : ℕ) → Rises low high zs → from ≤ low → out ≡ out ++ below from zs
gather_init out zs low high from r l = sym (ap (λ ys. out ++ ys) (below_none from low high zs l r) ∙ append-nil out)

pub gather_more : (old out new zs : List ℕ) (low high from a : ℕ) (here : Bool) → Rises low high zs → from ≤ a
    → ((x : ℕ) → from ≤ x → x < a → one_of x zs ≡ true → ⊥) → here ≡ one_of a zs → new ≡ out ++ cond here (a ∷ []) [] → out ≡ old ++ below from zs
    → new ≡ old ++ below (a + 1) zs
gather_more old out new zs low high from a here r l none e pushed so_far =
    pushed ∙ (ap (λ ys. ys ++ cond here (a ∷ []) []) so_far
    ∙ (append_assoc old (below from zs) (cond here (a ∷ []) []) ∙ sym (ap (λ ys. old ++ ys) (below_step from a low high zs here r l none e))))

pub gather_done : (old out zs : List ℕ) (from : ℕ) → ((x : ℕ) → from ≤ x → one_of x zs ≡ true → ⊥) → out ≡ old ++ below from zs → out ≡ old ++ zs
gather_done old out zs from none so_far = so_far ∙ ap (λ ys. old ++ ys) (below_done from zs none)

pub length-gather_more : (out new : List ℕ) (a : ℕ) (here : Bool) → new ≡ out ++ cond here (a ∷ []) [] → length new ≤ length out + 1
length-gather_more out new a true e = omega (arith, ap length e, length-append {A = ℕ})
length-gather_more out new a false e = omega (arith, ap length e, length-append {A = ℕ})
