-- The mark by addresses goes and is set as by identities.
use Rattle.std.proofs.Common.{◌≡◌, ℕ, zero, suc, ◌/◌, ◌≤◌, Bool, true, false, cond, eqb, Some, None, Option, refl, sym, ap, ◌∙◌, arith, inl, inr}
use Rattle.std.specs.Option.{option_map}
use Rattle.std.proofs.lemmas.Bool.{cases_eq, lt-ltb, le-ltb, eq-eqb, ne_eqb}
use Rattle.model.specs.Claims.{MoveRequest}
use Rattle.model.specs.Step.{mark_after, guard}
use Rattle.model.specs.Trains.{Car, among, times}
use Rattle.slots.specs.Slots.{AddressTells}
use Rattle.steps.specs.Marks.{mark_left, guarded, mark_by, MarksFollow}

-- the car of an object's address tells whether it lies in the car
car_tells : (at : ℕ → ℕ) (f : Car) (x : ℕ) → AddressTells at f → eqb (at x / 128) f.number ≡ among x f.objects
car_tells at f x tells = elim (cases_eq (at x / 128) f.number) [
  | inl e ↦ eq-eqb (at x / 128) f.number e ∙ sym (lt-ltb 0 (times x f.objects) (omega (arith, (tells x).0 e)))
  | inr ne ↦
      let none : times x f.objects ≤ 0 = elim (cases_eq (times x f.objects) 0) [ inl z ↦ omega (arith, z) | inr nz ↦ absurd (ne ((tells x).1 (omega (arith, nz)))) ] in
      ne_eqb (at x / 128) f.number ne ∙ sym (le-ltb 0 (times x f.objects) none)
]

left_follows : (at : ℕ → ℕ) (f : Car) (mk : Option MoveRequest) → AddressTells at f → mark_left f.number (option_map (mark_by at) mk) ≡ option_map (mark_by at) (mark_after f.objects mk)
left_follows at f None tells = refl
left_follows at f (Some m) tells = ap (λ b. cond b None (Some (mark_by at m))) (car_tells at f m.who tells) ∙ go (among m.who f.objects)
  where
    go : (b : Bool) → cond b None (Some (mark_by at m)) ≡ option_map (mark_by at) (cond b None (Some m))
    go true = refl
    go false = refl

guards_follow : (at : ℕ → ℕ) (mk : Option MoveRequest) (out : ℕ) (w : MoveRequest) → guarded (option_map (mark_by at) mk) out (mark_by at w) ≡ option_map (mark_by at) (guard mk out w)
guards_follow at (Some m) out w = refl
guards_follow at None zero w = refl
guards_follow at None (suc n) w = refl

pub marks_follow : MarksFollow
marks_follow = record { left = left_follows; guards = guards_follow }
