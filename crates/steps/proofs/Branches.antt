-- Which way a step goes, and what it then finds.
use Rattle.std.proofs.Common.{◌≡◌, ℕ, zero, suc, ◌<◌, length, List, [], ◌∷◌, Option, None, Some, option_map, get_or, refl, sym, ap, ◌∙◌, subst, arith}
use Rattle.layout.specs.declared.Shape.{Shape}
use Rattle.layout.specs.ShapeTable.{ShapeTable}
use Rattle.model.specs.Calls.{History}
use Rattle.model.specs.Claims.{MoveRequest}
use Rattle.layout.specs.ShapeTable.{Lawful}
use Rattle.model.specs.Space.{Model, space_of, step_on, step_by, nothing_done}
use Rattle.model.specs.Step.{first_to, outside}
use Rattle.model.specs.Trains.{Car, Train, Trains, arrival, train_objects, words_of}
use Rattle.objects.specs.Lies.{CarStands}
use Rattle.objects.specs.Locate.{locate}
use Rattle.remembered.specs.declared.Update.{Update}
use Rattle.remembered.specs.Leads.{untold}
use Rattle.remembered.specs.Updates.{Pairs}
use Rattle.trains.specs.Fills.{Placement, fill_numbers, arrival_of, first_number}
use Rattle.trains.specs.Orders.{filled_of}
use Rattle.trains.specs.Ties.{fills}
use Rattle.trains.proofs.Follow.{fills_follow}
use Rattle.memory.specs.declared.Mark.{Mark}
use Rattle.memory.specs.Heap.{Heap}
use Rattle.memory.specs.Stands.{Stands, halted}
use Rattle.memory.proofs.Held.{halt_at}
use Rattle.steps.specs.Claiming.{FirstCar}
use Rattle.steps.specs.Steps.{Steps}
use Rattle.steps.proofs.Freeing.{first_train_is}

none_some : {A : Type 0} {a : A} → None ≡ Some a → ⊥
none_some e = let z : ◌≡◌ {A = ℕ} 0 1 = cc in omega (arith, z)

-- what stands and is filled of the first car
pub car_first : (M : ShapeTable) (code : Shape → ℕ) → Lawful M → (s : Heap) (P : Pairs) (h : History) (f : Car) (cs : Train) (ts : Trains) → FirstCar M code s P h f cs ts
    → CarStands M code (locate (space_of M h).trains) s.words f × (filled_of f.number s.trains ≡ words_of f.objects)
car_first M code law s P h f cs ts first =
    let t = first_train_is M code (space_of M h) (halt_at M law h) s first.stands (f ∷ cs) ts first.trains (fill_numbers (get_or s.trains.trains 0 [])) refl in
    (t.stand.0, t.filled.0)

pub arrives_at : (M : ShapeTable) (code : Shape → ℕ) (s : Heap) (P : Pairs) (h : History) (f : Car) (cs : Train) (ts : Trains) → FirstCar M code s P h f cs ts
    → (k : ℕ) → k ≡ arrival_of s.trains.trains → k ≡ arrival ((f ∷ cs) ∷ ts)
arrives_at M code s P h f cs ts first k e =
    e ∙ ap (λ (p : Placement). arrival_of p.trains) (first.stands.trains ∙ ap halted first.trains) ∙ sym (fills_follow.arrives ((f ∷ cs) ∷ ts))

-- with no train nothing is done
pub nothing : {S : Type 0} (M : ShapeTable) (code : Shape → ℕ) (has : S → Pairs) (says : S → Update → S → Type 0) (m : Model) (s : Heap) (set : S) → Stands M code m s
    → length s.trains.trains ≡ 0 → Steps M code has says (step_on M m.trains m) nothing_done s set set
nothing M code has says m s set st z = go m.trains refl
  where
    go : (ts : Trains) → m.trains ≡ ts → Steps M code has says (step_on M m.trains m) nothing_done s set set
    go [] e = subst (λ us. Steps M code has says (step_on M us m) nothing_done s set set) (sym e) (record { stands = st; reply = refl; told = untold set })
    go (t ∷ ts) e = absurd (omega (arith, z, ap (λ (p : Placement). length p.trains) st.trains, ap (λ us. length (fills us)) e))

pub trains_are : (M : ShapeTable) (code : Shape → ℕ) (m : Model) (s : Heap) → Stands M code m s → 0 < length s.trains.trains → (t : Train) × (ts : Trains) × (m.trains ≡ t ∷ ts)
trains_are M code m s st z = go m.trains refl
  where
    go : (us : Trains) → m.trains ≡ us → (t : Train) × (ts : Trains) × (m.trains ≡ t ∷ ts)
    go [] e = absurd (omega (arith, z, ap (λ (p : Placement). length p.trains) st.trains, ap (λ us. length (fills us)) e))
    go (t ∷ ts) e = (t, ts, e)

-- a first car by its number
pub first_car_is : (M : ShapeTable) (code : Shape → ℕ) (m : Model) (s : Heap) → Stands M code m s → (n : ℕ) → Some n ≡ first_number s.trains.trains
    → (f : Car) × (cs : Train) × (ts : Trains) × (m.trains ≡ (f ∷ cs) ∷ ts) × (n ≡ f.number)
first_car_is M code m s st n k = go m.trains refl (k ∙ ap (λ (p : Placement). first_number p.trains) st.trains)
  where
    go : (us : Trains) → m.trains ≡ us → Some n ≡ first_number (fills m.trains) → (f : Car) × (cs : Train) × (ts : Trains) × (m.trains ≡ (f ∷ cs) ∷ ts) × (n ≡ f.number)
    go [] e q = absurd (none_some (sym (q ∙ ap (λ us. first_number (fills us)) e)))
    go ([] ∷ ts) e q = absurd (none_some (sym (q ∙ ap (λ us. first_number (fills us)) e)))
    go ((f ∷ cs) ∷ ts) e q =
        let r : Some n ≡ Some f.number = q ∙ ap (λ us. first_number (fills us)) e in
        (f, cs, ts, e, cc)

-- without a first car the first train has no object
pub no_first : (M : ShapeTable) (code : Shape → ℕ) (m : Model) (s : Heap) → Stands M code m s → (t : Train) (ts : Trains) → m.trains ≡ t ∷ ts → None ≡ first_number s.trains.trains
    → first_to (train_objects t) (outside m.roots (t ∷ ts) ts) ≡ None
no_first M code m s st t ts e k = go t (k ∙ ap (λ (p : Placement). first_number p.trains) st.trains ∙ ap (λ us. first_number (fills us)) e)
  where
    none_to : (ws : List MoveRequest) → first_to [] ws ≡ None
    none_to [] = refl
    none_to (w ∷ ws) = none_to ws

    go : (t : Train) → None ≡ first_number (fills (t ∷ ts)) → first_to (train_objects t) (outside m.roots (t ∷ ts) ts) ≡ None
    go [] q = none_to (outside m.roots ([] ∷ ts) ts)
    go (f ∷ cs) q = absurd (none_some q)

-- what was asked for, by the request
pub asked_is : (to : MoveRequest → Mark) (found : Option MoveRequest) (a : Mark) → Some a ≡ option_map to found → (w : MoveRequest) × (found ≡ Some w) × (a ≡ to w)
asked_is to None a e = absurd (none_some (sym e))
asked_is to (Some w) a e = (w, refl, cc)

pub none_asked : (to : MoveRequest → Mark) (found : Option MoveRequest) → None ≡ option_map to found → found ≡ None
none_asked to None e = refl
none_asked to (Some w) e = absurd (none_some e)

-- the way that a step goes
pub goes : (M : ShapeTable) (m : Model) (t : Train) (ts : Trains) (found : Option MoveRequest) → m.trains ≡ t ∷ ts → first_to (train_objects t) (outside m.roots (t ∷ ts) ts) ≡ found
    → step_on M m.trains m ≡ step_by M found t ts m
goes M m t ts found e f = ap (λ us. step_on M us m) e ∙ ap (λ v. step_by M v t ts m) f

pub positive : (n : ℕ) → (n ≡ 0 → ⊥) → 0 < n
positive zero k = absurd (k refl)
positive (suc n) k = omega arith
