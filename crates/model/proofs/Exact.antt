-- With a set whose pairs follow from what it was told, all replies follow from the calls: pairs that agree give the same reply.
use Rattle.std.proofs.Common.{◌≡◌, ℕ, zero, suc, ◌+◌, Bool, cond, List, [], ◌∷◌, Some, None, Option, refl, sym, ap, ap₂, ◌∙◌, sum_by, arith}
use Rattle.calls.specs.declared.call.Call.{Call}
use Rattle.calls.specs.declared.call.Call.TheVariants.{Make, Access, Step, Tally}
use Rattle.layout.specs.ShapeTable.{ShapeTable}
use Rattle.remembered.specs.Updates.{Pairs, Updates, count, pairs_of}
use Rattle.model.specs.Calls.{History}
use Rattle.model.specs.Trains.{Train, Trains, train_objects}
use Rattle.model.specs.Claims.{MoveRequest}
use Rattle.model.specs.Notes.{tell}
use Rattle.model.specs.Step.{first_to, outside}
use Rattle.model.specs.Space.{Model, act, space_of, updates_of, looked, step_on, step_by}
use Rattle.model.proofs.Totals.{sums}
use Rattle.model.specs.Exact.{use_of, calls_of, ExactSetsReplyByTheCalls}

-- the same pairs
abbrev Agree : Pairs → Pairs → Type 0
Agree P Q = (c a : ℕ) → P c a ≡ Q c a

count_same : (P Q : ℕ → Bool) (n : ℕ) → ((k : ℕ) → P k ≡ Q k) → count P n ≡ count Q n
count_same P Q zero h = refl
count_same P Q (suc n) h = ap₂ (λ b k. cond b 1 0 + k) (h n) (count_same P Q n h)

sum_same : {X : Type 0} (f g : X → ℕ) → ((x : X) → f x ≡ g x) → (xs : List X) → sum_by f xs ≡ sum_by g xs
sum_same f g h [] = refl
sum_same f g h (x ∷ xs) = omega (arith, sums, h x, sum_same f g h xs)

looked_same : (P Q : Pairs) → Agree P Q → (t : Train) → looked P t ≡ looked Q t
looked_same P Q h t = sum_same (λ c. pairs_of P c.number) (λ c. pairs_of Q c.number) (λ c. count_same (P c.number) (Q c.number) 8192 (h c.number)) t

step_same : (M : ShapeTable) (ts : Trains) (m : Model) (P Q : Pairs) → Agree P Q → (step_on M ts m).reply P ≡ (step_on M ts m).reply Q
step_same M [] m P Q h = refl
step_same M (t ∷ ts) m P Q h = go (first_to (train_objects t) (outside m.roots (t ∷ ts) ts)) t
  where
    go : (w : Option MoveRequest) (u : Train) → (step_by M w u ts m).reply P ≡ (step_by M w u ts m).reply Q
    go None u = rw (looked_same P Q h u)
    go (Some w) [] = refl
    go (Some w) (f ∷ cs) = rw (looked_same P Q h (f ∷ cs))

reply_same : (M : ShapeTable) (c : Call) (m : Model) (P Q : Pairs) → Agree P Q → (act M c m).reply P ≡ (act M c m).reply Q
reply_same M (Make r k a b) m P Q h = refl
reply_same M (Access c) m P Q h = refl
reply_same M Step m P Q h = step_same M m.trains m P Q h
reply_same M Tally m P Q h = refl

-- the space and what the set is told follow from the calls alone
spaces_same : (M : ShapeTable) (means : Updates → Pairs) (h : History) → space_of M (use_of M means (calls_of h)) ≡ space_of M h
spaces_same M means [] = refl
spaces_same M means (e ∷ h) = ap (λ m. (act M e.call m).state) (spaces_same M means h)

updates_same : (M : ShapeTable) (means : Updates → Pairs) (h : History) → updates_of M (use_of M means (calls_of h)) ≡ updates_of M h
updates_same M means [] = refl
updates_same M means (e ∷ h) = ap₂ (λ m us. tell (act M e.call m).updates us) (spaces_same M means h) (updates_same M means h)

pub exact_law : ExactSetsReplyByTheCalls
exact_law M means [] u k = refl
exact_law M means (e ∷ h) u k =
    let here : e.reply ≡ (act M e.call (space_of M (use_of M means (calls_of h)))).reply (means (updates_of M (use_of M means (calls_of h)))) =
    u.0 ∙ reply_same M e.call (space_of M h) e.pairs (means (updates_of M h)) k.0
    ∙ sym (ap₂ (λ m us. (act M e.call m).reply (means us)) (spaces_same M means h) (updates_same M means h)) in
    ap₂ (λ a b. a ∷ b) here (exact_law M means h u.1 k.1)
