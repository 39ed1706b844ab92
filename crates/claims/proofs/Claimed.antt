-- What follows from how claims stand for objects.
use Rattle.std.proofs.Common.{◌≡◌, ℕ, ◌+◌, List, [], ◌∷◌, ◌++◌, length, Option, not, sym, refl, subst, ap, arith, filter}
use Rattle.std.proofs.lemmas.List.{length-map}
use Rattle.model.specs.Trains.{Obj, Car, among}
use Rattle.model.specs.Claims.{Claim as ObjectClaim, MoveRequest, ref_requests, all_to, claims}
use Rattle.model.specs.Step.{claimed}
use Rattle.model.proofs.Closure.{length-total}
use Rattle.claims.specs.declared.Claim.{Claim}
use Rattle.claims.specs.Claimed.{Claimed, claim_held}
use Rattle.claims.proofs.Requests.{claims_held_last}

pub claimed_same : {at : ℕ → ℕ} {f : Car} {taken taken' : List ObjectClaim} {left left' : List Obj} {order order' : List Claim}
    → Claimed at f taken left order → taken ≡ taken' → left ≡ left' → order ≡ order' → Claimed at f taken' left' order'
claimed_same {at} {f} {taken} {taken'} {left} {left'} {order} {order'} c p q r =
    subst (λ t. Claimed at f t left' order') p (subst (λ l. Claimed at f taken l order') q (subst (λ o. Claimed at f taken left o) r c))

-- claimed and left make up the car
pub count_all : {at : ℕ → ℕ} {f : Car} {taken : List ObjectClaim} {left : List Obj} {order : List Claim}
    → Claimed at f taken left order → length order + length left ≡ length f.objects
count_all {at} {f} {taken} {left} {order} c =
    let m : length order ≡ length (claimed taken) = grind (arith, c.order_is, length-map {A = ObjectClaim} {B = Obj}, length-map {A = ObjectClaim} {B = Claim}) in
    omega (arith, c.sums (λ o. 1), m, length-total (claimed taken), length-total left, length-total f.objects)

all_left_yet : (os : List Obj) → filter (λ o. not (among o.id [])) os ≡ os
all_left_yet [] = refl
all_left_yet (o ∷ os) = ap (λ ps. o ∷ ps) (all_left_yet os)

-- nothing is claimed yet
pub claimed_none : (at : ℕ → ℕ) (f : Car) → Claimed at f [] f.objects []
claimed_none at f = record { order_is = refl; left_is = sym (all_left_yet f.objects); of_car = tt; sums = λ g. omega arith }

-- the claims of some requests, and then those of one reference more
pub claimed_last : {at : ℕ → ℕ} {f : Car} (ws : List MoveRequest) (k : ℕ) (h : Option ℕ) (order : List Claim)
    → Claimed at f ((claims ws f.objects).taken ++ all_to k (claim_held h (claims ws f.objects).left).taken) (claim_held h (claims ws f.objects).left).left order
    → Claimed at f (claims (ws ++ ref_requests k (h ∷ [])) f.objects).taken (claims (ws ++ ref_requests k (h ∷ [])) f.objects).left order
claimed_last {at} {f} ws k h order c =
    let q = claims_held_last ws k h f.objects in claimed_same c (ap (λ t. t.taken) (sym q)) (ap (λ t. t.left) (sym q)) refl
