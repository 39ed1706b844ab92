-- What is told of the cars behind the first train.
use Rattle.std.proofs.Common.{◌≡◌, ℕ, suc, ◌+◌, ◌<◌, ◌≤◌, Bool, true, false, cond, ◌&&◌, ◌||◌, ltb, List, [], ◌∷◌, ◌++◌, length, refl, sym, ap, ◌∙◌, subst, arith, eq-eqb, append_assoc, inl, inr}
use Rattle.std.specs.List.{AllByRecursion}
use Rattle.std.proofs.lemmas.Bool.{cases_Bool, lt-ltb, le-ltb, both_ways, ne_eqb}
use Rattle.std.proofs.lemmas.List.{map-append}
use Rattle.model.specs.Trains.{Car, Train, Trains, car_numbers, one_of, words_of}
use Rattle.model.proofs.Alls.{all_with, all_right, all_map}
use Rattle.model.proofs.Distinct.{one_of_here, one_of_there, one_of_left, distinct_head}
use Rattle.model.proofs.RememberCars.{cars_in_row, Numbered, numbered_apart, numbered_right}
use Rattle.objects.specs.Stand.{EachCar}
use Rattle.objects.proofs.Places.{row_each}
use Rattle.slots.specs.Order.{AreInOrder, AreTold, cars_of}
use Rattle.trains.specs.Fills.{numbers_of}
use Rattle.trains.specs.Orders.{rank_from, filled_of, order_in}
use Rattle.trains.specs.Ties.{fills}
use Rattle.trains.proofs.Standing.{order_right, in_both}
use Rattle.memory.specs.Stands.{halted}
use Rattle.steps.specs.Others.{is_other, other_words, is_later}
use Rattle.steps.proofs.Rows.{fill-numbers, halted_filled}

abbrev between : ℕ → Bool
between k = ltb 0 k && ltb k 8

-- the rank of a car tells whether it is in one of these trains, which are behind the first
rank_between : (r n : ℕ) (ts : Trains) → 1 ≤ r → r + length ts ≤ 8 → between (rank_from r n (fills ts)) ≡ one_of n (car_numbers (cars_in_row ts))
rank_between r n [] l k = refl
rank_between r n (t ∷ ts) l k =
    ap (λ ns. between (cond (one_of n ns) r (rank_from (r + 1) n (fills ts)))) (fill-numbers t)
    ∙ (go (one_of n (car_numbers t)) refl (rank_between (r + 1) n ts (omega arith) (omega (arith, k))) ∙ ap (one_of n) (sym (map-append (λ (c : Car). c.number) t (cars_in_row ts))))
  where
    go : (b : Bool) → one_of n (car_numbers t) ≡ b → between (rank_from (r + 1) n (fills ts)) ≡ one_of n (car_numbers (cars_in_row ts))
        → between (cond b r (rank_from (r + 1) n (fills ts))) ≡ one_of n (car_numbers t ++ car_numbers (cars_in_row ts))
    go true e more = ap (λ x. x && ltb r 8) (lt-ltb 0 r (omega (arith, l))) ∙ (lt-ltb r 8 (omega (arith, k)) ∙ sym (one_of_left n (car_numbers t) (car_numbers (cars_in_row ts)) e))
    go false e more = more ∙ (sym (ap (λ x. x || one_of n (car_numbers (cars_in_row ts))) e) ∙ sym (in_both n (car_numbers t) (car_numbers (cars_in_row ts))))

pub others_which : (t : Train) (ts : Trains) → length (t ∷ ts) ≤ 8 → Numbered (cars_in_row (t ∷ ts)) → (n : ℕ) → is_other (halted (t ∷ ts)) n ≡ one_of n (car_numbers (cars_in_row ts))
others_which t ts few num n =
    ap (λ ns. between (cond (one_of n ns) 0 (rank_from 1 n (fills ts)))) (fill-numbers t) ∙ go (one_of n (car_numbers t)) refl
  where
    go : (b : Bool) → one_of n (car_numbers t) ≡ b → between (cond b 0 (rank_from 1 n (fills ts))) ≡ one_of n (car_numbers (cars_in_row ts))
    go true e = elim (cases_Bool (one_of n (car_numbers (cars_in_row ts)))) [
      | inl p ↦ absurd (both_ways (one_of n (car_numbers t)) (numbered_apart t (cars_in_row ts) num n p) e)
      | inr p ↦ sym p
    ]
    go false e = rank_between 1 n ts (omega arith) (omega (arith, few))

-- each car has its number among those of all
own_numbers : (t : Train) → AllByRecursion (λ c. one_of c.number (car_numbers t) ≡ true) t
own_numbers [] = tt
own_numbers (c ∷ t) = (
  one_of_here c.number (car_numbers t),
  all_map (λ d. one_of d.number (car_numbers t) ≡ true) (λ d. one_of d.number (car_numbers (c ∷ t)) ≡ true) (λ d p. one_of_there d.number c.number (car_numbers t) p) t (own_numbers t),
)

abbrev later_in : List ℕ → ℕ → ℕ → Bool
later_in ns a b = ltb (order_in b ns) (order_in a ns)

in_order : (t u : Train) → Numbered (t ++ u) → AreInOrder (later_in (car_numbers (t ++ u))) u
in_order t [] num = tt
in_order t (c ∷ u) num =
    let all = car_numbers (t ++ c ∷ u) in
    let split : all ≡ car_numbers t ++ (c.number ∷ car_numbers u) = map-append (λ (d : Car). d.number) t (c ∷ u) in
    let first : order_in c.number all ≡ length (car_numbers t) =
    ap (order_in c.number) split
    ∙ (order_right c.number (car_numbers t) (c.number ∷ car_numbers u) (numbered_apart t (c ∷ u) num c.number (one_of_here c.number (car_numbers u)))
    ∙ (ap (λ (b : Bool). length (car_numbers t) + cond b 0 (suc (order_in c.number (car_numbers u)))) (eq-eqb c.number c.number refl)
    ∙ let z : length (car_numbers t) + 0 ≡ length (car_numbers t) = omega arith in z)) in
    let apart : (d : Car) → one_of d.number (car_numbers u) ≡ true → order_in c.number all < order_in d.number all = λ d p.
    let behind : order_in d.number all ≡ length (car_numbers t) + suc (order_in d.number (car_numbers u)) =
    ap (order_in d.number) split
    ∙ (order_right d.number (car_numbers t) (c.number ∷ car_numbers u) (numbered_apart t (c ∷ u) num d.number (one_of_there d.number c.number (car_numbers u) p))
    ∙ ap (λ (b : Bool). length (car_numbers t) + cond b 0 (suc (order_in d.number (car_numbers u))))
    (ne_eqb d.number c.number (λ e. both_ways (one_of d.number (car_numbers u)) (ap (λ n. one_of n (car_numbers u)) e ∙ distinct_head c.number (car_numbers u) (numbered_right t (c ∷ u) num).1) p))) in
    omega (arith, first, behind) in
    let whole : (t ++ c ∷ []) ++ u ≡ t ++ c ∷ u = append_assoc t (c ∷ []) u in (
      all_map (λ d. one_of d.number (car_numbers u) ≡ true) (λ d. (later_in all d.number c.number ≡ true) × (later_in all c.number d.number ≡ false))
          (λ d p. (lt-ltb (order_in c.number all) (order_in d.number all) (apart d p), le-ltb (order_in d.number all) (order_in c.number all) (omega (arith, apart d p)))) u (own_numbers u),
      subst (λ us. AreInOrder (later_in (car_numbers us)) u) whole (in_order (t ++ c ∷ []) u (subst Numbered (sym whole) num)),
    )

all_numbers_of : (ts : Trains) → numbers_of (fills ts) ≡ car_numbers (cars_in_row ts)
all_numbers_of [] = refl
all_numbers_of (t ∷ ts) = ap (λ ns. ns ++ numbers_of (fills ts)) (fill-numbers t) ∙ (ap (λ ns. car_numbers t ++ ns) (all_numbers_of ts) ∙ sym (map-append (λ (c : Car). c.number) t (cars_in_row ts)))

-- all that a survey asks of them
pub others_told : (t : Train) (ts : Trains) → length (t ∷ ts) ≤ 8 → Numbered (cars_in_row (t ∷ ts)) → EachCar (λ c. words_of c.objects ≤ 128) (t ∷ ts)
    → AreTold (is_other (halted (t ∷ ts))) (other_words (halted (t ∷ ts))) (is_later (halted (t ∷ ts))) (cars_of ts)
others_told t ts few num within = record {
  which = λ n l. others_which t ts few num n;
  words = all_with (λ c. filled_of c.number (halted (t ∷ ts)) ≡ words_of c.objects) (λ c. words_of c.objects ≤ 128) (λ c. other_words (halted (t ∷ ts)) c.number ≡ words_of c.objects)
      (λ c p q. omega (arith, p, q)) (cars_in_row ts)
      (all_right (λ c. filled_of c.number (halted (t ∷ ts)) ≡ words_of c.objects) t (cars_in_row ts) (halted_filled (t ∷ ts) num.1))
      (row_each (λ c. words_of c.objects ≤ 128) ts within.1);
  order = subst (λ ns. AreInOrder (later_in ns) (cars_in_row ts)) (sym (all_numbers_of (t ∷ ts))) (in_order t (cars_in_row ts) num);
}
