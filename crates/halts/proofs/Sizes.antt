-- An entry of the plain graph keeps its size for ever; sums over lists of which each is there once.
use Rattle.std.proofs.Common.{◌≡◌, ℕ, zero, suc, ◌<◌, ◌≤◌, Bool, true, false, eqb, List, [], ◌∷◌, ◌++◌, length, refl, sym, ◌∙◌, subst, arith, inl, inr, sum_by, length-append}
use Rattle.std.proofs.lemmas.Bool.{both_ways, false_from_ne_true}
use Rattle.std.proofs.lemmas.Map.Keys.{IsDistinct-tail}
use Rattle.std.specs.Prelude.{map, slice_get}
use Rattle.std.specs.List.{IsDistinct}
use Rattle.calls.specs.declared.call.Call.{Call}
use Rattle.calls.specs.declared.call.Call.TheVariants.{Make, Access, Step, Tally}
use Rattle.layout.specs.ShapeTable.{ShapeTable}
use Rattle.model.specs.Bodies.{Body, size, shape_of, new_body, with_ref, with_value, is_root, Effect, leave, hold, point, store, response, Outcome}
use Rattle.model.specs.Calls.{History, is_full}
use Rattle.model.specs.Laws.{size_of}
use Rattle.model.specs.Plain.{Graph, alter_entry, with_effect, with_entry, plain, graph_of}
use Rattle.model.specs.Trains.{one_of}
use Rattle.model.proofs.Alters.{ref_size, value_size}
use Rattle.model.proofs.Distinct.{distinct_nil, distinct_cons, distinct_head, one_of_here, one_of_there, one_of_head}
use Rattle.model.proofs.Keeps.{make_cases}
use Rattle.model.proofs.Totals.{sums}

-- Entries.

-- the size of the entry of this number, or 0
abbrev pub entry_size : List Body → ℕ → ℕ
entry_size es x = size_of (slice_get es x)

pub record Grows (es fs : List Body) : Type 0 where
  pub longer : length es ≤ length fs
  pub same : (x : ℕ) → x < length es → entry_size fs x ≡ entry_size es x

stays : (es : List Body) → Grows es es
stays es = record { longer = omega arith; same = λ x h. refl }

alter_size : (es : List Body) (y : ℕ) (f : Body → Body) → ((b : Body) → size (f b) ≡ size b) → (x : ℕ) → entry_size (alter_entry y f es) x ≡ entry_size es x
alter_size [] y f h x = refl
alter_size (b ∷ es) zero f h zero = h b
alter_size (b ∷ es) zero f h (suc x) = refl
alter_size (b ∷ es) (suc y) f h zero = refl
alter_size (b ∷ es) (suc y) f h (suc x) = alter_size es y f h x

alter_longer : (es : List Body) (y : ℕ) (f : Body → Body) → length es ≤ length (alter_entry y f es)
alter_longer [] y f = omega arith
alter_longer (b ∷ es) zero f = omega arith
alter_longer (b ∷ es) (suc y) f = omega (arith, alter_longer es y f)

alter_grows : (es : List Body) (y : ℕ) (f : Body → Body) → ((b : Body) → size (f b) ≡ size b) → Grows es (alter_entry y f es)
alter_grows es y f h = record { longer = alter_longer es y f; same = λ x k. alter_size es y f h x }

front_size : (es : List Body) (b : Body) (x : ℕ) → x < length es → entry_size (es ++ (b ∷ [])) x ≡ entry_size es x
front_size [] b x h = absurd (omega (arith, h))
front_size (c ∷ es) b zero h = refl
front_size (c ∷ es) b (suc x) h = front_size es b x (omega (arith, h))

effect_grows : (e : Effect) (g : Graph) → Grows g.entries (with_effect e g).entries
effect_grows leave g = stays g.entries
effect_grows (hold r h) g = stays g.entries
effect_grows (point x i h) g = alter_grows g.entries x (with_ref i h) (ref_size i h)
effect_grows (store x w v) g = alter_grows g.entries x (with_value w v) (value_size w v)

plain_grows : (M : ShapeTable) (full : Bool) (c : Call) (g : Graph) → Grows g.entries (plain M full c g).state.entries
plain_grows M full (Make r k a b) g =
    make_cases (λ (o : Outcome Graph). Grows g.entries o.state.entries) (is_root r) (new_body M (shape_of k a b)) (λ x. full) g (λ x. with_entry x r g)
    (λ n. stays g.entries)
    (λ x e f. record { longer = simp length-append (omega arith); same = front_size g.entries x })
plain_grows M full (Access c) g = effect_grows (response (slice_get g.entries) g.roots c).effect g
plain_grows M full Step g = stays g.entries
plain_grows M full Tally g = stays g.entries

-- whatever is called, an entry that there is has the size that it has
pub graph_grows : (M : ShapeTable) (h more : History) → Grows (graph_of M h).entries (graph_of M (more ++ h)).entries
graph_grows M h [] = stays (graph_of M h).entries
graph_grows M h (e ∷ more) =
    let r = graph_grows M h more in
    let s = plain_grows M (is_full e.reply) e.call (graph_of M (more ++ h)) in
    record { longer = omega (arith, r.longer, s.longer); same = λ x k. s.same x (omega (arith, k, r.longer)) ∙ r.same x k }

-- Lists.

pub sum_same : (f g : ℕ → ℕ) (xs : List ℕ) → ((x : ℕ) → one_of x xs ≡ true → f x ≡ g x) → sum_by f xs ≡ sum_by g xs
sum_same f g [] h = refl
sum_same f g (x ∷ xs) h = omega (arith, sums, h x (one_of_here x xs), sum_same f g xs (λ y e. h y (one_of_there y x xs e)))

pub sum_map : (f g : ℕ → ℕ) (xs : List ℕ) → sum_by g (map f xs) ≡ sum_by (λ x. g (f x)) xs
sum_map f g [] = refl
sum_map f g (x ∷ xs) = omega (arith, sums, sum_map f g xs)

pub one_of_map : (f : ℕ → ℕ) (x : ℕ) (xs : List ℕ) → one_of x xs ≡ true → one_of (f x) (map f xs) ≡ true
one_of_map f x [] e = absurd (both_ways false refl e)
one_of_map f x (y ∷ xs) e = elim (one_of_head x y xs e) [
  | inl q ↦ subst (λ z. one_of (f x) (f z ∷ map f xs) ≡ true) q (one_of_here (f x) (map f xs))
  | inr q ↦ one_of_there (f x) (f y) (map f xs) (one_of_map f x xs q)
]

pub of_map : (f : ℕ → ℕ) (a : ℕ) (xs : List ℕ) → one_of a (map f xs) ≡ true → (x : ℕ) × (one_of x xs ≡ true) × (f x ≡ a)
of_map f a [] e = absurd (both_ways false refl e)
of_map f a (y ∷ xs) e = elim (one_of_head a (f y) (map f xs) e) [
  | inl q ↦ (y, one_of_here y xs, sym q)
  | inr q ↦ let r = of_map f a xs q in (r.0, one_of_there r.0 y xs r.1, r.2)
]

pub distinct_map : (f : ℕ → ℕ) (xs : List ℕ) → IsDistinct eqb xs → ((x y : ℕ) → one_of x xs ≡ true → one_of y xs ≡ true → f x ≡ f y → x ≡ y) → IsDistinct eqb (map f xs)
distinct_map f [] d h = distinct_nil
distinct_map f (x ∷ xs) d h =
    distinct_cons (f x) (map f xs)
    (false_from_ne_true (one_of (f x) (map f xs)) (λ e.
    let y = of_map f (f x) xs e in
    let q : y.0 ≡ x = h y.0 x (one_of_there y.0 x xs y.1) (one_of_here x xs) y.2 in
    both_ways (one_of x xs) (distinct_head x xs d) (subst (λ z. one_of z xs ≡ true) q y.1)))
    (distinct_map f xs (IsDistinct-tail eqb x xs d) (λ y z p q. h y z (one_of_there y x xs p) (one_of_there z x xs q)))
