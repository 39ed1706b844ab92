-- Two general examples: 48 objects of 64 words fill a space, and two empty roots are the same.
use Rattle.std.proofs.Common.{◌≡◌, ℕ, ◌+◌, ◌*◌, ◌≤◌, Bool, true, false, List, [], ◌∷◌, length, Some, None, Option, option_map, refl, sym, ap, ◌∙◌, arith, not, subst}
use lib.ListN.{length-replicate}
use Rattle.std.proofs.lemmas.Bool.{le-leb, leb-true, false_from_ne_true}
use Rattle.std.proofs.lemmas.List.{length-map}
use Rattle.std.specs.List.{AllByRecursion}
use Rattle.std.specs.Prelude.{map}
use Rattle.calls.specs.declared.call.Call.{Call}
use Rattle.calls.specs.declared.call.Call.TheVariants.{Make, Access, Step, Tally}
use Rattle.calls.specs.declared.call.Access.TheVariants.{Same}
use Rattle.calls.specs.declared.answer.Answer.TheVariants.{Same as Alike}
use Rattle.calls.specs.declared.answer.Refusal.TheVariants.{Full}
use Rattle.layout.specs.ShapeTable.{ShapeTable, Offsets}
use Rattle.remembered.specs.Updates.{Pairs}
use Rattle.model.specs.Calls.{Event, History, answered, refused, done}
use Rattle.model.specs.Bodies.{Body, held, is_root, shape_of, fresh, size, Outcome, outcome, make_outcome}
use Rattle.model.specs.Trains.{words_in_use, obj_size, arrival, numbers, lowest_free, capacity}
use Rattle.model.specs.Space.{Model, act, space_of, has_room, made_by}
use Rattle.model.specs.Exact.{calls_of}
use Rattle.model.proofs.Totals.{place_at-total}

-- The statements.

-- a make into a lawful root, of an object with 63 references and data words together: with its header it has 64 words
abbrev pub MakesOf64Words : ShapeTable → Call → Type 0
MakesOf64Words M (Make r k a b) = (is_root r ≡ true) × ((o : Offsets) × (M.offsets (shape_of k a b) ≡ Some o) × (o.refs + o.words ≡ 63))
MakesOf64Words M (Access c) = ⊥
MakesOf64Words M Step = ⊥
MakesOf64Words M Tally = ⊥

-- no word is left: each make of a lawful root and an admitted shape is refused as full
pub record NoRoomAt (M : ShapeTable) (m : Model) : Type 0 where
  pub words : words_in_use m.trains ≡ capacity
  pub full : (r k a b : ℕ) (o : Offsets) (P : Pairs) → is_root r ≡ true → M.offsets (shape_of k a b) ≡ Some o → (act M (Make r k a b) m).reply P ≡ refused Full

-- so it is after 48 such makes, each of its own shape and root
abbrev pub FortyEightMakesFillASpace : Type 0
FortyEightMakesFillASpace = (M : ShapeTable) (h : History) → length h ≡ 48 → AllByRecursion (λ e. MakesOf64Words M e.call) h → NoRoomAt M (space_of M h)

-- the same for 48 makes of one shape, as arrays of 63 references, into these roots
abbrev pub FortyEightOfAShapeFillASpace : Type 0
FortyEightOfAShapeFillASpace =
    (M : ShapeTable) (k a b : ℕ) (o : Offsets) → M.offsets (shape_of k a b) ≡ Some o → o.refs + o.words ≡ 63
    → (rs : List ℕ) → length rs ≡ 48 → AllByRecursion (λ r. is_root r ≡ true) rs
    → (h : History) → calls_of h ≡ map (λ r. Make r k a b) rs → NoRoomAt M (space_of M h)

-- in each space two lawful roots that hold nothing are the same
abbrev pub EmptyRootsAreTheSame : Type 0
EmptyRootsAreTheSame =
    (M : ShapeTable) (m : Model) (r q : ℕ) (P : Pairs) → is_root r ≡ true → is_root q ≡ true → held m.roots r ≡ None → held m.roots q ≡ None
    → (act M (Access (Same r q)) m).reply P ≡ answered (Alike true)

-- The proofs.

make_done : {S : Type 0} (ok : Bool) (body : Option Body) (x : Body) (is_filled : Body → Bool) (before : S) (after : Body → S)
    → ok ≡ true → body ≡ Some x → is_filled x ≡ false → make_outcome ok body is_filled before after ≡ outcome (after x) done
make_done ok body x f s t p q e = rw (p, q, e) refl

make_full : {S : Type 0} (ok : Bool) (body : Option Body) (x : Body) (is_filled : Body → Bool) (before : S) (after : Body → S)
    → ok ≡ true → body ≡ Some x → is_filled x ≡ true → make_outcome ok body is_filled before after ≡ outcome before (refused Full)
make_full ok body x f s t p q e = rw (p, q, e) refl

made_words : (b : Body) (r : ℕ) (m : Model) → words_in_use (made_by b r m).trains ≡ words_in_use m.trains + size b
made_words b r m = place_at-total obj_size (arrival m.trains) (lowest_free (numbers m.trains)) (record { id = m.made; body = b }) m.trains

-- a make adds its 64 words while there is room for them
adds_64 : (M : ShapeTable) (c : Call) (m : Model) → MakesOf64Words M c → words_in_use m.trains + 64 ≤ capacity
    → words_in_use (act M c m).state.trains ≡ words_in_use m.trains + 64
adds_64 M (Make r k a b) m p h =
    let o = p.1.0 in
    let x = fresh (shape_of k a b) o in
    let s : size x ≡ 64 = omega (arith, p.1.2, length-replicate {A = Option ℕ} o.refs None, length-replicate {A = ℕ} o.words 0) in
    let room : has_room x m ≡ true = le-leb (words_in_use m.trains + size x) capacity (omega (arith, s, h)) in
    let made = make_done (is_root r) (option_map (fresh (shape_of k a b)) (M.offsets (shape_of k a b))) x (λ y. not (has_room y m)) m (λ y. made_by y r m)
    p.0 (ap (option_map (fresh (shape_of k a b))) p.1.1) (ap not room) in
    ap (λ (u : Outcome Model). words_in_use u.state.trains) made ∙ omega (arith, made_words x r m, s)
adds_64 M (Access c) m p h = absurd p
adds_64 M Step m p h = absurd p
adds_64 M Tally m p h = absurd p

words_after : (M : ShapeTable) (h : History) → length h ≤ 48 → AllByRecursion (λ e. MakesOf64Words M e.call) h → words_in_use (space_of M h).trains ≡ 64 * length h
words_after M [] l a = refl
words_after M (e ∷ h) l a =
    let w = words_after M h (omega (arith, l)) a.1 in
    omega (arith, w, adds_64 M e.call (space_of M h) a.0 (omega (arith, w, l)))

no_room : (M : ShapeTable) (m : Model) → words_in_use m.trains ≡ capacity → NoRoomAt M m
no_room M m w = record {
  words = w;
  full = λ r k a b o P ok is.
      let x = fresh (shape_of k a b) o in
      let none : has_room x m ≡ false = false_from_ne_true (has_room x m) (λ e. omega (arith, w, leb-true (words_in_use m.trains + size x) capacity e)) in
      ap (λ (u : Outcome Model). u.reply)
      (make_full (is_root r) (option_map (fresh (shape_of k a b)) (M.offsets (shape_of k a b))) x (λ y. not (has_room y m)) m (λ y. made_by y r m)
      ok (ap (option_map (fresh (shape_of k a b))) is) (ap not none));
}

pub forty_eight_fill : FortyEightMakesFillASpace
forty_eight_fill M h l a = no_room M (space_of M h) (omega (arith, words_after M h (omega (arith, l)) a, l))

calls_all : (P : Call → Type 0) (h : History) → AllByRecursion P (calls_of h) → AllByRecursion (λ e. P e.call) h
calls_all P [] a = tt
calls_all P (e ∷ h) a = (a.0, calls_all P h a.1)

made_all : (P : Call → Type 0) (k a b : ℕ) → ((r : ℕ) → is_root r ≡ true → P (Make r k a b)) → (rs : List ℕ) → AllByRecursion (λ r. is_root r ≡ true) rs → AllByRecursion P (map (λ r. Make r k a b) rs)
made_all P k a b h [] t = tt
made_all P k a b h (r ∷ rs) t = (h r t.0, made_all P k a b h rs t.1)

pub forty_eight_of_a_shape_fill : FortyEightOfAShapeFillASpace
forty_eight_of_a_shape_fill M k a b o is n rs l t h e =
    forty_eight_fill M h
    (omega (arith, l, length-map h (λ (v : Event). v.call), length-map rs (λ r. Make r k a b), ap length e))
    (calls_all (MakesOf64Words M) h (subst (AllByRecursion (MakesOf64Words M)) (sym e) (made_all (MakesOf64Words M) k a b (λ r p. (p, (o, is, n))) rs t)))

pub empty_roots_same : EmptyRootsAreTheSame
empty_roots_same M m r q P a b e f = rw (a, b, e, f) refl
