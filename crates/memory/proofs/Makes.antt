-- What a make does to a memory.
use Rattle.std.proofs.Common.{◌≡◌, ℕ, ◌+◌, ◌<◌, ◌≤◌, ◌≢◌, true, false, not, cond, List, [], ◌∷◌, length, set, length-set, Option, Some, None, refl, sym, ap, ◌∙◌, subst, arith}
use Rattle.std.specs.Option.{option_map}
use Rattle.std.proofs.Math.Decide.{ℕ_discrete}
use Rattle.std.proofs.lemmas.Bool.{ltb-true, le-leb, lt-leb, ne_eqb}
use Rattle.std.proofs.lemmas.List.{get_or-set_same, get_or-set_other}
use Rattle.calls.specs.declared.answer.Refusal.TheVariants.{Root, Shape as NoShape, Full}
use Rattle.calls.specs.declared.call.Call.TheVariants.{Make}
use Rattle.layout.specs.Admitted.{admitted_header, header_word_some}
use Rattle.layout.specs.Coding.{Coded, header_word, size_of}
use Rattle.layout.specs.declared.Shape.{Shape}
use Rattle.layout.specs.ShapeTable.{ShapeTable, Offsets, Lawful}
use Rattle.model.specs.Calls.{refused, done}
use Rattle.model.specs.Bodies.{Body, held, is_root, fresh, shape_of, new_body, size, Outcome, outcome, make_outcome, make_admitted}
use Rattle.model.specs.Claims.{MoveRequest}
use Rattle.model.specs.Sound.{first_objects}
use Rattle.model.specs.Trains.{Obj, Trains, objects, times, words_in_use, numbers, one_of, lowest_free, place_at, arrival, capacity, car_count, obj_size}
use Rattle.model.specs.Space.{Model, all_objects, made_by, has_room}
use Rattle.model.proofs.Cars.{few_cars, length-numbers, arrival_below, fresh_sized}
use Rattle.model.proofs.Distinct.{lowest_unused}
use Rattle.model.proofs.Keeps.{old_none}
use Rattle.model.proofs.Totals.{sums, place_at-total}
use Rattle.objects.specs.Lies.{Lies, word_of}
use Rattle.objects.specs.Locate.{locate}
use Rattle.objects.specs.Stand.{next_address_at}
use Rattle.objects.specs.Words.{SameOutside}
use Rattle.objects.proofs.NewObjects.{locate-place_at, locate-new, next_ends, stand_placed, unheld, size-fresh}
use Rattle.trains.specs.Fills.{Placement, free_car, placed, spot_at, arrival_of}
use Rattle.trains.proofs.Follow.{fills_follow, stands_in_its_room}
use Rattle.memory.specs.Heap.{Heap}
use Rattle.memory.specs.Stands.{Stands, Acts, mark_at}
use Rattle.memory.proofs.Held.{Halt}

-- the trains where a new object lies
abbrev pub with_new : Body → Model → Trains
with_new b m = place_at (arrival m.trains) (lowest_free (numbers m.trains)) (record { id = m.made; body = b }) m.trains

module _ (M : ShapeTable) (code : Shape → ℕ) (m : Model) (r k a b : ℕ) where
  outcome_acts : (o : Outcome Model) (t : Heap) → make_outcome (is_root r) (new_body M (shape_of k a b)) (λ x. not (has_room x m)) m (λ x. made_by x r m) ≡ o
      → Stands M code o.state t → Acts M code (Make r k a b) m o.reply [] t
  outcome_acts o t e st = record {
    answered = λ P. ap (λ (v : Outcome Model). v.reply) e;
    updates = refl;
    stands = subst (λ (v : Outcome Model). Stands M code v.state t) (sym e) st;
  }

  pub make_no_root : (s : Heap) → Stands M code m s → is_root r ≡ false → Acts M code (Make r k a b) m (refused Root) [] s
  make_no_root s st p =
      outcome_acts (outcome m (refused Root)) s
      (ap (λ t. make_outcome t (new_body M (shape_of k a b)) (λ x. not (has_room x m)) m (λ x. made_by x r m)) p) st

  admitted_outcome : (o : Option Offsets) → is_root r ≡ true → M.offsets (shape_of k a b) ≡ o
      → make_outcome (is_root r) (new_body M (shape_of k a b)) (λ x. not (has_room x m)) m (λ x. made_by x r m)
      ≡ make_admitted (λ x. not (has_room x m)) m (λ x. made_by x r m) (option_map (fresh (shape_of k a b)) o)
  admitted_outcome o p e =
      ap (λ t. make_outcome t (new_body M (shape_of k a b)) (λ x. not (has_room x m)) m (λ x. made_by x r m)) p
      ∙ ap (λ z. make_admitted (λ x. not (has_room x m)) m (λ x. made_by x r m) (option_map (fresh (shape_of k a b)) z)) e

  pub make_no_shape : (s : Heap) → Stands M code m s → is_root r ≡ true → M.offsets (shape_of k a b) ≡ None → Acts M code (Make r k a b) m (refused NoShape) [] s
  make_no_shape s st p e = outcome_acts (outcome m (refused NoShape)) s (admitted_outcome None p e) st

  pub make_full : (s : Heap) → Stands M code m s → (o : Offsets) → is_root r ≡ true → M.offsets (shape_of k a b) ≡ Some o
      → capacity < words_in_use m.trains + size (fresh (shape_of k a b) o) → Acts M code (Make r k a b) m (refused Full) [] s
  make_full s st o p e f =
      outcome_acts (outcome m (refused Full)) s
      (admitted_outcome (Some o) p e
      ∙ ap (λ t. cond (not t) (outcome m (refused Full)) (outcome (made_by (fresh (shape_of k a b) o) r m) done)) (lt-leb (words_in_use m.trains + size (fresh (shape_of k a b) o)) capacity f)) st

  pub make_done : (t : Heap) (o : Offsets) → is_root r ≡ true → M.offsets (shape_of k a b) ≡ Some o
      → words_in_use m.trains + size (fresh (shape_of k a b) o) ≤ capacity → Stands M code (made_by (fresh (shape_of k a b) o) r m) t → Acts M code (Make r k a b) m done [] t
  make_done t o p e f st =
      outcome_acts (outcome (made_by (fresh (shape_of k a b) o) r m) done) t
      (admitted_outcome (Some o) p e
      ∙ ap (λ t. cond (not t) (outcome m (refused Full)) (outcome (made_by (fresh (shape_of k a b) o) r m) done)) (le-leb (words_in_use m.trains + size (fresh (shape_of k a b) o)) capacity f)) st

module _ (M : ShapeTable) (code : Shape → ℕ) (law : Lawful M) (m : Model) (halt : Halt m) (s : Heap) (st : Stands M code m s) where
  abbrev car : ℕ
  car = lowest_free (numbers m.trains)

  abbrev rank : ℕ
  rank = arrival m.trains

  -- a free car is there, and the arrival rank is that of a train or the next one
  pub car_free : (car < car_count) × (one_of car (numbers m.trains) ≡ false)
  car_free =
      let few = few_cars m.trains halt.sound.filled halt.sound.room halt.sound.few in
      lowest_unused (numbers m.trains) (omega (arith, length-numbers m.trains, few))

  pub used_few : s.used ≤ 3072
  used_few = omega (arith, st.used, halt.sound.room)

  pub rank_near : arrival_of s.trains.trains ≤ length s.trains.trains
  rank_near =
      let b = arrival_below m.trains halt.sound.few in
      rw (ap (λ (p : Placement). p.trains) st.trains, sym (fills_follow.arrives m.trains), sym (fills_follow.counted m.trains)) b.1

  pub rank_low : arrival_of s.trains.trains < 8
  rank_low =
      let b = arrival_below m.trains halt.sound.few in
      rw (ap (λ (p : Placement). p.trains) st.trains, sym (fills_follow.arrives m.trains)) b.0

  pub free_is : free_car s.trains ≡ car
  free_is = ap free_car st.trains ∙ sym (fills_follow.free None m.trains)

  pub free_low : free_car s.trains < 64
  free_low = rw free_is car_free.0

  new_none : times m.made (all_objects m) ≡ 0
  new_none = old_none m.made m.made (all_objects m) (omega arith) halt.sound.old

  not_new : (y : ℕ) → 1 ≤ times y (all_objects m) → y ≢ m.made
  not_new y h e = let z : times y (all_objects m) ≡ 0 = subst (λ (u : ℕ). times u (all_objects m) ≡ 0) (sym e) new_none in omega (arith, z, h)

  module _ (sh : Shape) (o : Offsets) (admitted : M.offsets sh ≡ Some o) where
    abbrev new : Obj
    new = record { id = m.made; body = fresh sh o }

    -- where the object will stand
    pub next_is : spot_at (arrival_of s.trains.trains) (free_car s.trains) (size (fresh sh o)) s.trains.trains ≡ next_address_at rank car new m.trains
    next_is =
        rw (free_is, ap (λ (p : Placement). p.trains) st.trains, sym (fills_follow.arrives m.trains))
        (sym (stands_in_its_room.new rank car new m.trains new_none) ∙ locate-new new rank car m.trains new_none)

    pub next_within : next_address_at rank car new m.trains + size (fresh sh o) ≤ 8192
    next_within = next_ends rank car new m.trains (fresh_sized M law sh o admitted) car_free.0 car_free.1 halt.seated

    kept : (y : ℕ) → 1 ≤ times y (all_objects m) → locate (with_new (fresh sh o) m) y ≡ locate m.trains y
    kept y h = locate-place_at new y (ne_eqb y m.made (not_new y h)) rank car m.trains

    kept_words : (h : Option ℕ) → ((y : ℕ) → h ≡ Some y → 1 ≤ times y (all_objects m)) → word_of (locate (with_new (fresh sh o) m)) h ≡ word_of (locate m.trains) h
    kept_words None l = refl
    kept_words (Some y) l = kept y (l y refl)

    kept_marks : (mk : Option MoveRequest) → ((w : MoveRequest) → mk ≡ Some w → 1 ≤ times w.who (all_objects m)) → option_map (mark_at (with_new (fresh sh o) m)) mk ≡ option_map (mark_at m.trains) mk
    kept_marks None l = refl
    kept_marks (Some w) l = ap (λ (z : ℕ). Some (record { object = z; rank = w.rank })) (kept w.who (l w refl))

    marked_lies : (w : MoveRequest) → m.mark ≡ Some w → 1 ≤ times w.who (all_objects m)
    marked_lies w e = first_lies w.who m.trains (halt.sound.mark w e).lies
      where
        first_lies : (x : ℕ) (us : Trains) → 1 ≤ times x (first_objects us) → 1 ≤ times x (objects us)
        first_lies x [] h = h
        first_lies x (t ∷ us) h = omega (arith, sums, h)

    -- a memory with the new object stands for the space that has it
    pub made_stands : (r z n : ℕ) (w : List ℕ) (t : Placement) → t ≡ placed (arrival_of s.trains.trains) n s.trains → is_root r ≡ true → z ≡ next_address_at rank car new m.trains → n ≡ size (fresh sh o) → length w ≡ 8192
        → SameOutside s.words w z n → Lies M code (locate (with_new (fresh sh o) m)) w z (fresh sh o)
        → Stands M code (made_by (fresh sh o) r m) (record { words = w; roots = set s.roots r z; trains = t; mark = s.mark; used = s.used + n })
    made_stands r z n w t t_is p e size_is wide outside lies = record {
      word_count = wide;
      root_word_count = length-set s.roots r z ∙ st.root_word_count;
      root_count = length-set m.roots r (Some m.made) ∙ st.root_count;
      objects = stand_placed M code law s.words w rank car new m.trains (fresh_sized M law sh o admitted) car_free.0 car_free.1 halt.seated new_none
          (unheld m.made m.trains new_none halt.sound.refs) st.objects
          (subst (λ (q : ℕ). SameOutside s.words w q (size (fresh sh o))) e (subst (SameOutside s.words w z) size_is outside))
          (subst (λ (q : ℕ). Lies M code (locate (with_new (fresh sh o) m)) w q (fresh sh o)) e lies);
      trains = t_is ∙
          rw (size_is, free_is, ap (λ (p : Placement). p.busy) st.trains, ap (λ (p : Placement). p.trains) st.trains, sym (fills_follow.arrives m.trains))
          (ap (λ fs. record { trains = fs; busy = None }) (sym (fills_follow.placed rank car new m.trains)));
      roots = λ q l. elim (ℕ_discrete q r) [
        | yes f ↦ rw f (get_or-set_same s.roots r z 0 (omega (arith, st.root_word_count, ltb-true r 32 p)) ∙ e ∙ sym (locate-new new rank car m.trains new_none)
            ∙ ap (word_of (locate (with_new (fresh sh o) m))) (sym (get_or-set_same m.roots r (Some m.made) None (omega (arith, st.root_count, ltb-true r 32 p)))))
        | no f ↦ get_or-set_other s.roots r q z 0 f ∙ st.roots q l ∙ sym (kept_words (held m.roots q) (halt.sound.roots q))
            ∙ ap (word_of (locate (with_new (fresh sh o) m))) (sym (get_or-set_other m.roots r q (Some m.made) None f))
      ];
      mark = st.mark ∙ sym (kept_marks m.mark marked_lies);
      used = omega (arith, st.used, size_is, place_at-total obj_size rank car new m.trains);
    }

-- what a header tells of the object to be made
pub record Headed (M : ShapeTable) (code : Shape → ℕ) (decoded : ℕ → Offsets) (sh : Shape) (header : ℕ) : Type 0 where
  pub offsets : Offsets
  pub admitted : M.offsets sh ≡ Some offsets
  pub is : code sh ≡ header
  pub sized : size_of (decoded header) ≡ size (fresh sh offsets)
  pub few : size_of (decoded header) ≤ 64

pub headed : (M : ShapeTable) (code : Shape → ℕ) (decoded : ℕ → Offsets) → Lawful M → Coded M code decoded → (sh : Shape) (header : ℕ) → header_word M code sh ≡ Some header → Headed M code decoded sh header
headed M code decoded law coded sh header e =
    let q = header_word_some M code sh header e in
    record {
      offsets = q.offsets;
      admitted = q.admitted;
      is = q.header;
      sized = ap (λ (z : ℕ). size_of (decoded z)) (sym q.header) ∙ size-fresh M code decoded law coded sh q.offsets q.admitted;
      few = rw (← q.header) (admitted_header law coded sh q.offsets q.admitted).most;
    }
