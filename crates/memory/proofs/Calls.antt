-- What each call on the roots' objects does to a memory.
use Rattle.std.proofs.Common.{◌≡◌, ℕ, ℤ, Bool, true, ◌++◌, eqb, leb, List, [], length, get_or, take, drop, Option, Some, None, Ok, refl, sym, ap, ap₂, ◌∙◌, arith}
use Rattle.std.specs.Option.{ok_or}
use Rattle.std.proofs.Math.Seq.{take-append_seam}
use Rattle.std.proofs.lemmas.Bool.{le-leb, lt-leb, ltb-true}
use Rattle.calls.specs.declared.answer.Answer.TheVariants.{Value, Words as Wrote, Same as Alike}
use Rattle.calls.specs.declared.answer.Refusal.{Refusal}
use Rattle.calls.specs.declared.answer.Refusal.TheVariants.{Root, Range, Buffer}
use Rattle.calls.specs.declared.call.Access.TheVariants.{Follow, Drop as Dropping, Put, Lift, Get, Words, Same}
use Rattle.calls.specs.declared.call.Call.TheVariants.{Access}
use Rattle.layout.specs.declared.Shape.{Shape}
use Rattle.layout.specs.ShapeTable.{ShapeTable, Lawful}
use Rattle.model.specs.Calls.{answered, refused, done}
use Rattle.model.specs.Bodies.{held, is_root, leave, hold, store, give, unless, lifted, store_lifted}
use Rattle.model.specs.Trains.{inside}
use Rattle.model.specs.Space.{Model, all_objects}
use Rattle.objects.specs.Lies.{word_of}
use Rattle.objects.specs.Locate.{locate}
use Rattle.objects.specs.Words.{FillsFront}
use Rattle.objects.proofs.Objects.{word_at-ref, word_at-value}
use Rattle.objects.proofs.Places.{object_stands}
use Rattle.memory.specs.Heap.{Heap}
use Rattle.memory.specs.Stands.{Stands, Acts}
use Rattle.memory.specs.Replies.{words_reply, Writes}
use Rattle.memory.specs.Found.{Found, RefusesWord, ref_count, ref_at, word_count, word_at}
use Rattle.memory.proofs.Held.{Halt, HeldAt, on_held}
use Rattle.memory.proofs.Acting.{with_root, with_word, refused_acts, gives_acts, hold_stands, store_stands, found_response, same_words}

-- a root is emptied
pub drop_acts : (M : ShapeTable) (code : Shape → ℕ) (m : Model) (s : Heap) → Stands M code m s → (r : ℕ) → is_root r ≡ true → Acts M code (Access (Dropping r)) m done [] (with_root r 8192 s)
drop_acts M code m s st r p =
    gives_acts M code m s st (Dropping r) done (hold r None) (with_root r 8192 s) (ap (λ t. unless t Root (give done (hold r None))) p) refl
    (hold_stands M code m s st r None 8192 p refl)

module _ (M : ShapeTable) (code : Shape → ℕ) (law : Lawful M) (m : Model) (halt : Halt m) (s : Heap) (st : Stands M code m s) where
  -- the word that was found
  pub ref_found : (r i a : ℕ) (f : Found m ref_count (ref_at M) r i a) → get_or s.words a 0 ≡ word_of (locate m.trains) (get_or f.body.refs i None)
  ref_found r i a f =
      ap (λ (z : ℕ). get_or s.words z 0) f.address
      ∙ word_at-ref M code (locate m.trains) s.words (locate m.trains f.object) f.body (object_stands M code (locate m.trains) s.words m.trains st.objects f.object f.body f.inside).lies i f.there

  pub value_found : (r j a : ℕ) (f : Found m word_count (word_at M) r j a) → get_or s.words a 0 ≡ get_or f.body.values j 0
  value_found r j a f =
      ap (λ (z : ℕ). get_or s.words z 0) f.address
      ∙ word_at-value M code (locate m.trains) s.words (locate m.trains f.object) f.body (object_stands M code (locate m.trains) s.words m.trains st.objects f.object f.body f.inside).lies j f.there

  pub get_acts : (r j a : ℕ) → Found m word_count (word_at M) r j a → Acts M code (Access (Get r j)) m (answered (Value (get_or s.words a 0))) [] s
  get_acts r j a f =
      gives_acts M code m s st (Get r j) (answered (Value (get_or s.words a 0))) leave s
      (found_response m word_count (word_at M) r j a f (λ x b. give (answered (Value (get_or b.values j 0))) leave)
      ∙ ap (λ (v : ℕ). give (answered (Value v)) leave) (sym (value_found r j a f)))
      refl st

  pub put_acts : (r j v a : ℕ) → Found m word_count (word_at M) r j a → Acts M code (Access (Put r j v)) m done [] (with_word a v s)
  put_acts r j v a f =
      gives_acts M code m s st (Put r j v) done (store f.object j v) (with_word a v s)
      (found_response m word_count (word_at M) r j a f (λ x b. give done (store x j v)))
      refl (rw f.address (store_stands M code m s st law halt f.object f.body f.inside j v f.there))

  pub lift_refused : (r j a : ℕ) (by : ℤ) → Found m word_count (word_at M) r j a → lifted (get_or s.words a 0) by ≡ None → Acts M code (Access (Lift r j by)) m (refused Range) [] s
  lift_refused r j a by f e =
      refused_acts M code m s st (Lift r j by) Range
      (found_response m word_count (word_at M) r j a f (λ x b. store_lifted x j (lifted (get_or b.values j 0) by))
      ∙ ap (store_lifted f.object j) (ap (λ (v : ℕ). lifted v by) (sym (value_found r j a f)) ∙ e))

  pub lift_acts : (r j a v : ℕ) (by : ℤ) → Found m word_count (word_at M) r j a → lifted (get_or s.words a 0) by ≡ Some v → Acts M code (Access (Lift r j by)) m done [] (with_word a v s)
  lift_acts r j a v by f e =
      gives_acts M code m s st (Lift r j by) done (store f.object j v) (with_word a v s)
      (found_response m word_count (word_at M) r j a f (λ x b. store_lifted x j (lifted (get_or b.values j 0) by))
      ∙ ap (store_lifted f.object j) (ap (λ (v : ℕ). lifted v by) (sym (value_found r j a f)) ∙ e))
      refl (rw f.address (store_stands M code m s st law halt f.object f.body f.inside j v f.there))

  pub follow_refused : (r q i : ℕ) (e : Refusal) → is_root r ≡ true → RefusesWord m ref_count q i e → Acts M code (Access (Follow r q i)) m (refused e) [] s
  follow_refused r q i e p f =
      refused_acts M code m s st (Follow r q i) e (rw p (f (λ x b. give done (hold r (get_or b.refs i None)))))

  pub follow_acts : (r q i a : ℕ) → is_root r ≡ true → Found m ref_count (ref_at M) q i a → Acts M code (Access (Follow r q i)) m done [] (with_root r (get_or s.words a 0) s)
  follow_acts r q i a p f =
      gives_acts M code m s st (Follow r q i) done (hold r (get_or f.body.refs i None)) (with_root r (get_or s.words a 0) s)
      (rw p (found_response m ref_count (ref_at M) q i a f (λ x b. give done (hold r (get_or b.refs i None)))))
      refl (hold_stands M code m s st r (get_or f.body.refs i None) (get_or s.words a 0) p (ref_found q i a f))

  pub same_acts : (r q : ℕ) → is_root r ≡ true → is_root q ≡ true → Acts M code (Access (Same r q)) m (answered (Alike (eqb (get_or s.roots r 0) (get_or s.roots q 0)))) [] s
  same_acts r q p o =
      gives_acts M code m s st (Same r q) (answered (Alike (eqb (get_or s.roots r 0) (get_or s.roots q 0)))) leave s
      (rw (p, o) (ap (λ (t : Bool). give (answered (Alike t)) leave)
      (sym (ap₂ (λ (u v : ℕ). eqb u v) (st.roots r (ltb-true r 32 p)) (st.roots q (ltb-true q 32 o))
      ∙ same_words m halt (held m.roots r) (held m.roots q) (halt.sound.roots r) (halt.sound.roots q)))))
      refl st

  pub words_acts : (r a : ℕ) (w : HeldAt m r a) (old new : List ℕ) (o : Option ℕ) → FillsFront w.body.values old new o
      → Acts M code (Access (Words r (length old))) m (words_reply (ok_or o Buffer) new) [] s
  words_acts r a w old new None f =
      refused_acts M code m s st (Words r (length old)) Buffer
      (on_held (is_root r) (inside (all_objects m)) (held m.roots r) w.object w.body
      (λ x b. unless (leb (length b.values) (length old)) Buffer (give (record { answer = Wrote (length b.values); written = b.values }) leave)) w.root w.held w.inside
      ∙ ap (λ t. unless t Buffer (give (record { answer = Wrote (length w.body.values); written = w.body.values }) leave)) (lt-leb (length w.body.values) (length old) f.0))
  words_acts r a w old new (Some n) f =
      gives_acts M code m s st (Words r (length old)) (words_reply (Ok n) new) leave s
      (on_held (is_root r) (inside (all_objects m)) (held m.roots r) w.object w.body
      (λ x b. unless (leb (length b.values) (length old)) Buffer (give (record { answer = Wrote (length b.values); written = b.values }) leave)) w.root w.held w.inside
      ∙ ap (λ t. unless t Buffer (give (record { answer = Wrote (length w.body.values); written = w.body.values }) leave)) (le-leb (length w.body.values) (length old) f.1)
      ∙ ap₂ (λ (k : ℕ) (vs : List ℕ). give (record { answer = Wrote k; written = vs }) leave) (sym f.0) (sym (written n w.body.values old new f.0 f.2)))
      refl st
    where
      written : (n : ℕ) (vs old new : List ℕ) → n ≡ length vs → new ≡ vs ++ drop (length vs) old → take n new ≡ vs
      written n vs old new e f = rw (e, f) (take-append_seam vs (drop (length vs) old))

pub words_writes : (vs old new : List ℕ) (o : Option ℕ) → FillsFront vs old new o → Writes (words_reply (ok_or o Buffer) new) old new
words_writes vs old new None f = record { room = omega arith; buffer = f.1 }
words_writes vs old new (Some n) f =
    let t : take n new ≡ vs = rw (f.0, f.2) (take-append_seam vs (drop (length vs) old)) in
    record { room = rw t f.1; buffer = rw t f.2 }
