-- The laws of a memory at a halt, from those of the space that it stands for.
use Rattle.std.proofs.Common.{true, ◌≡◌, ℕ, zero, suc, ◌+◌, ◌*◌, ◌<◌, ◌≤◌, ◌⊎◌, List, [], ◌∷◌, ◌++◌, get_or, length, Option, Some, None, refl, sym, ap, ◌∙◌, subst, inl, inr, arith}
use Rattle.std.proofs.lemmas.Bool.{both_ways, cases_Bool, cases_lt}
use Rattle.std.specs.Prelude.{◌≢◌, map, slice_get, option_map}
use Rattle.layout.specs.Coding.{Coded}
use Rattle.layout.specs.declared.Shape.{Shape}
use Rattle.layout.specs.ShapeTable.{ShapeTable, Lawful, Offsets}
use Rattle.model.specs.Bodies.{Body, held}
use Rattle.model.specs.Calls.{History}
use Rattle.model.specs.Laws.{GoneAfter, ListsReachable, SameReach, WasteUpTo, train_steps, sizes, size_of}
use Rattle.model.specs.Plain.{Graph, graph_of}
use Rattle.model.specs.Reach.{GraphReaches, Unreachable, by_root, by_ref}
use Rattle.model.specs.Sound.{Sound, first_objects}
use Rattle.model.specs.Space.{Model, space_of, Use}
use Rattle.model.specs.Trains.{Trains, train_objects, objects, one_of, times}
use Rattle.model.proofs.Distinct.{sum_within}
use Rattle.model.proofs.Keeps.{sound_of, times_self, inside_body}
use Rattle.model.proofs.NeverFail.{never_fail_law}
use Rattle.model.proofs.Reached.{reachable_listed}
use Rattle.model.proofs.Refuses.{inside_of}
use Rattle.model.proofs.Sim.{Sim, sim_of, graph_law, inside-entry, reached_lies, same_reach}
use Rattle.model.proofs.Totals.{sums}
use Rattle.model.proofs.WasteLaws.{waste_leaves, waste_near_the_front, words_bounded}
use Rattle.objects.specs.Lies.{nothing, word_of}
use Rattle.objects.specs.Locate.{locate}
use Rattle.objects.specs.Stand.{Seated}
use Rattle.objects.proofs.Locates.{locate-none, located_below, located_differ, sound_seated}
use Rattle.objects.proofs.Places.{object_stands, of_times}
use Rattle.trains.specs.Fills.{CarFill}
use Rattle.trains.specs.Ties.{fills}
use Rattle.memory.specs.Heap.{Heap}
use Rattle.memory.specs.Stands.{Stands, mark_at}
use Rattle.halts.specs.Objects.{told, size_at, ref_word, LiesIn, IsObject, IsObjectOf, filled_words}
use Rattle.halts.specs.Reached.{MemoryReaches, by_root as from_root, by_ref as from_ref, IsWaste, WasteUpToRank}
use Rattle.halts.specs.Matching.{Holds, SameInside, Matching, ReachesTheSame}
use Rattle.halts.specs.HaltLaws.{OnlyReachableLeft, EachAfter, ListsReached, sizes_at, sizes_made, WordsWithin, HaltLaw, HaltLaws}
use Rattle.halts.proofs.Sizes.{Grows, entry_size, graph_grows, sum_same, sum_map, one_of_map, of_map, distinct_map}
use Rattle.halts.proofs.Walks.{Stood, some_same, words_filled, length-fills, same_told, in_trains, rank_met, trains_met}

held_below : (rs : List (Option ℕ)) (r x : ℕ) → get_or rs r None ≡ Some x → r < length rs
held_below [] r x e = let z : ◌≡◌ {A = ℕ} 0 1 = cc in absurd (omega arith)
held_below (h ∷ rs) zero x e = omega arith
held_below (h ∷ rs) (suc r) x e = omega (arith, held_below rs r x e)

-- the word that stands for what is held holds it
holds_word : (at : ℕ → ℕ) (w : ℕ) (h : Option ℕ) → w ≡ word_of at h → ((x : ℕ) → h ≡ Some x → at x < nothing) → Holds at w h
holds_word at w None e below = e
holds_word at w (Some x) e below = (e, omega (arith, e, below x refl))

-- a word that holds an object, and one that is an address
holds_some : (at : ℕ → ℕ) (w : ℕ) (h : Option ℕ) (x : ℕ) → Holds at w h → h ≡ Some x → w ≡ at x
holds_some at w h x p e = (subst (Holds at w) e p).0

holds_address : (at : ℕ → ℕ) (w : ℕ) (h : Option ℕ) → Holds at w h → w ≢ nothing → (x : ℕ) × (h ≡ Some x) × (at x ≡ w)
holds_address at w None p n = absurd (n p)
holds_address at w (Some x) p n = (x, refl, sym p.0)

-- the first train's objects are objects, and so are those of the train of any rank
of_first : (ts : Trains) (x : ℕ) → times x (first_objects ts) ≤ times x (objects ts)
of_first [] x = omega arith
of_first (t ∷ ts) x = omega (arith, sums)

of_rank : (ts : Trains) (k x : ℕ) → times x (train_objects (get_or ts k [])) ≤ times x (objects ts)
of_rank [] k x = omega arith
of_rank (t ∷ ts) zero x = omega (arith, sums)
of_rank (t ∷ ts) (suc k) x = omega (arith, sums, of_rank ts k x)

-- a memory, the space that it stands for, and the plain graph
record Halted (M : ShapeTable) (code : Shape → ℕ) (decoded : ℕ → Offsets) (m : Model) (g : Graph) (heap : Heap) : Type 0 where
  coded : Coded M code decoded
  sound : Sound m
  seated : Seated m.trains
  sim : Sim g m
  stands : Stands M code m heap

module _ {M : ShapeTable} {code : Shape → ℕ} {decoded : ℕ → Offsets} {m : Model} {g : Graph} {heap : Heap} (c : Halted M code decoded m g heap) where
  abbrev at : ℕ → ℕ
  at x = locate m.trains x

  -- Objects and entries.

  lies_if : (x : ℕ) → at x ≢ nothing → 1 ≤ times x (objects m.trains)
  lies_if x n = go (times x (objects m.trains)) refl
    where
      go : (k : ℕ) → times x (objects m.trains) ≡ k → 1 ≤ times x (objects m.trains)
      go zero e = absurd (n (locate-none m.trains x e))
      go (suc k) e = omega (arith, e)

  not_nothing : (x : ℕ) → 1 ≤ times x (objects m.trains) → at x ≢ nothing
  not_nothing x h e = omega (arith, located_below m.trains c.seated x h, e)

  -- trains by how full their cars are are those of the memory
  to_memory : (k a : ℕ) → LiesIn decoded heap (get_or (fills m.trains) k []) a → IsObjectOf decoded heap k a
  to_memory k a l = subst (λ p. LiesIn decoded heap (get_or p.trains k []) a) (sym c.stands.trains) l

  is_object : (x : ℕ) → 1 ≤ times x (objects m.trains) → IsObject decoded heap (at x)
  is_object x h =
      let o = of_times (λ y. (k : ℕ) × LiesIn decoded heap (get_or (fills m.trains) k []) (at y)) x (objects m.trains)
      (trains_met c.coded at heap m.trains c.stands.objects) h in
      record { rank = o.0; lies = to_memory o.0 (at x) o.1 }

  is_object_of : (k x : ℕ) → 1 ≤ times x (train_objects (get_or m.trains k [])) → IsObjectOf decoded heap k (at x)
  is_object_of k x h =
      to_memory k (at x)
      (of_times (λ y. LiesIn decoded heap (get_or (fills m.trains) k []) (at y)) x (train_objects (get_or m.trains k [])) (rank_met c.coded at heap m.trains c.stands.objects k) h)

  -- an object that stands at a is one of the space
  abbrev Whose : CarFill → ℕ → Type 0
  Whose f a = Stood c.coded at heap (λ o. 1 ≤ times o.id (objects m.trains)) f a

  whose : (k a : ℕ) (l : IsObjectOf decoded heap k a) → Whose l.car a
  whose k a l =
      subst (λ p. (l : LiesIn decoded heap (get_or p.trains k []) a) → Whose l.car a) (sym c.stands.trains)
      (in_trains c.coded at heap (λ o. 1 ≤ times o.id (objects m.trains)) m.trains c.stands.objects (times_self (objects m.trains)) k a) l

  -- the entry of an identity, and its object's words
  record Both (x : ℕ) : Type 0 where
    body : Body
    entry : slice_get g.entries x ≡ Some body
    same : SameInside M decoded heap at (at x) body

  both : (x : ℕ) → 1 ≤ times x (objects m.trains) → Both x
  both x h =
      let b = inside_of (objects m.trains) x h in
      let l = (object_stands M code at heap.words m.trains c.stands.objects x b.0 b.1).lies in
      let s = same_told c.coded at heap (at x) b.0 l in
      record {
        body = b.0;
        entry = sym (inside-entry g.entries (objects m.trains) x c.sim.twins h) ∙ b.1;
        same = record {
          offsets = l.offsets;
          admitted = l.admitted;
          ref_count = l.ref_count;
          word_count = l.word_count;
          header = s;
          data_words = λ j k. ap (λ n. get_or heap.words (at x + n) 0) (s.word_at j k) ∙ l.values j k;
          refs = λ i k.
              holds_word at (ref_word decoded heap (at x) i) (get_or b.0.refs i None) (ap (λ n. get_or heap.words (at x + n) 0) (s.ref_at i k) ∙ l.refs i k)
              (λ y e. located_below m.trains c.seated y
              (inside_body (λ d. (i y : ℕ) → get_or d.refs i None ≡ Some y → 1 ≤ times y (objects m.trains)) (objects m.trains) x b.0 c.sound.refs b.1 i y e));
        };
      }

  abbrev matching : Matching M decoded g heap
  matching = record {
    address = at;
    each = λ a i. let w = whose i.rank a i.lies in (w.object.id, w.there);
    stands = λ x n. is_object x (lies_if x n);
    entries = λ x n. let b = both x (lies_if x n) in record { body = b.body; entry = b.entry; same = b.same };
    differ = λ x y n e. located_differ m.trains c.seated x y (lies_if x n) (lies_if y (λ z. n (e ∙ z))) e;
    below = λ a i. let w = whose i.rank a i.lies in subst (λ z. z < nothing) w.there (located_below m.trains c.seated w.object.id w.is);
  }

  -- What the roots reach.

  space_same : SameReach g m
  space_same = same_reach g m c.sound c.sim

  entry_lies : (x : ℕ) → GraphReaches g x → 1 ≤ times x (objects m.trains)
  entry_lies x p = reached_lies m c.sound x (space_same.forth x p)

  roots_hold : (r : ℕ) → r < 32 → Holds at (get_or heap.roots r 0) (held g.roots r)
  roots_hold r l =
      let e = ap (λ rs. held rs r) c.sim.roots in
      holds_word at (get_or heap.roots r 0) (held g.roots r) (c.stands.roots r l ∙ ap (word_of at) e)
      (λ x f. located_below m.trains c.seated x (c.sound.roots r x (e ∙ f)))

  -- the references of an entry that has an object
  record RefsHold (x : ℕ) (b : Body) : Type 0 where
    count : (told decoded heap (at x)).refs ≡ length b.refs
    each : (i : ℕ) → i < length b.refs → Holds at (ref_word decoded heap (at x) i) (get_or b.refs i None)

  refs_hold : (x : ℕ) (b : Body) → 1 ≤ times x (objects m.trains) → slice_get g.entries x ≡ Some b → RefsHold x b
  refs_hold x b h e =
      let o = both x h in
      let s : SameInside M decoded heap at (at x) b = subst (SameInside M decoded heap at (at x)) (some_same (sym o.entry ∙ e)) o.same in
      record { count = omega (arith, s.header.refs, s.ref_count); each = λ i k. s.refs i (omega (arith, k, s.ref_count)) }

  reached_forth : (x : ℕ) → GraphReaches g x → MemoryReaches decoded heap (at x)
  reached_forth x (by_root r e) =
      let l : r < 32 = omega (arith, held_below m.roots r x (ap (λ rs. held rs r) c.sim.roots ∙ e), c.stands.root_count) in
      from_root r l (holds_some at (get_or heap.roots r 0) (held g.roots r) x (roots_hold r l) e) (not_nothing x (entry_lies x (by_root r e)))
  reached_forth x (by_ref {x = w} i b p f e) =
      let q = refs_hold w b (entry_lies w p) f in
      let k = held_below b.refs i x e in
      from_ref i (reached_forth w p) (omega (arith, k, q.count)) (holds_some at (ref_word decoded heap (at w) i) (get_or b.refs i None) x (q.each i k) e)
      (not_nothing x (entry_lies x (by_ref i b p f e)))

  abbrev Reached : ℕ → Type 0
  Reached a = (x : ℕ) × GraphReaches g x × (at x ≡ a)

  reached_entry : (a : ℕ) → MemoryReaches decoded heap a → Reached a
  reached_entry a (from_root r l e n) =
      let x = holds_address at (get_or heap.roots r 0) (held g.roots r) (roots_hold r l) (λ z. n (sym e ∙ z)) in
      (x.0, by_root r x.1, x.2 ∙ e)
  reached_entry a (from_ref {a = d} i p l e n) =
      let o = reached_entry d p in
      let b = both o.0 (entry_lies o.0 o.1) in
      let q = refs_hold o.0 b.body (entry_lies o.0 o.1) b.entry in
      let k : i < length b.body.refs = omega (arith, q.count, subst (λ z. i < (told decoded heap z).refs) (sym o.2) l) in
      let f : ref_word decoded heap (at o.0) i ≡ a = ap (λ z. ref_word decoded heap z i) o.2 ∙ e in
      let x = holds_address at (ref_word decoded heap (at o.0) i) (get_or b.body.refs i None) (q.each i k) (λ z. n (sym f ∙ z)) in
      (x.0, by_ref i b.body o.1 b.entry x.1, x.2 ∙ f)

  -- an object's entry is reached if its address is
  reached_back : (x : ℕ) → 1 ≤ times x (objects m.trains) → MemoryReaches decoded heap (at x) → GraphReaches g x
  reached_back x h p =
      let o = reached_entry (at x) p in
      subst (GraphReaches g) (located_differ m.trains c.seated o.0 x (entry_lies o.0 o.1) h o.2) o.1

  reaches_the_same : ReachesTheSame M decoded g heap matching
  reaches_the_same = record {
    roots = roots_hold;
    forth = reached_forth;
    back = reached_entry;
    objects = λ a p. let o = reached_entry a p in subst (IsObject decoded heap) o.2 (is_object o.0 (entry_lies o.0 o.1));
  }

  -- Waste, and words in use.

  waste_unreachable : (x : ℕ) → IsWaste decoded heap (at x) → Unreachable m x
  waste_unreachable x w =
      let o = whose w.object.rank (at x) w.object.lies in
      let h = lies_if x (λ e. not_nothing o.object.id o.is (o.there ∙ e)) in
      record {
        old = of_times (λ y. y < m.made) x (objects m.trains) c.sound.old h;
        unreached = λ p. w.unreached (reached_forth x (space_same.back x p));
      }

  unreachable_waste : (x : ℕ) → 1 ≤ times x (objects m.trains) → Unreachable m x → IsWaste decoded heap (at x)
  unreachable_waste x h n = record { object = is_object x h; unreached = λ p. n.unreached (space_same.forth x (reached_back x h p)) }

  waste_up_to : (j : ℕ) → WasteUpToRank decoded j heap → WasteUpTo j m
  waste_up_to j w = record {
    lies = λ k x l t n. w.lies k (at x) l (is_object_of k x t) (unreachable_waste x (omega (arith, t, of_rank m.trains k x)) n);
    marked = λ q e l n.
        w.marked (record { object = at q.who; rank = q.rank }) (c.stands.mark ∙ ap (option_map (mark_at m.trains)) e) l
        (unreachable_waste q.who (omega (arith, (c.sound.mark q e).lies, of_first m.trains q.who)) n);
  }

  -- a list of what is reachable in the space, by addresses
  module _ (xs : List ℕ) (l : ListsReachable m xs) where
    listed_lies : (x : ℕ) → one_of x xs ≡ true → 1 ≤ times x (objects m.trains)
    listed_lies x e = reached_lies m c.sound x (l.only x e)

    addresses_listed : ListsReached decoded heap (map at xs)
    addresses_listed = record {
      once = distinct_map at xs l.once (λ x y e f q. located_differ m.trains c.seated x y (listed_lies x e) (listed_lies y f) q);
      all = λ a p. let o = reached_entry a p in subst (λ z. one_of z (map at xs) ≡ true) o.2 (one_of_map at o.0 xs (l.all o.0 (space_same.forth o.0 o.1)));
      only = λ a e. let o = of_map at a xs e in subst (MemoryReaches decoded heap) o.2 (reached_forth o.0 (space_same.back o.0 (l.only o.0 o.1)));
    }

    -- the sizes that the graph gives are those that headers tell, now and in any longer graph
    sizes_told : (es : List Body) → Grows g.entries es → sizes es xs ≡ sizes_at decoded heap (map at xs)
    sizes_told es r = sum_same (entry_size es) (λ x. size_at decoded heap (at x)) xs each ∙ sym (sum_map at (size_at decoded heap) xs)
      where
        each : (x : ℕ) → one_of x xs ≡ true → entry_size es x ≡ size_at decoded heap (at x)
        each x e =
            let b = both x (listed_lies x e) in
            let k : x < length g.entries = omega (arith, c.sim.made, of_times (λ y. y < m.made) x (objects m.trains) c.sound.old (listed_lies x e)) in
            r.same x k ∙ ap size_of b.entry ∙ omega (arith, b.same.header.refs, b.same.header.words, b.same.ref_count, b.same.word_count)

    -- with any list of the addresses that are reached
    sizes_within : (ys : List ℕ) → ListsReached decoded heap ys → (es : List Body) → Grows g.entries es → sizes es xs ≤ sizes_at decoded heap ys
    sizes_within ys r es grown =
        omega (arith, sizes_told es grown, sum_within (size_at decoded heap) (map at xs) ys addresses_listed.once (λ a e. r.all a (addresses_listed.only a e)))

  words_counted : heap.used ≡ filled_words heap.trains.trains
  words_counted = c.stands.used ∙ sym (words_filled m.trains) ∙ ap (λ p. filled_words p.trains) (sym c.stands.trains)

  trains_counted : length heap.trains.trains ≡ length m.trains
  trains_counted = ap (λ p. length p.trains) c.stands.trains ∙ length-fills m.trains

-- From one halt to a later one.
module _ (M : ShapeTable) (code : Shape → ℕ) (decoded : ℕ → Offsets) (law : Lawful M) (coded : Coded M code decoded) where
  halted : (h : History) (heap : Heap) → Use M h → Stands M code (space_of M h) heap → Halted M code decoded (space_of M h) (graph_of M h) heap
  halted h heap u st = record {
    coded = coded;
    sound = sound_of M law h;
    seated = sound_seated (space_of M h) (sound_of M law h) (never_fail_law M law h u).apart;
    sim = sim_of M law h u;
    stands = st;
  }

  module _ (h : History) (heap : Heap) (u : Use M h) (c : Halted M code decoded (space_of M h) (graph_of M h) heap) where
    -- an entry is reached, or made later, or its object is unreachable
    reached_or_not : (x : ℕ) → GraphReaches (graph_of M h) x ⊎ ((length (graph_of M h).entries ≤ x) ⊎ Unreachable (space_of M h) x)
    reached_or_not x =
        let l = reachable_listed M law h in
        elim (cases_Bool (one_of x l.0)) [
          | inl e ↦ inl ((space_same c).back x (l.1.only x e))
          | inr e ↦
              elim (cases_lt x (space_of M h).made) [
                | inl k ↦ inr (inr (record { old = k; unreached = λ p. both_ways (one_of x l.0) e (l.1.all x p) }))
                | inr k ↦ inr (inl (omega (arith, k, c.sim.made)))
              ]
        ]

    waste_gone : (n : ℕ) → GoneAfter M h n → EachAfter M code h n (OnlyReachableLeft M decoded h heap (matching c))
    waste_gone n clean more later on st =
        let k = space_of M (more ++ h) in
        record {
          matching = matching (halted (more ++ h) later on.use_after st);
          known = λ x n.
              elim (reached_or_not x) [
                | inl r ↦ inl (reached_forth c x r)
                | inr q ↦ elim q [ inl o ↦ inr o | inr w ↦ absurd (n (locate-none k.trains x (clean more on x w))) ]
              ];
          gone = λ x w. locate-none k.trains x (clean more on x (waste_unreachable c x w));
        }

    words_within : (ys : List ℕ) → ListsReached decoded heap ys
        → EachAfter M code h ((length (space_of M h).trains + 1) * train_steps) (WordsWithin M decoded h heap ys)
    words_within ys l more later on st =
        let d = halted (more ++ h) later on.use_after st in
        let r = reachable_listed M law h in
        let es = (graph_of M (more ++ h)).entries in
        let w = words_bounded M law h u r.0 r.1 more on in
        let v : later.used ≤ sizes es r.0 + sizes_made M h (more ++ h) = rw (sym st.used, c.sim.made, d.sim.made) at w in
        record { counted = words_counted d; bounded = omega (arith, v, sizes_within c r.0 r.1 ys l es (graph_grows M h more)) }

    halt_law : HaltLaw M code decoded h heap
    halt_law =
        let listed = reachable_listed M law h in
        record {
          replies = graph_law M law h u;
          matching = matching c;
          reach = reaches_the_same c;
          whole = λ k a l. (whose c k a l).whole;
          waste = record {
            after_enough = rw (trains_counted c) (waste_gone ((length (space_of M h).trains + 1) * train_steps) (waste_leaves M law h u));
            sooner = λ j w. waste_gone ((j + 1) * train_steps) (waste_near_the_front M law h u j (waste_up_to c j w));
          };
          words = record {
            counted = words_counted c;
            listed = (map (at c) listed.0, addresses_listed c listed.0 listed.1);
            after_enough = λ xs l. rw (trains_counted c) (words_within xs l);
          };
        }

  pub halt_laws : HaltLaws M code decoded
  halt_laws h heap u st = halt_law h heap u (halted h heap u st)
