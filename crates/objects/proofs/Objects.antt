-- An object in words: where its words stand, and that it stands where its words are the same.
use Rattle.std.proofs.Common.{◌≡◌, ℕ, zero, suc, ◌+◌, ◌<◌, ◌≤◌, List, length, get_or, replicate, Option, Some, None, refl, sym, ap, ◌∙◌, subst, arith}
use Rattle.std.proofs.lemmas.List.{length-replicate}
use Rattle.std.specs.Option.{option_map_or}
use Rattle.layout.specs.Admitted.{admitted_header}
use Rattle.layout.specs.Coding.{Coded}
use Rattle.layout.specs.ShapeTable.{ShapeTable, Offsets, Lawful}
use Rattle.layout.specs.declared.Shape.{Shape}
use Rattle.model.specs.Bodies.{Body, size, fresh}
use Rattle.model.specs.Notes.{ref_offset}
use Rattle.objects.specs.Lies.{Lies, word_of, nothing}
use Rattle.objects.specs.Words.{SameWithin, Copied, Tells, word_offset}

-- what a list gives past its end, or in a list of none alone
get_or-nones : (n i : ℕ) → get_or {A = Option ℕ} (replicate n None) i None ≡ None
get_or-nones zero i = refl
get_or-nones (suc n) zero = refl
get_or-nones (suc n) (suc i) = get_or-nones n i

get_or-zeros : (n i : ℕ) → get_or {A = ℕ} (replicate n 0) i 0 ≡ 0
get_or-zeros zero i = refl
get_or-zeros (suc n) zero = refl
get_or-zeros (suc n) (suc i) = get_or-zeros n i

module _ (M : ShapeTable) (code : Shape → ℕ) where
  -- of two words lists, an object that stands at a in one stands at b in the other, if its words are the same there
  lies_moved : Lawful M → (at : ℕ → ℕ) (v w : List ℕ) (a b : ℕ) (x : Body) → Lies M code at v a x
      → ((k : ℕ) → k < size x → get_or w (b + k) 0 ≡ get_or v (a + k) 0) → Lies M code at w b x
  lies_moved law at v w a b x l same =
      let p = law.apart x.shape l.offsets l.admitted in
      record {
        offsets = l.offsets;
        admitted = l.admitted;
        ref_count = l.ref_count;
        word_count = l.word_count;
        header = grind (arith, same 0, l.header);
        refs = λ i h. same (l.offsets.ref_at i) (omega (arith, p.ref_inside i h, l.ref_count, l.word_count)) ∙ l.refs i h;
        values = λ j h. same (l.offsets.word_at j) (omega (arith, p.word_inside j h, l.ref_count, l.word_count)) ∙ l.values j h;
      }

  pub lies_frame : Lawful M → (at : ℕ → ℕ) (v w : List ℕ) (a : ℕ) (x : Body) → Lies M code at v a x → SameWithin v w a (size x) → Lies M code at w a x
  lies_frame law at v w a x l s = lies_moved law at v w a a x l (λ k h. s.same (a + k) (omega arith) (omega arith))

  pub lies_copied : Lawful M → (at : ℕ → ℕ) (v w : List ℕ) (a b n : ℕ) (x : Body) → Lies M code at v a x → size x ≤ n → Copied v w a b n → Lies M code at w b x
  lies_copied law at v w a b n x l h c = lies_moved law at v w a b x l (λ k g. c.copied k (omega arith))

  -- what stands at the address of a reference, and at that of a data word
  pub word_at-ref : (at : ℕ → ℕ) (w : List ℕ) (a : ℕ) (x : Body) → Lies M code at w a x → (i : ℕ) → i < length x.refs
      → get_or w (a + ref_offset M x.shape i) 0 ≡ word_of at (get_or x.refs i None)
  word_at-ref at w a x l i h = ap (λ o. get_or w (a + option_map_or (λ (p : Offsets). p.ref_at i) o 0) 0) l.admitted ∙ l.refs i (omega (arith, l.ref_count))

  pub word_at-value : (at : ℕ → ℕ) (w : List ℕ) (a : ℕ) (x : Body) → Lies M code at w a x → (j : ℕ) → j < length x.values
      → get_or w (a + word_offset M x.shape j) 0 ≡ get_or x.values j 0
  word_at-value at w a x l j h = ap (λ o. get_or w (a + option_map_or (λ (p : Offsets). p.word_at j) o 0) 0) l.admitted ∙ l.values j (omega (arith, l.word_count))

  -- the addresses of objects matter only where a reference holds one
  pub lies_at : (at to : ℕ → ℕ) (v : List ℕ) (a : ℕ) (x : Body) → Lies M code at v a x
      → ((i y : ℕ) → get_or x.refs i None ≡ Some y → at y ≡ to y) → Lies M code to v a x
  lies_at at to v a x l same =
      record {
        offsets = l.offsets;
        admitted = l.admitted;
        ref_count = l.ref_count;
        word_count = l.word_count;
        header = l.header;
        refs = λ i h. l.refs i h ∙ word_of-same (get_or x.refs i None) (same i);
        values = l.values;
      }
    where
      word_of-same : (h : Option ℕ) → ((y : ℕ) → h ≡ Some y → at y ≡ to y) → word_of at h ≡ word_of to h
      word_of-same None f = refl
      word_of-same (Some y) f = f y refl

  -- a new object: its header, nothing in its references and 0 in its data words
  pub lies_fresh : (at : ℕ → ℕ) (w : List ℕ) (a : ℕ) (s : Shape) (o : Offsets) → M.offsets s ≡ Some o → get_or w a 0 ≡ code s
      → ((i : ℕ) → i < o.refs → get_or w (a + o.ref_at i) 0 ≡ nothing) → ((j : ℕ) → j < o.words → get_or w (a + o.word_at j) 0 ≡ 0)
      → Lies M code at w a (fresh s o)
  lies_fresh at w a s o e head refs words =
      record {
        offsets = o;
        admitted = e;
        ref_count = length-replicate o.refs None;
        word_count = length-replicate o.words 0;
        header = head;
        refs = λ i h. refs i h ∙ ap (word_of at) (sym (get_or-nones o.refs i));
        values = λ j h. words j h ∙ sym (get_or-zeros o.words j);
      }

  -- what an object's header tells is what the object has: its counts, its size, and the places of its words
  pub lies_tells : (decoded : ℕ → Offsets) → Lawful M → Coded M code decoded → (at : ℕ → ℕ) (w : List ℕ) (a : ℕ) (x : Body) → Lies M code at w a x → Tells M x (decoded (get_or w a 0))
  lies_tells decoded law coded at w a x l =
      let o = l.offsets in
      let t = admitted_header law coded x.shape o l.admitted in
      let e : code x.shape ≡ get_or w a 0 = sym l.header in
      subst (λ (h : ℕ). Tells M x (decoded h)) e (record {
        refs = t.same.refs ∙ sym l.ref_count;
        words = t.same.words ∙ sym l.word_count;
        ref_at = λ i h. t.same.ref_at i (omega (arith, l.ref_count, h)) ∙ sym (ap (λ q. option_map_or (λ (p : Offsets). p.ref_at i) q 0) l.admitted);
        word_at = λ j h. t.same.word_at j (omega (arith, l.word_count, h)) ∙ sym (ap (λ q. option_map_or (λ (p : Offsets). p.word_at j) q 0) l.admitted);
        whole = omega (arith, t.size, l.ref_count, l.word_count);
        least = omega (arith, t.size, t.least, l.ref_count, l.word_count);
        most = omega (arith, t.size, t.most, l.ref_count, l.word_count);
      })
