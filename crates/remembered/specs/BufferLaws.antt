-- Laws of the buffered set.
use Rattle.std.specs.Prelude.{◌≡◌, ℕ, ◌+◌, ◌<◌, ◌≤◌, Bool, true, false, not, ◌&&◌, ◌||◌, List, [], ◌∷◌, ◌++◌, length, get_or, take, Some, None, Option, ◌==◌, nat_lt, refl}
use Rattle.std.proofs.Common.{sym, ap, subst, ◌∙◌, ⊎_elim, arith}
use Rattle.std.proofs.lemmas.Grind.{common_steps}
use Rattle.std.proofs.lemmas.List.{take_more}
use Rattle.std.proofs.lemmas.List.Folds.{list_any_more}
use Rattle.std.proofs.lemmas.Bool.{cases_lt, ne_eqb, and_parts, ltb-true, ltb-false, cond_both, or_right, or_cases, or_parts, both_ways}
use Rattle.remembered.specs.declared.Pair.{Pair}
use Rattle.remembered.specs.declared.Update.{Update}
use Rattle.remembered.specs.declared.Update.TheVariants.{Note, Forget}
use Rattle.remembered.specs.Laws.{in_range, new_in, HasNone, Keeps, KeepsOthers, Least}
use Rattle.remembered.specs.Leads.{IsExact, Leads}
use Rattle.remembered.specs.Leads.Leads.{untold, told}
use Rattle.remembered.specs.LeadsLaws.{leads_append, leads_keep}
use Rattle.remembered.specs.Pairs.{pair, is_pair, within, without}
use Rattle.remembered.specs.Buffers.{Ranged, with_held, sent, BufferNoted, BufferForgot, BufferSays, Buffer, buffer_in, buffer_note, buffer_run, buffered}
use Rattle.remembered.specs.PairLists.{within_push, within-without, or_none}
use Rattle.remembered.specs.Updates.{Pairs, Updates, still_noted}

-- held pairs in range
pub ranged_without : (ps : List Pair) (d : ℕ) → Ranged ps → Ranged (without d ps)
ranged_without ps d h c a e = h c a (and_parts (not (c == d)) (within ps c a) (sym (within-without d ps c a) ∙ e)).1

-- the least of two sets that agree
pub least_same : (P Q : ℕ → Bool) (from : ℕ) (r : Option ℕ) → ((a : ℕ) → P a ≡ Q a) → Least P from r → Least Q from r
least_same P Q from None e h = λ a k. sym (e a) ∙ h a k
least_same P Q from (Some x) e h = (h.0, sym (e x) ∙ h.1, λ a k m. sym (e a) ∙ h.2 a k m)

-- none held, and one more
pub least_start : (H : ℕ → ℕ → Bool) (car from : ℕ) (r : Option ℕ) → Least (H car) from r → Least (with_held H [] car) from r
least_start H car from r h = least_same (H car) (with_held H [] car) from r (λ a. sym (or_none (H car a))) h

pub least_more : (H : ℕ → ℕ → Bool) (l : List Pair) (i : ℕ) (d : Pair) (car from : ℕ) (r : Option ℕ) → i < length l → Least (λ a. with_held H (take i l) car a || is_pair (get_or l i d) car a) from r → Least (with_held H (take (i + 1) l) car) from r
least_more H l i d car from r lt h =
    least_same _ (with_held H (take (i + 1) l) car) from r
    (λ a. or_regroup (H car a) (within (take i l) car a) _ ∙ ap (λ b. H car a || b) (sym (list_any_more (λ p. is_pair p car a) l i d lt)))
    h
  where
    or_regroup : (x y z : Bool) → ((x || y) || z) ≡ (x || (y || z))
    or_regroup true y z = refl
    or_regroup false y z = refl

-- pairs sent down, one after another
sent_push : (ps : List Pair) (p : Pair) (us : Updates) → sent (ps ++ (p ∷ [])) us ≡ Note p.car p.address ∷ sent ps us
sent_push [] p us = refl
sent_push (q ∷ ps) p us = sent_push ps p (Note q.car q.address ∷ us)

sent_append : (ps : List Pair) (us more : Updates) → sent ps (us ++ more) ≡ sent ps us ++ more
sent_append [] us more = refl
sent_append (p ∷ ps) us more = sent_append ps (Note p.car p.address ∷ us) more

pub sends_more : {S : Type 0} (has : S → Pairs) (says : S → Update → S → Type 0) (s : S) (l : List Pair) (i : ℕ) (d : Pair) (t v : S) → i < length l → Leads has says s (sent (take i l) []) t
    → Keeps (has t) (has v) → ((get_or l i d).car < 64 → (get_or l i d).address < 8192 → has v (get_or l i d).car (get_or l i d).address ≡ true) → says t (Note (get_or l i d).car (get_or l i d).address) v
    → Leads has says s (sent (take (i + 1) l) []) v
sends_more has says s l i d t v lt before keeps gains said =
    let p = get_or l i d in
    subst (λ us. Leads has says s us v) (sym (ap (λ xs. sent xs []) (take_more l i d lt) ∙ sent_push (take i l) p []))
    (told s t v (Note p.car p.address) (sent (take i l) []) before (keeps, gains) said)

-- pairs sent down are still noted, and so is what was
sent_keeps : (P : Pairs) (ps : List Pair) (us : Updates) → Keeps (still_noted P us) (still_noted P (sent ps us))
sent_keeps P [] us c a h = h
sent_keeps P (p ∷ ps) us c a h = sent_keeps P ps (Note p.car p.address ∷ us) c a (or_right (in_range c a && (c == p.car && a == p.address)) _ h)

sent_gains : (P : Pairs) (ps : List Pair) → Ranged ps → (us : Updates) → Keeps (within ps) (still_noted P (sent ps us))
sent_gains P [] near us c a h = absurd (both_ways false refl h)
sent_gains P (p ∷ ps) near us c a h =
    let us' : Updates = Note p.car p.address ∷ us in
    let here : is_pair p c a ≡ true → still_noted P us' c a ≡ true = λ x. let range = near c a h in grind (arith, common_steps, range.0, range.1) in
    let there = sent_gains P ps (λ d b y. near d b (or_right (is_pair p d b) _ y)) us' c a in
    grind (arith, common_steps, here, there, sent_keeps P ps us' c a)

-- the facts, of what a buffered set says
pub buffer_keeps : {S : Type 0} (has : S → Pairs) (says : S → Update → S → Type 0) (s : S) (hs : List Pair) (c a : ℕ) (t : S) (ks : List Pair) → Ranged hs → BufferNoted has says s hs c a t ks → Keeps (with_held (has s) hs) (with_held (has t) ks)
buffer_keeps has says s hs c a t ks near n d b h =
    let down : 16 ≤ length hs → new_in (with_held (has s) hs) c a ≡ true → has t d b ≡ true =
    λ g e. leads_keep has says s t (sent hs []) (n.sends e g).0 d b (⊎_elim (λ x. sent_keeps (has s) hs [] d b x) (λ x. sent_gains (has s) hs near [] d b x) (or_cases (has s d b) (within hs d b) h)) in
    ⊎_elim (λ l. grind (arith, common_steps, n.same, n.holds, l, within_push hs (pair c a) d b)) (λ g. grind (arith, common_steps, n.same, down g)) (cases_lt (length hs) 16)

pub buffer_others : {S : Type 0} (has : S → Pairs) (says : S → Update → S → Type 0) (s : S) (hs : List Pair) (c : ℕ) (t : S) (ks : List Pair) → BufferForgot has says s hs c t ks → KeepsOthers c (with_held (has s) hs) (with_held (has t) ks)
buffer_others has says s hs c t ks n d b ne h =
    let other : not (d == c) ≡ true = ap not (ne_eqb d c ne) in
    let below = leads_keep has says s t (Forget c ∷ []) n.below_told d b in
    grind (arith, common_steps, other, below, n.held_dropped, within-without c hs d b)

pub buffer_bounded : {S : Type 0} (has : S → Pairs) (s : S) (hs : List Pair) → Ranged hs → ((c a : ℕ) → has s c a ≡ true → (c < 64) × (a < 8192)) → (c a : ℕ) → with_held (has s) hs c a ≡ true → (c < 64) × (a < 8192)
buffer_bounded has s hs near bound c a h = ⊎_elim (λ x. bound c a x) (λ x. near c a x) (or_cases (has s c a) (within hs c a) h)

-- a list with no pair is empty
none_held : (P : Pairs) (ps : List Pair) → HasNone (with_held P ps) → ps ≡ []
none_held P [] none = refl
none_held P (p ∷ ps) none = let n = none p.car p.address in absurd (grind (arith, common_steps, n))

-- where a buffered set is after what it was told, over a set that went from s to t meanwhile
record BufferTold {S : Type 0} (has : S → Pairs) (says : S → Update → S → Type 0) (means : Updates → Pairs) (s t : S) (ks : List Pair) (us : Updates) : Type 0 where
  below_told : Leads has says s (buffer_run means us).below t
  held_is : ks ≡ (buffer_run means us).held

told_agrees : {S : Type 0} (has : S → Pairs) (says : S → Update → S → Type 0) (m : Updates → Pairs) → IsExact has says m → (s t : S) (ks : List Pair) (us : Updates) → HasNone (has s) → BufferTold has says m s t ks us → (c a : ℕ) → with_held (has t) ks c a ≡ buffered m us c a
told_agrees has says m exact s t ks us none h c a =
    let below = exact s t (buffer_run m us).below none h.below_told c a in
    ap (λ x. x || within ks c a) below ∙ ap (λ x. m (buffer_run m us).below c a || within x c a) h.held_is

-- a note has one of three outcomes
note_cases : (P : Buffer → Type 0) (m : Updates → Pairs) (c a : ℕ) (β : Buffer) → (new_in (buffer_in m β) c a ≡ false → P β)
    → (new_in (buffer_in m β) c a ≡ true → length β.held < 16 → P (record { below = β.below; held = β.held ++ (pair c a ∷ []) }))
    → (new_in (buffer_in m β) c a ≡ true → 16 ≤ length β.held → P (record { below = sent β.held β.below; held = pair c a ∷ [] })) → P (buffer_note m c a β)
note_cases P m c a β same holds sends =
    cond_both (new_in (buffer_in m β) c a) _ _ P
    (λ e. cond_both (nat_lt (length β.held) 16) _ _ P (λ l. holds e (ltb-true _ _ l)) (λ g. sends e (ltb-false _ _ g)))
    same

note_tells : {S : Type 0} (has : S → Pairs) (says : S → Update → S → Type 0) (m : Updates → Pairs) → IsExact has says m → (s t v : S) (hs ks : List Pair) (c a : ℕ) (us : Updates) → HasNone (has s) → BufferNoted has says t hs c a v ks → BufferTold has says m s t hs us
    → BufferTold has says m s v ks (Note c a ∷ us)
note_tells has says m exact s t v hs ks c a us none n h =
    let β = buffer_run m us in
    let agree : new_in (with_held (has t) hs) c a ≡ new_in (buffer_in m β) c a = ap (λ x. in_range c a && not x) (told_agrees has says m exact s t hs us none h c a) in
    let size : length hs ≡ length β.held = ap length h.held_is in
    let q =
    note_cases (λ γ. Leads has says s γ.below v × (ks ≡ γ.held)) m c a β (λ e. let r = n.same (agree ∙ e) in (subst (Leads has says s β.below) (sym r.0) h.below_told, r.1 ∙ h.held_is))
    (λ e l. let r = n.holds (agree ∙ e) (omega (arith, size, l)) in (subst (Leads has says s β.below) (sym r.0) h.below_told, r.1 ∙ ap (λ z. z ++ (pair c a ∷ [])) h.held_is))
    (λ e g.
    let r = n.sends (agree ∙ e) (omega (arith, size, g)) in
    let both = leads_append has says s t v β.below (sent hs []) h.below_told r.0 in
    (subst (λ z. Leads has says s (sent z β.below) v) h.held_is (subst (λ z. Leads has says s z v) (sym (sent_append hs [] β.below)) both), r.1)) in
    record { below_told = q.0; held_is = q.1 }

buffer_tells : {S T : Type 0} (has : S → Pairs) (says : S → Update → S → Type 0) (m : Updates → Pairs) → IsExact has says m → (below : T → S) (held : T → List Pair) (H : T → Pairs) (s t : T) (us : Updates) → HasNone (has (below s)) → held s ≡ []
    → Leads H (λ s u t. BufferSays has says (below s) (held s) u (below t) (held t)) s us t → BufferTold has says m (below s) (below t) (held t) us
buffer_tells has says m exact below held H s _ [] none start (untold _) = record { below_told = untold (below s); held_is = start }
buffer_tells has says m exact below held H s v (Note c a ∷ us) none start (told _ t _ _ _ before _ said) =
    note_tells has says m exact (below s) (below t) (below v) (held t) (held v) c a us none said (buffer_tells has says m exact below held H s t us none start before)
buffer_tells has says m exact below held H s v (Forget c ∷ us) none start (told _ t _ _ _ before _ said) =
    let was = buffer_tells has says m exact below held H s t us none start before in
    record {
      below_told = leads_append has says (below s) (below t) (below v) (buffer_run m us).below (Forget c ∷ []) was.below_told said.below_told;
      held_is = said.held_dropped ∙ ap (without c) was.held_is;
    }

-- a buffer over an exact set is exact
pub buffered_exact : {S T : Type 0} (has : S → Pairs) (says : S → Update → S → Type 0) (m : Updates → Pairs) (below : T → S) (held : T → List Pair) → IsExact has says m
    → IsExact {S = T} (λ s. with_held (has (below s)) (held s)) (λ s u t. BufferSays has says (below s) (held s) u (below t) (held t)) (buffered m)
buffered_exact has says m below held exact s t us none way =
    let start : HasNone (has (below s)) = λ c a. (or_parts (has (below s) c a) (within (held s) c a) (none c a)).0 in
    told_agrees has says m exact (below s) (below t) (held t) us start (buffer_tells has says m exact below held _ s t us start (none_held (has (below s)) (held s) none) way)
