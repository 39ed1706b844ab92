-- A line is read as the call that it spells, and no other line is.
use Rattle.std.proofs.Common.{◌≡◌, ◌↔◌, ℕ, zero, suc, ◌+◌, ◌≤◌, Bool, true, cond, not, ◌&&◌, List, [], ◌∷◌, ◌++◌, length, get_or, ℤ, pos, negsuc, Some, None, Ok, Err, Option, Result, codes, slice_get, sym, refl, ap, ◌∙◌, subst, inl, inr, arith}
use Rattle.std.proofs.lemmas.Fmt.{decimal_is_IsNumeral}
use Rattle.std.proofs.lemmas.Str.Parse.{digit_from_value}
use Rattle.std.proofs.lemmas.Slice.Eq.{bytes_eq-Decides}
use Rattle.std.proofs.lemmas.Option.{slice_get-get_or, slice_get_past}
use Rattle.std.proofs.lemmas.List.Splits.{join_with_byte-slice_split}
use Rattle.std.proofs.lemmas.Bool.{cases_Bool}
use Rattle.std.specs.Str.{bytes_eq}
use Rattle.std.specs.Str.Parse.{AllDigits}
use Rattle.std.specs.Fmt.{decimal, signed_decimal}
use Rattle.std.specs.List.{slice_split, join_with_byte}
use Rattle.std.specs.Option.{unwrap_or, ok_or}
use Rattle.std.specs.Result.{result_map_both}
use Rattle.calls.specs.declared.call.Access.TheVariants as access
use Rattle.calls.specs.declared.call.Call.{Call}
use Rattle.calls.specs.declared.call.Call.TheVariants as call
use Rattle.calls.specs.declared.faults.WordFault.{WordFault}
use Rattle.calls.specs.declared.faults.PlayerFault.{PlayerFault}
use Rattle.calls.specs.Faults.{bad_words, no_number}
use Rattle.calls.specs.Numbers.{FitsLift, natural_of, integer_of}
use Rattle.calls.proofs.Reading.{natural_back, natural_only, integer_back, integer_only}
use Rattle.script_reader.specs.declared.names.Name.{Name}
use Rattle.script_reader.specs.declared.names.Name.TheVariants.{Make, Link, Follow, Drop, Put, Lift, Get, Same, Step, Tally}
use Rattle.script_reader.specs.Lines.{is_byte}
use Rattle.script_reader.specs.Names.{called, count_of}
use Rattle.script_reader.specs.Words.{Word, placed, words}
use Rattle.script_reader.specs.Reader.{◌>>=◌, word, natural_at, integer_at, numbers_of, name_of, counted, player_of}
use Rattle.script_reader.specs.Spelling.{call_words, spelled, FitsWord, IsScriptCall, Spells}

-- the pieces of a line
abbrev pieces : List ℕ → List (List ℕ)
pieces line = slice_split (is_byte 32) line

-- words that have no space

abbrev spaceless : List ℕ → Bool
spaceless [] = true
spaceless (b ∷ bs) = not (is_byte 32 b) && spaceless bs

abbrev all_spaceless : List (List ℕ) → Bool
all_spaceless [] = true
all_spaceless (w ∷ ws) = spaceless w && all_spaceless ws

pieces_one : (w : List ℕ) → spaceless w ≡ true → pieces w ≡ w ∷ []
pieces_one [] h = refl
pieces_one (b ∷ w) h = grind (arith, pieces_one w)

pieces_more : (w rest : List ℕ) → spaceless w ≡ true → pieces (w ++ 32 ∷ rest) ≡ w ∷ pieces rest
pieces_more [] rest h = refl
pieces_more (b ∷ w) rest h = grind (arith, pieces_more w rest)

pieces_joined : (w : List ℕ) (ws : List (List ℕ)) → all_spaceless (w ∷ ws) ≡ true → pieces (join_with_byte 32 (w ∷ ws)) ≡ w ∷ ws
pieces_joined w [] h = grind (arith, pieces_one w)
pieces_joined w (v ∷ ws) h = grind (arith, pieces_more w (join_with_byte 32 (v ∷ ws)), pieces_joined v ws)

digits_spaceless : (ds : List ℕ) → AllDigits 10 ds → spaceless ds ≡ true
digits_spaceless [] d = refl
digits_spaceless (c ∷ cs) d = grind (arith, digit_from_value c d.0, digits_spaceless cs d.1)

decimal_spaceless : (n : ℕ) → n ≤ 4294967295 → spaceless (decimal n) ≡ true
decimal_spaceless n h = digits_spaceless (decimal n) (decimal_is_IsNumeral n (omega arith)).0.1

signed_spaceless : (z : ℤ) → FitsLift z → spaceless (signed_decimal z) ≡ true
signed_spaceless (pos n) h = decimal_spaceless n (omega arith)
signed_spaceless (negsuc n) h = decimal_spaceless (suc n) (omega arith)

-- the words of a line by its pieces

placed_text : (ws : List (List ℕ)) (at k : ℕ) (d : Word) → (unwrap_or (slice_get (placed at ws) k) d).text ≡ get_or ws k d.text
placed_text [] at k d = refl
placed_text (w ∷ ws) at zero d = refl
placed_text (w ∷ ws) at (suc k) d = placed_text ws (at + length w + 1) k d

word_text : (line : List ℕ) (k : ℕ) → (word line k).text ≡ get_or (pieces line) k []
word_text line k = placed_text (pieces line) 0 k _

length-placed : (at : ℕ) (ws : List (List ℕ)) → length (placed at ws) ≡ length ws
length-placed at [] = refl
length-placed at (w ∷ ws) = ap (λ k. suc k) (length-placed (at + length w + 1) ws)

-- the first word

abbrev name_text : Name → List ℕ
name_text Make = codes "make"
name_text Link = codes "link"
name_text Follow = codes "follow"
name_text Drop = codes "drop"
name_text Put = codes "put"
name_text Lift = codes "lift"
name_text Get = codes "get"
name_text Same = codes "same"
name_text Step = codes "step"
name_text Tally = codes "tally"

picked : (w t : List ℕ) (x m : Name) (o : Option Name) → t ≡ name_text x → (o ≡ Some m → w ≡ name_text m) → cond (bytes_eq w t) (Some x) o ≡ Some m → w ≡ name_text m
picked w t x m o s f e =
    elim (cases_Bool (bytes_eq w t)) [
      | inl v ↦ let q : ◌≡◌ {A = Option Name} (Some x) (Some m) = sym (ap (λ b. cond b (Some x) o) v) ∙ e in let r : x ≡ m = cc in (bytes_eq-Decides w t).0 v ∙ s ∙ ap name_text r
      | inr v ↦ f (sym (ap (λ b. cond b (Some x) o) v) ∙ e)
    ]

called_only : (w : List ℕ) (m : Name) → called w ≡ Some m → w ≡ name_text m
called_only w m =
    picked w _ Make m _ refl (picked w _ Link m _ refl (picked w _ Follow m _ refl (picked w _ Drop m _ refl (picked w _ Put m _ refl
    (picked w _ Lift m _ refl (picked w _ Get m _ refl (picked w _ Same m _ refl (picked w _ Step m _ refl (picked w _ Tally m _ refl (λ e. absurd (cc)))))))))))

called_text : (m : Name) → called (name_text m) ≡ Some m
called_text Make = refl
called_text Link = refl
called_text Follow = refl
called_text Drop = refl
called_text Put = refl
called_text Lift = refl
called_text Get = refl
called_text Same = refl
called_text Step = refl
called_text Tally = refl

-- results

ok_or_is : {X E : Type 0} (o : Option X) (f : E) (x : X) → ok_or o f ≡ Ok x → o ≡ Some x
ok_or_is None f x e = absurd (cc)
ok_or_is (Some y) f x e = let s : y ≡ x = cc in ap Some s

bound : {X Y E : Type 0} (r : Result X E) (f : X → Result Y E) (y : Y) → (r >>= f) ≡ Ok y → (x : X) × (r ≡ Ok x) × (f x ≡ Ok y)
bound (Ok x) f y e = (x, refl, e)
bound (Err z) f y e = absurd (cc)

mapped : {X E F : Type 0} (r : Result X E) (f : E → F) (x : X) → result_map_both (λ y. y) f r ≡ Ok x → r ≡ Ok x
mapped (Ok y) f x e = let s : y ≡ x = cc in ap Ok s
mapped (Err z) f x e = absurd (cc)

-- how many words

counted_back : (n k : ℕ) (line : List ℕ) → length (pieces line) ≡ k + 1 → counted n line k ≡ Ok tt
counted_back n k line h = grind (arith, length-placed 0 (pieces line), slice_get-get_or (words line) k (word line 0), slice_get_past (words line) (k + 1))

counted_only : (n k : ℕ) (line : List ℕ) → counted n line k ≡ Ok tt → length (pieces line) ≡ k + 1
counted_only n k line e = grind (arith, length-placed 0 (pieces line), slice_get-get_or (words line) k (word line 0), slice_get-get_or (words line) (k + 1) (word line 0), slice_get_past (words line) k, slice_get_past (words line) (k + 1))

-- numbers

natural_there : (n k : ℕ) (line : List ℕ) (ws : List (List ℕ)) (v : ℕ) → pieces line ≡ ws → get_or ws k [] ≡ decimal v → v ≤ 4294967295 → natural_at n line k ≡ Ok v
natural_there n k line ws v cut e fits =
    ap (λ t. ok_or (natural_of t) (no_number n (word line k).place)) (word_text line k ∙ ap (λ l. get_or l k []) cut ∙ e)
    ∙ ap (λ o. ok_or o (no_number n (word line k).place)) (natural_back v fits)

integer_there : (n k : ℕ) (line : List ℕ) (ws : List (List ℕ)) (z : ℤ) → pieces line ≡ ws → get_or ws k [] ≡ signed_decimal z → FitsLift z → integer_at n line k ≡ Ok z
integer_there n k line ws z cut e fits =
    ap (λ t. ok_or (integer_of t) (no_number n (word line k).place)) (word_text line k ∙ ap (λ l. get_or l k []) cut ∙ e)
    ∙ ap (λ o. ok_or o (no_number n (word line k).place)) (integer_back z fits)

natural_seen : (n k : ℕ) (line : List ℕ) (v : ℕ) → natural_at n line k ≡ Ok v → (get_or (pieces line) k [] ≡ decimal v) × (v ≤ 4294967295)
natural_seen n k line v e = let r = natural_only _ v (ok_or_is _ _ v e) in (sym (word_text line k) ∙ r.0, r.1)

integer_seen : (n k : ℕ) (line : List ℕ) (z : ℤ) → integer_at n line k ≡ Ok z → (get_or (pieces line) k [] ≡ signed_decimal z) × FitsLift z
integer_seen n k line z e = let r = integer_only _ z (ok_or_is _ _ z e) in (sym (word_text line k) ∙ r.0, r.1)

-- from a call to its line

pieces_spelled : (c : Call) → IsScriptCall c → pieces (spelled c) ≡ call_words c
pieces_spelled (call.Make root kind refs words) h = pieces_joined _ _ (rw (decimal_spaceless root h.0, decimal_spaceless kind h.1, decimal_spaceless refs h.2, decimal_spaceless words h.3) refl)
pieces_spelled (call.Access (access.Link root slot from)) h = pieces_joined _ _ (rw (decimal_spaceless root h.0, decimal_spaceless slot h.1, decimal_spaceless from h.2) refl)
pieces_spelled (call.Access (access.Follow root from slot)) h = pieces_joined _ _ (rw (decimal_spaceless root h.0, decimal_spaceless from h.1, decimal_spaceless slot h.2) refl)
pieces_spelled (call.Access (access.Drop root)) h = pieces_joined _ _ (rw (decimal_spaceless root h) refl)
pieces_spelled (call.Access (access.Put root word value)) h = pieces_joined _ _ (rw (decimal_spaceless root h.0, decimal_spaceless word h.1, decimal_spaceless value h.2) refl)
pieces_spelled (call.Access (access.Lift root word by)) h = pieces_joined _ _ (rw (decimal_spaceless root h.0, decimal_spaceless word h.1, signed_spaceless by h.2) refl)
pieces_spelled (call.Access (access.Get root word)) h = pieces_joined _ _ (rw (decimal_spaceless root h.0, decimal_spaceless word h.1) refl)
pieces_spelled (call.Access (access.Words root room)) h = absurd h
pieces_spelled (call.Access (access.Same root other)) h = pieces_joined _ _ (rw (decimal_spaceless root h.0, decimal_spaceless other h.1) refl)
pieces_spelled call.Step h = refl
pieces_spelled call.Tally h = refl

line_there : (n : ℕ) (line : List ℕ) (ws : List (List ℕ)) (m : Name) (c : Call) → pieces line ≡ ws → get_or ws 0 [] ≡ name_text m → length ws ≡ count_of m + 1 → numbers_of m n line ≡ Ok c → player_of n line ≡ Ok c
line_there n line ws m c cut first count numbers =
    let named : name_of n line ≡ Ok m = ap (λ t. ok_or (called t) (bad_words n 0)) (word_text line 0 ∙ ap (λ l. get_or l 0 []) cut ∙ first) ∙ ap (λ o. ok_or o (bad_words n 0)) (called_text m) in
    let counts : counted n line (count_of m) ≡ Ok tt = counted_back n (count_of m) line (ap length cut ∙ count) in
    rw (named, counts, numbers) refl

spelled_there : (n : ℕ) (line : List ℕ) (c : Call) → IsScriptCall c → pieces line ≡ call_words c → player_of n line ≡ Ok c
spelled_there n line (call.Make root kind refs words) h cut =
    line_there n line _ Make _ cut refl refl (rw (natural_there n 1 line _ root cut refl h.0, natural_there n 2 line _ kind cut refl h.1, natural_there n 3 line _ refs cut refl h.2, natural_there n 4 line _ words cut refl h.3) refl)
spelled_there n line (call.Access (access.Link root slot from)) h cut =
    line_there n line _ Link _ cut refl refl (rw (natural_there n 1 line _ root cut refl h.0, natural_there n 2 line _ slot cut refl h.1, natural_there n 3 line _ from cut refl h.2) refl)
spelled_there n line (call.Access (access.Follow root from slot)) h cut =
    line_there n line _ Follow _ cut refl refl (rw (natural_there n 1 line _ root cut refl h.0, natural_there n 2 line _ from cut refl h.1, natural_there n 3 line _ slot cut refl h.2) refl)
spelled_there n line (call.Access (access.Drop root)) h cut =
    line_there n line _ Drop _ cut refl refl (rw (natural_there n 1 line _ root cut refl h) refl)
spelled_there n line (call.Access (access.Put root word value)) h cut =
    line_there n line _ Put _ cut refl refl (rw (natural_there n 1 line _ root cut refl h.0, natural_there n 2 line _ word cut refl h.1, natural_there n 3 line _ value cut refl h.2) refl)
spelled_there n line (call.Access (access.Lift root word by)) h cut =
    line_there n line _ Lift _ cut refl refl (rw (natural_there n 1 line _ root cut refl h.0, natural_there n 2 line _ word cut refl h.1, integer_there n 3 line _ by cut refl h.2) refl)
spelled_there n line (call.Access (access.Get root word)) h cut =
    line_there n line _ Get _ cut refl refl (rw (natural_there n 1 line _ root cut refl h.0, natural_there n 2 line _ word cut refl h.1) refl)
spelled_there n line (call.Access (access.Words root room)) h cut = absurd h
spelled_there n line (call.Access (access.Same root other)) h cut =
    line_there n line _ Same _ cut refl refl (rw (natural_there n 1 line _ root cut refl h.0, natural_there n 2 line _ other cut refl h.1) refl)
spelled_there n line call.Step h cut = line_there n line _ Step _ cut refl refl refl
spelled_there n line call.Tally h cut = line_there n line _ Tally _ cut refl refl refl

-- from a line to its call

abbrev HasWords : List (List ℕ) → ℕ → List (List ℕ) → Type 0
HasWords ws i [] = Unit {0}
HasWords ws i (v ∷ vs) = (get_or ws i [] ≡ v) × HasWords ws (suc i) vs

has_behind : (w : List ℕ) (ws vs : List (List ℕ)) (i : ℕ) → HasWords (w ∷ ws) (suc i) vs → HasWords ws i vs
has_behind w ws [] i h = tt
has_behind w ws (v ∷ vs) i h = (h.0, has_behind w ws vs (suc i) h.1)

words_are : (ws vs : List (List ℕ)) → length ws ≡ length vs → HasWords ws 0 vs → ws ≡ vs
words_are [] [] l h = refl
words_are [] (v ∷ vs) l h = absurd (omega arith)
words_are (w ∷ ws) [] l h = absurd (omega arith)
words_are (w ∷ ws) (v ∷ vs) l h = let s : ws ≡ vs = words_are ws vs (omega arith) (has_behind w ws vs 0 h.1) in λ i. h.0 i ∷ s i

abbrev IsCall : List ℕ → Call → Type 0
IsCall line c = (pieces line ≡ call_words c) × IsScriptCall c

module _ (n : ℕ) (line w : List ℕ) (c : Call) (first : get_or (pieces line) 0 [] ≡ w) where
  seen_two : (f : ℕ → ℕ → Call) → length (pieces line) ≡ 3
      → ((x y : ℕ) → call_words (f x y) ≡ w ∷ decimal x ∷ decimal y ∷ []) → ((x y : ℕ) → FitsWord x → FitsWord y → IsScriptCall (f x y))
      → (natural_at n line 1 >>= (λ x. natural_at n line 2 >>= (λ y. Ok (f x y)))) ≡ Ok c → IsCall line c
  seen_two f count spelling fits e =
      let p = bound (natural_at n line 1) _ c e in let a = natural_seen n 1 line p.0 p.1 in
      let q = bound (natural_at n line 2) _ c p.2 in let b = natural_seen n 2 line q.0 q.1 in
      let is : f p.0 q.0 ≡ c = let e : ◌≡◌ {A = Result Call WordFault} (Ok (f p.0 q.0)) (Ok c) = q.2 in cc in
      subst (IsCall line) is (words_are _ _ count (first, (a.0, (b.0, tt))) ∙ sym (spelling p.0 q.0), fits p.0 q.0 a.1 b.1)

  seen_three : (f : ℕ → ℕ → ℕ → Call) → length (pieces line) ≡ 4
      → ((x y z : ℕ) → call_words (f x y z) ≡ w ∷ decimal x ∷ decimal y ∷ decimal z ∷ []) → ((x y z : ℕ) → FitsWord x → FitsWord y → FitsWord z → IsScriptCall (f x y z))
      → (natural_at n line 1 >>= (λ x. natural_at n line 2 >>= (λ y. natural_at n line 3 >>= (λ z. Ok (f x y z))))) ≡ Ok c → IsCall line c
  seen_three f count spelling fits e =
      let p = bound (natural_at n line 1) _ c e in let a = natural_seen n 1 line p.0 p.1 in
      let q = bound (natural_at n line 2) _ c p.2 in let b = natural_seen n 2 line q.0 q.1 in
      let r = bound (natural_at n line 3) _ c q.2 in let d = natural_seen n 3 line r.0 r.1 in
      let is : f p.0 q.0 r.0 ≡ c = let e : ◌≡◌ {A = Result Call WordFault} (Ok (f p.0 q.0 r.0)) (Ok c) = r.2 in cc in
      subst (IsCall line) is (words_are _ _ count (first, (a.0, (b.0, (d.0, tt)))) ∙ sym (spelling p.0 q.0 r.0), fits p.0 q.0 r.0 a.1 b.1 d.1)

numbers_seen : (m : Name) (n : ℕ) (line : List ℕ) (c : Call) → get_or (pieces line) 0 [] ≡ name_text m → length (pieces line) ≡ count_of m + 1 → numbers_of m n line ≡ Ok c → IsCall line c
numbers_seen Make n line c first count e =
    let p = bound (natural_at n line 1) _ c e in let a = natural_seen n 1 line p.0 p.1 in
    let q = bound (natural_at n line 2) _ c p.2 in let b = natural_seen n 2 line q.0 q.1 in
    let r = bound (natural_at n line 3) _ c q.2 in let d = natural_seen n 3 line r.0 r.1 in
    let s = bound (natural_at n line 4) _ c r.2 in let f = natural_seen n 4 line s.0 s.1 in
    let is : call.Make p.0 q.0 r.0 s.0 ≡ c = let w = s.2 in cc in
    let made : IsCall line (call.Make p.0 q.0 r.0 s.0) = (words_are _ _ count (first, (a.0, (b.0, (d.0, (f.0, tt))))), (a.1, b.1, d.1, f.1)) in
    subst (IsCall line) is made
numbers_seen Link n line c first count e = seen_three n line _ c first (λ x y z. call.Access (access.Link x y z)) count (λ x y z. refl) (λ x y z p q r. (p, q, r)) e
numbers_seen Follow n line c first count e = seen_three n line _ c first (λ x y z. call.Access (access.Follow x y z)) count (λ x y z. refl) (λ x y z p q r. (p, q, r)) e
numbers_seen Drop n line c first count e =
    let p = bound (natural_at n line 1) _ c e in let a = natural_seen n 1 line p.0 p.1 in
    let is : call.Access (access.Drop p.0) ≡ c = let w = p.2 in cc in
    let made : IsCall line (call.Access (access.Drop p.0)) = (words_are _ _ count (first, (a.0, tt)), a.1) in
    subst (IsCall line) is made
numbers_seen Put n line c first count e = seen_three n line _ c first (λ x y z. call.Access (access.Put x y z)) count (λ x y z. refl) (λ x y z p q r. (p, q, r)) e
numbers_seen Lift n line c first count e =
    let p = bound (natural_at n line 1) _ c e in let a = natural_seen n 1 line p.0 p.1 in
    let q = bound (natural_at n line 2) _ c p.2 in let b = natural_seen n 2 line q.0 q.1 in
    let r = bound (integer_at n line 3) _ c q.2 in let d = integer_seen n 3 line r.0 r.1 in
    let is : call.Access (access.Lift p.0 q.0 r.0) ≡ c = let w = r.2 in cc in
    let made : IsCall line (call.Access (access.Lift p.0 q.0 r.0)) = (words_are _ _ count (first, (a.0, (b.0, (d.0, tt)))), (a.1, b.1, d.1)) in
    subst (IsCall line) is made
numbers_seen Get n line c first count e = seen_two n line _ c first (λ x y. call.Access (access.Get x y)) count (λ x y. refl) (λ x y p q. (p, q)) e
numbers_seen Same n line c first count e = seen_two n line _ c first (λ x y. call.Access (access.Same x y)) count (λ x y. refl) (λ x y p q. (p, q)) e
numbers_seen Step n line c first count e =
    let is : call.Step ≡ c = cc in
    let made : IsCall line call.Step = (words_are _ _ count (first, tt), tt) in
    subst (IsCall line) is made
numbers_seen Tally n line c first count e =
    let is : call.Tally ≡ c = cc in
    let made : IsCall line call.Tally = (words_are _ _ count (first, tt), tt) in
    subst (IsCall line) is made

-- the bytes that spell a call are read as it
pub spelled_back : (n : ℕ) (line : List ℕ) (c : Call) → Spells line c → player_of n line ≡ Ok c
spelled_back n line c s = spelled_there n line c s.call (ap pieces s.bytes ∙ pieces_spelled c s.call)

-- no other bytes are
pub spelled_only : (n : ℕ) (line : List ℕ) (c : Call) → player_of n line ≡ Ok c → Spells line c
spelled_only n line c e =
    let p = bound (name_of n line) _ c (mapped _ _ c e) in
    let q = bound (counted n line (count_of p.0)) _ c p.2 in
    let first : get_or (pieces line) 0 [] ≡ name_text p.0 = sym (word_text line 0) ∙ called_only _ p.0 (ok_or_is _ _ p.0 p.1) in
    let count : length (pieces line) ≡ count_of p.0 + 1 = counted_only n (count_of p.0) line q.1 in
    let r = numbers_seen p.0 n line c first count (mapped _ _ c q.2) in
    record { bytes = sym (join_with_byte-slice_split 32 line) ∙ ap (join_with_byte 32) r.0; call = r.1 }

pub spelled_exactly : (n : ℕ) (line : List ℕ) (r : Result Call PlayerFault) → r ≡ player_of n line → (c : Call) → (r ≡ Ok c) ↔ Spells line c
spelled_exactly n line r e c = (λ s. spelled_only n line c (sym e ∙ s), λ s. e ∙ spelled_back n line c s)
