-- Bytes laid into a buffer, one piece behind another.
use Rattle.std.proofs.Common.{◌≡◌, ℕ, ◌+◌, ◌<◌, ◌≤◌, List, [], ◌∷◌, ◌++◌, length, take, drop, set, decimal, sym, refl, ap, subst, ◌∙◌, append_assoc, add-zero, arith, length-append, length-drop, take-append-drop}
use borrow.Rule.Slice.PartMut.{put_mid}
use Rattle.std.proofs.lemmas.Slice.{put_mid-paste}
use Rattle.std.proofs.lemmas.List.{take_all, take_at, drop_at, drop-drop, take-set-le, drop-set, length_push, length-take-le}
use Rattle.script_writer.specs.Writer.{laid, Puts}

pub length-laid : (b : List ℕ) (at : ℕ) (xs : List ℕ) → at + length xs ≤ length b → length (laid b at xs) ≡ length b
length-laid b at xs h =
    let t : length (take at b) ≡ at = length-take-le at b (omega arith) in
    omega (arith, length-append (take at b) (xs ++ drop (at + length xs) b), length-append xs (drop (at + length xs) b), length-drop (at + length xs) b)

pub laid_none : (b : List ℕ) (at : ℕ) → laid b at [] ≡ b
laid_none b at = ap (λ k. take at b ++ drop k b) (add-zero at) ∙ take-append-drop at b

pub laid_more : (b : List ℕ) (at : ℕ) (xs ys : List ℕ) → at + length xs ≤ length b → laid (laid b at xs) (at + length xs) ys ≡ laid b at (xs ++ ys)
laid_more b at xs ys h =
    let n = at + length xs in
    let t : length (take at b) ≡ at = length-take-le at b (omega arith) in
    let f : length (take at b ++ xs) ≡ n = omega (arith, length-append (take at b) xs) in
    let whole : laid b at xs ≡ (take at b ++ xs) ++ drop n b = sym (append_assoc (take at b) xs (drop n b)) in
    let front : take n (laid b at xs) ≡ take at b ++ xs = ap (take n) whole ∙ take_at (take at b ++ xs) (drop n b) n f in
    let back : drop (n + length ys) (laid b at xs) ≡ drop (at + length (xs ++ ys)) b =
    sym (drop-drop (length ys) n (laid b at xs))
    ∙ ap (drop (length ys)) (ap (drop n) whole ∙ drop_at (take at b ++ xs) (drop n b) n f)
    ∙ drop-drop (length ys) n b
    ∙ (let e : n + length ys ≡ at + length (xs ++ ys) = omega (arith, length-append xs ys) in ap (λ k. drop k b) e) in
    (λ i. front i ++ (ys ++ back i))
    ∙ append_assoc (take at b) xs (ys ++ drop (at + length (xs ++ ys)) b)
    ∙ ap (λ l. take at b ++ l) (sym (append_assoc xs ys (drop (at + length (xs ++ ys)) b)))

pub put_then : {b b1 b2 : List ℕ} {at at1 at2 : ℕ} {xs ys : List ℕ} → Puts b at xs b1 at1 → Puts b1 at1 ys b2 at2 → Puts b at (xs ++ ys) b2 at2
put_then {b = b} {b1 = b1} {b2 = b2} {at = at} {at1 = at1} {at2 = at2} {xs = xs} {ys = ys} p q =
    let l : length b1 ≡ length b = ap length p.bytes_at ∙ length-laid b at xs p.fits in
    record {
      fits = omega (arith, p.fits, q.fits, p.behind, length-append xs ys);
      bytes_at = q.bytes_at ∙ (λ i. laid (p.bytes_at i) (p.behind i) ys) ∙ laid_more b at xs ys p.fits;
      behind = omega (arith, p.behind, q.behind, length-append xs ys);
    }

-- the same bytes, said in another way
pub put_is : {b b1 : List ℕ} {at at1 : ℕ} {xs ys : List ℕ} → xs ≡ ys → Puts b at xs b1 at1 → Puts b at ys b1 at1
put_is {b = b} {b1 = b1} {at = at} {at1 = at1} e p = subst (λ zs. Puts b at zs b1 at1) e p

-- the digits of the same number
pub put_as : {b b1 : List ℕ} {at at1 : ℕ} {n m : ℕ} → n ≡ m → Puts b at (32 ∷ decimal n) b1 at1 → Puts b at (32 ∷ decimal m) b1 at1
put_as e p = put_is (ap (λ n. 32 ∷ decimal n) e) p

-- one more byte before those that stand already
pub laid-set : (b : List ℕ) (at : ℕ) (xs : List ℕ) (d : ℕ) → at + length xs < length b → laid (set b (at + length xs) d) at xs ≡ laid b at (xs ++ d ∷ [])
laid-set b at xs d h =
    let n = at + length xs in
    let le : at ≤ n = omega arith in
    let e : n + 1 ≡ at + length (xs ++ d ∷ []) = omega (arith, length_push xs d) in
    (λ i. take-set-le at b n d le i ++ (xs ++ drop-set b n d h i))
    ∙ ap (λ k. take at b ++ (xs ++ d ∷ drop k b)) e
    ∙ ap (λ l. take at b ++ l) (sym (append_assoc xs (d ∷ []) (drop (at + length (xs ++ d ∷ [])) b)))

-- a copy into a part of the buffer
pub laid_copy : (b : List ℕ) (at : ℕ) (xs ys : List ℕ) (k : ℕ) → ys ≡ xs → k ≡ length xs → put_mid at k b ys ≡ laid b at xs
laid_copy b at xs ys k e n =
    put_mid-paste at k b ys xs (length xs) e (sym n) refl
    ∙ ap (λ l. (take at b ++ l) ++ drop (at + length xs) b) (take_all (length xs) xs (omega arith))
    ∙ append_assoc (take at b) xs (drop (at + length xs) b)
