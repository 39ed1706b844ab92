-- Data words stay words: what is put or lifted is one, and a new object's are 0.
use Rattle.std.proofs.Common.{◌≡◌, ℕ, zero, suc, ◌+◌, ◌-◌, ◌<◌, Bool, true, false, ◌&&◌, cond, eqb, leb, ltb, List, [], ◌∷◌, get_or, set, replicate, length, Some, None, Option, refl, sym, subst, arith, not}
use Rattle.std.proofs.lemmas.Bool.{leb-true}
use Rattle.std.specs.List.{AllByRecursion}
use Rattle.std.specs.Prelude.{ℤ, pos, negsuc}
use Rattle.calls.specs.declared.call.Call.{Call}
use Rattle.calls.specs.declared.call.Call.TheVariants.{Make, Access, Step, Tally}
use Rattle.calls.specs.declared.call.Access.{Access as OnRoots}
use Rattle.calls.specs.declared.call.Access.TheVariants.{Link, Follow, Drop, Put, Lift, Get, Words, Same}
use Rattle.calls.specs.declared.answer.Refusal.{Refusal}
use Rattle.calls.specs.declared.answer.Refusal.TheVariants.{Root, Missing, Buffer}
use Rattle.layout.specs.ShapeTable.{ShapeTable}
use Rattle.model.specs.Bodies.{Body, Roots, held, is_root, shape_of, new_body, with_ref, with_value, Effect, leave, hold, point, store, Response, unless, on_object, object_of, lifted, store_lifted, response}
use Rattle.model.specs.Trains.{Obj, Train, Trains, train_objects, objects, arrival, numbers, lowest_free, inside, alter}
use Rattle.model.specs.Claims.{MoveRequest}
use Rattle.model.specs.Step.{first_to, outside}
use Rattle.model.specs.Space.{Model, all_objects, made_by, has_room, space_with, act, space_of, step_on, step_by}
use Rattle.model.specs.DataWords.{word_limit, PutsAWord, PutsAWordBy, DataWordsAreWords}
use Rattle.model.proofs.Alls.{all_right, place_at_all}
use Rattle.model.proofs.Alters.{objects-alter, alter_all}
use Rattle.model.proofs.Cars.{fresh_is}
use Rattle.model.proofs.Keeps.{make_cases, step_all}

abbrev AreWords : List ℕ → Type 0
AreWords vs = AllByRecursion (λ v. v < word_limit) vs

abbrev HasWords : Obj → Type 0
HasWords o = AreWords o.body.values

zeros : (n : ℕ) → AreWords (replicate n 0)
zeros zero = tt
zeros (suc n) = (omega arith, zeros n)

set_words : (vs : List ℕ) (w v : ℕ) → v < word_limit → AreWords vs → AreWords (set vs w v)
set_words [] w v h a = tt
set_words (u ∷ vs) zero v h a = (h, a.1)
set_words (u ∷ vs) (suc w) v h a = (a.0, set_words vs w v h a.1)

-- an effect stores a word, if it stores anything
abbrev StoresAWord : Effect → Type 0
StoresAWord leave = Unit {0}
StoresAWord (hold r h) = Unit {0}
StoresAWord (point x i h) = Unit {0}
StoresAWord (store x w v) = v < word_limit

behind_object : (P : Effect → Type 0) (ok : Bool) (f : Option (ℕ × Body)) (k : ℕ → Body → Response) → P leave → ((x : ℕ) (b : Body) → P (k x b).effect) → P (on_object ok f k).effect
behind_object P false f k l g = l
behind_object P true None k l g = l
behind_object P true (Some p) k l g = g p.0 p.1

behind_test : (P : Effect → Type 0) (ok : Bool) (n : Refusal) (r : Response) → P leave → P r.effect → P (unless ok n r).effect
behind_test P false n r l g = l
behind_test P true n r l g = g

stores_lifted : (x w v : ℕ) (by : ℤ) → StoresAWord (store_lifted x w (lifted v by)).effect
stores_lifted x w v (pos n) = go (leb (v + n) 4294967295) refl
  where
    go : (b : Bool) → leb (v + n) 4294967295 ≡ b → StoresAWord (store_lifted x w (cond b (Some (v + n)) None)).effect
    go true e = omega (arith, leb-true (v + n) 4294967295 e)
    go false e = tt
stores_lifted x w v (negsuc n) = go (ltb n v) (leb (v - (n + 1)) 4294967295) refl
  where
    go : (a b : Bool) → leb (v - (n + 1)) 4294967295 ≡ b → StoresAWord (store_lifted x w (cond (a && b) (Some (v - (n + 1))) None)).effect
    go true true e = omega (arith, leb-true (v - (n + 1)) 4294967295 e)
    go true false e = tt
    go false b e = tt

stores : (look : ℕ → Option Body) (rs : Roots) (c : OnRoots) → PutsAWordBy c → StoresAWord (response look rs c).effect
stores look rs (Link r i q) p = behind_object StoresAWord (is_root r && is_root q) (object_of look (held rs r)) _ tt (λ x b. behind_test StoresAWord (ltb i (length b.refs)) Missing _ tt tt)
stores look rs (Follow r q i) p = behind_object StoresAWord (is_root r && is_root q) (object_of look (held rs q)) _ tt (λ x b. behind_test StoresAWord (ltb i (length b.refs)) Missing _ tt tt)
stores look rs (Drop r) p = behind_test StoresAWord (is_root r) Root _ tt tt
stores look rs (Put r w v) p = behind_object StoresAWord (is_root r) (object_of look (held rs r)) _ tt (λ x b. behind_test StoresAWord (ltb w (length b.values)) Missing _ tt p)
stores look rs (Lift r w by) p =
    behind_object StoresAWord (is_root r) (object_of look (held rs r)) _ tt (λ x b. behind_test StoresAWord (ltb w (length b.values)) Missing _ tt (stores_lifted x w (get_or b.values w 0) by))
stores look rs (Get r w) p = behind_object StoresAWord (is_root r) (object_of look (held rs r)) _ tt (λ x b. behind_test StoresAWord (ltb w (length b.values)) Missing _ tt tt)
stores look rs (Words r n) p = behind_object StoresAWord (is_root r) (object_of look (held rs r)) _ tt (λ x b. behind_test StoresAWord (leb (length b.values) n) Buffer _ tt tt)
stores look rs (Same r q) p = behind_test StoresAWord (is_root r && is_root q) Root _ tt tt

altered : (x : ℕ) (g : Body → Body) (ts : Trains) → ((b : Body) → AreWords b.values → AreWords (g b).values) → AllByRecursion HasWords (objects ts) → AllByRecursion HasWords (objects (alter x g ts))
altered x g ts keeps a =
    subst (AllByRecursion HasWords) (sym (objects-alter x g ts)) (alter_all x g HasWords HasWords (λ o h. go o h (eqb x o.id)) (objects ts) a)
  where
    go : (o : Obj) → HasWords o → (b : Bool) → AreWords (cond b (g o.body) o.body).values
    go o h true = keeps o.body h
    go o h false = h

effect_words : (e : Effect) (m : Model) → StoresAWord e → AllByRecursion HasWords (all_objects m) → AllByRecursion HasWords (all_objects (space_with e m))
effect_words leave m s a = a
effect_words (hold r h) m s a = a
effect_words (point x i h) m s a = altered x (with_ref i h) m.trains (λ b p. p) a
effect_words (store x w v) m s a = altered x (with_value w v) m.trains (λ b p. set_words b.values w v s p) a

make_words : (M : ShapeTable) (r k a b : ℕ) (m : Model) → AllByRecursion HasWords (all_objects m) → AllByRecursion HasWords (all_objects (act M (Make r k a b) m).state)
make_words M r k a b m h =
    make_cases (λ o. AllByRecursion HasWords (all_objects o.state)) (is_root r) (new_body M (shape_of k a b)) (λ x. not (has_room x m)) m (λ x. made_by x r m) (λ n. h)
    (λ x is room.
    let u = fresh_is M (shape_of k a b) x is in
    place_at_all HasWords (arrival m.trains) (lowest_free (numbers m.trains)) (record { id = m.made; body = x }) m.trains h
    (subst (λ (d : Body). AreWords d.values) (sym u.2) (zeros u.0.words)))

step_words : (M : ShapeTable) (ts : Trains) (m : Model) → m.trains ≡ ts → AllByRecursion HasWords (objects ts) → AllByRecursion HasWords (all_objects (step_on M ts m).state)
step_words M [] m e a = subst (λ us. AllByRecursion HasWords (objects us)) (sym e) a
step_words M (t ∷ ts) m e a = go (first_to (train_objects t) (outside m.roots (t ∷ ts) ts)) t a
  where
    go : (w : Option MoveRequest) (u : Train) → AllByRecursion HasWords (objects (u ∷ ts)) → AllByRecursion HasWords (all_objects (step_by M w u ts m).state)
    go None u b = all_right HasWords (train_objects u) (objects ts) b
    go (Some w) [] b = b
    go (Some w) (f ∷ cs) b = step_all HasWords f cs ts m b

act_words : (M : ShapeTable) (c : Call) (m : Model) → PutsAWord c → AllByRecursion HasWords (all_objects m) → AllByRecursion HasWords (all_objects (act M c m).state)
act_words M (Make r k a b) m p h = make_words M r k a b m h
act_words M (Access c) m p h = effect_words (response (inside (all_objects m)) m.roots c).effect m (stores (inside (all_objects m)) m.roots c p) h
act_words M Step m p h = step_words M m.trains m refl h
act_words M Tally m p h = h

pub data_words_law : DataWordsAreWords
data_words_law M [] p = tt
data_words_law M (e ∷ h) p = act_words M e.call (space_of M h) p.0 (data_words_law M h p.1)
