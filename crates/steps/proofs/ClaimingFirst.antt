-- What is known where the first car is about to be emptied.
use Rattle.std.proofs.Common.{◌≡◌, ℕ, ◌+◌, ◌-◌, ◌*◌, ◌<◌, ◌≤◌, List, [], ◌∷◌, ◌++◌, length, length-append, take, drop, get_or, sym, ap, ◌∙◌, subst, append_assoc, arith}
use Rattle.std.specs.List.{AllByRecursion, All}
use Rattle.std.proofs.lemmas.List.{take_all}
use Rattle.std.proofs.Math.Seq.{take-append_seam, drop-append_seam}
use Rattle.std.proofs.lemmas.List.Elements.{All-append}
use Rattle.layout.specs.declared.Shape.{Shape}
use Rattle.layout.specs.ShapeTable.{ShapeTable, Lawful}
use Rattle.remembered.specs.Updates.{Pairs}
use Rattle.model.specs.Calls.{History}
use Rattle.model.specs.Claims.{ref_requests, train_requests, trains_requests, claims}
use Rattle.model.specs.Notes.{object_slots, train_slots, slots, target_among}
use Rattle.model.specs.Remembered.{slots_into, StepFinds}
use Rattle.model.specs.Space.{Model, space_of, carried}
use Rattle.model.specs.Step.{mark_requests}
use Rattle.model.specs.Trains.{Car, Train, Trains, car_words, car_numbers, words_of, arrival, cars_in_use}
use Rattle.model.proofs.Alls.{all_left, all_right, all_filter}
use Rattle.model.proofs.Cars.{few_cars}
use Rattle.model.proofs.Overlooked.{overlooked_law}
use Rattle.model.proofs.Remember.{numbered_at}
use Rattle.model.proofs.RememberCars.{cars_in_row, Numbered}
use Rattle.model.proofs.Totals.{sums}
use Rattle.objects.specs.Lies.{CarStands, HoldsItsOwn}
use Rattle.objects.specs.Locate.{locate}
use Rattle.objects.specs.Stand.{TrainsStand, EachCar}
use Rattle.objects.specs.Words.{HasItsWord}
use Rattle.objects.proofs.Locates.{seated_own}
use Rattle.objects.proofs.Places.{each_row}
use Rattle.objects.proofs.SlotWords.{train_words_at_slots, words_at_slots}
use Rattle.slots.specs.Slots.{addresses, AddressTells, ArePaired}
use Rattle.slots.proofs.Holding.{car_tells}
use Rattle.slots.proofs.Paired.{own_paired, other_paired}
use Rattle.claims.proofs.Requests.{claims-append, then_claims}
use Rattle.trains.specs.Fills.{Placement, fill_numbers, cars_of}
use Rattle.trains.specs.Orders.{rank_of, filled_of}
use Rattle.trains.proofs.Follow.{fills_follow}
use Rattle.memory.specs.Heap.{Heap}
use Rattle.memory.specs.Stands.{halted}
use Rattle.memory.proofs.Held.{halt_at}
use Rattle.steps.specs.Claiming.{FirstCar, inner_slots, outer_slots, slot_requests}
use Rattle.steps.proofs.Rows.{fill-numbers, halted_filled}
use Rattle.steps.proofs.ClaimingRequests.{into_requests, claims_dropped, train_asks, trains_ask}
use Rattle.steps.proofs.ClaimingRanks.{all_addresses, ranks_are, RanksAre, train_at_rank, trains_at_ranks}

-- of the cars and their slots
pub record FirstKnown (M : ShapeTable) (code : Shape → ℕ) (at : ℕ → ℕ) (s : Heap) (P : Pairs) (f : Car) (cs : Train) (ts : Trains) : Type 0 where
  pub trains : s.trains ≡ halted ((f ∷ cs) ∷ ts)
  pub number : f.number < 64
  pub numbers : fill_numbers (get_or s.trains.trains 0 []) ≡ f.number ∷ car_numbers cs
  pub stands : CarStands M code at s.words f
  pub own : HoldsItsOwn at f
  pub tells : AddressTells at f
  pub inner_stand : AllByRecursion (CarStands M code at s.words) cs
  pub inner_filled : AllByRecursion (λ c. filled_of c.number s.trains ≡ words_of c.objects) cs
  pub inner_paired : ArePaired P f (train_slots M 1 cs)
  pub inner_inside : AllByRecursion (λ s. s.address < 8192) (inner_slots M f cs)
  pub outer_stand : TrainsStand M code at s.words ts
  pub outer_filled : EachCar (λ c. filled_of c.number s.trains ≡ words_of c.objects) ts
  pub outer_paired : ArePaired P f (slots M (length (f ∷ cs)) ts)
  pub outer_inside : AllByRecursion (λ s. s.address < 8192) (outer_slots M f cs ts)
  pub few : cars_of s.trains.trains ≤ 64
  pub inner_few : length cs ≤ 63

pub first_known : (M : ShapeTable) (code : Shape → ℕ) → Lawful M → (s : Heap) (P : Pairs) (h : History) (f : Car) (cs : Train) (ts : Trains) → FirstCar M code s P h f cs ts
    → FirstKnown M code (locate (space_of M h).trains) s P f cs ts
first_known M code law s P h f cs ts first =
    let m = space_of M h in
    let at = locate m.trains in
    let halt = halt_at M law h in
    let all = (f ∷ cs) ∷ ts in
    let e = first.trains in
    let t : s.trains ≡ halted all = first.stands.trains ∙ ap halted e in
    let stand : EachCar (CarStands M code at s.words) all = subst (λ us. EachCar (CarStands M code at s.words) us) e first.stands.objects in
    let own : EachCar (HoldsItsOwn at) all = subst (λ us. EachCar (HoldsItsOwn at) us) e (seated_own m.trains halt.seated) in
    let num : Numbered (cars_in_row all) = subst (λ us. Numbered (cars_in_row us)) e (numbered_at M law h) in
    let filled : EachCar (λ c. filled_of c.number s.trains ≡ words_of c.objects) all =
    subst (λ p. EachCar (λ c. filled_of c.number p ≡ words_of c.objects) all) (sym t) (each_row (λ c. filled_of c.number (halted all) ≡ words_of c.objects) all (halted_filled all num.1)) in
    let law_of = overlooked_law M law h P first.keeps in
    let finds : StepFinds M P all = subst (StepFinds M P) e law_of.found in
    let inside : AllByRecursion (λ s. s.address < 8192) (slots M 0 all) = subst (λ us. AllByRecursion (λ s. s.address < 8192) (slots M 0 us)) e law_of.addresses in
    let of_first = object_slots M 0 (car_words * f.number) f.objects in
    let parts : AllByRecursion (λ s. s.address < 8192) ((of_first ++ train_slots M 1 cs) ++ slots M (length (f ∷ cs)) ts) =
    subst (λ (j : ℕ). AllByRecursion (λ s. s.address < 8192) ((of_first ++ train_slots M 1 cs) ++ slots M j ts)) (omega arith) inside in
    record {
      trains = t;
      number = stand.0.0.number;
      numbers = ap (λ (p : Placement). fill_numbers (get_or p.trains 0 [])) t ∙ fill-numbers (f ∷ cs);
      stands = stand.0.0;
      own = own.0.0;
      tells = car_tells M code at s.words f stand.0.0 own.0.0;
      inner_stand = stand.0.1;
      inner_filled = filled.0.1;
      inner_paired = own_paired M P f cs ts finds;
      inner_inside = all_filter (λ s. s.address < 8192) (λ s. target_among f.objects s.target) (train_slots M 1 cs)
          (all_right _ of_first (train_slots M 1 cs) (all_left _ (of_first ++ train_slots M 1 cs) (slots M (length (f ∷ cs)) ts) parts));
      outer_stand = stand.1;
      outer_filled = filled.1;
      outer_paired = other_paired M P f cs ts finds;
      outer_inside = all_filter (λ s. s.address < 8192) (λ s. target_among f.objects s.target) (slots M (length (f ∷ cs)) ts)
          (all_right _ (of_first ++ train_slots M 1 cs) (slots M (length (f ∷ cs)) ts) parts);
      few = omega (arith, ap (λ (p : Placement). cars_of p.trains) first.stands.trains, fills_follow.cars m.trains, few_cars m.trains halt.sound.filled halt.sound.room halt.sound.few);
      inner_few = omega (arith, sums, ap cars_in_use e, few_cars m.trains halt.sound.filled halt.sound.room halt.sound.few);
    }

-- of the words of the slots, and of what they ask for
pub record FirstAsked (M : ShapeTable) (at : ℕ → ℕ) (m : Model) (s : Heap) (f : Car) (cs : Train) (ts : Trains) : Type 0 where
  pub inner_words : AllByRecursion (HasItsWord at s.words) (inner_slots M f cs)
  pub outer_words : AllByRecursion (HasItsWord at s.words) (outer_slots M f cs ts)
  pub asked : claims (((ref_requests (arrival ((f ∷ cs) ∷ ts)) m.roots ++ mark_requests m.mark) ++ slot_requests (λ n. rank_of n s.trains.trains) (outer_slots M f cs ts))
      ++ slot_requests (λ n. rank_of n s.trains.trains) (inner_slots M f cs)) f.objects ≡ carried f cs ts m

pub first_asked : (M : ShapeTable) (code : Shape → ℕ) → Lawful M → (s : Heap) (P : Pairs) (h : History) (f : Car) (cs : Train) (ts : Trains) → FirstCar M code s P h f cs ts
    → FirstAsked M (locate (space_of M h).trains) (space_of M h) s f cs ts
first_asked M code law s P h f cs ts first =
    let m = space_of M h in
    let at = locate m.trains in
    let all = (f ∷ cs) ∷ ts in
    let known = first_known M code law s P h f cs ts first in
    let rank : ℕ → ℕ = λ n. rank_of n s.trains.trains in
    let num : Numbered (cars_in_row all) = subst (λ us. Numbered (cars_in_row us)) first.trains (numbered_at M law h) in
    let ranks : RanksAre rank 0 all = subst (λ (p : Placement). RanksAre (λ n. rank_of n p.trains) 0 all) (sym known.trains) (ranks_are 0 all num) in
    let one : 0 + 1 ≡ 1 = omega arith in
    let later : RanksAre rank 1 ts = subst (λ (k : ℕ). RanksAre rank k ts) one ranks.1 in
    let inner_is : slot_requests rank (train_slots M 1 cs) ≡ train_requests 0 cs =
    train_asks rank M 1 0 cs (train_at_rank M law code at s.words rank 1 0 cs known.inner_stand ranks.0.1) in
    let outer_is : slot_requests rank (slots M (length (f ∷ cs)) ts) ≡ trains_requests 1 ts =
    trains_ask rank M (length (f ∷ cs)) 1 ts (trains_at_ranks M law code at s.words rank (length (f ∷ cs)) 1 ts known.outer_stand later) in
    let R = ref_requests (arrival all) m.roots in
    let K = mark_requests m.mark in
    let A = trains_requests 1 ts in
    let B = train_requests 0 cs in
    let A' = slot_requests rank (outer_slots M f cs ts) in
    let B' = slot_requests rank (inner_slots M f cs) in
    let outer_kept : claims ((R ++ K) ++ A') f.objects ≡ claims ((R ++ K) ++ A) f.objects =
    ap (λ us. claims ((R ++ K) ++ us) f.objects) (into_requests rank f (slots M (length (f ∷ cs)) ts))
    ∙ (claims_dropped (R ++ K) (slot_requests rank (slots M (length (f ∷ cs)) ts)) f.objects ∙ ap (λ us. claims ((R ++ K) ++ us) f.objects) outer_is) in
    let inner_kept : claims (((R ++ K) ++ A') ++ B') f.objects ≡ claims (((R ++ K) ++ A') ++ B) f.objects =
    ap (λ us. claims (((R ++ K) ++ A') ++ us) f.objects) (into_requests rank f (train_slots M 1 cs))
    ∙ (claims_dropped ((R ++ K) ++ A') (slot_requests rank (train_slots M 1 cs)) f.objects ∙ ap (λ us. claims (((R ++ K) ++ A') ++ us) f.objects) inner_is) in
    record {
      inner_words = all_filter (HasItsWord at s.words) (λ s. target_among f.objects s.target) (train_slots M 1 cs) (train_words_at_slots M code at s.words 1 cs known.inner_stand);
      outer_words = all_filter (HasItsWord at s.words) (λ s. target_among f.objects s.target) (slots M (length (f ∷ cs)) ts) (words_at_slots M code at s.words (length (f ∷ cs)) ts known.outer_stand);
      asked = inner_kept
          ∙ (claims-append ((R ++ K) ++ A') B f.objects
          ∙ (ap (λ t. then_claims t (claims B t.left)) outer_kept
          ∙ (sym (claims-append ((R ++ K) ++ A) B f.objects)
          ∙ ap (λ us. claims us f.objects) (append_assoc (R ++ K) A B ∙ append_assoc R K (A ++ B)))));
    }

-- Parts of lists.

pub tail_is : (cars ns : List ℕ) (n : ℕ) → cars ≡ n ∷ ns → take (length cars - 1) (drop 1 cars) ≡ ns
tail_is cars ns n e = ap (λ xs. take (length xs - 1) (drop 1 xs)) e ∙ take_all (length (n ∷ ns) - 1) ns (omega arith)

pub front_is : (found xs ys : List ℕ) (n : ℕ) → found ≡ xs ++ ys → n ≡ length xs → take n found ≡ xs
front_is found xs ys n e q = ap (λ zs. take n zs) e ∙ (ap (λ k. take k (xs ++ ys)) q ∙ take-append_seam xs ys)

pub back_is : (found xs ys : List ℕ) (n : ℕ) → found ≡ xs ++ ys → n ≡ length xs → take (length found - n) (drop n found) ≡ ys
back_is found xs ys n e q =
    ap (λ zs. take (length zs - n) (drop n zs)) e
    ∙ (ap (λ k. take (length (xs ++ ys) - k) (drop k (xs ++ ys))) q
    ∙ (ap (λ zs. take (length (xs ++ ys) - length xs) zs) (drop-append_seam xs ys) ∙ take_all (length (xs ++ ys) - length xs) ys (omega (arith, length-append xs ys))))

-- All slots that a step has to gather.

pub record Gathered (M : ShapeTable) (f : Car) (cs : Train) (ts : Trains) (inner all : List ℕ) : Type 0 where
  pub all_are : all ≡ addresses (inner_slots M f cs) ++ addresses (outer_slots M f cs ts)
  pub inner_are : length inner ≡ length (addresses (inner_slots M f cs))
  pub inside : All (λ a. a < 8192) all
  pub within : length inner ≤ length all

module _ (M : ShapeTable) (code : Shape → ℕ) (law : Lawful M) (s : Heap) (P : Pairs) (car : ℕ) where
  -- what gathering in the cars of a train says, and in all trains but the first
  abbrev pub TrainGathered : (cars old new : List ℕ) → Type 0
  TrainGathered cars old new =
      (at : ℕ → ℕ) (f : Car) (n : ℕ) (t : Train) → AddressTells at f → f.number ≡ car → car_numbers t ≡ cars → AllByRecursion (CarStands M code at s.words) t
      → AllByRecursion (λ c. filled_of c.number s.trains ≡ words_of c.objects) t → ArePaired P f (train_slots M n t) → new ≡ old ++ addresses (slots_into f (train_slots M n t))

  abbrev pub OthersGathered : (old new : List ℕ) → Type 0
  OthersGathered old new =
      (at : ℕ → ℕ) (f : Car) (t : Train) (ts : Trains) → AddressTells at f → f.number ≡ car → s.trains ≡ halted (t ∷ ts) → TrainsStand M code at s.words ts
      → EachCar (λ c. filled_of c.number s.trains ≡ words_of c.objects) ts → ArePaired P f (slots M (length t) ts) → new ≡ old ++ addresses (slots_into f (slots M (length t) ts))

  pub gathered_all : (h : History) (f : Car) (cs : Train) (ts : Trains) → FirstCar M code s P h f cs ts → car ≡ f.number → (cars : List ℕ) → cars ≡ fill_numbers (get_or s.trains.trains 0 [])
      → (old inner all : List ℕ) → old ≡ [] → TrainGathered (take (length cars - 1) (drop 1 cars)) old inner → OthersGathered inner all → Gathered M f cs ts inner all
  gathered_all h f cs ts first e cars cars_are old inner all empty of_train of_others =
      let k = first_known M code law s P h f cs ts first in
      let at = locate (space_of M h).trains in
      let xs = addresses (inner_slots M f cs) in
      let ys = addresses (outer_slots M f cs ts) in
      let inner_is : inner ≡ xs =
      of_train at f 1 cs k.tells (sym e) (sym (tail_is cars (car_numbers cs) f.number (cars_are ∙ k.numbers))) k.inner_stand k.inner_filled k.inner_paired ∙ ap (λ zs. zs ++ xs) empty in
      let all_is : all ≡ xs ++ ys = of_others at f (f ∷ cs) ts k.tells (sym e) k.trains k.outer_stand k.outer_filled k.outer_paired ∙ ap (λ zs. zs ++ ys) inner_is in
      record {
        all_are = all_is;
        inner_are = ap length inner_is;
        inside = subst (λ (zs : List ℕ). All (λ a. a < 8192) zs) (sym all_is)
            (All-append (λ a. a < 8192) xs ys (all_addresses (λ a. a < 8192) (inner_slots M f cs) k.inner_inside) (all_addresses (λ a. a < 8192) (outer_slots M f cs ts) k.outer_inside));
        within = omega (arith, ap length inner_is, ap length all_is, length-append xs ys);
      }
