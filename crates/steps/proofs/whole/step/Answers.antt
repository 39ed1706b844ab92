use Rattle.std.proofs.Common.{◌≡◌, ◌<◌, Some, None, ◌∷◌, length, sym, ap, ◌∙◌, subst}
use Rattle.model.specs.Space.{space_of}
use Rattle.model.specs.Step.{first_to, outside}
use Rattle.model.specs.Trains.{train_objects}
use Rattle.trains.specs.Fills.{first_number}
use Rattle.memory.specs.Heap.{Heap}
use Rattle.memory.specs.Stands.{mark_at}
use Rattle.steps.specs.Steps.{Steps}
use Rattle.steps.proofs.Branches.{nothing, trains_are, first_car_is, no_first, asked_is, none_asked, goes, positive}
use Rattle.steps.proofs.whole.step.Goals.{in_default-via-in-Some+in_default, in_default-via-in_default}
use Rattle.steps.proofs.whole.step.Goals as goal

pub returns-then-count-eq0 : goal.returns-then-count-eq0
returns-then-count-eq0 g c = λ h st keeps.
    let L = g.L.Layout in
    nothing L.table L.code g.R.RememberedSet.has g.R.RememberedSet.says (space_of L.table h) _ c.args.set.now st
    (ap (λ (s : Heap). length s.trains.trains) (sym c.memory.view_is) ∙ (sym c.count.ensures.value ∙ c.if-count-eq0.true))

pub empty_first_car-requires : goal.empty_first_car-requires
empty_first_car-requires g c =
    let L = g.L.Layout in
    let h = c.requires.known.0 in
    let st = c.requires.known.1 in
    let b = first_car_is L.table L.code (space_of L.table h) _ st c.in-Some-Some.car
    (sym c.in-Some-Some.is-1 ∙ (c.first_car.ensures.car ∙ ap (λ (s : Heap). first_number s.trains.trains) c.memory.view_is)) in
    record {
      known = record {
        history = h;
        car = b.0;
        others = b.1;
        rest = b.2;
        first = record { stands = st; trains = b.3; keeps = c.requires.known.2 };
        number_is = b.4;
      };
    }

pub returns-in-Some-Some : goal.returns-in-Some-Some
returns-in-Some-Some g c = λ h st keeps.
    let L = g.L.Layout in
    let R = g.R.RememberedSet in
    let m = space_of L.table h in
    let b = first_car_is L.table L.code m _ st c.in-Some-Some.car
    (sym c.in-Some-Some.is-1 ∙ (c.first_car.ensures.car ∙ ap (λ (s : Heap). first_number s.trains.trains) c.memory.view_is)) in
    let f = b.0 in
    let cs = b.1 in
    let ts = b.2 in
    let a = asked_is (mark_at ((f ∷ cs) ∷ ts)) _ c.in-Some-Some.asked (sym c.in-Some-Some.is-0 ∙ c.find_outside-found.ensures.first h (f ∷ cs) ts st keeps b.3) in
    subst (λ z. Steps L.table L.code R.has R.says z c.empty_first_car.result c.empty_first_car.new.memory c.args.set.now c.empty_first_car.new.set)
    (sym (goes L.table m (f ∷ cs) ts (Some a.0) b.3 a.1))
    (c.empty_first_car.ensures h f cs ts (record { stands = st; trains = b.3; keeps = keeps }) b.4 a.0 a.1 (a.2 ∙ ap (λ us. mark_at us a.0) (sym b.3))
    (c.find_outside-found.ensures.looked h (f ∷ cs) ts st b.3))

pub returns-in_default : goal.returns-in_default
returns-in_default g c = λ h st keeps.
    let L = g.L.Layout in
    let R = g.R.RememberedSet in
    let m = space_of L.table h in
    let b = trains_are L.table L.code m _ st
    (subst (λ n. 0 < n) (c.count.ensures.value ∙ ap (λ (s : Heap). length s.trains.trains) c.memory.view_is) (positive c.count.result c.if-count-eq0.false)) in
    let t = b.0 in
    let ts = b.1 in
    let none : first_to (train_objects t) (outside m.roots (t ∷ ts) ts) ≡ None =
    elim c.in_default.branch [ in_default-via-in-Some+in_default w ↦ no_first L.table L.code m _ st t ts b.2 (sym w.in_default.is-1 ∙ (c.first_car.ensures.car ∙ ap (λ (s : Heap). first_number s.trains.trains) c.memory.view_is)) | in_default-via-in_default w ↦ none_asked (mark_at (t ∷ ts)) _ (sym w.in_default.is-0 ∙ c.find_outside-found.ensures.first h t ts st keeps b.2) ] in
    subst (λ z. Steps L.table L.code R.has R.says z c.free_train.result c.free_train.new.memory c.args.set.now c.free_train.new.set)
    (sym (goes L.table m t ts None b.2 none))
    (c.free_train.ensures h t ts st b.2 none (c.find_outside-found.ensures.looked h t ts st b.2))
