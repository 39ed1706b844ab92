use Rattle.std.proofs.Common.{ℕ, sym, subst, ap, ap₂, ◌∙◌, arith, rules}
use Rattle.model.specs.Bodies.{shape_of, fresh}
use Rattle.model.specs.Space.{space_of}
use Rattle.objects.specs.Locate.{locate}
use Rattle.objects.specs.Words.{SameOutside}
use Rattle.trains.specs.Fills.{free_car, spot_at, placed}
use Rattle.memory.specs.Stands.{Stands}
use Rattle.memory.proofs.Held.{halt_at, root_word_ok}
use Rattle.memory.proofs.Makes.{with_new, headed, make_full, make_done, used_few, rank_low, free_low, next_is, next_within, made_stands}
use Rattle.memory.proofs.Memory.make.Goals as goal

pub overflow_add-self-inside : goal.overflow_add-self-inside
overflow_add-self-inside g c =
    let M = g.L.Layout.table in
    let law = g.met.L.Layout.lawful in
    let m = space_of M c.requires.known.0 in
    let s = subst (Stands M g.L.Layout.code m) (sym c.self.view_is) c.requires.known.1 in
    let q = headed M g.L.Layout.code g.L.Layout.decoded law g.met.L.Layout.coded (shape_of c.args.kind c.args.refs c.args.words) c.in_ok-header.header (sym c.header.ensures ∙ c.in_ok-header.ensures.ok_part) in
    let u = used_few M g.L.Layout.code law m (halt_at M law c.requires.known.0) _ s in
    omega (arith, u, q.few, c.size-size.ensures)

pub returns-then-self-size-gt-CAPACITY-clause-acts : goal.returns-then-self-size-gt-CAPACITY-clause-acts
returns-then-self-size-gt-CAPACITY-clause-acts g c = λ h st.
    let M = g.L.Layout.table in
    let law = g.met.L.Layout.lawful in
    let m = space_of M h in
    let s = subst (Stands M g.L.Layout.code m) (sym c.self.view_is) st in
    let q = headed M g.L.Layout.code g.L.Layout.decoded law g.met.L.Layout.coded (shape_of c.args.kind c.args.refs c.args.words) c.in_ok-header.header (sym c.header.ensures ∙ c.in_ok-header.ensures.ok_part) in
    make_full M g.L.Layout.code m c.args.root c.args.kind c.args.refs c.args.words c.args.self.now st q.offsets (root_word_ok c.args.self.now.roots c.args.root _ (sym c.in_ok-root_word.ensures)).0 q.admitted
    (omega (arith, s.used, q.sized, c.size-size.ensures, c.if-self-size-gt-CAPACITY.true))

pub place-object-requires-clause-low : goal.place-object-requires-clause-low
place-object-requires-clause-low g c =
    let M = g.L.Layout.table in
    let law = g.met.L.Layout.lawful in
    let m = space_of M c.requires.known.0 in
    let s = subst (Stands M g.L.Layout.code m) (sym c.self.view_is) c.requires.known.1 in
    let l = rank_low M g.L.Layout.code law m (halt_at M law c.requires.known.0) _ s in
    omega (arith, l, c.arrival.ensures)

pub place-object-requires-clause-free : goal.place-object-requires-clause-free
place-object-requires-clause-free g c =
    let M = g.L.Layout.table in
    let law = g.met.L.Layout.lawful in
    let m = space_of M c.requires.known.0 in
    free_low M g.L.Layout.code law m (halt_at M law c.requires.known.0) _ (subst (Stands M g.L.Layout.code m) (sym c.self.view_is) c.requires.known.1)

pub write_new-requires : goal.write_new-requires
write_new-requires g c =
    let M = g.L.Layout.table in
    let law = g.met.L.Layout.lawful in
    let h = c.requires.known.0 in
    let m = space_of M h in
    let s = subst (Stands M g.L.Layout.code m) (sym c.self.view_is) c.requires.known.1 in
    let sh = shape_of c.args.kind c.args.refs c.args.words in
    let q = headed M g.L.Layout.code g.L.Layout.decoded law g.met.L.Layout.coded sh c.in_ok-header.header (sym c.header.ensures ∙ c.in_ok-header.ensures.ok_part) in
    let T = c.self.inside.trains in
    let a = c.place-object.ensures.address
    ∙ ap₂ (λ (k n : ℕ). spot_at k (free_car T) n T.trains) c.arrival.ensures (c.size-size.ensures ∙ q.sized)
    ∙ next_is M g.L.Layout.code law m (halt_at M law h) _ s sh q.offsets q.admitted in
    let w = next_within M g.L.Layout.code law m (halt_at M law h) _ s sh q.offsets q.admitted in
    omega (arith, a, w, q.sized)

pub returns-clause-acts : goal.returns-clause-acts
returns-clause-acts g c = λ h st.
    let M = g.L.Layout.table in
    let law = g.met.L.Layout.lawful in
    let m = space_of M h in
    let s = subst (Stands M g.L.Layout.code m) (sym c.self.view_is) st in
    let sh = shape_of c.args.kind c.args.refs c.args.words in
    let q = headed M g.L.Layout.code g.L.Layout.decoded law g.met.L.Layout.coded sh c.in_ok-header.header (sym c.header.ensures ∙ c.in_ok-header.ensures.ok_part) in
    let p = (root_word_ok c.args.self.now.roots c.args.root _ (sym c.in_ok-root_word.ensures)).0 in
    let T = c.self.inside.trains in
    let a = c.place-object.ensures.address
    ∙ ap₂ (λ (k n : ℕ). spot_at k (free_car T) n T.trains) c.arrival.ensures (c.size-size.ensures ∙ q.sized)
    ∙ next_is M g.L.Layout.code law m (halt_at M law h) _ s sh q.offsets q.admitted in
    let w = c.write_new.new.words in
    let made = made_stands M g.L.Layout.code law m (halt_at M law h) _ s sh q.offsets q.admitted c.args.root c.place-object.result c.size-size.result w c.place-object.new.self
    (c.place-object.ensures.trains ∙ ap (λ (k : ℕ). placed k c.size-size.result T) c.arrival.ensures) p a (c.size-size.ensures ∙ q.sized)
    (search rules)
    (subst (SameOutside c.self.inside.words w c.place-object.result) (sym c.size-size.ensures) c.write_new.ensures.frame)
    (c.write_new.ensures.stands sh q.offsets (locate (with_new (fresh sh q.offsets) m)) q.admitted q.is) in
    make_done M g.L.Layout.code m c.args.root c.args.kind c.args.refs c.args.words _ q.offsets p q.admitted
    (omega (arith, s.used, q.sized, c.size-size.ensures, c.if-self-size-gt-CAPACITY.false))
    made
