use Rattle.std.proofs.Common.{Some, None, leb, ◌-◌, sym, ap, ◌∙◌, arith}
use Rattle.trains.specs.declared.car_record.CarRecord.{CarRecord}
use Rattle.trains.specs.Fills.{CarFill, Placement, room_at}
use Rattle.trains.specs.Table.{free_record}
use Rattle.std.specs.Bool.{then_some}
use Rattle.std.specs.Option.{option_map}
use Rattle.trains.proofs.Known.{last_low, room_last_at, leaves_room, any_default}
use Rattle.trains.proofs.Trains.last_with_room.Goals as goal

pub returns-in_err-last : goal.returns-in_err-last
returns-in_err-last c =
    c.from_residual.ensures ∙ sym (
    ap (λ (p : Placement). option_map (λ (f : CarFill). f.number) (room_at c.args.rank c.args.size p.trains)) (sym c.self.view_is)
    ∙ room_last_at c.self.inside.records c.args.rank c.args.size c.self.inside.trains.items None (sym c.last_car.ensures ∙ c.in_err-last.was)
    )

pub bounds-self-inside-last : goal.bounds-self-inside-last
bounds-self-inside-last c =
    last_low c.self.inside.records c.self.inside.trains.items c.self.inside.busy c.in_ok-last.last c.args.rank c.self.invariant (sym c.last_car.ensures ∙ c.in_ok-last.was)

pub returns : goal.returns
returns c =
    let is = sym c.last_car.ensures ∙ c.in_ok-last.was in
    let low = last_low c.self.inside.records c.self.inside.trains.items c.self.inside.busy c.in_ok-last.last c.args.rank c.self.invariant is in
    let i = any_default c.self.inside.records c.in_ok-last.last free_record _ (omega (arith, low, c.self.invariant.wide)) in
    c.then_some.ensures ∙ (
    ap (λ (r : CarRecord). then_some (leb r.filled (128 - c.args.size)) c.in_ok-last.last) (sym i) ∙ (
    ap (λ b. then_some b c.in_ok-last.last) (leaves_room _ c.args.size c.requires) ∙ sym (
    ap (λ (p : Placement). option_map (λ (f : CarFill). f.number) (room_at c.args.rank c.args.size p.trains)) (sym c.self.view_is)
    ∙ room_last_at c.self.inside.records c.args.rank c.args.size c.self.inside.trains.items (Some c.in_ok-last.last) is
    )
    )
    )
