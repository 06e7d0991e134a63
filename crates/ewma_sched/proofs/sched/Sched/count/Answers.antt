use Rattle.std.proofs.Common.{◌≡◌, ◌≤◌, ◌∙◌, Some, true, false, sym, ap, subst, arith}
use Rattle.std.proofs.lemmas.Bool.{both_ways}
use Rattle.std.specs.Option.{option_map, is_some}
use Rattle.ewma_sched.specs.Legs.{LegName, ScheduledLeg, leg_at, at_tick}
use Rattle.ewma_sched.specs.Tables.{leg_in}
use Rattle.ewma_sched.proofs.Views.{tick_of, count_view, kept_there}
use Rattle.ewma_sched.proofs.sched.Sched.count.Goals as goal

pub at-requires : goal.at-requires
at-requires c =
    let t = c.self.inside.table in
    omega (
      arith,
      c.requires.tick,
      tick_of t.legs.entries t.tick _ c.self.view_is,
      c.self.invariant.ticks (c.args.circ.0, c.args.leg) c.in-Some.leg.now (sym c.in-Some.ensures.value),
    )

pub unreachable-requires : goal.unreachable-requires
unreachable-requires c =
    let t = c.self.inside.table in
    let leg : LegName = (c.args.circ.0, c.args.leg) in
    let some : is_some (leg_in t.legs.entries leg) ≡ true
    = sym (kept_there t.legs.entries t.tick leg) ∙ ap (λ v. is_some (leg_at v leg)) c.self.view_is ∙ c.requires.there in
    let none : is_some (leg_in t.legs.entries leg) ≡ false = ap is_some (sym c.in-None.ensures.value) in
    both_ways _ none some

pub returns : goal.returns
returns c =
    let t = c.self.inside.table in
    let leg : LegName = (c.args.circ.0, c.args.leg) in
    let x = c.in-Some.leg.now in
    let le : t.tick ≤ c.args.tick = omega (arith, c.requires.tick, tick_of t.legs.entries t.tick _ c.self.view_is) in
    subst (λ v. option_map (λ (y : ScheduledLeg). y.count) (leg_at (at_tick v c.args.tick) leg) ≡ Some c.at.result) c.self.view_is
    (count_view t.legs.entries t.tick c.args.tick le c.self.invariant.ticks leg x (sym c.in-Some.ensures.value)
    ∙ ap Some (sym c.at.ensures))
