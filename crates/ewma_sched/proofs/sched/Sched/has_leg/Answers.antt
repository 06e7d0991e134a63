use Rattle.std.proofs.Common.{sym, ◌∙◌, ap}
use Rattle.std.specs.Option.{is_some}
use Rattle.ewma_sched.specs.Legs.{LegName, leg_at}
use Rattle.ewma_sched.proofs.Views.{kept_there}
use Rattle.ewma_sched.proofs.sched.Sched.has_leg.Goals as goal

pub returns : goal.returns
returns c =
    let t = c.self.inside.table in
    let leg : LegName = (c.args.circ.0, c.args.leg) in
    c.contains_key.ensures ∙ sym (kept_there t.legs.entries t.tick leg) ∙ ap (λ v. is_some (leg_at v leg)) c.self.view_is
