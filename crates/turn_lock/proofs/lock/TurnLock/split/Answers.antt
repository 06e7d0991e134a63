use Rattle.std.proofs.Common.{◌≡◌, rules, ap, sym, subst, [], ◌∷◌}
use Rattle.turn_lock.specs.Views.{own_steps, steps_by_share}
use Rattle.turn_lock.proofs.Keeps.{splits}
use Rattle.turn_lock.proofs.Laws.{no_steps}
use Rattle.turn_lock.proofs.lock.TurnLock.split.Goals as goal

pub split_seat-seat-requires : goal.split_seat-seat-requires
split_seat-seat-requires g c =
    (search rules, search rules, splits g.T.Kept.stands g.T.Kept.is_legal _ _ _ _ c.args.pass.now.rests.1 c.requires.parts)

pub returns-clause-fresh : goal.returns-clause-fresh
returns-clause-fresh g c =
    subst (λ v. (own_steps v ≡ []) × (steps_by_share v ≡ [] ∷ [])) (sym (ap (λ x. x.0) c.split_seat-seat.ensures.4))
    (no_steps c.args.pass.now.seat.me.0)
