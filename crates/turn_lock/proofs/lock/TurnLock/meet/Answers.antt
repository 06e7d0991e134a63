use Rattle.std.proofs.Common.{rules, ap, sym, subst, ◌≡◌, ℕ, length}
use Rattle.turn_lock.specs.Shares.{times_in, once_below}
use Rattle.turn_lock.proofs.Keeps.{meets}
use Rattle.turn_lock.proofs.Laws.{all_steps}
use Rattle.turn_lock.proofs.Turns.{caught_on}
use Rattle.turn_lock.proofs.lock.TurnLock.meet.Goals as goal

pub load-requires : goal.load-requires
load-requires g c =
    let v = c.args.pass.now in
    (search rules, search rules, meets g.T.Kept.stands g.T.Kept.is_legal _ _ _ _ v.seat.me v.rests.1 v.rests.2)

pub returns-clause-met : goal.returns-clause-met
returns-clause-met g c =
    let e = c.load.ensures.2 in
    caught_on g.T.Kept.stands g.T.Kept.is_legal c.args.pass.now.seat.me.0 c.load.new.seat.me.0 e.log (ap (λ x. x.0) e.after)
    e.older e.legal_is c.args.pass.now.placed

pub returns-clause-all : goal.returns-clause-all
returns-clause-all g c =
    let e = c.load.ensures.2 in
    λ all. all_steps c.load.new.seat.me.0
    (subst (λ x. (p : ℕ) → times_in p x.0.shares ≡ once_below p (length x.0.seen)) (sym e.after) (e.places all))
