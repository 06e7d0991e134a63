use Rattle.std.proofs.Common.{rules, arith, subst, sym, ◌≡◌, ℕ, length}
use Rattle.turn_lock.specs.Shares.{times_in, once_below}
use Rattle.turn_lock.proofs.Keeps.{closes}
use Rattle.turn_lock.proofs.Laws.{all_steps}
use Rattle.turn_lock.proofs.lock.TurnLock.shut.Goals as goal

pub store-requires : goal.store-requires
store-requires g c =
    let v = c.args.pass.now in (
      search rules,
      search rules,
      closes g.T.Kept.stands g.T.Kept.is_legal _ _ _ _ v.seat.me _ v.rests.1 c.requires.parts
          v.rests.2 (let n = v.counted in omega arith),
    )

pub returns-clause-all : goal.returns-clause-all
returns-clause-all g c =
    let e = c.store.ensures.2 in
    all_steps c.store.new.seat.me.0
    (subst (λ x. (p : ℕ) → times_in p x.0.shares ≡ once_below p (length x.0.seen)) (sym e.after) e.places)
