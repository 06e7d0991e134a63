use Rattle.std.proofs.Common.{rules, ℕ, ◌+◌, ◌-◌, ◌%◌, ◌^◌, eqb}
use prog.Atomic.{either}
use Rattle.turn_lock.proofs.Keeps.{sleeps}
use Rattle.turn_lock.proofs.lock.TurnLock.wake_next.Goals as goal

pub compare_exchange-requires : goal.compare_exchange-requires
compare_exchange-requires g c =
    let w : ℕ =
    c.peek-sleepers.result in (
      search rules,
      search rules,
      sleeps g.T.Kept.stands g.T.Kept.is_legal _ _ _ _ _ c.args.seat.now.me
          (λ (n : ℕ). either (eqb n w) (w - 1) n),
    )

pub fetch_add-requires : goal.fetch_add-requires
fetch_add-requires g c = (
  search rules,
  search rules,
  sleeps g.T.Kept.stands g.T.Kept.is_legal _ _ _ _ _ c.compare_exchange.new.seat.me
      (λ (n : ℕ). (n + 1) % 2 ^ 64),
)
