use Rattle.std.proofs.Common.{rules, ℕ, ◌+◌, ◌%◌, ◌^◌}
use Rattle.turn_lock.proofs.Keeps.{sleeps}
use Rattle.turn_lock.proofs.lock.TurnLock.wake_parked.Goals as goal

pub store-requires : goal.store-requires
store-requires g c =
    (search rules, search rules, sleeps g.T.Kept.stands g.T.Kept.is_legal _ _ _ _ _ c.args.seat.now.me (λ (n : ℕ). 0))

pub fetch_add-requires : goal.fetch_add-requires
fetch_add-requires g c = (
  search rules,
  search rules,
  sleeps g.T.Kept.stands g.T.Kept.is_legal _ _ _ _ _ c.store.new.seat.me
      (λ (n : ℕ). (n + 1) % 2 ^ 64),
)
