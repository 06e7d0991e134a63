use Rattle.std.proofs.Common.{rules, ℕ, ◌+◌, ◌%◌, ◌^◌}
use Rattle.turn_lock.proofs.Keeps.{sleeps, enters}
use Rattle.turn_lock.proofs.lock.TurnLock.wake_waiting.Goals as goal

pub load_new_seat-requires : goal.load_new_seat-requires
load_new_seat-requires g c = (search rules, enters g.T.Kept.stands g.T.Kept.is_legal _ _ _ _)

pub fetch_add-requires : goal.fetch_add-requires
fetch_add-requires g c = (
  search rules,
  search rules,
  sleeps g.T.Kept.stands g.T.Kept.is_legal _ _ _ _ _ c.load_new_seat.result.1.me
      (λ (n : ℕ). (n + 1) % 2 ^ 64),
)
