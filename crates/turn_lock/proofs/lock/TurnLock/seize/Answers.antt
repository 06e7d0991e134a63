use Rattle.std.proofs.Common.{rules, refl}
use Rattle.turn_lock.proofs.Keeps.{takes_turn}
use Rattle.turn_lock.proofs.lock.TurnLock.seize.Goals as goal

pub compare_exchange-found_word-requires : goal.compare_exchange-found_word-requires
compare_exchange-found_word-requires g c = let r = c.requires.rests in (
  search rules,
  search rules,
  takes_turn g.T.Kept.stands g.T.Kept.is_legal _ _ _ _ c.args.seat.now.me _ _ r.1 r.2 r.0
      (search rules) c.requires.low refl,
)
