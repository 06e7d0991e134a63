use Rattle.std.proofs.Common.{rules, ap, ◌∙◌, List, ℕ}
use Rattle.atomic_table.specs.Table.{rest}
use Rattle.turn_lock.specs.Views.{released}
use Rattle.turn_lock.proofs.Keeps.{gives_turn}
use Rattle.turn_lock.proofs.lock.TurnLock.release.Goals as goal

pub store-requires : goal.store-requires
store-requires g c = let m = c.args.seat.now.me in let h = c.requires.holding in (
  search rules,
  search rules,
  gives_turn g.T.Kept.stands g.T.Kept.is_legal _ _ _ _ m h.state g.J.Adding.step _ h.turn h.slot c.requires.word.0
      c.requires.word.1 h.stands_is h.legal_is,
)

pub returns-clause-gave : goal.returns-clause-gave
returns-clause-gave g c =
    let m = c.args.seat.now.me in c.store.ensures.2
    ∙ ap (λ (x : List (ℕ × g.row.T.Denot)). (released m.0 g.J.Adding.step, rest x)) c.requires.holding.slot
