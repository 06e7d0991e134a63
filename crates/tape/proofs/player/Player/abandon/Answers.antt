use Rattle.tape.proofs.Plays.{on_ok, abandon_plays}
use Rattle.tape.proofs.player.Player.abandon.Goals as goal

pub returns-clause-ok : goal.returns-clause-ok
returns-clause-ok c =
    on_ok _ _ c.write_return.result c.write_return.ensures.ok
    (λ written. abandon_plays _ _ _ _ _ _ _ c.abandon_job-answer.ensures.made written)
