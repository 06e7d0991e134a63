use Rattle.tape.proofs.Plays.{on_ok, give_back_plays}
use Rattle.tape.proofs.player.Player.give_back.Goals as goal

pub returns-clause-ok : goal.returns-clause-ok
returns-clause-ok c =
    on_ok _ _ c.write_return.result c.write_return.ensures.ok
    (λ written. give_back_plays _ _ _ _ _ _ _ c.give_back_job-answer.ensures.made written)
