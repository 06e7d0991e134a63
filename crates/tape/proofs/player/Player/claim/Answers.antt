use Rattle.tape.proofs.Plays.{on_ok, claim_plays}
use Rattle.tape.proofs.player.Player.claim.Goals as goal

pub returns-clause-ok : goal.returns-clause-ok
returns-clause-ok c =
    on_ok _ _ c.write_claim.result c.write_claim.ensures.ok
    (λ written. claim_plays _ _ _ _ _ _ _ c.in_ok-note.ensures.ok written)
