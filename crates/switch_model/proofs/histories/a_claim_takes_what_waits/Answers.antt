use Rattle.switch_model.proofs.Examples.{two_claimed-legal}
use Rattle.switch_model.proofs.histories.a_claim_takes_what_waits.Goals as goal

pub returns : goal.returns
returns c = two_claimed-legal
