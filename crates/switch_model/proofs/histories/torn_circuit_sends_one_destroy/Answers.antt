use Rattle.switch_model.proofs.Examples.{torn_while_claimed-legal}
use Rattle.switch_model.proofs.histories.torn_circuit_sends_one_destroy.Goals as goal

pub returns : goal.returns
returns c = torn_while_claimed-legal
