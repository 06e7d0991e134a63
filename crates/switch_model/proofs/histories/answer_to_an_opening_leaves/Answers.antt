use Rattle.switch_model.proofs.Examples.{one_circuit-legal}
use Rattle.switch_model.proofs.histories.answer_to_an_opening_leaves.Goals as goal

pub returns : goal.returns
returns c = one_circuit-legal
