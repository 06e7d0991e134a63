use Rattle.switch_model.proofs.ForthInOrder.{always_relayed_in_order}
use Rattle.switch_model.proofs.circuits.each_circuit_relays_in_order.Goals as goal

pub returns : goal.returns
returns c = always_relayed_in_order
