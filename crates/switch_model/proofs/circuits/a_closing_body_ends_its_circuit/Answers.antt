use Rattle.switch_model.proofs.WrongSendmes.{closing_return_is_down}
use Rattle.switch_model.proofs.circuits.a_closing_body_ends_its_circuit.Goals as goal

pub returns-clause-answer : goal.returns-clause-answer
returns-clause-answer c = closing_return_is_down
