use Rattle.switch_machine.proofs.Laws.{stands_empty}
use Rattle.switch_machine.proofs.machine.a_new_switch_has_no_history.Goals as goal

pub returns : goal.returns
returns c = stands_empty
