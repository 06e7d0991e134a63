use Rattle.switch_machine.proofs.Again.{dial_memory_kept}
use Rattle.switch_machine.proofs.machine.want_of_memory_hands_an_order_out_again.Goals as goal

pub returns : goal.returns
returns c = dial_memory_kept
