use Rattle.cell_laws.proofs.Bodies.{body_read, body_spelled}
use Rattle.cell_laws.proofs.relay.bodies_are_read_as_spelled.Goals as goal

pub returns : goal.returns
returns c = record { read = body_read; spelled = body_spelled }
