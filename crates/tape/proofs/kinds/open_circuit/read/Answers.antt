use Rattle.std.proofs.Common.{arith}
use Rattle.tape.proofs.Openings.{cut_opening}
use Rattle.tape.proofs.kinds.open_circuit.read.Goals as goal

pub returns-in-None-clause-front : goal.returns-in-None-clause-front
returns-in-None-clause-front c = cut_opening _ _ 28 c.args.fields.now (omega (arith, c.in-None.ensures.cases))
