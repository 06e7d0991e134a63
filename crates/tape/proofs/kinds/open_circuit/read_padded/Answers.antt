use Rattle.std.proofs.Common.{arith}
use Rattle.tape.proofs.Openings.{cut_opening, padded_opening}
use Rattle.tape.proofs.kinds.open_circuit.read_padded.Goals as goal

pub returns-in_default-clause-front : goal.returns-in_default-clause-front
returns-in_default-clause-front c = cut_opening _ _ 44 c.args.fields.now (omega (arith, c.in_default.ensures.cases))

pub returns-in-Some-split_first_chunk-clause-front : goal.returns-in-Some-split_first_chunk-clause-front
returns-in-Some-split_first_chunk-clause-front c =
    padded_opening _ c.args.fields.now c.in-Some.head.now c.in-Some-split_first_chunk.pad.now c.in-Some.rest.now
    c.in-Some-split_first_chunk.cell.now
    c.in-Some.ensures.cases.0 c.in-Some.ensures.cases.1 c.in-Some-split_first_chunk.ensures.cases.0
    c.in-Some-split_first_chunk.ensures.cases.1 c.opening.ensures.front

pub returns-in-None-clause-front : goal.returns-in-None-clause-front
returns-in-None-clause-front c =
    cut_opening _ _ 44 c.args.fields.now (omega (arith, c.in-None.ensures.cases, c.in-Some.ensures.cases.2))
