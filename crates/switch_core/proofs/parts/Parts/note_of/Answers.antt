use Rattle.std.proofs.Common.{ap, arith}
use Rattle.switch_machine.specs.State.{State}
use Rattle.switch_core.proofs.Offers.{noted_as}
use Rattle.switch_core.proofs.parts.Parts.note_of.Goals as goal

pub returns-clause-answer : goal.returns-clause-answer
returns-clause-answer c =
    noted_as c.args.switch c.args.self.now c.args.worker c.args.offer c.args.slot.now c.in-Some.circuit c.way-way.result.now.state
    c.self.inside.counters.claims c.claimed_count.result c.claim_size.result
    c.in-Some.is c.way-way.ensures (ap (λ (s : State). s.claims) c.self.view_is) c.claimed_count.ensures c.claim_size.ensures

pub returns-clause-fits : goal.returns-clause-fits
returns-clause-fits c = omega (arith, c.claimed_count.type_inv)
