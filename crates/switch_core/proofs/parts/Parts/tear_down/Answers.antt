use Rattle.switch_core.proofs.TearDown.{torn_one}
use Rattle.switch_core.proofs.parts.Parts.tear_down.Goals as goal

pub returns-clause-state : goal.returns-clause-state
returns-clause-state c = λ rules ev.
    torn_one rules ev c.args.self.now c.take_out.new.self c.put_destroy.new.self c.args.circ.0 c.args.reason c.in-Some.circuit
    c.into_leg-leg.result.state c.in-Some.ensures.some c.into_leg-leg.ensures c.put_destroy.ensures
