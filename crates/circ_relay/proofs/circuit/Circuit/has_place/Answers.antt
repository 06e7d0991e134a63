use Rattle.circ_relay.proofs.BeginMessages.{free_by_the_log}
use Rattle.circ_relay.proofs.circuit.Circuit.has_place.Goals as goal

pub returns-clause-test : goal.returns-clause-test
returns-clause-test c =
    λ log are named. free_by_the_log c.args.self.now.places log c.has_free.result c.has_free.ensures.free
    c.has_free.ensures.places are named
