use Rattle.std.proofs.Common.{arith}
use Rattle.circ_relay.proofs.Undrained.{undrained_by_test}
use Rattle.circ_relay.proofs.circuit.Circuit.has_undrained.Goals as goal

pub returns : goal.returns
returns c =
    undrained_by_test c.args.self.now c.args.key c.in-Some.phase c.taken_place.result.0 c.has_undrained.result
    c.in-Some.ensures.some
    (λ ends. grind (arith, ends, c.eq.ensures, c.if-eq.false)) c.taken_place.ensures.first c.has_undrained.ensures
