use Rattle.std.proofs.Common.{sym, ap, ◌∙◌}
use Rattle.tor_spec.specs.Extend.{extend_request}
use Rattle.circ_relay.specs.Values.{address_of}
use Rattle.circuit_model.specs.NextHop.{is_absent}
use Rattle.circ_relay.proofs.HopMessages.{dialled_parts}
use Rattle.circ_relay.proofs.MessageKinds.{unnot}
use Rattle.circ_relay.proofs.circuit.Circuit.extend.Goals as goal

pub returns-clause-parts : goal.returns-clause-parts
returns-clause-parts c = λ rules log command body m b has is unclosed.
    let request = c.in-Some.ensures.some in
    dialled_parts c.args.self.now rules log command body m request.0 (address_of c.in-Some.extension.0) c.in-Some.extension.1 has
    b.unclosed b.received is
    (sym b.early ∙ c.if-not-message.false)
    (unnot (is_absent c.args.self.now.next_hop) (sym c.has_next_hop.ensures ∙ c.if-has_next_hop.false))
    (ap extend_request (sym b.payload) ∙ request.1) request.2 request.3
