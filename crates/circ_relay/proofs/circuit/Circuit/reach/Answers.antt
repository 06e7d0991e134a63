use Rattle.std.proofs.Common.{sym}
use Rattle.circ_relay.proofs.BeginMessages.{reached_parts}
use Rattle.circ_relay.proofs.circuit.Circuit.reach.Goals as goal

pub returns-clause-parts : goal.returns-clause-parts
returns-clause-parts c = λ rules log command body m b has is reaches.
    reached_parts c.args.self.now c.keep_address.new.self c.take_place.new.self c.args.message.now rules log command body m
    c.in-Some.place.0 c.args.to b has is reaches
    (sym c.in-Some.ensures.place) c.in-Some.ensures.some
    (record { there = c.keep_address.ensures.there; elsewhere = c.keep_address.ensures.elsewhere })
    c.keep_address.ensures.rest
