use Rattle.std.proofs.Common.{sym}
use Rattle.circ_relay.proofs.NamedStreams.{found_has_phase, found_has_some, none_has_name}
use Rattle.circ_relay.proofs.circuit.Circuit.phase.Goals as goal

pub returns-in_err-place_of-clause-none : goal.returns-in_err-place_of-clause-none
returns-in_err-place_of-clause-none c =
    rw c.from_residual.ensures (none_has_name c.args.self.now c.args.key c.in_err-place_of.ensures)

pub returns-clause-some : goal.returns-clause-some
returns-clause-some c =
    rw c.phase.ensures (found_has_phase c.args.self.now c.args.key c.in_ok-place_of.field-0.0 (sym c.in_ok-place_of.ensures))

pub returns-clause-none : goal.returns-clause-none
returns-clause-none c =
    rw c.phase.ensures (found_has_some _ c.args.self.now c.args.key c.in_ok-place_of.field-0.0 (sym c.in_ok-place_of.ensures))
