use Rattle.std.proofs.Common.{◌≡◌, length}
use Rattle.tor_spec.specs.Resolve.{answers_in, resolved_ip}
use Rattle.tor_spec.proofs.Resolves.{behind_found}
use Rattle.relay_cell.proofs.resolve.read_resolved.Given as goal

abbrev pub invariant-loop-rest : goal.invariant-loop-rest
invariant-loop-rest l = behind_found l.ip (answers_in l.rest) ≡ resolved_ip l.payload

abbrev pub decreases-loop-rest : goal.decreases-loop-rest
decreases-loop-rest l = length l.rest
