use Rattle.std.proofs.Common.{◌≡◌, ◌-◌}
use Rattle.std.specs.Prelude.{option_map}
use Rattle.tor_spec.specs.Extend.{destination}
use Rattle.tor_spec.proofs.Extends.{behind_earlier}
use Rattle.relay_cell.specs.Extend.{address_of}
use Rattle.relay_cell.proofs.extend.read_destination.Given as goal

abbrev pub invariant-loop-i : goal.invariant-loop-i
invariant-loop-i l =
    destination l.fn.count l.fn.bytes ≡ behind_earlier (option_map address_of l.to) (destination (l.fn.count - l.i) l.rest)
