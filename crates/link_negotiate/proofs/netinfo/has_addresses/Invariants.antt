use Rattle.std.proofs.Common.{◌≡◌}
use Rattle.tor_spec.specs.Netinfo.{behind_addresses}
use Rattle.link_negotiate.proofs.netinfo.has_addresses.Given as goal

abbrev pub invariant-loop-addresses_left : goal.invariant-loop-addresses_left
invariant-loop-addresses_left l = behind_addresses l.addresses_left l.rest_bytes ≡ behind_addresses l.count l.bytes

abbrev pub decreases-loop-addresses_left : goal.decreases-loop-addresses_left
decreases-loop-addresses_left l = l.addresses_left
