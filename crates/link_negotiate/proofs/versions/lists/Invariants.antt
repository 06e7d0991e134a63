use Rattle.std.proofs.Common.{◌≡◌, length}
use Rattle.tor_spec.specs.Versions.{versions_of, lists_version}
use Rattle.link_negotiate.proofs.versions.lists.Given as goal

abbrev pub invariant-loop-rest_bytes : goal.invariant-loop-rest_bytes
invariant-loop-rest_bytes l = lists_version (versions_of l.rest_bytes) l.version ≡ lists_version (versions_of l.payload) l.version

abbrev pub decreases-loop-rest_bytes : goal.decreases-loop-rest_bytes
decreases-loop-rest_bytes l = length l.rest_bytes
