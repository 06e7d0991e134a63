use Rattle.std.proofs.Common.{◌≡◌, take}
use Rattle.tor_spec.specs.Versions.{versions_payload}
use Rattle.link_negotiate.proofs.greeting.own_versions.Given as goal

abbrev pub invariant-loop-version : goal.invariant-loop-version
invariant-loop-version l = l.payload.items ≡ versions_payload (take l.version-index l.version-items)
