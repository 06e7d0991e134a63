-- A `Begin` as tor-spec's target.
use Rattle.relay_cell.specs.declared.begin.Begin.{Begin}
use Rattle.tor_spec.specs.Begin.{Target}

abbrev pub target_of : Begin → Target
target_of b = record { host = b.host.now; port = b.port }
