use Rattle.std.proofs.Common.{◌≡◌, map, take, true}
use Rattle.std.specs.List.{list_all}
use Rattle.toml.specs.View.{view}
use Rattle.tor_settings.specs.Numbers.{has_port_in_range}
use Rattle.tor_settings.proofs.numbers.have_ports_in_range.Given as goal

abbrev pub invariant-loop-line : goal.invariant-loop-line
invariant-loop-line l = list_all has_port_in_range (map view (take l.line-index l.lines)) ≡ true
