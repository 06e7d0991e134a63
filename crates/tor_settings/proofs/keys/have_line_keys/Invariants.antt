use Rattle.std.proofs.Common.{◌≡◌, map, take, true}
use Rattle.std.specs.List.{list_all}
use Rattle.toml.specs.View.{view}
use Rattle.tor_settings.specs.Keys.{has_line_keys}
use Rattle.tor_settings.proofs.keys.have_line_keys.Given as goal

abbrev pub invariant-loop-line : goal.invariant-loop-line
invariant-loop-line l = list_all has_line_keys (map view (take l.line-index l.lines)) ≡ true
