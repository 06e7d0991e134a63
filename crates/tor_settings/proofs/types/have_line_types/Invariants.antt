use Rattle.std.proofs.Common.{◌≡◌, map, take, true}
use Rattle.std.specs.List.{list_all}
use Rattle.toml.specs.View.{view}
use Rattle.tor_settings.specs.Types.{has_line_types}
use Rattle.tor_settings.proofs.types.have_line_types.Given as goal

abbrev pub invariant-loop-line : goal.invariant-loop-line
invariant-loop-line l = list_all has_line_types (map view (take l.line-index l.lines)) ≡ true
