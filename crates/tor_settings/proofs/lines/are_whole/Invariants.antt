use Rattle.std.proofs.Common.{◌≡◌, map, take, true}
use Rattle.std.specs.List.{list_all}
use Rattle.toml.specs.View.{view}
use Rattle.tor_settings.specs.Lines.{is_whole_line}
use Rattle.tor_settings.proofs.lines.are_whole.Given as goal

abbrev pub invariant-loop-line : goal.invariant-loop-line
invariant-loop-line l = list_all is_whole_line (map view (take l.line-index l.lines)) ≡ true
