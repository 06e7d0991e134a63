use Rattle.std.proofs.Common.{◌≡◌, map, take, Some}
use Rattle.toml.specs.View.{view}
use Rattle.tor_settings.specs.Addresses.{allow_of_line}
use Rattle.tor_settings.specs.Values.{allow_of}
use Rattle.tor_settings.proofs.lines.allow_of_lines.Given as goal

abbrev pub invariant-loop-line : goal.invariant-loop-line
invariant-loop-line l = map allow_of_line (map view (take l.line-index l.lines)) ≡ map Some (map allow_of l.allow.items)
