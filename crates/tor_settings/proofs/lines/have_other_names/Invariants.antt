use Rattle.std.proofs.Common.{◌≡◌, map, not, take, true}
use Rattle.std.specs.List.{list_all}
use Rattle.toml.specs.View.{view}
use Rattle.tor_settings.specs.Lines.{are_alike, name_of}
use Rattle.tor_settings.proofs.lines.have_other_names.Given as goal

abbrev pub invariant-loop-other : goal.invariant-loop-other
invariant-loop-other l =
    list_all (λ other. not (are_alike (name_of (view l.line)) (name_of other))) (map view (take l.other-index l.more)) ≡ true
