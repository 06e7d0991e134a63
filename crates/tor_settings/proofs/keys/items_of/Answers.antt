use Rattle.std.proofs.Common.{map, ap, sym, ◌∙◌}
use Rattle.toml.specs.View.{view}
use Rattle.tor_settings.specs.Keys.{values_in}
use Rattle.tor_settings.proofs.Tables.{list_of-items_view}
use Rattle.tor_settings.proofs.keys.items_of.Goals as goal

pub returns-in-Some : goal.returns-in-Some
returns-in-Some c =
    ap (map view) c.as_slice.ensures.value ∙ sym (list_of-items_view c.in-Some.items.now.items)
    ∙ ap values_in c.in-Some.ensures
