use Rattle.std.proofs.Common.{◌≡◌, true, ap, sym, ◌∙◌}
use Rattle.std.specs.List.{list_all}
use Rattle.toml.specs.View.{table_view}
use Rattle.tor_settings.specs.Keys.{has_known_keys, has_listen, lines}
use Rattle.tor_settings.specs.Numbers.{has_numbers_in_range, has_port_in_range}
use Rattle.tor_settings.specs.Types.{has_types}
use Rattle.tor_settings.proofs.RuleOrder.{numbers_in_range}
use Rattle.tor_settings.proofs.reading.settings_of_table.Goals as goal

pub returns : goal.returns
returns c =
    let listen : has_listen (table_view c.args.table.now) ≡ true = cc in
    let known : has_known_keys (table_view c.args.table.now) ≡ true = cc in
    let typed : has_types (table_view c.args.table.now) ≡ true = cc in
    let ports : list_all has_port_in_range (lines (table_view c.args.table.now)) ≡ true =
    ap (list_all has_port_in_range) (sym c.lines.ensures) ∙ cc in
    let ranged : has_numbers_in_range (table_view c.args.table.now) ≡ true =
    numbers_in_range (table_view c.args.table.now) c.in-Some.numbers c.in-Some.ensures.some ports in
    record {
      kept = rw (listen, known, typed, ranged) c.settings_of_numbers.ensures.kept;
      values = c.settings_of_numbers.ensures.values;
      err = rw (listen, known, typed, ranged) c.settings_of_numbers.ensures.err;
    }
