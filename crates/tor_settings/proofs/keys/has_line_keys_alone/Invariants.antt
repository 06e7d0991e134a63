use Rattle.std.proofs.Common.{◌≡◌}
use Rattle.std.specs.List.{list_all}
use Rattle.toml.specs.View.{table_view}
use Rattle.tor_settings.specs.Keys.{is_line_key, keys_of}
use Rattle.tor_settings.proofs.Tables.{all_known}
use Rattle.tor_settings.proofs.keys.has_line_keys_alone.Given as goal

abbrev pub invariant-loop-key : goal.invariant-loop-key
invariant-loop-key l = list_all is_line_key (keys_of (table_view l.table)) ≡ all_known is_line_key l.key-iterator
