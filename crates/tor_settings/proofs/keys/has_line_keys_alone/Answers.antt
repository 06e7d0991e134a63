use Rattle.std.proofs.Common.{ap, sym, ◌∙◌}
use Rattle.tor_settings.specs.Keys.{is_line_key}
use Rattle.tor_settings.proofs.Tables.{all_known, list_all-keys_of}
use Rattle.tor_settings.proofs.keys.has_line_keys_alone.Goals as goal

pub loop-key-init : goal.loop-key-init
loop-key-init c =
    list_all-keys_of is_line_key c.args.table.now.entries
    ∙ ap (all_known is_line_key) (sym (c.into_iter-key-iterator.ensures.into_iter_gives ∙ c.keys-key-items.ensures.rest))
