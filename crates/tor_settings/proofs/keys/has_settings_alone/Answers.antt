use Rattle.std.proofs.Common.{ap, sym, ◌∙◌}
use Rattle.tor_settings.specs.Keys.{is_setting}
use Rattle.tor_settings.proofs.Tables.{all_known, list_all-keys_of}
use Rattle.tor_settings.proofs.keys.has_settings_alone.Goals as goal

pub loop-key-init : goal.loop-key-init
loop-key-init c =
    list_all-keys_of is_setting c.args.table.now.entries
    ∙ ap (all_known is_setting) (sym (c.into_iter-key-iterator.ensures.into_iter_gives ∙ c.keys-key-items.ensures.rest))
