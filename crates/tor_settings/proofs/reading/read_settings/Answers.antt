use Rattle.std.proofs.Common.{rules}
use Rattle.toml.specs.View.{table_view}
use Rattle.tor_settings.specs.Settings.{no_document, too_long}
use Rattle.tor_settings.proofs.Saying.{tells_of_document, unread}
use Rattle.tor_settings.proofs.reading.read_settings.Goals as goal

pub returns-then-text-gt-MOST_BYTES-clause-err : goal.returns-then-text-gt-MOST_BYTES-clause-err
returns-then-text-gt-MOST_BYTES-clause-err c = too_long (search rules)

pub returns-in-Ok-clause-err : goal.returns-in-Ok-clause-err
returns-in-Ok-clause-err c =
    tells_of_document c.settings_of_table.result c.args.text.now (table_view c.in-Ok.table) (search rules)
    (record { utf8 = c.in-Ok.ensures.ok.0; document = c.in-Ok.ensures.ok.1 }) c.settings_of_table.ensures.err

pub returns-in-Err-2-clause-err : goal.returns-in-Err-2-clause-err
returns-in-Err-2-clause-err c =
    no_document (search rules) (unread c.args.text.now (c.in-Err.ensures.refused (search rules)))
