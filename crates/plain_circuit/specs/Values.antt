-- What the program's values are in the definitions.
use Rattle.std.specs.Prelude.{List, map}
use Rattle.circuit_model.specs.Rules.{Allow as ModelAllow, Rules as ModelRules}
use Rattle.circuit_model.specs.Log.{Entry as ModelEntry, Log}
use Rattle.circuit_model.specs.Words.{in_order}
use Rattle.plain_circuit.specs.declared.rules.Allow.{Allow}
use Rattle.plain_circuit.specs.declared.rules.Rules.{Rules}
use Rattle.plain_circuit.specs.declared.log.Entry.{Entry}

abbrev pub allow_of : Allow → ModelAllow
allow_of line = record { host = line.host.items; port = line.port; to = line.to }

abbrev pub rules_of : Rules → ModelRules
rules_of rules = record { allow = map allow_of rules.allow.items; window = rules.window; least = rules.least }

abbrev pub entry_of : Entry → ModelEntry
entry_of e = record {
  event = e.event.now;
  message = e.message;
  effects = e.effects;
}

-- The log that the entries are, the oldest of them first.
abbrev pub log_of : List Entry → Log
log_of entries = in_order (map entry_of entries)
