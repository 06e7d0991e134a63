-- Which settings a text gives, and which rule it breaks first.
use Rattle.std.specs.Prelude.{◌≡◌, ◌<◌, ◌≤◌, ℕ, List, length, map, Option, None, Some}
use Rattle.std.specs.Str.{IsUtf8}
use Rattle.toml.specs.Data.{Members}
use Rattle.toml.specs.Parse.{parse_document}
use Rattle.tor_spec.specs.Extend.{Address}
use Rattle.circuit_model.specs.Rules.{Rules}
use Rattle.tor_settings.specs.Addresses.{allow_of_line, listen_address}
use Rattle.tor_settings.specs.Keys.{lines}
use Rattle.tor_settings.specs.Numbers.{accept_slots, accepts, circuit_window, dial_slots, edge_slots, sendme_least, workers}
use Rattle.tor_settings.specs.Rules.{broken_rule}
use Rattle.tor_settings.specs.Values.{address_of, allow_of}
use Rattle.tor_settings.specs.declared.settings.Settings.{Settings}
use Rattle.tor_settings.specs.declared.fault.SettingsFault.{SettingsFault}
use Rattle.tor_settings.specs.declared.fault.SettingsFault.TheVariants.{Rule, Memory}

-- How many bytes a text of settings may have.
abbrev pub most_bytes : ℕ
most_bytes = 65536

-- The settings as values.
pub record SettingsValue : Type 0 where
  pub listen : Address
  pub accept_slots : ℕ
  pub dial_slots : ℕ
  pub edge_slots : ℕ
  pub workers : ℕ
  pub accepts : ℕ
  pub rules : Rules

abbrev pub settings_of : Settings → SettingsValue
settings_of s = record {
  listen = address_of s.listen;
  accept_slots = s.accept_slots;
  dial_slots = s.dial_slots;
  edge_slots = s.edge_slots;
  workers = s.workers;
  accepts = s.accepts;
  rules = record { allow = map allow_of s.allow.items; window = s.circuit_window; least = s.sendme_least };
}

-- The settings have at each key what the document has there, or its default.
pub record HasValues (members : Members) (s : SettingsValue) : Type 0 where
  pub listen : listen_address members ≡ Some s.listen
  pub accept_slots : accept_slots members ≡ Some s.accept_slots
  pub dial_slots : dial_slots members ≡ Some s.dial_slots
  pub edge_slots : edge_slots members ≡ Some s.edge_slots
  pub workers : workers members ≡ Some s.workers
  pub accepts : accepts members ≡ Some s.accepts
  pub window : circuit_window members ≡ Some s.rules.window
  pub least : sendme_least members ≡ Some s.rules.least
  pub allow : map allow_of_line (lines members) ≡ map Some s.rules.allow

-- The text is the TOML document of these members.
pub record IsDocument (text : List ℕ) (members : Members) : Type 0 where
  pub utf8 : IsUtf8 text
  pub document : parse_document text ≡ Some members

-- The text keeps all rules, and these are its settings.
pub record GivesSettings (text : List ℕ) (s : SettingsValue) : Type 0 where
  pub short : length text ≤ most_bytes
  pub members : Members
  pub reads : IsDocument text members
  pub kept : broken_rule members ≡ None
  pub values : HasValues members s

-- Rule 1 is that the text has at most 65,536 bytes, rule 2 that it is a TOML document; the others are the
-- document's.
pub data BreaksFirst (text : List ℕ) : ℕ → Type 0 where
  too_long : most_bytes < length text → BreaksFirst text 1
  no_document : length text ≤ most_bytes → ((members : Members) → ¬ IsDocument text members) → BreaksFirst text 2
  in_document : (members : Members) (rule : ℕ)
      → length text ≤ most_bytes → IsDocument text members → broken_rule members ≡ Some rule
      → BreaksFirst text rule

-- A rule that is named is the first that is broken. Memory may be wanting only for a text that isn't too long.
abbrev pub TellsFault : List ℕ → SettingsFault → Type 0
TellsFault text (Rule rule) = BreaksFirst text rule
TellsFault text Memory = length text ≤ most_bytes

-- The rule that is named is this one.
abbrev pub TellsRule : Option ℕ → SettingsFault → Type 0
TellsRule broken (Rule rule) = broken ≡ Some rule
TellsRule broken Memory = Unit {0}
