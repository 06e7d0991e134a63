-- The numbers of the settings: ranges and defaults.
use Rattle.std.specs.Prelude.{ℕ, ◌+◌, pos, ◌&&◌, List, Bool, Option, None, Some, codes, if◌then◌else◌, is_some, nat_le, true}
use Rattle.std.specs.List.{list_all}
use Rattle.toml.specs.Data.{Data, Members, get, get_member, integer}
use Rattle.tor_settings.specs.Keys.{lines}

-- The whole number that a value is, where it lies in this range.
abbrev pub number_within : ℕ → ℕ → Data → Option ℕ
number_within least most (integer (pos n)) = if nat_le least n && nat_le n most then Some n else None
number_within least most _ = None

-- The same where there may be no value: then it is the default.
abbrev pub number_or : ℕ → ℕ → ℕ → Option Data → Option ℕ
number_or least most default None = Some default
number_or least most default (Some value) = number_within least most value

unfoldable pub number_at : List ℕ → ℕ → ℕ → ℕ → Members → Option ℕ
number_at key least most default members = number_or least most default (get_member key members)

abbrev pub accept_slots : Members → Option ℕ
accept_slots members = number_at (codes "accept_slots") 1 64 16 members

abbrev pub dial_slots : Members → Option ℕ
dial_slots members = number_at (codes "dial_slots") 0 63 16 members

abbrev pub edge_slots : Members → Option ℕ
edge_slots members = number_at (codes "edge_slots") 0 256 32 members

abbrev pub workers : Members → Option ℕ
workers members = number_at (codes "workers") 1 64 4 members

abbrev pub accepts : Members → Option ℕ
accepts members = number_at (codes "accepts") 0 2147483647 0 members

abbrev pub circuit_window : Members → Option ℕ
circuit_window members = number_at (codes "circuit_window") 100 1000 1000 members

abbrev pub sendme_least : Members → Option ℕ
sendme_least members = number_at (codes "sendme_least") 0 1 1 members

-- The port of a line, from 1 to 65,535.
abbrev pub port_within : Option Data → Option ℕ
port_within None = None
port_within (Some value) = number_within 1 65535 value

unfoldable pub port_of : Data → Option ℕ
port_of line = port_within (get (codes "port") line)

abbrev pub port_is_in_range : Option Data → Bool
port_is_in_range None = true
port_is_in_range (Some value) = is_some (number_within 1 65535 value)

unfoldable pub has_port_in_range : Data → Bool
has_port_in_range line = port_is_in_range (get (codes "port") line)

unfoldable pub settings_are_in_range : Members → Bool
settings_are_in_range members =
    is_some (accept_slots members) && is_some (dial_slots members) && is_some (edge_slots members)
    && is_some (workers members) && is_some (accepts members) && is_some (circuit_window members)
    && is_some (sendme_least members)

-- Rule 6: every number is in its range.
unfoldable pub has_numbers_in_range : Members → Bool
has_numbers_in_range members = settings_are_in_range members && list_all has_port_in_range (lines members)

abbrev pub are_few_slots : Option ℕ → Option ℕ → Bool
are_few_slots (Some accept_count) (Some dial_count) = nat_le (accept_count + dial_count) 64
are_few_slots (Some accept_count) None = true
are_few_slots None dial_count = true

-- Rule 7: accepting and dialling slots together are at most 64.
unfoldable pub has_few_slots : Members → Bool
has_few_slots members = are_few_slots (accept_slots members) (dial_slots members)
