-- Which types the values have. A key that isn't there has no value of a wrong type.
use Rattle.std.specs.Prelude.{◌&&◌, Bool, Option, None, Some, codes, is_some, true}
use Rattle.std.specs.List.{list_all}
use Rattle.toml.specs.Data.{Data, Members, get, get_member, as_array, as_integer, as_str, as_table}
use Rattle.tor_settings.specs.Keys.{lines}

abbrev pub is_text : Option Data → Bool
is_text None = true
is_text (Some value) = is_some (as_str value)

abbrev pub is_whole_number : Option Data → Bool
is_whole_number None = true
is_whole_number (Some value) = is_some (as_integer value)

abbrev pub is_list : Option Data → Bool
is_list None = true
is_list (Some value) = is_some (as_array value)

-- A line is a table of a host, a port and an address.
unfoldable pub has_line_types : Data → Bool
has_line_types line =
    is_some (as_table line)
    && is_text (get (codes "host") line) && is_whole_number (get (codes "port") line) && is_text (get (codes "to") line)

abbrev pub has_setting_types : Members → Bool
has_setting_types members =
    is_text (get_member (codes "listen") members)
    && is_whole_number (get_member (codes "accept_slots") members)
    && is_whole_number (get_member (codes "dial_slots") members)
    && is_whole_number (get_member (codes "edge_slots") members)
    && is_whole_number (get_member (codes "workers") members)
    && is_whole_number (get_member (codes "accepts") members)
    && is_whole_number (get_member (codes "circuit_window") members)
    && is_whole_number (get_member (codes "sendme_least") members)
    && is_list (get_member (codes "allow") members)

-- Rule 5: every value has its type.
unfoldable pub has_types : Members → Bool
has_types members = has_setting_types members && list_all has_line_types (lines members)
