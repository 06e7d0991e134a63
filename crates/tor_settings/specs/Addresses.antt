-- The addresses of the settings.
use Rattle.std.specs.Prelude.{◌&&◌, Bool, Option, codes, is_some, option_and_then, option_map}
use Rattle.std.specs.List.{list_all}
use Rattle.toml.specs.Data.{Data, Members, as_str, get_member}
use Rattle.tor_spec.specs.Extend.{Address}
use Rattle.circuit_model.specs.Rules.{Allow}
use Rattle.tor_settings.specs.AddressText.{address_of_text}
use Rattle.tor_settings.specs.Keys.{lines}
use Rattle.tor_settings.specs.Lines.{name_of, text_at}

-- Where the relay listens.
unfoldable pub listen_address : Members → Option Address
listen_address members = option_and_then address_of_text (option_and_then as_str (get_member (codes "listen") members))

-- Where a line leads.
unfoldable pub address_to : Data → Option Address
address_to line = option_and_then address_of_text (text_at (codes "to") line)

-- What a line allows.
unfoldable pub allow_of_line : Data → Option Allow
allow_of_line line =
    option_and_then
    (λ name. option_map (λ to. record { host = name.host; port = name.port; to = to }) (address_to line))
    (name_of line)

-- Rule 11: every address is four numbers and a port.
unfoldable pub has_addresses : Members → Bool
has_addresses members = is_some (listen_address members) && list_all (λ line. is_some (address_to line)) (lines members)
