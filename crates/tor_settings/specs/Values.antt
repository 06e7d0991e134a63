-- What the program's values are in the definitions.
use Rattle.tor_spec.specs.Begin.{Target}
use Rattle.tor_spec.specs.Extend.{Address}
use Rattle.circuit_model.specs.Rules.{Allow}
use Rattle.tr_io.specs.declared.names.Dest.{Dest}
use Rattle.tor_settings.specs.declared.allowed_name.AllowedName.{AllowedName}
use Rattle.tor_settings.specs.declared.names.Name.{Name}

abbrev pub address_of : Dest → Address
address_of to = record { ip = to.ip; port = to.port }

abbrev pub allow_of : AllowedName → Allow
allow_of name = record { host = name.host.items; port = name.port; to = address_of name.to }

abbrev pub target_of : Name → Target
target_of name = record { host = name.host.now; port = name.port }
