-- An `Extend2` as tor-spec's request.
use Rattle.std.specs.Prelude.{ℕ, List, option_map}
use Rattle.relay_cell.specs.declared.extend.Extend2.{Extend2}
use Rattle.tor_spec.specs.Extend.{Address, Extend}

abbrev pub address_of : List ℕ × ℕ → Address
address_of d = record { ip = d.0; port = d.1 }

abbrev pub extend_of : Extend2 → Extend
extend_of e = record { to = option_map address_of e.to; handshake_type = e.htype; handshake = e.hdata.now }
