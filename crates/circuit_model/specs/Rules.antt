-- What a relay's operator allows: which names a client may be connected to, and where each leads; with
-- how many DATA cells a circuit's window begins, and which SENDMEs are accepted.
use Rattle.std.specs.Prelude.{ℕ, ◌==◌, ◌&&◌, Bool, List, Option, option_map, find}
use Rattle.std.specs.Str.{str_eq_ignore_ascii_case}
use Rattle.tor_spec.specs.Begin.{Target}
use Rattle.tor_spec.specs.Extend.{Address}

-- One allowed name: host and port, and the address that a stream to it is connected to.
pub record Allow : Type 0 where
  pub host : List ℕ
  pub port : ℕ
  pub to : Address

pub record Rules : Type 0 where
  pub allow : List Allow
  -- how many DATA cells a circuit may package before its first SENDME (tor-spec, "Circuit-level flow
  -- control")
  pub window : ℕ
  -- the least version of a circuit's SENDME that is accepted (proposal 289)
  pub least : ℕ

-- Host names are compared without the case of ASCII letters.
abbrev pub has_host : List ℕ → Allow → Bool
has_host host line = str_eq_ignore_ascii_case line.host host

abbrev pub allows : Target → Allow → Bool
allows target line = has_host target.host line && (line.port == target.port)

-- Where a stream to this host and port leads: the first line that has both decides.
unfoldable pub allowed_address : Rules → Target → Option Address
allowed_address rules target = option_map (λ line. line.to) (find (allows target) rules.allow)

-- What a host name resolves to: the address of the first line that has it, at any port.
unfoldable pub resolved_address : Rules → List ℕ → Option Address
resolved_address rules host = option_map (λ line. line.to) (find (has_host host) rules.allow)
