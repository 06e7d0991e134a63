-- Which bytes spell a greeting and a request (RFC 1928, sections 3 to 5), written from the messages to their
-- bytes.
use Rattle.std.specs.Prelude.{ℕ, ◌≡◌, ◌≢◌, ◌<◌, ◌≤◌, ◌^◌, ◌∷◌, ◌++◌, List, length, true, false}
use Rattle.std.specs.List.{list_any}
use Rattle.std.specs.Int.{w16, to_be_bytes}
use Rattle.tor_spec.specs.Text.{is_zero_byte}
use Rattle.socks_front.specs.declared.command.SocksCommand.{SocksCommand}
use Rattle.socks_front.specs.declared.command.SocksCommand.TheVariants.{Connect, Resolve}
use Rattle.socks_front.specs.Messages.{greeting_bytes, is_no_authentication, socks_version, ipv4_kind, name_kind, dotted}
use Rattle.socks_front.specs.Reading.{Wish, wish_of}

-- A destination: an IPv4 address, or a name.
pub data Destination : Type 0 where
  Address : List ℕ → Destination
  Named : List ℕ → Destination

-- ATYP and DST.ADDR.
abbrev pub destination_bytes : Destination → List ℕ
destination_bytes (Address ip) = ipv4_kind ∷ ip
destination_bytes (Named name) = name_kind ∷ length name ∷ name

abbrev pub destination_text : Destination → List ℕ
destination_text (Address ip) = dotted ip
destination_text (Named name) = name

abbrev pub IsDestination : Destination → Type 0
IsDestination (Address ip) = length ip ≡ 4
IsDestination (Named name) = (1 ≤ length name) × (list_any is_zero_byte name ≡ false)

abbrev pub command_byte : SocksCommand → ℕ
command_byte Connect = 1
command_byte Resolve = 240

-- VER, CMD, RSV, ATYP, DST.ADDR; DST.PORT follows.
abbrev pub request_front : SocksCommand → ℕ → Destination → List ℕ
request_front command reserved to = socks_version ∷ command_byte command ∷ reserved ∷ destination_bytes to

-- A connection leads to a port other than 0.
abbrev pub IsPortFor : SocksCommand → ℕ → Type 0
IsPortFor Connect port = port ≢ 0
IsPortFor Resolve port = Unit {0}

-- The bytes are a greeting that offers to go without authentication, a request, and anything behind it.
pub record SpellsWish (bytes : List ℕ) (wish : Wish) : Type 0 where
  pub methods : List ℕ
  pub command : SocksCommand
  pub reserved : ℕ
  pub to : Destination
  pub port : ℕ
  pub more : List ℕ
  pub spelling : bytes ≡ greeting_bytes methods ++ (request_front command reserved to ++ (to_be_bytes w16 port ++ more))
  pub offered : list_any is_no_authentication methods ≡ true
  pub is_destination : IsDestination to
  pub port_fits : port < 2 ^ 16
  pub is_port : IsPortFor command port
  pub asked : wish ≡ wish_of command (destination_text to) port
