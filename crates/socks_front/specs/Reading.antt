-- What a client's bytes come to, read in the order in which RFC 1928 has them stand: the greeting (section 3)
-- and then one request (sections 4 and 5). A refusal is that of the first byte that is refused. What is
-- refused, and that a request's third byte and what is behind a request aren't looked at, are rules of this
-- front where the standard says nothing.
use Rattle.std.specs.Prelude.{ℕ, ◌==◌, ◌||◌, [], ◌∷◌, List, Bool, true, false, length, take, drop, nat_le, if◌then◌else◌, Option, Some, None}
use Rattle.std.specs.List.{list_any}
use Rattle.std.specs.Int.{w16, from_be_bytes}
use Rattle.tor_spec.specs.Text.{is_zero_byte}
use Rattle.socks_front.specs.declared.command.SocksCommand.{SocksCommand}
use Rattle.socks_front.specs.declared.command.SocksCommand.TheVariants.{Connect, Resolve}
use Rattle.socks_front.specs.declared.fault.SocksFault.{SocksFault}
use Rattle.socks_front.specs.declared.fault.SocksFault.TheVariants.{Version, NoMethod, Command, Kind, Host}
use Rattle.socks_front.specs.Messages.{socks_version, is_no_authentication, ipv4_kind, name_kind, dotted}

-- What a request asks for: a connection to a host and a port, or the address of a host.
pub data Wish : Type 0 where
  Connects : List ℕ → ℕ → Wish
  Resolves : List ℕ → Wish

-- What the bytes so far come to: nothing yet; a greeting that has just ended and offers to go without
-- authentication; a request; or a refusal.
pub data Outcome : Type 0 where
  Unfinished : Outcome
  Greets : Outcome
  Asks : Wish → Outcome
  Refuses : SocksFault → Outcome

-- Behind these two no byte is awaited.
abbrev pub is_end : Outcome → Bool
is_end Unfinished = false
is_end Greets = false
is_end (Asks wish) = true
is_end (Refuses fault) = true

-- CMD (section 4): CONNECT is X'01'. RESOLVE is X'F0' in Tor's extensions of SOCKS.
abbrev pub command_of : ℕ → Option SocksCommand
command_of number = if number == 1 then Some Connect else if number == 240 then Some Resolve else None

-- What a command asks for.
abbrev pub wish_of : SocksCommand → List ℕ → ℕ → Wish
wish_of Connect host port = Connects host port
wish_of Resolve host port = Resolves host

-- No connection leads to port 0. A RESOLVE's port isn't looked at.
abbrev pub wish_outcome : SocksCommand → List ℕ → ℕ → Outcome
wish_outcome Connect host port = if port == 0 then Refuses Host else Asks (Connects host port)
wish_outcome Resolve host port = Asks (Resolves host)

-- DST.PORT, 2 bytes.
abbrev pub port_outcome : SocksCommand → List ℕ → List ℕ → Outcome
port_outcome command host [] = Unfinished
port_outcome command host (high ∷ []) = Unfinished
port_outcome command host (high ∷ low ∷ rest) = wish_outcome command host (from_be_bytes w16 (high ∷ low ∷ []))

-- DST.ADDR of ATYP X'01', 4 bytes.
unfoldable pub ipv4_outcome : SocksCommand → List ℕ → Outcome
ipv4_outcome command bytes =
    if nat_le 4 (length bytes) then port_outcome command (dotted (take 4 bytes)) (drop 4 bytes) else Unfinished

-- DST.ADDR of ATYP X'03': the name's length, 1 byte, and the name. A host has 1 to 255 bytes other than zero.
unfoldable pub name_bytes_outcome : SocksCommand → ℕ → List ℕ → Outcome
name_bytes_outcome command size bytes =
    if (size == 0) || list_any is_zero_byte (take size bytes) then Refuses Host
    else if nat_le size (length bytes) then port_outcome command (take size bytes) (drop size bytes)
    else Unfinished

abbrev pub name_outcome : SocksCommand → List ℕ → Outcome
name_outcome command [] = Unfinished
name_outcome command (size ∷ bytes) = name_bytes_outcome command size bytes

-- ATYP and what it says of the address.
abbrev pub kind_outcome : SocksCommand → ℕ → List ℕ → Outcome
kind_outcome command kind bytes =
    if kind == ipv4_kind then ipv4_outcome command bytes
    else if kind == name_kind then name_outcome command bytes
    else Refuses (Kind kind)

-- RSV and ATYP.
abbrev pub address_outcome : SocksCommand → List ℕ → Outcome
address_outcome command [] = Unfinished
address_outcome command (reserved ∷ []) = Unfinished
address_outcome command (reserved ∷ kind ∷ bytes) = kind_outcome command kind bytes

abbrev pub known_outcome : Option SocksCommand → ℕ → List ℕ → Outcome
known_outcome None number bytes = Refuses (Command number)
known_outcome (Some command) number bytes = address_outcome command bytes

-- CMD.
abbrev pub command_outcome : List ℕ → Outcome
command_outcome [] = Unfinished
command_outcome (number ∷ bytes) = known_outcome (command_of number) number bytes

-- The bytes behind the greeting: none, or a request, which begins with VER.
abbrev pub request_outcome : List ℕ → Outcome
request_outcome [] = Greets
request_outcome (version ∷ bytes) = if version == socks_version then command_outcome bytes else Refuses (Version version)

-- METHODS, so many of them, one of which must be "no authentication required".
unfoldable pub methods_outcome : ℕ → List ℕ → Outcome
methods_outcome count bytes =
    if nat_le count (length bytes) then
    (if list_any is_no_authentication (take count bytes) then request_outcome (drop count bytes) else Refuses NoMethod)
    else Unfinished

-- NMETHODS.
abbrev pub offer_outcome : List ℕ → Outcome
offer_outcome [] = Unfinished
offer_outcome (count ∷ bytes) = methods_outcome count bytes

-- All bytes from the first on.
abbrev pub outcome : List ℕ → Outcome
outcome [] = Unfinished
outcome (version ∷ bytes) = if version == socks_version then offer_outcome bytes else Refuses (Version version)
