-- The messages of SOCKS version 5 as they lie in bytes (RFC 1928). The numbers are in decimal.
use Rattle.std.specs.Prelude.{ℕ, ◌==◌, [], ◌∷◌, ◌++◌, List, Bool, length, slice_index}
use Rattle.std.specs.Int.{w16, to_be_bytes}
use Rattle.tor_spec.specs.Decimal.{decimal_digits}
use Rattle.socks_front.specs.declared.fault.SocksFault.{SocksFault}
use Rattle.socks_front.specs.declared.fault.SocksFault.TheVariants.{Version, NoMethod, Command, Kind, Host}

-- VER, the first byte of each message.
abbrev pub socks_version : ℕ
socks_version = 5

-- METHOD X'00', "no authentication required" (section 3).
abbrev pub is_no_authentication : ℕ → Bool
is_no_authentication method = method == 0

-- The greeting (section 3): VER (1 byte), NMETHODS (1), METHODS (NMETHODS).
abbrev pub greeting_bytes : List ℕ → List ℕ
greeting_bytes methods = socks_version ∷ length methods ∷ methods

-- The answer to a greeting (section 3): VER (1), METHOD (1).
abbrev pub method_bytes : ℕ → List ℕ
method_bytes method = socks_version ∷ method ∷ []

-- ATYP X'01', an IP V4 address (section 5).
abbrev pub ipv4_kind : ℕ
ipv4_kind = 1

-- ATYP X'03', a domain name (section 5).
abbrev pub name_kind : ℕ
name_kind = 3

-- An address of 4 bytes as a text: its bytes in decimal with a dot between each two.
abbrev pub dotted : List ℕ → List ℕ
dotted ip =
    decimal_digits (slice_index ip 0) ++ 46 ∷ decimal_digits (slice_index ip 1)
    ++ 46 ∷ decimal_digits (slice_index ip 2) ++ 46 ∷ decimal_digits (slice_index ip 3)

-- A reply (section 6) with an IPv4 address: VER (1), REP (1), RSV (1), ATYP (1), BND.ADDR (4), BND.PORT (2).
unfoldable pub reply : ℕ → List ℕ → ℕ → List ℕ
reply code ip port = socks_version ∷ code ∷ 0 ∷ ipv4_kind ∷ ip ++ to_be_bytes w16 port

-- What a client is told at a refusal. METHOD X'FF' is "no acceptable methods" (section 3); REP X'01' is
-- "general SOCKS server failure", X'07' "command not supported" and X'08' "address type not supported"
-- (section 6). That the address and the port are zero, and that a client of another version is told
-- nothing, are rules of this front.
unfoldable pub refusal_bytes : SocksFault → List ℕ
refusal_bytes (Version version) = []
refusal_bytes NoMethod = method_bytes 255
refusal_bytes (Command command) = reply 7 (0 ∷ 0 ∷ 0 ∷ 0 ∷ []) 0
refusal_bytes (Kind kind) = reply 8 (0 ∷ 0 ∷ 0 ∷ 0 ∷ []) 0
refusal_bytes Host = reply 1 (0 ∷ 0 ∷ 0 ∷ 0 ∷ []) 0
