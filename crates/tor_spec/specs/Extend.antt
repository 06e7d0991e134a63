-- The payloads that extend a circuit (tor-spec, "EXTEND and EXTENDED cells", "CREATE and CREATED
-- cells"): EXTEND2 says where to and carries the client's half of a handshake; EXTENDED2, like
-- CREATED2, carries the answer.
use Rattle.std.specs.Prelude.{ℕ, ◌+◌, zero, suc, [], ◌∷◌, ◌++◌, List, length, Bool, ◌==◌, ◌&&◌, true, nat_le, if◌then◌else◌, Option, Some, None, option_map, option_and_then, take, drop, find}
use Rattle.std.specs.Int.{w16, to_be_bytes, from_be_bytes}
use Rattle.tor_spec.specs.CellEncoding.{fixed_payload}
use Rattle.tor_spec.specs.declared.address.Address.{Address as Declared}

-- An IPv4 address of 4 bytes, and a port.
abbrev pub Address : Type 0
Address = Declared

-- What an EXTEND2 asks for. `to` is the first IPv4 address among its link specifiers.
pub record Extend : Type 0 where
  pub to : Option Address
  pub handshake_type : ℕ
  pub handshake : List ℕ

-- A link specifier: its type LSTYPE and its value LSPEC.
pub record Specifier : Type 0 where
  pub kind : ℕ
  pub value : List ℕ

-- Type 0 is an IPv4 address and a port, 1 an IPv6 address and a port, 2 the legacy identity,
-- 3 the Ed25519 identity: each has one length. Another type may have any.
unfoldable pub is_specifier_length : ℕ → ℕ → Bool
is_specifier_length kind n =
    if kind == 0 then n == 6
    else (if kind == 1 then n == 18
    else (if kind == 2 then n == 20
    else (if kind == 3 then n == 32
    else true)))

-- The link specifier at the front of the bytes, LSTYPE (1 byte), LSLEN (1), LSPEC (LSLEN), and what
-- is behind it.
unfoldable pub specifier : List ℕ → Option (Specifier × List ℕ)
specifier (kind ∷ size ∷ rest) =
    if is_specifier_length kind size && nat_le size (length rest)
    then Some (record { kind = kind; value = take size rest }, drop size rest)
    else None
specifier (kind ∷ []) = None
specifier [] = None

abbrev pub put_before : Specifier → List Specifier × List ℕ → List Specifier × List ℕ
put_before first more = (first ∷ more.0, more.1)

-- So many specifiers at the front of the bytes, and what is behind them.
unfoldable pub specifiers : ℕ → List ℕ → Option (List Specifier × List ℕ)
specifiers zero bytes = Some ([], bytes)
specifiers (suc n) bytes =
    option_and_then (λ read. option_map (put_before read.0) (specifiers n read.1)) (specifier bytes)

-- The address in a specifier of type 0.
unfoldable pub specified_address : Specifier → Address
specified_address s = record { ip = take 4 s.value; port = from_be_bytes w16 (drop 4 s.value) }

-- The first IPv4 address among the specifiers.
unfoldable pub first_address : List Specifier → Option Address
first_address found = option_map specified_address (find (λ s. s.kind == 0) found)

-- Where so many specifiers at the front of the bytes lead, and what is behind them.
unfoldable pub destination : ℕ → List ℕ → Option (Option Address × List ℕ)
destination n bytes = option_map (λ read. (first_address read.0, read.1)) (specifiers n bytes)

-- The answer to a handshake in an EXTENDED2 or CREATED2: HLEN (2 bytes), HDATA (HLEN). Anything
-- may follow.
unfoldable pub handshake_reply : List ℕ → Option (List ℕ)
handshake_reply payload =
    if nat_le 2 (length payload) && nat_le (2 + from_be_bytes w16 (take 2 payload)) (length payload)
    then Some (take (from_be_bytes w16 (take 2 payload)) (drop 2 payload))
    else None

unfoldable pub handshake_reply_payload : List ℕ → List ℕ
handshake_reply_payload handshake = to_be_bytes w16 (length handshake) ++ handshake

-- The client's half of a handshake as EXTEND2 and CREATE2 carry it: HTYPE (2 bytes), HLEN (2), HDATA (HLEN).
abbrev pub handshake_request_payload : ℕ → List ℕ → List ℕ
handshake_request_payload handshake_type handshake = to_be_bytes w16 handshake_type ++ handshake_reply_payload handshake

-- The payload of a CREATE2.
abbrev pub create2_payload : ℕ → List ℕ → List ℕ
create2_payload handshake_type handshake = fixed_payload (handshake_request_payload handshake_type handshake)

-- The client's half of a handshake in an EXTEND2 or CREATE2, its type and its data: HTYPE (2 bytes),
-- HLEN (2), HDATA (HLEN). Anything may follow.
unfoldable pub handshake_request : List ℕ → Option (ℕ × List ℕ)
handshake_request bytes =
    if nat_le 2 (length bytes)
    then option_map (λ handshake. (from_be_bytes w16 (take 2 bytes), handshake)) (handshake_reply (drop 2 bytes))
    else None

abbrev pub make_extend : Option Address → ℕ × List ℕ → Extend
make_extend to request = record { to = to; handshake_type = request.0; handshake = request.1 }

-- The request whose specifiers lead there, with a handshake behind them.
unfoldable pub request_behind : Option Address × List ℕ → Option Extend
request_behind read = option_map (make_extend read.0) (handshake_request read.1)

-- NSPEC (1 byte), that many link specifiers, then the handshake.
unfoldable pub extend_request : List ℕ → Option Extend
extend_request [] = None
extend_request (count ∷ rest) = option_and_then request_behind (destination count rest)

-- The request with one specifier, of type 0.
unfoldable pub extend_payload : Address → ℕ → List ℕ → List ℕ
extend_payload to handshake_type handshake =
    1 ∷ 0 ∷ 6 ∷ to.ip ++ to_be_bytes w16 to.port ++ handshake_request_payload handshake_type handshake
