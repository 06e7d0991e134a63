-- The payload of a NETINFO cell (tor-spec, "NETINFO cells").
use Rattle.std.specs.Prelude.{ℕ, ◌+◌, [], ◌∷◌, List, length, drop, replicate, slice_index, Bool, not, ◌==◌, ◌&&◌, ◌||◌, nat_lt, is_some, if◌then◌else◌, Option, Some, None, option_and_then, zero, suc}
use Rattle.tor_spec.specs.CellCommands.{netinfo_command}
use Rattle.tor_spec.specs.CellEncoding.{WireCell}

-- An address of type 4 (IPv4) has 4 bytes, and one of type 6 (IPv6) has 16.
abbrev pub has_wrong_length : ℕ → ℕ → Bool
has_wrong_length kind size = ((kind == 4) && not (size == 4)) || ((kind == 6) && not (size == 16))

-- The bytes behind the address that these begin with: its type, its length and as many bytes.
unfoldable pub behind_address : List ℕ → Option (List ℕ)
behind_address bytes =
    if nat_lt (length bytes) 2 then None
    else if has_wrong_length (slice_index bytes 0) (slice_index bytes 1) then None
    else if nat_lt (length bytes) (2 + slice_index bytes 1) then None
    else Some (drop (2 + slice_index bytes 1) bytes)

-- The bytes behind n addresses.
unfoldable pub behind_addresses : ℕ → List ℕ → Option (List ℕ)
behind_addresses zero bytes = Some bytes
behind_addresses (suc n) bytes = option_and_then (behind_addresses n) (behind_address bytes)

-- A number of addresses, and these.
unfoldable pub behind_list : List ℕ → Option (List ℕ)
behind_list [] = None
behind_list (n ∷ bytes) = behind_addresses n bytes

-- The time (4 bytes), the other side's address, and the list of the sender's own. What follows is
-- padding.
unfoldable pub is_netinfo : List ℕ → Bool
is_netinfo payload = is_some (option_and_then behind_list (behind_address (drop 4 payload)))

-- The NETINFO of a sender that tells nothing: time 0, the address 0.0.0.0 and no own address.
abbrev pub silent_netinfo : WireCell
silent_netinfo = record { circuit = 0; command = netinfo_command; payload = 0 ∷ 0 ∷ 0 ∷ 0 ∷ 4 ∷ 4 ∷ replicate 503 0 }
