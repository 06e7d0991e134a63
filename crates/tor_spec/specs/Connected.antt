-- The payload of CONNECTED (tor-spec, "Opening streams and transferring data"): the IPv4 address
-- that the exit connected to, and for how many seconds the name may be kept.
use Rattle.std.specs.Prelude.{ℕ, ◌++◌, List, length, nat_le, if◌then◌else◌, Option, Some, None, slice_range}
use Rattle.std.specs.Int.{w32, to_be_bytes, from_be_bytes}

pub record ConnectedTo : Type 0 where
  pub ip : List ℕ
  pub ttl : ℕ

-- The address (4 bytes) and the time to live (4); anything may follow.
unfoldable pub connected_address : List ℕ → Option ConnectedTo
connected_address payload =
    if nat_le 8 (length payload)
    then Some (record { ip = slice_range payload 0 4; ttl = from_be_bytes w32 (slice_range payload 4 8) })
    else None

unfoldable pub connected_payload : List ℕ → ℕ → List ℕ
connected_payload ip ttl = ip ++ to_be_bytes w32 ttl
