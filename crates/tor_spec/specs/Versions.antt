-- The link versions that a VERSIONS cell lists (tor-spec, "Negotiating versions").
use Rattle.std.specs.Prelude.{ℕ, [], ◌∷◌, List, Bool, ◌==◌, max, if◌then◌else◌, Option, Some, None}
use Rattle.std.specs.List.{flat_map, list_any}
use Rattle.std.specs.Int.{w16, to_be_bytes, from_be_bytes}
use Rattle.tor_spec.specs.CellCommands.{versions_command}
use Rattle.tor_spec.specs.CellEncoding.{WireCell}

-- The payload: each version in two bytes, big-endian.
abbrev pub versions_payload : List ℕ → List ℕ
versions_payload versions = flat_map (to_be_bytes w16) versions

-- VERSIONS with this list, on CircID 0.
abbrev pub versions_cell : List ℕ → WireCell
versions_cell versions = record { circuit = 0; command = versions_command; payload = versions_payload versions }

-- The list that a payload of an even number of bytes holds.
abbrev pub versions_of : List ℕ → List ℕ
versions_of [] = []
versions_of (high ∷ []) = []
versions_of (high ∷ low ∷ more) = from_be_bytes w16 (high ∷ low ∷ []) ∷ versions_of more

abbrev pub lists_version : List ℕ → ℕ → Bool
lists_version versions version = list_any (λ v. v == version) versions

abbrev pub larger : ℕ → Option ℕ → ℕ
larger v None = v
larger v (Some w) = max v w

-- The highest version that stands in both lists.
abbrev pub highest_common : List ℕ → List ℕ → Option ℕ
highest_common [] theirs = None
highest_common (v ∷ ours) theirs =
    if lists_version theirs v then Some (larger v (highest_common ours theirs)) else highest_common ours theirs
