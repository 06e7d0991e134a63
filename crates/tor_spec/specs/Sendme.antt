-- The payload of a circuit's SENDME (proposal 289). Of version 1, VERSION (1 byte) is 1, DATA_LEN (2) is
-- 20, and DATA (20) is the running digest after the cell that the SENDME acknowledges. Version 0 is that
-- of relays from before the proposal: it has no proof.
use Rattle.std.specs.Prelude.{ℕ, [], ◌∷◌, ◌++◌, ◌==◌, List, length, Bool, true, nat_le, nat_eq, ◌&&◌, if◌then◌else◌, Option, Some, None, slice_range}
use Rattle.std.specs.List.{starts_with}

-- What stands before the digest.
abbrev pub sendme_prefix : List ℕ
sendme_prefix = 1 ∷ 0 ∷ 20 ∷ []

-- The digest; anything may follow it.
unfoldable pub sendme_proof : List ℕ → Option (List ℕ)
sendme_proof payload =
    if starts_with nat_eq payload sendme_prefix && nat_le 23 (length payload)
    then Some (slice_range payload 3 23)
    else None

unfoldable pub sendme_payload : List ℕ → List ℕ
sendme_payload proof = sendme_prefix ++ proof

-- An empty payload, or VERSION 0 with anything behind it.
abbrev pub is_version_0 : List ℕ → Bool
is_version_0 [] = true
is_version_0 (version ∷ more) = version == 0

-- Whether a SENDME of this payload needs no proof, where this is the least version that is accepted.
abbrev pub needs_no_proof : ℕ → List ℕ → Bool
needs_no_proof least payload = (least == 0) && is_version_0 payload
