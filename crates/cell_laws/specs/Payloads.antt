-- The short payloads of relay cells, as lists of bytes. That anything may follow a payload is a rule of
-- this relay.
use Rattle.std.specs.Prelude.{ℕ, ◌≡◌, ◌<◌, ◌^◌, ◌⊎◌, [], ◌∷◌, ◌++◌, List, length}
use Rattle.std.specs.Int.{w16, w32, to_be_bytes}
use Rattle.tor_spec.specs.Connected.{ConnectedTo}

-- CONNECTED (tor-spec, "Opening streams and transferring data"): an IPv4 address (4 bytes) and the
-- seconds to live (4); anything may follow.
pub record SpellsConnected (payload : List ℕ) (to : ConnectedTo) : Type 0 where
  pub more : List ℕ
  pub spelling : payload ≡ to.ip ++ to_be_bytes w32 to.ttl ++ more
  pub four : length to.ip ≡ 4
  pub ttl_fits : to.ttl < 2 ^ 32

-- SENDME of a circuit (proposal 289): VERSION (1 byte) is 1, DATA_LEN (2) is 20, then 20 bytes of
-- digest; anything may follow.
pub record SpellsProof (payload proof : List ℕ) : Type 0 where
  pub more : List ℕ
  pub spelling : payload ≡ 1 ∷ 0 ∷ 20 ∷ proof ++ more
  pub twenty : length proof ≡ 20

-- The first byte is the reason, and an empty payload has another.
abbrev spells_reason : ℕ → List ℕ → ℕ → Type 0
spells_reason empty payload reason =
    ((payload ≡ []) × (reason ≡ empty)) ⊎ ((more : List ℕ) × (payload ≡ reason ∷ more))

-- END (tor-spec, "Closing streams"): an empty one has the reason MISC (1).
abbrev pub SpellsEnd : List ℕ → ℕ → Type 0
SpellsEnd payload reason = spells_reason 1 payload reason

-- TRUNCATED (tor-spec, "Tearing down circuits"): an empty one has the reason NONE (0).
abbrev pub SpellsTruncated : List ℕ → ℕ → Type 0
SpellsTruncated payload reason = spells_reason 0 payload reason

-- EXTENDED2 and CREATED2 (tor-spec, "CREATE and CREATED cells"): HLEN (2 bytes), HDATA (HLEN); anything
-- may follow.
pub record SpellsReply (payload handshake : List ℕ) : Type 0 where
  pub more : List ℕ
  pub spelling : payload ≡ to_be_bytes w16 (length handshake) ++ handshake ++ more
  pub handshake_fits : length handshake < 2 ^ 16

-- CREATE2, and the end of an EXTEND2: HTYPE (2 bytes) in front of the same.
pub record SpellsRequest (payload : List ℕ) (handshake_type : ℕ) (handshake : List ℕ) : Type 0 where
  pub more : List ℕ
  pub spelling : payload ≡ to_be_bytes w16 handshake_type ++ to_be_bytes w16 (length handshake) ++ handshake ++ more
  pub type_fits : handshake_type < 2 ^ 16
  pub handshake_fits : length handshake < 2 ^ 16
