-- The payloads of the cells that answer the opening of a circuit, as they are written.
use Rattle.std.specs.Prelude.{ℕ, [], ◌∷◌, ◌++◌, List}
use Rattle.tor_spec.specs.CellEncoding.{fixed_payload}
use Rattle.tor_spec.specs.Extend.{handshake_reply_payload}

-- CREATED_FAST (tor-spec, "CREATE_FAST/CREATED_FAST cells"): the relay's Y (20 bytes), KH (20).
abbrev pub created_fast_payload : List ℕ → List ℕ → List ℕ
created_fast_payload y kh = fixed_payload (y ++ kh)

-- CREATED2 (tor-spec, "CREATE and CREATED cells"): HLEN (2 bytes), HDATA (HLEN).
abbrev pub created2_payload : List ℕ → List ℕ
created2_payload hdata = fixed_payload (handshake_reply_payload hdata)

-- DESTROY (tor-spec, "Tearing down circuits"): the reason (1 byte).
abbrev pub destroy_payload : ℕ → List ℕ
destroy_payload reason = fixed_payload (reason ∷ [])
