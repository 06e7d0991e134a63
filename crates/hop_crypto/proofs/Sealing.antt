-- Where a sealer stands.
use Rattle.std.proofs.Common.{◌≡◌, ℕ, ◌*◌, List, ap, ◌∙◌}
use Rattle.aes_ctr.specs.StreamState.{StreamState}
use Rattle.hop_crypto.specs.OpenerState.{StreamPlace, place_of}
use Rattle.hop_crypto.specs.SealerState.{sealer_of}

-- A keystream stands where a layer does, by its parts.
pub place_by_parts : (stream : StreamState) (key : List ℕ) (sealed : ℕ) → stream.key ≡ key → stream.position ≡ 509 * sealed
    → place_of stream ≡ sealer_of (record { key = key; sealed_count = sealed })
place_by_parts stream key sealed key_is position_is =
    let made : List ℕ → ℕ → StreamPlace = λ k p. record { key = k; position = p } in
    ap (λ (k : List ℕ). made k stream.position) key_is ∙ ap (λ (p : ℕ). made key p) position_is
