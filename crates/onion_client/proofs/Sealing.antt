-- The layer of a hop by its parts.
use Rattle.std.proofs.Common.{◌≡◌, ℕ, [], ◌∷◌, ◌++◌, List, ap, ◌∙◌}
use Rattle.run_digest.specs.HashState.{HashState, HasAbsorbed}
use Rattle.hop_crypto.specs.OpenerState.{StreamPlace, OpenerState}
use Rattle.circuit_model.specs.PathLayers.{PathHop}
use Rattle.onion_client.specs.LayerState.{sealing_of, with_meant}

-- One more body was meant for it.
pub sealing_by_parts : (o : OpenerState) (hop : PathHop) (body : List ℕ) → o.stream ≡ (sealing_of hop).stream →
    HasAbsorbed o.digest hop.keys.df (hop.meant_bodies ++ body ∷ []) → o ≡ sealing_of (with_meant hop body)
sealing_by_parts o hop body place digest =
    let made : StreamPlace → HashState → OpenerState = λ s d. record { stream = s; digest = d } in
    ap (λ (s : StreamPlace). made s o.digest) place ∙ ap (λ (d : HashState). made (sealing_of hop).stream d) digest
