-- The hops of a path as the code keeps them.
use Rattle.std.specs.Prelude.{ℕ, ◌+◌, ◌<◌, ◌^◌, [], ◌∷◌, List}
use Rattle.hop_crypto.specs.OpenerState.{OpenerState}
use Rattle.crypto_spec.specs.HopLayer.{layered}
use Rattle.circuit_model.specs.PathLayers.{PathHop}
use Rattle.onion_client.specs.declared.hop.Hop.{Hop}
use Rattle.onion_client.specs.LayerState.{sealing_of, peeling_of}

-- Both layers of a hop of a path.
abbrev pub hop_of : PathHop → Hop
hop_of p = record { forth = sealing_of p; back = peeling_of p }

-- There is keystream for one more body each way.
pub record HasKeystream (hop : Hop) : Type 0 where
  pub forth : hop.forth.stream.position < 2 ^ 100
  pub back : hop.back.stream.position < 2 ^ 100

-- A layer that one more body went through.
abbrev pub stepped : OpenerState → OpenerState
stepped layer = record layer { stream = record layer.stream { position = layer.stream.position + 509 } }

abbrev pub stepped_forth : Hop → Hop
stepped_forth hop = record hop { forth = stepped hop.forth }

-- A body with the layers of these hops put on, the first hop's outermost.
abbrev pub with_layers : List Hop → List ℕ → List ℕ
with_layers [] body = body
with_layers (hop ∷ hops) body = layered hop.forth.stream.key hop.forth.stream.position (with_layers hops body)
