-- What contracts see of a `Layer`, and of both directions of a hop, and the hop of a path that they stand
-- for.
use Rattle.std.specs.Prelude.{ℕ, ◌+◌, ◌*◌, [], ◌∷◌, ◌++◌, List}
use Rattle.crypto_spec.specs.HopLayer.{OpeningLayer}
use Rattle.crypto_spec.specs.RunningDigest.{digest_message}
use Rattle.run_digest.specs.HashState.{hash_state}
use Rattle.kdf_tor.specs.declared.LayerKeys.{LayerKeys}
use Rattle.hop_crypto.specs.OpenerState.{OpenerState, opener_of}
use Rattle.circuit_model.specs.PathLayers.{PathHop}

-- A hop that nothing has gone to and come from.
abbrev pub fresh_hop : LayerKeys → PathHop
fresh_hop keys = record { keys = keys; sent_count = 0; came_count = 0; meant_bodies = []; hop_bodies = [] }

-- One more body was meant for the hop; one more went through its layer.

abbrev pub with_meant : PathHop → List ℕ → PathHop
with_meant hop body = record hop { meant_bodies = hop.meant_bodies ++ body ∷ [] }

abbrev pub with_sent : PathHop → PathHop
with_sent hop = record hop { sent_count = hop.sent_count + 1 }

-- The layer that the client puts on for a hop: the place in the keystream of Kf, and the running digest of
-- the bodies that were meant for it.
abbrev pub sealing_of : PathHop → OpenerState
sealing_of hop = record {
  stream = record { key = hop.keys.kf; position = 509 * hop.sent_count };
  digest = hash_state (digest_message hop.keys.df hop.meant_bodies);
}

-- The layer that the client takes off, for the other direction.
abbrev pub back_layer : PathHop → OpeningLayer
back_layer hop = record {
  key = hop.keys.kb;
  seed = hop.keys.db;
  position = 509 * hop.came_count;
  absorbed = hop.hop_bodies;
}

abbrev pub peeling_of : PathHop → OpenerState
peeling_of hop = opener_of (back_layer hop)
