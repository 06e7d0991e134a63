-- What contracts see of an `Opener`, and the layer that it stands for.
use Rattle.std.specs.Prelude.{◌≡◌, ℕ, List}
use Rattle.aes_ctr.specs.StreamState.{StreamState}
use Rattle.run_digest.specs.HashState.{HashState, hash_state}
use Rattle.crypto_spec.specs.RunningDigest.{digest_message}
use Rattle.crypto_spec.specs.HopLayer.{OpeningLayer}

-- A place in a keystream: the key, and the number of the next byte. How many bytes are made ahead is
-- no part of it.
pub record StreamPlace : Type 0 where
  pub key : List ℕ
  pub position : ℕ

abbrev pub place_of : StreamState → StreamPlace
place_of stream = record { key = stream.key; position = stream.position }

-- The place in the cipher's keystream and the state of the running digest.
pub record OpenerState : Type 0 where
  pub stream : StreamPlace
  pub digest : HashState

-- The opener of a layer.
abbrev pub opener_of : OpeningLayer → OpenerState
opener_of layer = record {
  stream = record { key = layer.key; position = layer.position };
  digest = hash_state (digest_message layer.seed layer.absorbed);
}

-- A layer has this state.
pub record IsOpenerOfLayer (state : OpenerState) : Type 0 where
  pub layer : OpeningLayer
  pub state_is : state ≡ opener_of layer
