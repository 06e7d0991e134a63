-- What contracts see of a `Sealer` is a place in a keystream; here is the layer that it stands for.
use Rattle.std.specs.Prelude.{◌≡◌, ℕ, ◌*◌, List}
use Rattle.hop_crypto.specs.OpenerState.{StreamPlace}

-- A hop's layer towards the client: Kb, and on how many bodies it was put.
pub record SealingLayer : Type 0 where
  pub key : List ℕ
  pub sealed_count : ℕ

-- The sealer of a layer: each body uses 509 bytes of keystream.
abbrev pub sealer_of : SealingLayer → StreamPlace
sealer_of layer = record { key = layer.key; position = 509 * layer.sealed_count }

-- A layer has this state.
pub record IsSealerOfLayer (state : StreamPlace) : Type 0 where
  pub layer : SealingLayer
  pub state_is : state ≡ sealer_of layer
