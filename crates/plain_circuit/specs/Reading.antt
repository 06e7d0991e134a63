-- The cipher and the running digest that are due to the next forward body of a log.
use Rattle.std.specs.Prelude.{◌≡◌, ◌*◌}
use Rattle.aes_ctr.specs.StreamState.{StreamState}
use Rattle.run_digest.specs.HashState.{HashState, HasAbsorbed}
use Rattle.circuit_model.specs.Log.{Log}
use Rattle.circuit_model.specs.Opened.{born_keys, forward_count, recognised_bodies}

pub record IsReader (stream : StreamState) (running : HashState) (log : Log) : Type 0 where
  pub key : stream.key ≡ (born_keys log).kf
  pub position : stream.position ≡ 509 * forward_count log
  pub digest : HasAbsorbed running (born_keys log).df (recognised_bodies log)
