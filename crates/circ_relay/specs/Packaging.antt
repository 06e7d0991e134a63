-- What a `Packager` has to do with a circuit's log.
use Rattle.std.specs.Prelude.{◌≡◌, ℕ, List, length, Option, Some}
use Rattle.run_digest.specs.HashState.{HashState, HasAbsorbed}
use Rattle.circuit_model.specs.Log.{Log, pushed}
use Rattle.circuit_model.specs.Opened.{born_keys, born_pad}
use Rattle.circuit_model.specs.Packaged.{own_bodies, finished}
use Rattle.relay_padding.specs.PaddingState.{PaddingState}

-- What contracts see of a `Packager`.
pub record PackagerState : Type 0 where
  pub digest : HashState
  pub padding : PaddingState

-- It is that of a circuit: its running digest is that of the bodies that the circuit packaged, and its
-- padding goes on with the next one.
pub record IsPackager (state : PackagerState) (log : Log) : Type 0 where
  pub digest : HasAbsorbed state.digest (born_keys log).db (own_bodies log)
  pub key : state.padding.key ≡ born_pad log
  pub count : state.padding.count ≡ length (own_bodies log)

-- What the circuit was opened with stays.
pub record IsSameCircuit (log longer : Log) : Type 0 where
  pub keys : born_keys longer ≡ born_keys log
  pub pad : born_pad longer ≡ born_pad log

-- After this log a body is packaged, or none is: where it is the next of the bodies that the circuit
-- packaged, the packager is that of the longer log.
abbrev pub IsPackagedNext : PackagerState → Log → Option (List ℕ) → Type 0
IsPackagedNext state log next_body =
    (longer : Log) → own_bodies longer ≡ pushed (own_bodies log) next_body → IsSameCircuit log longer → IsPackager state longer

-- This body is packaged, whatever the log.
abbrev pub Packages : PackagerState → PackagerState → List ℕ → Type 0
Packages old new body = (log : Log) → IsPackager old log → IsPackagedNext new log (Some (finished log body))
