-- A circuit's window of DATA cells (tor-spec, "Circuit-level flow control"; proposal 289), by the log
-- of the circuit.
use Rattle.std.specs.Prelude.{ℕ, [], ◌∷◌, List, Bool, true, false, map, if◌then◌else◌, Some}
use Rattle.tor_spec.specs.CircuitWindow.{CircuitWindow}
use Rattle.sendme_windows.specs.declared.proof_answer.ProofAnswer.{ProofAnswer}
use Rattle.sendme_windows.specs.declared.proof_answer.ProofAnswer.TheVariants.{Good}
use Rattle.circuit_model.specs.Log.{Log}
use Rattle.circuit_model.specs.Packaged.{own_bodies, back_digest}
use Rattle.circuit_model.specs.Windows.{is_data_body, good_sendmes, accepted_data}

-- Some bodies up to and with each DATA among them, the first DATA's first.
abbrev pub up_to_each_data : List (List ℕ) → List (List (List ℕ))
up_to_each_data [] = []
up_to_each_data (body ∷ bodies) =
    if is_data_body (Some body)
    then (body ∷ []) ∷ map (λ first_bodies. body ∷ first_bodies) (up_to_each_data bodies)
    else map (λ first_bodies. body ∷ first_bodies) (up_to_each_data bodies)

-- The backward running digest after each DATA that this relay packaged, oldest first.
abbrev pub data_digests : Log → List (List ℕ)
data_digests log = map (back_digest log) (up_to_each_data (own_bodies log))

-- The relay's side of the window: the digests after the DATA that it packaged, the right SENDMEs of
-- the client for them, and the client's DATA that it accepted.
unfoldable pub window_of : Log → CircuitWindow
window_of log = record {
  packaged = data_digests log;
  acknowledged = good_sendmes log;
  accepted = accepted_data log;
}

-- Whether a SENDME has the proof that was owed.
abbrev pub is_good : ProofAnswer → Bool
is_good Good = true
is_good answer = false
