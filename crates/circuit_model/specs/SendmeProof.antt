-- Authenticated SENDMEs (proposal 289): a circuit's SENDME carries the running digest after the DATA
-- that it acknowledges.
use Rattle.std.specs.Prelude.{ℕ, ◌+◌, ◌-◌, ◌*◌, ◌&&◌, ◌||◌, [], ◌∷◌, List, Bool, false, if◌then◌else◌, Option, Some, None, nat_le, bytes_eq}
use Rattle.tor_spec.specs.CircuitWindow.{circuit_step}
use Rattle.tor_spec.specs.Sendme.{needs_no_proof, sendme_proof}
use Rattle.circuit_model.specs.Rules.{Rules}
use Rattle.circuit_model.specs.Log.{Log}
use Rattle.circuit_model.specs.Packaged.{own_bodies, back_digest}
use Rattle.circuit_model.specs.Windows.{circuit_packaged, good_sendmes, is_data_body}

-- The bodies up to and with the DATA with this number, counted from 1.
abbrev pub up_to_data : ℕ → List (List ℕ) → List (List ℕ)
up_to_data n [] = []
up_to_data n (body ∷ bodies) =
    if is_data_body (Some body)
    then (if nat_le n 1 then body ∷ [] else body ∷ up_to_data (n - 1) bodies)
    else body ∷ up_to_data n bodies

-- The proof of the k-th SENDME, from 1: the backward running digest after the packaged DATA with
-- number 100 k.
unfoldable pub proof_owed : Log → ℕ → List ℕ
proof_owed log k = back_digest log (up_to_data (circuit_step * k) (own_bodies log))

-- Whether a payload carries this proof.
abbrev pub proves : List ℕ → Option (List ℕ) → Bool
proves expected (Some proof) = bytes_eq proof expected
proves expected None = false

-- A circuit SENDME is right where the DATA that it would acknowledge was packaged, and where it carries
-- the proof of it or needs none by the rules.
unfoldable pub is_right_sendme : Rules → Log → List ℕ → Bool
is_right_sendme rules log payload =
    nat_le (circuit_step * (good_sendmes log + 1)) (circuit_packaged log)
    && (needs_no_proof rules.least payload || proves (proof_owed log (good_sendmes log + 1)) (sendme_proof payload))
