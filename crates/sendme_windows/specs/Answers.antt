-- What a SENDME's payload is to a circuit's window.
use Rattle.std.specs.Prelude.{List, ℕ, if◌then◌else◌, Option, Some, None, bytes_eq}
use Rattle.tor_spec.specs.Sendme.{needs_no_proof, sendme_proof}
use Rattle.tor_spec.specs.CircuitWindow.{CircuitWindow, next_owed, after_acknowledging}
use Rattle.sendme_windows.specs.declared.proof_answer.ProofAnswer.{ProofAnswer}
use Rattle.sendme_windows.specs.declared.proof_answer.ProofAnswer.TheVariants.{Good, Wrong, NoneOwed, BadForm}

-- A SENDME of a right form against the proof that is owed, if one is: one without a proof is as good as
-- one with the right proof.
abbrev pub judged : Option (List ℕ) → Option (List ℕ) → ProofAnswer
judged None proof = NoneOwed
judged (Some owed_proof) None = Good
judged (Some owed_proof) (Some proof) = if bytes_eq proof owed_proof then Good else Wrong owed_proof proof

-- What is read of a payload that needs a proof.
abbrev pub judged_if_read : Option (List ℕ) → Option (List ℕ) → ProofAnswer
judged_if_read owed_proof None = BadForm
judged_if_read owed_proof (Some proof) = judged owed_proof (Some proof)

-- Where this is the least version that is accepted: the form is looked at first, then whether a proof is
-- owed, then the proof.
abbrev pub answer_to : ℕ → CircuitWindow → List ℕ → ProofAnswer
answer_to least w payload =
    if needs_no_proof least payload
    then judged (next_owed w) None
    else judged_if_read (next_owed w) (sendme_proof payload)

-- Only a good SENDME changes the window.
abbrev pub window_after : ProofAnswer → CircuitWindow → CircuitWindow
window_after Good w = after_acknowledging w
window_after answer w = w
