-- When the jobs that a player keeps are those that a history tells, each as it was given out.
use Rattle.std.specs.Prelude.{ℕ, ◌≡◌, ◌<◌, ⊤, List, ◌∷◌, ◌++◌, true, Option, Some, None}
use Rattle.circuit_model.specs.Batches.{next_layer}
use Rattle.circuit_model.specs.Opened.{born_keys}
use Rattle.circuit_model.specs.Rules.{Rules}
use Rattle.circuit_model.specs.Words.{log}
use Rattle.hop_crypto.specs.OpenerState.{opener_of}
use Rattle.hop_crypto.specs.SealerState.{sealer_of}
use Rattle.hop_crypto.specs.declared.cipher.Cipher.{Cipher}
use Rattle.hop_crypto.specs.declared.parts.JobParts.{JobParts}
use Rattle.tr_io.specs.declared.names.ClaimNote.{ClaimNote}
use Rattle.tr_io.specs.declared.names.Dir.{Dir}
use Rattle.tr_io.specs.declared.names.Dir.TheVariants.{Forth, Back}
use Rattle.tr_io.specs.declared.step.Step.{Step}
use Rattle.tr_io.specs.declared.step.Step.TheVariants.{Claim}
use Rattle.switch_model.specs.History.Circuit.{is_live_circuit}
use Rattle.switch_model.specs.History.Legs.{circuits}
use Rattle.switch_model.specs.History.Past.{Past, past}
use Rattle.switch_model.specs.Names.{way_of}
use Rattle.switch_model.specs.Waiting.Claims.{claim_out}
use Rattle.switch_model.specs.Waiting.Contents.{claimed_bodies}
use Rattle.tape.specs.KeptJobs.{kept_job}

-- The cipher of the next body of a circuit's direction (tor-spec, "Routing relay cells").
abbrev pub way_cipher : Rules → Past → Dir → Cipher
way_cipher rules p Forth = Cipher.Forth (opener_of (next_layer (log rules p.events)))
way_cipher rules p Back =
    Cipher.Back (sealer_of (record { key = (born_keys (log rules p.events)).kb; sealed_count = p.sealed_count }))

-- The claim that gave a job, and the job's bodies.
pub record WasClaimed (rules : Rules) (h : List Step) (job : JobParts) (note : ClaimNote) : Type 0 where
  pub newer : List Step
  pub worker : ℕ
  pub older : List Step
  pub steps : newer ++ Claim worker (Some note) ∷ older ≡ h
  pub bodies : job.bodies.items ≡ claimed_bodies rules (Claim worker (Some note) ∷ older) note

-- The claim is out, and the job has its direction's cipher.
pub record IsOut (rules : Rules) (h : List Step) (job : JobParts) (note : ClaimNote) : Type 0 where
  pub claim_out : claim_out h (way_of note) ≡ Some note
  pub cipher : job.cipher ≡ way_cipher rules (past rules h note.circ.0) note.dir

-- A job that is kept by this claim number: its claim is out while its circuit is live.
pub record JobStands (rules : Rules) (h : List Step) (claim : ℕ) (job : JobParts) (note : ClaimNote) : Type 0 where
  pub note_is : job.note ≡ note
  pub number : note.claim ≡ claim
  pub switch : note.switch ≡ 0
  pub opened : note.circ.0 < circuits h
  pub origin : WasClaimed rules h job note
  pub out : is_live_circuit rules h note.circ.0 ≡ true → IsOut rules h job note

abbrev pub JobAt : Rules → List Step → ℕ → Option JobParts → Option ClaimNote → Type 0
JobAt rules h claim (Some job) (Some note) = JobStands rules h claim job note
JobAt rules h claim None None = ⊤
JobAt rules h claim (Some job) None = ⊥
JobAt rules h claim None (Some note) = ⊥

pub record JobsStand (rules : Rules) (h : List Step) (jobs : ℕ → Option JobParts) : Type 0 where
  pub job : (claim : ℕ) → JobAt rules h claim (jobs claim) (kept_job h claim)
