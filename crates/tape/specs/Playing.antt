-- What holds while the records of a tape, from its first one on, are played under its rules.
use Rattle.std.specs.Prelude.{◌≡◌, ◌⊎◌, ℕ, ◌-◌, List, ◌++◌, length, Option, Some}
use Rattle.circuit_model.specs.Rules.{Rules}
use Rattle.hop_crypto.specs.declared.parts.JobParts.{JobParts}
use Rattle.tr_io.specs.declared.status.Status.{Status}
use Rattle.tr_io.specs.declared.status.Status.TheVariants.{Memory}
use Rattle.tr_io.specs.Faults.{Rose}
use Rattle.tr_io.specs.declared.step.Step.{Step}
use Rattle.switch_core.specs.Started.{Started, SwitchStands}
use Rattle.tape.specs.declared.input.Ending.{Ending}
use Rattle.tape.specs.declared.record.Record.{Record}
use Rattle.tape.specs.Jobs.{job_at}
use Rattle.tape.specs.KeptJobs.{HasNoStranger}
use Rattle.tape.specs.JobsStand.{JobsStand}
use Rattle.tape.specs.Steps.{step_of, answer_of, with_step, output, IsRecords}
use Rattle.tape.specs.declared.jobs.Jobs.{Jobs}
use Rattle.tr_io.specs.Output.{IsWritten, IsPartWritten}
use Rattle.tape.specs.Runs.{status_at, SwitchBehind}

-- What contracts see of a player: its switch, and by claim number the jobs that it keeps.
pub record PlayerState : Type 0 where
  pub switch : Started
  pub jobs : ℕ → Option JobParts

abbrev pub player_state : Started → Jobs → PlayerState
player_state switch jobs = record { switch = switch; jobs = λ claim. job_at jobs claim }

-- The player stands for a history: its switch does, it keeps the jobs that the history tells, each as it was given
-- out, and none of their returns was refused as a stranger's.
pub record PlayerStands (rules : Rules) (p : PlayerState) (h : List Step) : Type 0 where
  pub switch : SwitchStands p.switch h
  pub jobs : JobsStand rules h p.jobs
  pub own : HasNoStranger h

-- Whatever history the player stood for, it stands for it with the record's step, and this answer is right.
pub record Makes {A : Type 0} (rules : Rules) (r : Record) (old new : PlayerState) (answer : A) (right : List Step → A) : Type 0
  where
    pub stands : (h : List Step) → PlayerStands rules old h → PlayerStands rules new (with_step (step_of rules h r) h)
    pub right_is : (h : List Step) → PlayerStands rules old h → answer ≡ right h

-- The same where the answer is written behind the others.
pub record PlaysOn (rules : Rules) (r : Record) (old new : PlayerState) (answers more : List ℕ) : Type 0 where
  pub stands : (h : List Step) → PlayerStands rules old h → PlayerStands rules new (with_step (step_of rules h r) h)
  pub answer : (h : List Step) → PlayerStands rules old h → more ≡ answers ++ answer_of rules h r

-- The front of the answers was written, and the others are left.
pub record HandedOn (answers left : List ℕ) (contents now : Option (List ℕ)) : Type 0 where
  pub piece : List ℕ
  pub written : IsWritten contents piece now
  pub whole : piece ++ left ≡ answers

-- These records were played: their answers are written, but for those that are gathered.
pub record Gathered (rules : Rules) (first rest : List ℕ) (records : List Record) (answers : List ℕ)
    (contents now : Option (List ℕ)) : Type 0 where
  pub read : IsRecords first records rest
  pub handed : HandedOn (output rules records) answers contents now

-- The playing stopped at a place that begins no record which is built, or for want of memory.
pub record Stopped (rules : Rules) (status : Status) (ending : Ending) (tape first answers : List ℕ)
    (contents now : Option (List ℕ)) : Type 0 where
  pub records : List Record
  pub rest : List ℕ
  pub behind : SwitchBehind rules records
  pub gathered : Gathered rules first rest records answers contents now
  pub cause : (status_at ending (length tape - length rest) rest ≡ Some status) ⊎ (status ≡ Memory)

-- The playing stopped at a fault of the sink.
pub record Broken (rules : Rules) (first : List ℕ) (contents now : Option (List ℕ)) (faults faults_now : ℕ) : Type 0 where
  pub cause : Rose faults faults_now
  pub records : List Record
  pub rest : List ℕ
  pub behind : SwitchBehind rules records
  pub read : IsRecords first records rest
  pub written : IsPartWritten contents (output rules records) now
