-- The jobs that the code keeps for a tape.
use Rattle.std.specs.Prelude.{ℕ, nat_eq, Option, option_map}
use Rattle.std.specs.HashMap.{get}
use Rattle.hop_crypto.specs.declared.parts.JobParts.{JobParts}
use Rattle.tape.specs.declared.jobs.Jobs.{Jobs}
use Rattle.tape.specs.declared.jobs.KeptJob.{KeptJob}

abbrev pub job_of : KeptJob → JobParts
job_of job_entry = job_entry.job

-- The job with this claim number, if it is kept.
abbrev pub job_at : Jobs → ℕ → Option JobParts
job_at jobs claim = option_map job_of (get nat_eq jobs.by_claim claim)
