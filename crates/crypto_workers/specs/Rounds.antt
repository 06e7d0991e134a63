-- The steps of a worker.
use Rattle.std.specs.Prelude.{◌≡◌, ◌⊎◌, ℕ, List, [], ◌∷◌, ◌++◌, Some, None, true, false, flat_map}
use Rattle.tr_io.specs.declared.answers.BackAnswer.{BackAnswer}
use Rattle.tr_io.specs.declared.loop_end.LoopEnd.{LoopEnd}
use Rattle.tr_io.specs.declared.names.ClaimNote.{ClaimNote}
use Rattle.tr_io.specs.declared.step.Step.{Step}
use Rattle.tr_io.specs.declared.step.Step.TheVariants.{Halted, Claim, GiveBack}

-- A round: the claim found nothing, or it gave a job, which was given back and so answered.
pub data WorkerRound : Type 0 where
  Idle : WorkerRound
  Worked : ClaimNote → BackAnswer → WorkerRound

-- Its steps behind `halted`. The job comes back with the note that it was given out with, and neither its
-- start state nor a body of it differs from what was given out.
abbrev pub work_steps : ℕ → WorkerRound → List Step
work_steps worker Idle = Claim worker None ∷ []
work_steps worker (Worked note answer) = Claim worker (Some note) ∷ GiveBack note None answer ∷ []

-- All its steps.
abbrev pub round_steps : ℕ → WorkerRound → List Step
round_steps worker round = Halted false ∷ work_steps worker round

-- The steps of a last claim: none where it was Spent or wanted memory, and the claim where the job's return
-- was Spent.
abbrev pub IsLastClaim : ℕ → LoopEnd → List Step → Type 0
IsLastClaim worker LoopEnd.Spent steps =
    (steps ≡ []) ⊎ ((note : ClaimNote) × (steps ≡ Claim worker (Some note) ∷ []))
IsLastClaim worker LoopEnd.Memory steps = steps ≡ []
IsLastClaim worker end steps = ⊥

-- The steps behind the last whole round. A worker has no other end than these three.
abbrev pub IsLastPart : ℕ → LoopEnd → List Step → Type 0
IsLastPart worker LoopEnd.Halted steps = steps ≡ Halted true ∷ []
IsLastPart worker LoopEnd.Spent steps =
    (steps ≡ []) ⊎ ((rest : List Step) × (steps ≡ Halted false ∷ rest) × IsLastClaim worker LoopEnd.Spent rest)
IsLastPart worker LoopEnd.Memory steps = steps ≡ Halted false ∷ []
IsLastPart worker end steps = ⊥

-- Rounds, one after another, and a last part, with which the worker ends.
pub record IsWorkerRun (worker : ℕ) (end : LoopEnd) (steps : List Step) : Type 0 where
  pub rounds : List WorkerRound
  pub last : List Step
  pub steps_are : steps ≡ flat_map (round_steps worker) rounds ++ last
  pub last_is : IsLastPart worker end last
