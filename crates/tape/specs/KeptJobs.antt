-- Which jobs a tape keeps behind some steps, and how they come home.
use Rattle.std.specs.Prelude.{ℕ, ⊤, ◌==◌, List, [], ◌∷◌, Option, Some, None, if◌then◌else◌}
use Rattle.std.specs.List.{AllByRecursion}
use Rattle.tr_io.specs.declared.answers.BackAnswer.TheVariants.{Stranger}
use Rattle.tr_io.specs.declared.names.ClaimNote.{ClaimNote}
use Rattle.tr_io.specs.declared.step.Step.{Step}
use Rattle.tr_io.specs.declared.step.Step.TheVariants.{Claim, GiveBack, Abandon}

-- The note of the job with this claim number, if the tape keeps it: from the claim that gave it until it is
-- given back or abandoned.
abbrev pub kept_job : List Step → ℕ → Option ClaimNote
kept_job [] claim = None
kept_job (Claim worker (Some note) ∷ h) claim = if note.claim == claim then Some note else kept_job h claim
kept_job (GiveBack note place answer ∷ h) claim = if note.claim == claim then None else kept_job h claim
kept_job (Abandon note place answer ∷ h) claim = if note.claim == claim then None else kept_job h claim
kept_job (s ∷ h) claim = kept_job h claim

-- A return isn't refused as one of a job that the switch didn't give out.
abbrev pub IsNoStranger : Step → Type 0
IsNoStranger (GiveBack note place (Stranger why)) = ⊥
IsNoStranger (Abandon note place (Stranger why)) = ⊥
IsNoStranger s = ⊤

-- None of the returns is.
abbrev pub HasNoStranger : List Step → Type 0
HasNoStranger h = AllByRecursion IsNoStranger h
