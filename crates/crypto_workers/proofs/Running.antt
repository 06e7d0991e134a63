-- How a worker's rounds go on.
use Rattle.std.proofs.Common.{◌≡◌, ℕ, List, [], ◌∷◌, ◌++◌, Option, Some, None, MatchOption, inr, refl, sym, ap, subst, ◌∙◌, append_assoc}
use Rattle.std.specs.Prelude.{flat_map}
use Rattle.std.proofs.lemmas.List.{flat_map_more}
use Rattle.tr_io.specs.declared.answers.BackAnswer.{BackAnswer}
use Rattle.tr_io.specs.declared.loop_end.LoopEnd.{LoopEnd}
use Rattle.tr_io.specs.declared.names.ClaimNote.{ClaimNote}
use Rattle.tr_io.specs.declared.step.Step.{Step}
use Rattle.tr_io.specs.declared.step.Step.TheVariants.{Claim, GiveBack}
use Rattle.tr_io.specs.PortSteps.{Adds}
use Rattle.crypto_workers.specs.Rounds.{WorkerRound, work_steps, round_steps, IsLastClaim}
use Rattle.crypto_workers.specs.Rounds.WorkerRound.{Worked}

-- What holds at each turn: whole rounds were made.
pub record Running (worker : ℕ) (before now : List Step) : Type 0 where
  pub rounds : List WorkerRound
  pub made : now ≡ before ++ flat_map (round_steps worker) rounds

-- a job was claimed, and given back or not
pub claimed : (worker : ℕ) (note : ClaimNote) (before steps middle after : List Step) (result : Option LoopEnd)
    → steps ≡ Claim worker (Some note) ∷ [] → Adds before steps middle
    → MatchOption result ((a : BackAnswer) × Adds middle (GiveBack note None a ∷ []) after)
    (λ end. (end ≡ LoopEnd.Spent) × (after ≡ middle))
    → MatchOption result ((r : WorkerRound) × Adds before (work_steps worker r) after)
    (λ end. (steps : List Step) × (after ≡ before ++ steps) × IsLastClaim worker end steps)
claimed worker note before steps middle after None is claim (a, back) = (
  Worked note a,
  record {
    behind =
        back.behind ∙ ap (λ xs. xs ++ GiveBack note None a ∷ []) (claim.behind ∙ ap (λ xs. before ++ xs) is)
        ∙ append_assoc before (Claim worker (Some note) ∷ []) (GiveBack note None a ∷ []);
    few = back.few;
  },
)
claimed worker note before steps middle after (Some end) is claim (spent, same) = (
  Claim worker (Some note) ∷ [],
  same ∙ claim.behind ∙ ap (λ xs. before ++ xs) is,
  subst (λ e. IsLastClaim worker e (Claim worker (Some note) ∷ [])) (sym spent) (inr (note, refl)),
)

pub goes_on : (worker : ℕ) (before now after : List Step) → Running worker before now
    → (r : WorkerRound) × Adds now (round_steps worker r) after → Running worker before after
goes_on worker before now after was (r, adds) = record {
  rounds = was.rounds ++ r ∷ [];
  made = adds.behind ∙ ap (λ xs. xs ++ round_steps worker r) was.made ∙ flat_map_more (round_steps worker) before was.rounds r;
}
