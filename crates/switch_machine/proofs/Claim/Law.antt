-- claim as one step.
use Rattle.std.proofs.Common.{◌+◌, ◌<◌, ◌≡◌, None, Option, Some, refl, ℕ}
use Rattle.tr_io.specs.declared.names.ClaimNote.{ClaimNote}
use Rattle.tr_io.specs.declared.step.Step.TheVariants.{Claim}
use Rattle.switch_model.specs.Limits.{worker_limit}
use Rattle.switch_model.specs.Start.{SwitchStart}
use Rattle.switch_machine.specs.Adds.{Adds}
use Rattle.switch_machine.specs.Calls.Claim.{claim_result, claim_state, claim_state_by}
use Rattle.switch_machine.specs.State.{State}
use Rattle.switch_machine.proofs.Claim.Kept.{claim_kept}

claim-steps : (s : State) (o : Option ClaimNote) → (claim_state_by s o).steps ≡ s.steps + 1
claim-steps s None = refl
claim-steps s (Some n) = refl

pub claim_adds : (start : SwitchStart) (old new : State) (worker : ℕ) (a : Option ClaimNote) → worker < worker_limit
    → new ≡ claim_state start.name old worker → a ≡ claim_result start.name old worker → Adds start old new (Claim worker a)
unfolding Adds
claim_adds start old new worker a known e f = rw (e, f) (record {
  steps = claim-steps old (claim_result start.name old worker);
  stands = λ h st. claim_kept start old h worker known st;
})
