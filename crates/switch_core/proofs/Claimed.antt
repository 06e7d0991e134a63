-- The switch behind a claim.
use Rattle.std.proofs.Common.{◌≡◌, ℕ, ◌+◌, ◌<◌, ◌≤◌, List, length, get_or, slice_set, ◌^◌, Option, Some, None, IfSome, option_map, refl, sym, ap, subst, ◌∙◌, arith}
use Rattle.std.specs.Prelude.{⊤}
use Rattle.hop_crypto.specs.declared.parts.JobParts.{JobParts}
use Rattle.tr_io.specs.declared.answers.ClaimAnswer.{ClaimAnswer}
use Rattle.tr_io.specs.declared.answers.ClaimAnswer.TheVariants as Claims
use Rattle.tr_io.specs.declared.names.ClaimNote.{ClaimNote}
use Rattle.tr_io.specs.declared.step.Step.TheVariants.{Claim}
use Rattle.switch_model.specs.Limits.{worker_limit}
use Rattle.switch_model.specs.Start.{SwitchStart}
use Rattle.switch_machine.specs.Calls.Claim.{claim_result, claim_state, claim_state_by, claimed_circuit}
use Rattle.switch_machine.specs.Machine.{way_of_circuit}
use Rattle.switch_machine.specs.State.{ChannelState, CircuitState, State, slot_at, with_slot}
use Rattle.switch_core.specs.Claiming.{ClaimCase, MayClaim, given_note, with_claim}
use Rattle.switch_core.specs.Meaning.{StepsFit, state_of}
use Rattle.switch_core.specs.Started.{Started, SwitchAdds, SwitchStandsForSome}
use Rattle.switch_core.specs.declared.counters.Counters.{Counters}
use Rattle.switch_core.specs.declared.relay.Relay.{Relay}
use Rattle.switch_core.proofs.Claims.{taken_stays}
use Rattle.switch_core.proofs.Gone.{slot-set}
use Rattle.switch_core.proofs.Steps.{claim_whole}
use Rattle.switch_core.proofs.Lanes.{lanes_more}
use Rattle.switch_core.proofs.Taken.{taken_at, taken_count, taken_more, taken_set}
use Rattle.switch_core.proofs.Whole.{started, whole_stays}

-- the machine's state

claimed-is : (note : ClaimNote) (x : Option CircuitState) → option_map (with_claim note) x ≡ claimed_circuit note x
claimed-is note None = refl
claimed-is note (Some x) = refl

pub claim_put : (k : Counters) (channels : List ChannelState) (circuits : List (Option CircuitState)) (s : State)
    (note : ClaimNote) (old new : Option CircuitState) → state_of k channels circuits ≡ s →
    slot_at s.circuits note.circ.0 ≡ old → new ≡ option_map (with_claim note) old →
    state_of (record k { steps = k.steps + 1; claims = k.claims + 1 }) channels (slice_set circuits note.circ.0 new)
    ≡ claim_state_by s (Some note)
claim_put k channels circuits s note old new is live claimed =
    let put : new ≡ claimed_circuit note (slot_at s.circuits note.circ.0) =
    claimed ∙ claimed-is note old ∙ ap (claimed_circuit note) (sym live) in
    ap {A = List (Option CircuitState)}
    (λ l. record (state_of (record k { steps = k.steps + 1; claims = k.claims + 1 }) channels circuits) { circuits = l })
    (sym (slot-set circuits note.circ.0 new))
    ∙ ap {A = State}
    (λ x. record x { steps = x.steps + 1; claims = x.claims + 1; circuits = with_slot x.circuits note.circ.0 new }) is
    ∙ ap {A = Option CircuitState}
    (λ y. record s { steps = s.steps + 1; claims = s.claims + 1; circuits = with_slot s.circuits note.circ.0 y }) put

-- what was taken is bounded by the steps

taken-with : (n : ℕ) (note : ClaimNote) (x : Option CircuitState) → MayClaim x note → IfSome x (λ y. taken_count y ≤ n)
    → IfSome (option_map (with_claim note) x) (λ y. taken_count y ≤ n + 1)
taken-with n note None may few = tt
taken-with n note (Some x) may few =
    let there : Some x ≡ Some may.circuit = may.live in
    let same : may.circuit ≡ x = cc in
    let enough : note.count ≤ length (way_of_circuit x note.dir).waiting_bodies =
    subst (λ (y : CircuitState). note.count ≤ length (way_of_circuit y note.dir).waiting_bodies) same may.enough in
    omega (arith, taken_stays note x enough, few)

pub fits_claimed : (k : Counters) (channels : List ChannelState) (circuits : List (Option CircuitState)) (c : ℕ)
    (note : ClaimNote) (old new : Option CircuitState) → StepsFit k channels circuits → c < length circuits
    → old ≡ get_or circuits c old →
    MayClaim old note → new ≡ option_map (with_claim note) old
    → StepsFit (record k { steps = k.steps + 1; claims = k.claims + 1 }) channels (slice_set circuits c new)
fits_claimed k channels circuits c note old new fits below is may claimed = record {
  lanes = lanes_more k.steps (k.steps + 1) channels (omega arith) fits.lanes;
  taken =
      taken_set (k.steps + 1) circuits c new (taken_more k.steps (k.steps + 1) circuits (omega arith) fits.taken)
      (subst (λ (x : Option CircuitState). IfSome x (λ y. taken_count y ≤ k.steps + 1)) (sym claimed)
      (taken-with k.steps note old may (taken_at k.steps circuits c old fits.taken below is)));
  bodies_fit = omega (arith, fits.bodies_fit);
  claims_fit = omega (arith, fits.claims_fit);
  dials_fit = omega (arith, fits.dials_fit);
}

-- what was taken on a circuit fits 64 bits
pub forth_fits : (n : ℕ) (x : Option CircuitState) → IfSome x (λ y. taken_count y ≤ n) → n < 2 ^ 62
    → IfSome x (λ y. y.forth.claimed_count + length y.forth.waiting_bodies < 2 ^ 64)
forth_fits n None few below = tt
forth_fits n (Some x) few below = omega (arith, few, below)

-- the history

pub claimed_whole : (start : SwitchStart) (old new : State) (relays : List (Option Relay)) (worker : ℕ) (a : ClaimAnswer JobParts)
    → worker < worker_limit →
    ClaimCase a (new ≡ old) (new ≡ claim_state start.name old worker)
    → ClaimCase a ⊤ (given_note a ≡ claim_result start.name old worker) →
    ClaimCase a (started start new relays ≡ started start old relays)
    (SwitchAdds (started start old relays) (started start new relays) (Claim worker (given_note a)))
claimed_whole start old new relays worker Claims.Memory known state answer = ap (λ s. started start s relays) state
claimed_whole start old new relays worker Claims.Nothing known state answer =
    claim_whole start old new relays worker None known state answer
claimed_whole start old new relays worker (Claims.Job job) known state answer =
    claim_whole start old new relays worker (Some job.note) known state answer

pub claim_goes_on : (old new : Started) (worker : ℕ) (a : ClaimAnswer JobParts)
    → ClaimCase a (new ≡ old) (SwitchAdds old new (Claim worker (given_note a))) → SwitchStandsForSome old
    → SwitchStandsForSome new
claim_goes_on old new worker Claims.Memory is some = subst SwitchStandsForSome (sym is) some
claim_goes_on old new worker Claims.Nothing adds some = whole_stays old new (Claim worker None) adds some
claim_goes_on old new worker (Claims.Job job) adds some = whole_stays old new (Claim worker (Some job.note)) adds some

pub claim_steps : (old new : Started) (worker : ℕ) (a : ClaimAnswer JobParts)
    → ClaimCase a (new ≡ old) (SwitchAdds old new (Claim worker (given_note a))) → new.state.steps ≤ old.state.steps + 1
unfolding SwitchAdds
claim_steps old new worker Claims.Memory is = let same : new.state.steps ≡ old.state.steps =
    ap (λ (s : Started). s.state.steps) is in omega (arith, same)
claim_steps old new worker Claims.Nothing adds = omega (arith, adds.steps)
claim_steps old new worker (Claims.Job job) adds = omega (arith, adds.steps)
