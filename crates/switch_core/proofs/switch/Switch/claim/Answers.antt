use Rattle.std.proofs.Common.{◌≡◌, ap, subst, arith}
use Rattle.tr_io.specs.declared.step.Step.TheVariants.{Claim}
use Rattle.switch_core.specs.Claiming.{ClaimCase, given_note}
use Rattle.switch_core.specs.Meaning.{start_of}
use Rattle.switch_core.specs.Started.{Started, SwitchAdds}
use Rattle.switch_core.proofs.Claimed.{claimed_whole, claim_goes_on, claim_steps}
use Rattle.switch_core.proofs.Serving.{relays_serve}
use Rattle.switch_core.proofs.Whole.{started}
use Rattle.switch_core.proofs.switch.Switch.claim.Goals as goal

pub claim_job-requires : goal.claim_job-requires
claim_job-requires c = record {
  steps = omega (arith, c.requires.steps, ap (λ (s : Started). s.state.steps) c.self.view_is);
  relays = relays_serve
      (started (start_of c.self.inside.name c.self.inside.rules c.self.inside.circuits) c.self.inside.parts
      c.self.inside.relays.items) c.self.invariant;
}

pub invariant_of-self : goal.invariant_of-self
invariant_of-self c =
    let start = start_of c.self.inside.name c.self.inside.rules c.self.inside.circuits in
    claim_goes_on (started start c.self.inside.parts c.self.inside.relays.items)
    (started start c.claim_job.new.parts c.self.inside.relays.items) c.args.worker c.claim_job.result
    (claimed_whole start c.self.inside.parts c.claim_job.new.parts c.self.inside.relays.items c.args.worker c.claim_job.result
    c.requires.worker c.claim_job.ensures.state c.claim_job.ensures.answer)
    c.self.invariant

pub returns-clause-whole : goal.returns-clause-whole
returns-clause-whole c =
    let start = start_of c.self.inside.name c.self.inside.rules c.self.inside.circuits in
    let new : Started = started start c.claim_job.new.parts c.self.inside.relays.items in
    subst (λ (old : Started). ClaimCase c.claim_job.result (new ≡ old)
    (SwitchAdds old new (Claim c.args.worker (given_note c.claim_job.result)))) c.self.view_is
    (claimed_whole start c.self.inside.parts c.claim_job.new.parts c.self.inside.relays.items c.args.worker c.claim_job.result
    c.requires.worker c.claim_job.ensures.state c.claim_job.ensures.answer)

pub returns-clause-steps : goal.returns-clause-steps
returns-clause-steps c = claim_steps _ _ c.args.worker c.claim_job.result (returns-clause-whole c)
