use Rattle.switch_core.proofs.Offers.{may_claim}
use Rattle.switch_core.proofs.claiming.claim_job.Goals as goal

pub job_of-requires : goal.job_of-requires
job_of-requires c = record {
  claim = may_claim c.args.switch c.args.parts.now c.args.worker c.in-Some.note c.in-Some.ensures.answer;
  fits = c.in-Some.ensures.fits;
  relays = c.requires.relays;
}

pub give_out-requires-clause-claim : goal.give_out-requires-clause-claim
give_out-requires-clause-claim c = may_claim c.args.switch c.args.parts.now c.args.worker c.in-Some.note c.in-Some.ensures.answer
