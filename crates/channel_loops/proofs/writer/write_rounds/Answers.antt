use Rattle.std.proofs.Common.{◌∙◌}
use Rattle.channel_loops.proofs.Running.{goes_on, ends}
use Rattle.channel_loops.proofs.writer.write_rounds.Goals as goal

pub returns-in-Some-clause-rounds : goal.returns-in-Some-clause-rounds
returns-in-Some-clause-rounds g c = let was =
    c.rounds.invariant in ends _ _ _ _ _ _ _ _ was.1.1 was.1.0 was.3 c.in-Some.ensures.made

pub rounds-preserved : goal.rounds-preserved
rounds-preserved g c = let was = c.rounds.invariant in (
  c.round.ensures.own,
  (c.round.ensures.same.0 ∙ was.1.0, c.round.ensures.same.1 ∙ was.1.1),
  c.round.ensures.slot ∙ was.2,
  goes_on _ _ _ _ _ _ _ was.1.1 was.1.0 was.3 c.in_default.ensures.made c.round.ensures.counted,
)
