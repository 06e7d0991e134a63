use Rattle.lock_bench.proofs.round.CountInTurnSteppingCounter.apply.Goals as goal

pub returns-clause-step : goal.returns-clause-step
returns-clause-step c = λ _ b h s. c.apply-answer.ensures.step c.apply-answer.ensures.counted b h s
