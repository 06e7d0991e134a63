use Rattle.std.proofs.Common.{◌∷◌, [], arith, length-append}
use Rattle.counter_lock.proofs.Counts.{CountsFrom-snoc}
use Rattle.counter_lock.proofs.steps.CountUpSteppingCounter.apply.Goals as goal

pub returns-clause-step : goal.returns-clause-step
returns-clause-step c =
    λ _ b h s. (
      let n = s.0 in omega (arith, length-append h (record { answer = c.args.state.now.value } ∷ [])),
      CountsFrom-snoc 0 h _ s.1 (let n = s.0 in omega arith),
    )
