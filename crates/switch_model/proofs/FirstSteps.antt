-- The steps that came first.
use Rattle.std.proofs.Common.{List, [], ◌∷◌, ◌++◌}
use Rattle.tr_io.specs.declared.step.Step.{Step}
use Rattle.switch_model.specs.Start.{SwitchStart}
use Rattle.switch_model.specs.Legal.{IsLegal}

-- the steps that came first are a legal history
pub first_steps_legal : (start : SwitchStart) (newer older : List Step) → IsLegal start (newer ++ older) → IsLegal start older
first_steps_legal start [] older legal = legal
first_steps_legal start (s ∷ newer) older legal = first_steps_legal start newer older legal.1
