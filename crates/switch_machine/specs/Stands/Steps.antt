-- The steps themselves: they are legal, and the state has their number.
use Rattle.std.specs.Prelude.{ℕ, ◌≡◌, List, length}
use Rattle.tr_io.specs.declared.step.Step.{Step}
use Rattle.switch_model.specs.Start.{SwitchStart}
use Rattle.switch_model.specs.Legal.{IsLegal}

pub record StepsStand (start : SwitchStart) (count : ℕ) (h : List Step) : Type 0 where
  pub legal : IsLegal start h
  pub count_is : count ≡ length h
