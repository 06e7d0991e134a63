-- What contracts see of a switch, and when that stands for a history.
use Rattle.std.specs.Prelude.{◌≡◌, ◌+◌, List, ◌∷◌, Option}
use Rattle.tr_io.specs.declared.step.Step.{Step}
use Rattle.switch_model.specs.History.Legs.{circuits}
use Rattle.switch_model.specs.History.Past.{past}
use Rattle.switch_model.specs.Start.{SwitchStart}
use Rattle.switch_machine.specs.Stands.{Stands}
use Rattle.switch_machine.specs.State.{State}
use Rattle.switch_core.specs.Relays.{RelaysStand}
use Rattle.switch_core.specs.declared.relay.Relay.{Relay}

-- What a switch was made with, the state of the machine, and by circuit number what is kept of each live circuit
-- for the one-thread relay.
pub record Started : Type 0 where
  pub start : SwitchStart
  pub state : State
  pub relays : List (Option Relay)

-- The switch, its relays and their ciphers among it, stands for a history.
pub record SwitchStands (s : Started) (h : List Step) : Type 0 where
  pub state : Stands s.start s.state h
  pub relays : RelaysStand s.start.rules s.relays (circuits h) (λ c. past s.start.rules h c)

pub record SwitchStandsForSome (s : Started) : Type 0 where
  pub history : List Step
  pub stands : SwitchStands s history

-- Whatever history the old switch stands for, the new one stands for it with this step.
pub record SwitchStepAdded (old new : Started) (step : Step) : Type 0 where
  pub start : new.start ≡ old.start
  pub steps : new.state.steps ≡ old.state.steps + 1
  pub stands : (h : List Step) → SwitchStands old h → SwitchStands new (step ∷ h)

unfoldable pub SwitchAdds : Started → Started → Step → Type 0
SwitchAdds old new step = SwitchStepAdded old new step
