-- What a call adds to the history.
use Rattle.std.specs.Prelude.{◌≡◌, ⊤, ◌+◌, List, [], ◌∷◌}
use Rattle.circuit_model.specs.Words.{in_order}
use Rattle.tr_io.specs.declared.answers.OpenAnswer.{OpenAnswer}
use Rattle.tr_io.specs.declared.answers.UpAnswer.{UpAnswer}
use Rattle.tr_io.specs.declared.step.Step.{Step}
use Rattle.tr_io.specs.declared.step.Step.TheVariants.{ChannelUp, OpenCircuit, NextCell, TearDown, GiveBack, Abandon, Claim, Take, DialOrder, DialDone}
use Rattle.switch_model.specs.Start.{SwitchStart}
use Rattle.switch_machine.specs.State.{State}
use Rattle.switch_machine.specs.Stands.{Stands}

-- Whatever history the old state stands for, the new one stands for it with this step.
pub record StepAdded (start : SwitchStart) (old new : State) (step : Step) : Type 0 where
  pub steps : new.steps ≡ old.steps + 1
  pub stands : (h : List Step) → Stands start old h → Stands start new (step ∷ h)

unfoldable pub Adds : SwitchStart → State → State → Step → Type 0
Adds start old new step = StepAdded start old new step

-- The same of one history alone: the state behind a call that asks the one-thread relay follows from the
-- circuits' events in it.
pub record StepAddedTo (start : SwitchStart) (h : List Step) (old new : State) (step : Step) : Type 0 where
  pub steps : new.steps ≡ old.steps + 1
  pub stands : Stands start old h → Stands start new (step ∷ h)

unfoldable pub AddsTo : SwitchStart → List Step → State → State → Step → Type 0
AddsTo start h old new step = StepAddedTo start h old new step

-- Some history that a state stands for.
pub record StandsForSome (start : SwitchStart) (s : State) : Type 0 where
  pub history : List Step
  pub stands : Stands start s history

-- Some state that stands for a history.
pub record StandsForSomeState (start : SwitchStart) (h : List Step) : Type 0 where
  pub state : State
  pub stands : Stands start state h

-- A history of the calls that have a machine here.
abbrev pub HasMachine : List Step → Type 0
HasMachine [] = ⊤
HasMachine (ChannelUp slot side a ∷ h) = HasMachine h
HasMachine (OpenCircuit chan id reply keys pad a ∷ h) = HasMachine h
HasMachine (NextCell chan given a ∷ h) = HasMachine h
HasMachine (TearDown circ reason a ∷ h) = HasMachine h
HasMachine (GiveBack note place a ∷ h) = HasMachine h
HasMachine (Abandon note place a ∷ h) = HasMachine h
HasMachine (Claim worker a ∷ h) = HasMachine h
HasMachine (Take chan cell a ∷ h) = HasMachine h
HasMachine (DialOrder a ∷ h) = HasMachine h
HasMachine (DialDone order outcome a ∷ h) = HasMachine h
HasMachine (s ∷ h) = ⊥

-- That the state stands for a history which is listed oldest first.
unfoldable pub StandsInOrder : SwitchStart → State → List Step → Type 0
StandsInOrder start s h = Stands start s (in_order h)

-- The first fact where memory was wanting, else the second.
abbrev pub UpCase : UpAnswer → Type 0 → Type 0 → Type 0
UpCase UpAnswer.Memory P Q = P
UpCase (UpAnswer.Up n) P Q = Q
UpCase (UpAnswer.Full n) P Q = Q

abbrev pub OpenCase : OpenAnswer → Type 0 → Type 0 → Type 0
OpenCase OpenAnswer.Memory P Q = P
OpenCase (OpenAnswer.Opened n) P Q = Q
OpenCase (OpenAnswer.Refused why) P Q = Q
