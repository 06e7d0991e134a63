-- A history with one more step, and parts of which one clause changes.
use Rattle.std.proofs.Common.{◌≡◌, ℕ, ◌+◌, List, ◌∷◌, arith}
use Rattle.tr_io.specs.declared.step.Step.{Step}
use Rattle.switch_model.specs.Start.{SwitchStart}
use Rattle.switch_model.specs.Legal.{IsRightStep}
use Rattle.switch_machine.specs.Stands.Steps.{StepsStand}
use Rattle.switch_machine.specs.Stands.Numbers.{Numbers, NumbersStand}

pub step-added : (start : SwitchStart) (n : ℕ) (h : List Step) (step : Step) → StepsStand start n h → IsRightStep start h step
    → StepsStand start (n + 1) (step ∷ h)
step-added start n h step own right = record { legal = (right, own.legal); count_is = omega (arith, own.count_is) }

pub channel-count : (n p : Numbers) (a b : ℕ) → a ≡ b → NumbersStand n p
    → NumbersStand (record n { channels = a }) (record p { channels = b })
channel-count n p a b same own =
    record {
      channels = same;
      circuits = own.circuits;
      claims = own.claims;
      bodies = own.bodies;
      dial_orders =
          own.dial_orders;
      tick = own.tick;
    }

pub circuit-count : (n p : Numbers) (a b : ℕ) → a ≡ b → NumbersStand n p
    → NumbersStand (record n { circuits = a }) (record p { circuits = b })
circuit-count n p a b same own =
    record {
      channels = own.channels;
      circuits = same;
      claims = own.claims;
      bodies = own.bodies;
      dial_orders =
          own.dial_orders;
      tick = own.tick;
    }

pub tick-given : (n p : Numbers) (a b : ℕ) → a ≡ b → NumbersStand n p
    → NumbersStand (record n { tick = a }) (record p { tick = b })
tick-given n p a b same own =
    record {
      channels = own.channels;
      circuits = own.circuits;
      claims = own.claims;
      bodies = own.bodies;
      dial_orders =
          own.dial_orders;
      tick = same;
    }
