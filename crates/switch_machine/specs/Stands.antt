-- When a state stands for a history: a group of clauses for each part, in a file of its own. A group
-- speaks of what it names and of nothing else, so that a step which leaves that leaves the group as it
-- is. What concerns one circuit, one channel or one leg is seen through all that the history says of it.
use Rattle.std.specs.Prelude.{List, length}
use Rattle.tr_io.specs.declared.step.Step.{Step}
use Rattle.switch_model.specs.Start.{SwitchStart}
use Rattle.switch_model.specs.History.Legs.{at, holds_id}
use Rattle.switch_model.specs.History.Past.{past}
use Rattle.switch_model.specs.History.EdgePast.{edge_past}
use Rattle.switch_model.specs.Waiting.Lanes.{lane}
use Rattle.switch_model.specs.Waiting.Orders.{bound, is_reached}
use Rattle.switch_model.specs.Waiting.Dials.{dials_made, was_handed_out}
use Rattle.switch_model.specs.Waiting.Counts.{tick, cell_count}
use Rattle.switch_model.specs.Answers.Halted.{halts, some_halt}
use Rattle.switch_machine.specs.State.{State}
use Rattle.switch_machine.specs.Machine.{leg_in, dial_in}
use Rattle.switch_machine.specs.Stands.Steps.{StepsStand}
use Rattle.switch_machine.specs.Stands.Numbers.{numbers_in, numbers_past, NumbersStand}
use Rattle.switch_machine.specs.Stands.Channels.{channel_past, ChannelsStand}
use Rattle.switch_machine.specs.Stands.Circuits.{CircuitsStand}
use Rattle.switch_machine.specs.Stands.CircIds.{CircIdsStand}
use Rattle.switch_machine.specs.Stands.Legs.{LegsStand}
use Rattle.switch_machine.specs.Stands.Dials.{DialsStand}
use Rattle.switch_machine.specs.Stands.Counts.{CountsStand}
use Rattle.switch_machine.specs.Stands.Slots.{SlotsStand}
use Rattle.switch_machine.specs.Stands.NotYet.{NotYetStand}
pub mod Steps
pub mod Numbers
pub mod Channels
pub mod OneLeg
pub mod OneWay
pub mod OneCircuit
pub mod Circuits
pub mod CircIds
pub mod Legs
pub mod Dials
pub mod Counts
pub mod Slots
pub mod NotYet

-- The whole switch.
pub record Stands (start : SwitchStart) (s : State) (h : List Step) : Type 0 where
  pub steps : StepsStand start s.steps h
  pub numbers : NumbersStand (numbers_in s) (numbers_past start.rules h)
  pub channels : ChannelsStand s.channels (λ chan. channel_past start.rules h chan)
  pub circuits : CircuitsStand start.rules s.last_closes s.circuits (λ c. past start.rules h c) (λ c k. holds_id h c k)
      (λ c. edge_past start.rules h c)
  pub ids : CircIdsStand (leg_in s) (λ chan. lane start.rules h chan) (at h)
  pub legs : LegsStand s.channels (leg_in s)
  pub dials : DialsStand s.again (dial_in s) (length (dials_made start.rules h)) (was_handed_out h)
  pub counts : CountsStand (leg_in s) (cell_count start.rules h) (tick h) (length s.circuits)
  pub slots : SlotsStand s.slots s.halts s.least_halt (bound h) (halts h) (λ n. some_halt n h)
  pub not_yet : NotYetStand (is_reached h)
