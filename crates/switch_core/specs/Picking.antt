-- What leaves on a channel, over plain lists.
use Rattle.std.specs.Prelude.{ℕ, nat_lt, ◌≡◌, ⊤, ◌<◌, ◌∷◌, List, length, Option, Some, None, IfSome, if◌then◌else◌}
use Rattle.cell_codec.specs.declared.cell.Cell.{Cell}
use Rattle.circuit_model.specs.Sent.{destroy}
use Rattle.switch_model.specs.Answers.NextCell.{cell_at}
use Rattle.switch_model.specs.Names.{Leg}
use Rattle.switch_model.specs.Waiting.Lanes.{Destroy}
use Rattle.switch_machine.specs.State.{ChannelState, LegState, CircuitState, State, slot_at, with_slot}
use Rattle.switch_machine.specs.Machine.{leg_at}
use Rattle.switch_machine.specs.Calls.NextCell.{cell_count_in, circuit_sent}
use Rattle.switch_core.specs.declared.pick.WaitingLeg.{WaitingLeg}

-- The one with the lesser count; the earlier where the counts are equal.
abbrev pub better_of : Option WaitingLeg → WaitingLeg → WaitingLeg
better_of None next = next
better_of (Some least) next = if nat_lt next.count least.count then next else least

-- The leg of a circuit by its number.
abbrev pub first_leg_of : ℕ → Leg
first_leg_of n = record { circ = n; number = 0 }

abbrev pub leg_of : Option WaitingLeg → Option Leg
leg_of None = None
leg_of (Some candidate) = Some (first_leg_of candidate.number)

-- One of the first n circuits, and its leg's count where this tick is given.
pub record IsWaiting (s : State) (new_tick n : ℕ) (candidate : WaitingLeg) : Type 0 where
  pub inside : candidate.number < n
  pub count : candidate.count ≡ cell_count_in s new_tick (first_leg_of candidate.number)

-- The leg that was picked among the first n circuits.
pub record Picks (s : State) (new_tick n : ℕ) (least : Option WaitingLeg) (leg : Option Leg) : Type 0 where
  pub same : leg ≡ leg_of least
  pub waits : IfSome least (IsWaiting s new_tick n)

-- The first leg of a circuit sent its first cell.
pub record FirstSent (now : ℕ) (old new : CircuitState) : Type 0 where
  pub found : LegState
  pub first : leg_at (Some old) 0 ≡ Some found
  pub sent : new ≡ circuit_sent now 0 old found found.queue

-- The same of a circuit that may be gone.
abbrev pub SlotSent : ℕ → Option CircuitState → Option CircuitState → Type 0
SlotSent now None new = new ≡ None
SlotSent now (Some old) None = ⊥
SlotSent now (Some old) (Some new) = FirstSent now old new

-- A circuit that isn't gone has one leg.
abbrev pub HasOneLeg : Option CircuitState → Type 0
HasOneLeg None = ⊤
HasOneLeg (Some circuit) = length circuit.legs ≡ 1

-- The oldest DESTROY of a channel left, as this cell.
pub record DestroyLeaves (old new : State) (chan : ℕ) (cell : Cell) : Type 0 where
  pub channel : ChannelState
  pub first : Destroy
  pub rest : List Destroy
  pub live : slot_at old.channels chan ≡ Some channel
  pub lane : channel.lane ≡ first ∷ rest
  pub left : new ≡ record old { channels = with_slot old.channels chan (Some (record channel { lane = rest })) }
  pub is : cell ≡ cell_at first.id (destroy first.reason)
