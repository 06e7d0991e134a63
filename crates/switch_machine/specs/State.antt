-- The switch as a machine with a small state: what the code keeps, as plain data.
use Rattle.std.specs.Prelude.{ℕ, List, [], ◌∷◌, Bool, Option, Some, slice_get, slice_set}
use Rattle.circuit_model.specs.Events.{CircuitCell}
use Rattle.circuit_model.specs.Log.{Order}
use Rattle.tr_io.specs.declared.names.ClaimNote.{ClaimNote}
use Rattle.tr_io.specs.declared.names.Dest.{Dest}
use Rattle.tr_io.specs.declared.names.Side.{Side}
use Rattle.switch_model.specs.Answers.EdgeOut.{Ordered}
use Rattle.switch_model.specs.Waiting.Lanes.{Destroy}
use Rattle.switch_model.specs.Waiting.Orders.{joined}

-- A live channel: how many CircIDs this side gave out, and the DESTROYs that wait.
pub record ChannelState : Type 0 where
  pub side : Side
  pub to : Option Dest
  pub given_count : ℕ
  pub lane : List Destroy

-- A leg that has its CircID: the cells that wait, and its count as it was right behind its last cell,
-- with the tick of that cell. So a tick changes no count.
pub record LegState : Type 0 where
  pub chan : ℕ
  pub id : ℕ
  pub queue : List CircuitCell
  pub count : ℕ
  pub counted_at : ℕ

-- A claim that is out, with its bodies.
pub record KeptClaim : Type 0 where
  pub note : ClaimNote
  pub cells : List CircuitCell

-- A body that waits, with its body number.
pub record WaitingCell : Type 0 where
  pub number : ℕ
  pub cell : CircuitCell

-- A direction of a circuit.
pub record WayState : Type 0 where
  pub claimed_count : ℕ
  pub claim_out : Option KeptClaim
  pub waiting_bodies : List WaitingCell

-- A dial order that is neither done nor given up.
pub record DialState : Type 0 where
  pub order : ℕ
  pub to : Dest
  pub handed_out : Bool

-- A live circuit: how many cells were sent on leg 0, its legs by number, its two directions, its orders of
-- each kind that were not handed out, oldest first, and its open dial order. What the one-thread relay
-- needs is no part of it: a call that asks the relay is given the circuit's events.
pub record CircuitState : Type 0 where
  pub sent_count : ℕ
  pub legs : List (Option LegState)
  pub forth : WayState
  pub back : WayState
  pub reach_orders : List Order
  pub carry_orders : List Order
  pub close_orders : List Order
  pub dial : Option DialState

-- A slot that is bound to a place.
pub record SlotState : Type 0 where
  pub slot : ℕ
  pub circ : ℕ
  pub serial : ℕ

-- The switch: its channels and circuits by number, the next numbers of claims, bodies and dial
-- orders, the circuits whose dial order want of memory hands out again, oldest first, the tick in force,
-- the bound slots, the last Close of each bound place whose circuit was torn down, and the `halt` steps
-- with the least number among them.
pub record State : Type 0 where
  pub steps : ℕ
  pub channels : List (Option ChannelState)
  pub circuits : List (Option CircuitState)
  pub claims : ℕ
  pub bodies : ℕ
  pub dial_orders : ℕ
  pub again : List ℕ
  pub tick : ℕ
  pub slots : List SlotState
  pub last_closes : List Ordered
  pub halts : ℕ
  pub least_halt : Option ℕ

-- Lists by number have an empty place where a channel, a circuit or a leg is gone.

-- What has this number, if it is not gone.
unfoldable pub slot_at : {A : Type 0} → List (Option A) → ℕ → Option A
slot_at slots n = joined (slice_get slots n)

-- The list with this at a number.
unfoldable pub with_slot : {A : Type 0} → List (Option A) → ℕ → Option A → List (Option A)
with_slot slots n x = slice_set slots n x

-- A list by number in which nothing is gone.
abbrev pub all_there : {A : Type 0} → List A → List (Option A)
all_there [] = []
all_there (x ∷ xs) = Some x ∷ all_there xs
