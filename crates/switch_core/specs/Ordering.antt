-- The orders of a circuit that were not handed out, and the room for more.
use Rattle.std.specs.Prelude.{ℕ, ◌≡◌, ◌≤◌, Bool, List, [], Option, None}
use Rattle.cell_codec.specs.Roomy.{Roomy}
use Rattle.tor_spec.specs.Extend.{Address}
use Rattle.circuit_model.specs.Log.{Order}
use Rattle.switch_model.specs.Waiting.Orders.{reach_of, carry_of, close_of}
use Rattle.switch_machine.specs.State.{DialState}
use Rattle.switch_machine.specs.Calls.Settling.{pushed_of, dial_with}

-- Those to the edge of each kind, oldest first, and the open dial order.
pub record OrdersState : Type 0 where
  pub reach : List Order
  pub carry : List Order
  pub close : List Order
  pub dial : Option DialState

-- With room for so many more of each kind, and so many rooms for the bytes of one.
pub record RoomyOrders : Type 0 where
  pub state : OrdersState
  pub spare : ℕ
  pub rooms : ℕ

-- Room for the bytes of an order: the data of one relay cell.
pub record IsRoom (bytes : Roomy ℕ) : Type 0 where
  pub empty : bytes.items ≡ []
  pub ample : 498 ≤ bytes.spare

abbrev pub no_orders : OrdersState
no_orders = record { reach = []; carry = []; close = []; dial = None }

abbrev pub with_edge : Option Order → OrdersState → OrdersState
with_edge edge o = record o {
  reach = pushed_of reach_of o.reach edge;
  carry = pushed_of carry_of o.carry edge;
  close = pushed_of close_of o.close edge;
}

-- With those that an event makes: to the edge, and to dial with this number, or to give the dialling up.
abbrev pub ordered : ℕ → Option Order → Option Address → Bool → OrdersState → OrdersState
ordered number edge to cut o = record (with_edge edge o) { dial = dial_with number to cut o.dial }
