-- The answer to `edge_out`.
use Rattle.std.specs.Prelude.{ℕ, List, [], ◌∷◌, Option, Some, None}
use Rattle.circuit_model.specs.Log.{Order}
use Rattle.circuit_model.specs.declared.effects.Order.TheVariants.{Reach, Carry, Close}
use Rattle.circuit_model.specs.Rules.{Rules}
use Rattle.tr_io.specs.declared.names.StreamKey.{StreamKey}
use Rattle.tr_io.specs.declared.step.OrderStep.{OrderStep}
use Rattle.tr_io.specs.declared.step.Step.{Step}
use Rattle.switch_model.specs.Names.{place_key, address_of}
use Rattle.switch_model.specs.Waiting.Orders.{Unbound, bound, next_unbound, orders}

-- An order of a circuit's place.
pub record Ordered : Type 0 where
  pub circ : ℕ
  pub order : Order

-- The first of some orders of circuit c.
abbrev pub first_order : ℕ → List Order → Option Ordered
first_order c (order ∷ orders) = Some (record { circ = c; order = order })
first_order c [] = None

-- The first order of a place that no slot was bound to, which is its Reach.
abbrev pub unbound_order : Rules → List Step → Option Unbound → Option Ordered
unbound_order rules h (Some place) = first_order place.circ (orders rules h place.circ place.serial)
unbound_order rules h None = None

-- A slot that is bound to a place gets its next order. Another gets the Reach of the oldest place
-- that no slot was bound to.
abbrev pub slot_order : Rules → List Step → Option StreamKey → Option Ordered
slot_order rules h (Some key) = first_order key.circ.0 (orders rules h key.circ.0 key.serial)
slot_order rules h None = unbound_order rules h (next_unbound rules h)

-- A slot that asks for an order.
abbrev pub edge_out_answer : Rules → List Step → ℕ → Option Ordered
edge_out_answer rules h slot = slot_order rules h (bound h slot)

-- An order that a step gave.
abbrev pub order_given : OrderStep → Ordered
order_given (OrderStep.Reach key to) = record { circ = key.circ.0; order = Reach (place_key key) (address_of to) }
order_given (OrderStep.Carry key octets) = record { circ = key.circ.0; order = Carry (place_key key) octets.bytes.items }
order_given (OrderStep.Close key reason) = record { circ = key.circ.0; order = Close (place_key key) reason }
