-- The one-thread relay over a whole history of one circuit.
--
-- A history is a list of events, the newest first; `in_order` turns the public form, oldest first,
-- into it. `log rules history` is its log, and every other word is one of the log:
--
--   events             Events     Event, CircuitCell
--   rules              Rules      Rules, Allow, allowed_address, resolved_address
--   log                Log        Log, Entry, Message, Effects, Order, StreamKey, is_closed
--   opened bodies      Opened     born_keys, born_reply, born_pad, forward_count, plain_body, recognised_bodies
--   places             Places     places, place_at, phase, is_live, live_place, taken_places
--   next hop and legs  NextHop    next_hop, leg_count
--   packaged bodies    Packaged   own_bodies, back_bodies
--   windows            Windows    circuit_packaged, circuit_grant, stream_packaged, stream_grant, accepted_data, carried_count, drained_count
--   SENDME proofs      SendmeProof  proof_owed, is_right_sendme
--   received cells     Received   received, message_at, early_count
--   the table          Streams, Extending, Effects   effects_after
--   what is sent       Sent       leg_cells
--   workers' batches   Batches    next_layer, opened_each, forward_of, events_behind
--
-- What an `Event`, a `Message`, an `Order`, `Effects`, a `Received`, a `Place` and their parts are stands in
-- `src/`, as types that code uses too.
--
-- Of a history and an event behind it: `effects`, `closes`, `packages_back`, `edge_order`. Of a place:
-- `orders_of`, all orders that were made for it, oldest first.
use Rattle.std.specs.Prelude.{ℕ, ◌==◌, [], ◌∷◌, ◌++◌, List, Bool, if◌then◌else◌, Option, Some, None, is_some}
use Rattle.circuit_model.specs.Events.{Event}
use Rattle.circuit_model.specs.Rules.{Rules}
use Rattle.circuit_model.specs.Log.{Entry, Log, Order, Effects, collected}
use Rattle.circuit_model.specs.declared.effects.Order.TheVariants.{Reach, Carry, Close}
use Rattle.circuit_model.specs.Packaged.{packaged_by}
use Rattle.circuit_model.specs.Received.{message_at}
use Rattle.circuit_model.specs.Effects.{effects_after}

-- The entry of an event behind a log.
abbrev pub entry_after : Rules → Log → Event → Entry
entry_after rules log event = record {
  event = event;
  message = message_at log event;
  effects = effects_after rules log event;
}

abbrev pub log : Rules → List Event → Log
log rules [] = []
log rules (event ∷ history) = entry_after rules (log rules history) event ∷ log rules history

-- A list that is newest first, oldest first, and the other way round.
abbrev pub in_order : {A : Type 0} → List A → List A
in_order [] = []
in_order (x ∷ xs) = in_order xs ++ x ∷ []

-- What the one-thread relay does with an event after a history.
abbrev pub effects : Rules → List Event → Event → Effects
effects rules history event = effects_after rules (log rules history) event

-- The reason with which an event after a history closes, if it does.
abbrev pub closes : Rules → List Event → Event → Option ℕ
closes rules history event = (effects rules history event).close

-- Whether an event after a history packages a body.
abbrev pub packages_back : Rules → List Event → Event → Bool
packages_back rules history event = is_some (packaged_by event (effects rules history event).back)

-- The order for the edge that an event after a history makes.
abbrev pub edge_order : Rules → List Event → Event → Option Order
edge_order rules history event = (effects rules history event).edge

abbrev pub serial_of : Order → ℕ
serial_of (Reach key to) = key.serial
serial_of (Carry key bytes) = key.serial
serial_of (Close key reason) = key.serial

abbrev pub order_for : ℕ → Option Order → Option Order
order_for serial (Some order) = if serial_of order == serial then Some order else None
order_for serial None = None

-- All orders that were made for a place, oldest first.
abbrev pub orders_of : Log → ℕ → List Order
orders_of log serial = collected (λ entry. order_for serial entry.effects.edge) log
