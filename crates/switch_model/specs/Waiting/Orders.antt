-- Orders to the edge: which wait at a place, and which slot serves which place.
use Rattle.std.specs.Prelude.{ℕ, ◌+◌, ◌==◌, ◌&&◌, not, List, [], ◌∷◌, ◌++◌, Bool, true, false, if◌then◌else◌, Option, Some, None, drop, slice_get}
use Rattle.std.specs.List.{list_any}
use Rattle.std.specs.Option.{option_or}
use Rattle.circuit_model.specs.Events.{Event}
use Rattle.circuit_model.specs.declared.event.Event.TheVariants.{Ended}
use Rattle.circuit_model.specs.Log.{Log, Order, collected, StreamKey as PlaceKey}
use Rattle.circuit_model.specs.declared.effects.Order.TheVariants.{Reach, Carry, Close}
use Rattle.circuit_model.specs.Opened.{is_forward}
use Rattle.circuit_model.specs.Places.{Place, place_at}
use Rattle.circuit_model.specs.Rules.{Rules}
use Rattle.circuit_model.specs.Words.{orders_of}
use Rattle.tor_spec.specs.Reasons.{end_destroy}
use Rattle.tr_io.specs.declared.names.StreamKey.{StreamKey}
use Rattle.tr_io.specs.declared.names.Dir.TheVariants.{Forth}
use Rattle.tr_io.specs.declared.step.OrderStep.{OrderStep}
use Rattle.tr_io.specs.declared.step.Step.{Step}
use Rattle.tr_io.specs.declared.step.Step.TheVariants.{EdgeOut}
use Rattle.switch_model.specs.Names.{Way, same_dir}
use Rattle.switch_model.specs.Waiting.Claims.{count_way, born_bodies}
use Rattle.switch_model.specs.History.Circuit.{is_live_circuit}
use Rattle.switch_model.specs.Waiting.Queues.{circuit_log}

-- A place of the switch: a circuit and the serial of a place on it.
abbrev pub is_of : ℕ → ℕ → StreamKey → Bool
is_of c serial key = (key.circ.0 == c) && (key.serial == serial)

-- What was handed out of a place's orders.

-- Whether its Reach was: a slot was bound to the place.
abbrev pub is_reached : List Step → ℕ → ℕ → Bool
is_reached [] c serial = false
is_reached (EdgeOut slot (Some (OrderStep.Reach key to)) ∷ h) c serial =
    if is_of c serial key then true else is_reached h c serial
is_reached (s ∷ h) c serial = is_reached h c serial

-- How many of its Carry orders were.
abbrev pub carried_out : List Step → ℕ → ℕ → ℕ
carried_out [] c serial = 0
carried_out (EdgeOut slot (Some (OrderStep.Carry key bytes)) ∷ h) c serial =
    if is_of c serial key then carried_out h c serial + 1 else carried_out h c serial
carried_out (s ∷ h) c serial = carried_out h c serial

-- Whether its Close was.
abbrev pub is_closed_out : List Step → ℕ → ℕ → Bool
is_closed_out [] c serial = false
is_closed_out (EdgeOut slot (Some (OrderStep.Close key reason)) ∷ h) c serial =
    if is_of c serial key then true else is_closed_out h c serial
is_closed_out (s ∷ h) c serial = is_closed_out h c serial

-- The place that a slot is bound to: from the place's Reach to its Close.
abbrev pub bound : List Step → ℕ → Option StreamKey
bound [] slot = None
bound (EdgeOut n (Some (OrderStep.Reach key to)) ∷ h) slot = if n == slot then Some key else bound h slot
bound (EdgeOut n (Some (OrderStep.Close key reason)) ∷ h) slot = if n == slot then None else bound h slot
bound (s ∷ h) slot = bound h slot

-- What the one-thread relay orders for a place, oldest first.

abbrev pub reach_of : Order → List Order
reach_of (Reach key to) = Reach key to ∷ []
reach_of order = []

abbrev pub carry_of : Order → List Order
carry_of (Carry key bytes) = Carry key bytes ∷ []
carry_of order = []

abbrev pub close_of : Order → List Order
close_of (Close key reason) = Close key reason ∷ []
close_of order = []

-- The orders of one kind.
abbrev pub picked : (Order → List Order) → List Order → List Order
picked of_order [] = []
picked of_order (order ∷ orders) = of_order order ++ picked of_order orders

abbrev pub ends_place : ℕ → Event → Bool
ends_place serial (Ended n reason) = n == serial
ends_place serial event = false

-- Whether the edge itself reported the place's end, which makes its waiting Carry orders idle.
abbrev pub is_ended_by_edge : Log → ℕ → Bool
is_ended_by_edge log serial = list_any (λ entry. ends_place serial entry.event) log

-- The orders of a place of a live circuit that were not handed out: its Reach, its Carry orders,
-- its Close.
abbrev pub waiting_orders : List Step → ℕ → ℕ → Log → List Order
waiting_orders h c serial log =
    (if is_reached h c serial then [] else picked reach_of (orders_of log serial))
    ++ (if is_ended_by_edge log serial then [] else drop (carried_out h c serial) (picked carry_of (orders_of log serial)))
    ++ (if is_closed_out h c serial then [] else picked close_of (orders_of log serial))

-- Teardown leaves a place that is bound to a slot one Close, and every other place nothing.
abbrev pub last_close : Option Place → List Order
last_close (Some place) = Close place.key end_destroy ∷ []
last_close None = []

-- The orders that a torn circuit leaves at a place.
abbrev pub left_orders : List Step → ℕ → ℕ → Log → List Order
left_orders h c serial log =
    if is_reached h c serial && not (is_closed_out h c serial) then last_close (place_at log serial) else []

-- The orders of a place that were not handed out.
abbrev pub orders : Rules → List Step → ℕ → ℕ → List Order
orders rules h c serial =
    if is_live_circuit rules h c then waiting_orders h c serial (circuit_log rules h c)
    else left_orders h c serial (circuit_log rules h c)

-- The place of a circuit that its forward cell with number n made, if that was an accepted BEGIN.

abbrev pub reach_key : Option Order → Option PlaceKey
reach_key (Some (Reach key to)) = Some key
reach_key order = None

-- What each forward cell ordered, oldest first.
abbrev pub forward_orders : Log → List (Option Order)
forward_orders log = collected (λ entry. if is_forward entry.event then Some entry.effects.edge else None) log

abbrev pub joined : {A : Type 0} → Option (Option A) → Option A
joined None = None
joined (Some x) = x

-- The key of that place.
abbrev pub begun_by : Log → ℕ → Option PlaceKey
begun_by log n = reach_key (joined (slice_get (forward_orders log) n))

-- A place of a live circuit, where no slot was ever bound to it.
pub record Unbound : Type 0 where
  pub circ : ℕ
  pub serial : ℕ

-- The place, if no slot was ever bound to it.
abbrev pub never_bound : List Step → ℕ → Option PlaceKey → Option Unbound
never_bound h c (Some key) =
    if is_reached h c key.serial then None else Some (record { circ = c; serial = key.serial })
never_bound h c None = None

abbrev pub unbound_at : Rules → List Step → Way → ℕ → Option Unbound
unbound_at rules h way n =
    if same_dir way.dir Forth && is_live_circuit rules h way.circ
    then never_bound h way.circ (begun_by (circuit_log rules h way.circ) n) else None

-- The oldest place never bound, in order of the body numbers of the BEGINs.
abbrev pub first_unbound : Rules → List Step → List Way → Option Unbound
first_unbound rules h [] = None
first_unbound rules h (way ∷ older) =
    option_or (first_unbound rules h older) (unbound_at rules h way (count_way way older))

-- The same over all bodies of the switch.
abbrev pub next_unbound : Rules → List Step → Option Unbound
next_unbound rules h = first_unbound rules h (born_bodies rules h)
