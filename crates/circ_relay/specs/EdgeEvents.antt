-- What an edge connection reports, and when it may.
use Rattle.std.specs.Prelude.{◌≤◌, length}
use Rattle.tr_io.specs.declared.names.StreamKey.{StreamKey}
use Rattle.tr_io.specs.declared.edges.EdgeEvent.{EdgeEvent}
use Rattle.tr_io.specs.declared.edges.EdgeEvent.TheVariants.{Connected, Data, Ended}
use Rattle.tr_io.specs.declared.edges.EdgeOrder.{EdgeOrder}
use Rattle.tr_io.specs.declared.edges.EdgeOrder.TheVariants.{Reach, Carry, Close}
use Rattle.stream_edge.specs.declared.placed_stream.Phase.TheVariants.{Reaching}
use Rattle.circuit_model.specs.Events.{Event}
use Rattle.circuit_model.specs.declared.event.Event.TheVariants.{Connected as connected, Data as edge_data, Ended as ended}
use Rattle.circ_relay.specs.declared.circuit.Circuit.{Circuit}
use Rattle.circ_relay.specs.CircuitOfLog.{HasStream, MaySend, IsLiveStream}

abbrev pub event_of : StreamKey → EdgeEvent → Event
event_of key Connected = connected key.serial
event_of key (Data bytes) = edge_data key.serial bytes.items
event_of key (Ended reason) = ended key.serial reason

-- A stream is connected once, while it is reached for; its bytes, 1 to 498 of them, come while it is
-- connected and as the windows allow; it ends while it is live.
abbrev pub MayReport : Circuit → StreamKey → EdgeEvent → Type 0
MayReport c key Connected = HasStream c key Reaching
MayReport c key (Data bytes) = MaySend c key × (1 ≤ length bytes.items) × (length bytes.items ≤ 498)
MayReport c key (Ended reason) = IsLiveStream c key

-- The stream that an order is for.
abbrev pub stream_of_order : EdgeOrder → StreamKey
stream_of_order (Reach key to) = key
stream_of_order (Carry key bytes) = key
stream_of_order (Close key reason) = key
