-- What a path does when it is asked for something (tor-spec, "EXTEND and EXTENDED cells", "Opening streams
-- and transferring data", "Closing streams", "Flow control").
use Rattle.std.specs.Prelude.{ℕ, [], ◌∷◌, ◌++◌, List, length, not, if◌then◌else◌, Option, Some, None}
use Rattle.tor_spec.specs.Begin.{begin_payload}
use Rattle.tor_spec.specs.CellCommands.{relay_early_command}
use Rattle.tor_spec.specs.CircuitWindow.{circuit_start, after_packaging as circuit_after_packaging, may_package as circuit_may_package}
use Rattle.tor_spec.specs.Extend.{Address, extend_payload}
use Rattle.tor_spec.specs.RelayCell.{relay_body, begin_command, data_command, end_command, sendme_command, extend2_command}
use Rattle.tr_io.specs.declared.answers.ShutWhy.TheVariants.{Stream, Circuit}
use Rattle.hop_handshake.specs.Fast.{fast_type}
use Rattle.stream_edge.specs.declared.placed_stream.PlacedStream.{PlacedStream}
use Rattle.stream_edge.specs.Streams.{begun, may_package, after_packaging, after_draining, sendme_due}
use Rattle.onion_client.specs.Calls.{Answer}
use Rattle.onion_client.specs.Calls.Answer.{Gone, Nothing, Shut, Sends}
use Rattle.onion_client.specs.PathState.{PathState, Outcome, stream_of, with_stream, without}
use Rattle.onion_client.specs.Making.{cell_for, after_making, digest_of_next, sending}
use Rattle.std.specs.Prelude.{Bool, true, false}

-- Only the answer.
abbrev pub only : PathState → Answer → Outcome
only p answer = record { answer = answer; state = p }

-- One more hop, by the handshake of CREATE_FAST. EXTEND2 goes in RELAY_EARLY.
abbrev pub extend_body : Address → List ℕ → List ℕ
extend_body to x = relay_body extend2_command 0 (extend_payload to fast_type x)

abbrev pub extending : PathState → Address → List ℕ → Outcome
extending p to x =
    if p.is_closed then only p Gone
    else record {
      answer = Sends (cell_for p relay_early_command (extend_body to x));
      state = record (after_making p (extend_body to x)) { awaited_x = Some x };
    }

-- A stream. A client names it by its StreamID alone, so that its serial is 0.
abbrev pub begin_body : ℕ → List ℕ → ℕ → List ℕ
begin_body stream host port = relay_body begin_command stream (begin_payload host port)

abbrev pub beginning : PathState → ℕ → List ℕ → ℕ → Outcome
beginning p stream host port =
    if p.is_closed then only p Gone
    else sending (record p { streams = p.streams ++ begun stream 0 ∷ [] }) (begin_body stream host port)

-- Bytes of a stream, where its window and the circuit's allow one more DATA.
abbrev pub data_body : ℕ → List ℕ → List ℕ
data_body stream bytes = relay_body data_command stream bytes

abbrev pub after_data : PathState → PlacedStream → List ℕ → PathState
after_data p stream bytes = record p {
  streams = with_stream stream.stream (after_packaging stream) p.streams;
  window = circuit_after_packaging p.window (digest_of_next p (data_body stream.stream bytes));
}

abbrev pub sending_on : PathState → List ℕ → Option PlacedStream → Outcome
sending_on p bytes None = only p Gone
sending_on p bytes (Some stream) =
    if not (may_package stream) then only p (Shut Stream stream.packed)
    else (if not (circuit_may_package circuit_start p.window) then only p (Shut Circuit (length p.window.packaged))
    else sending (after_data p stream bytes) (data_body stream.stream bytes))

abbrev pub sending_bytes : PathState → ℕ → List ℕ → Outcome
sending_bytes p stream bytes = if p.is_closed then only p Gone else sending_on p bytes (stream_of stream p.streams)

-- The client ends a stream.
abbrev pub end_body : ℕ → ℕ → List ℕ
end_body stream reason = relay_body end_command stream (reason ∷ [])

abbrev pub finishing_on : PathState → ℕ → Option PlacedStream → Outcome
finishing_on p reason None = only p Gone
finishing_on p reason (Some stream) =
    sending (record p { streams = without stream.stream p.streams }) (end_body stream.stream reason)

abbrev pub finishing : PathState → ℕ → ℕ → Outcome
finishing p stream reason = if p.is_closed then only p Gone else finishing_on p reason (stream_of stream p.streams)

-- One more DATA of a stream was read by whom it is for: each 50th is acknowledged, by an empty payload.
-- Where none is unread nothing changes.
abbrev pub sendme_body : ℕ → List ℕ
sendme_body stream = relay_body sendme_command stream []

abbrev pub after_drained : PathState → PlacedStream → PathState
after_drained p stream = record p { streams = with_stream stream.stream (after_draining stream) p.streams }

abbrev pub draining_due : PathState → PlacedStream → Option Bool → Outcome
draining_due p stream None = only p Nothing
draining_due p stream (Some false) = only (after_drained p stream) Nothing
draining_due p stream (Some true) = sending (after_drained p stream) (sendme_body stream.stream)

abbrev pub draining_on : PathState → Option PlacedStream → Outcome
draining_on p None = only p Gone
draining_on p (Some stream) = draining_due p stream (sendme_due stream)

abbrev pub draining : PathState → ℕ → Outcome
draining p stream = if p.is_closed then only p Gone else draining_on p (stream_of stream p.streams)
