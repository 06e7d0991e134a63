-- The rows of the table of effects that concern streams (tor-spec, "Opening streams and transferring
-- data", "Closing streams", "Remote hostname lookup", "Flow control"), and what the edge reports.
use Rattle.std.specs.Prelude.{ℕ, ◌+◌, ◌%◌, ◌==◌, ◌||◌, [], ◌∷◌, List, length, if◌then◌else◌, Option, Some, None, is_some, option_and_then, nat_le, nat_lt}
use Rattle.tor_spec.specs.RelayCell.{end_command, connected_command, data_command, sendme_command, resolved_command}
use Rattle.tor_spec.specs.Begin.{Target, begin_target}
use Rattle.tor_spec.specs.CircuitWindow.{is_sendme_due}
use Rattle.tor_spec.specs.Connected.{connected_payload}
use Rattle.tor_spec.specs.Ends.{end_reason}
use Rattle.tor_spec.specs.Extend.{Address}
use Rattle.tor_spec.specs.Reasons.{destroy_protocol, end_tor_protocol, end_resource_limit, end_exit_policy, resolved_ipv4, resolved_lasting_error}
use Rattle.tor_spec.specs.Resolve.{resolve_host, resolved_payload}
use Rattle.tor_spec.specs.Sendme.{sendme_payload}
use Rattle.tor_spec.specs.StreamWindow.{stream_start, stream_step}
use Rattle.circuit_model.specs.Rules.{Rules, allowed_address, resolved_address}
use Rattle.circuit_model.specs.Log.{Log, Message, Effects, no_effects, closing, ordering}
use Rattle.circuit_model.specs.declared.effects.Order.TheVariants.{Reach, Carry, Close}
use Rattle.circuit_model.specs.Places.{Place, places, taken_places}
use Rattle.circuit_model.specs.Packaged.{packaging}
use Rattle.circuit_model.specs.Windows.{stream_packaged, stream_grant, accepted_data, carried_count, accept_grant, drained_count}
use Rattle.circuit_model.specs.SendmeProof.{is_right_sendme}

-- A circuit has room for 32 places (own rule).
abbrev pub place_limit : ℕ
place_limit = 32

-- Answers about names may be kept for 60 seconds (own rule).
abbrev pub time_to_live : ℕ
time_to_live = 60

-- An END with this reason, on this StreamID.
abbrev pub ending : Log → ℕ → ℕ → Effects
ending log stream reason = packaging log end_command stream (reason ∷ [])

-- BEGIN.

abbrev pub reaching : Log → ℕ → Option Address → Effects
reaching log stream None = ending log stream end_exit_policy
reaching log stream (Some to) = ordering (Reach (record { stream = stream; serial = length (places log) }) to)

abbrev pub beginning : Rules → Log → ℕ → Option Target → Effects
beginning rules log stream None = ending log stream end_tor_protocol
beginning rules log stream (Some target) =
    if nat_le place_limit (taken_places log) then ending log stream end_resource_limit
    else reaching log stream (allowed_address rules target)

abbrev pub begin_effects : Rules → Log → Message → Effects
begin_effects rules log message =
    if (message.stream == 0) || is_some message.place then closing destroy_protocol
    else beginning rules log message.stream (begin_target message.payload)

-- DATA. Each 100th that the circuit accepts is acknowledged with the digest of its body.

abbrev pub acknowledging : Log → Message → Effects
acknowledging log message =
    if is_sendme_due (accepted_data log + 1)
    then packaging log sendme_command 0 (sendme_payload message.digest)
    else no_effects

abbrev pub data_at : Log → Message → Option ℕ → Effects
data_at log message None = acknowledging log message
data_at log message (Some serial) =
    if nat_le (accept_grant log serial) (carried_count log serial) then closing destroy_protocol
    else record (acknowledging log message)
    { edge = Some (Carry (record { stream = message.stream; serial = serial }) message.payload) }

abbrev pub data_effects : Log → Message → Effects
data_effects log message = data_at log message message.place

-- END.

abbrev pub end_at : Message → Option ℕ → Effects
end_at message None = no_effects
end_at message (Some serial) = ordering (Close (record { stream = message.stream; serial = serial }) (end_reason message.payload))

abbrev pub end_effects : Message → Effects
end_effects message = end_at message message.place

-- SENDME. A stream's window, which is its grant less what was packaged, stays at or below its start.

abbrev pub stream_sendme_at : Log → Option ℕ → Effects
stream_sendme_at log None = no_effects
stream_sendme_at log (Some serial) =
    if nat_lt (stream_start + stream_packaged log serial) (stream_grant log serial + stream_step) then closing destroy_protocol
    else no_effects

abbrev pub sendme_effects : Rules → Log → Message → Effects
sendme_effects rules log message =
    if message.stream == 0
    then (if is_right_sendme rules log message.payload then no_effects else closing destroy_protocol)
    else stream_sendme_at log message.place

-- RESOLVE.

abbrev pub resolved_value : Option Address → List ℕ
resolved_value (Some address) = resolved_payload resolved_ipv4 address.ip time_to_live
resolved_value None = resolved_payload resolved_lasting_error [] time_to_live

abbrev pub resolve_effects : Rules → Log → Message → Effects
resolve_effects rules log message =
    packaging log resolved_command message.stream
    (resolved_value (option_and_then (resolved_address rules) (resolve_host message.payload)))

-- What the edge reports of a place.

abbrev pub connected_effects : Log → Option Place → Effects
connected_effects log (Some place) = packaging log connected_command place.key.stream (connected_payload place.to.ip time_to_live)
connected_effects log None = no_effects

abbrev pub edge_data_effects : Log → List ℕ → Option Place → Effects
edge_data_effects log bytes (Some place) = packaging log data_command place.key.stream bytes
edge_data_effects log bytes None = no_effects

abbrev pub ended_effects : Log → ℕ → Option Place → Effects
ended_effects log reason (Some place) = record (ending log place.key.stream reason) { edge = Some (Close place.key reason) }
ended_effects log reason None = no_effects

-- Each 50th DATA that is drained is acknowledged, by an empty payload.
abbrev pub drained_effects : Log → Option Place → Effects
drained_effects log (Some place) =
    if ((drained_count log place.key.serial + 1) % stream_step) == 0
    then packaging log sendme_command place.key.stream []
    else no_effects
drained_effects log None = no_effects
