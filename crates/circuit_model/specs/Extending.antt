-- The rows of the table of effects that concern the next hop (tor-spec, "EXTEND and EXTENDED cells",
-- "CREATE and CREATED cells", "Tearing down circuits").
use Rattle.std.specs.Prelude.{ℕ, [], ◌∷◌, List, length, not, if◌then◌else◌, Option, Some, None, is_some, nat_le, option_and_then}
use Rattle.tor_spec.specs.CellCommands.{create2_command}
use Rattle.tor_spec.specs.Reasons.{destroy_protocol, destroy_requested}
use Rattle.tor_spec.specs.RelayCell.{truncated_command, extended2_command}
use Rattle.tor_spec.specs.Extend.{Address, Extend, extend_request, handshake_reply, handshake_reply_payload, create2_payload}
use Rattle.circuit_model.specs.Events.{CircuitCell}
use Rattle.circuit_model.specs.Log.{Entry, Log, Message, Effects, no_effects, closing, newest}
use Rattle.circuit_model.specs.NextHop.{next_hop, is_absent}
use Rattle.circuit_model.specs.Packaged.{packaging}

-- EXTEND2 must come in RELAY_EARLY, have no next hop before it, and name an IPv4 address.

abbrev pub dialling : Option Address → Effects
dialling (Some to) = record no_effects { dial = Some to }
dialling None = closing destroy_protocol

abbrev pub address_asked : Message → Option Address
address_asked message = option_and_then (λ request. request.to) (extend_request message.payload)

abbrev pub extend_effects : Log → Message → Effects
extend_effects log message =
    if not message.early then closing destroy_protocol
    else (if not (is_absent (next_hop log)) then closing destroy_protocol
    else dialling (address_asked message))

-- TRUNCATE: the next hop goes, and is answered by TRUNCATED with REQUESTED.
abbrev pub truncate_effects : Log → Effects
truncate_effects log =
    record (packaging log truncated_command 0 (destroy_requested ∷ [])) { cut = not (is_absent (next_hop log)) }

-- What an entry asked of the next hop, if it was an accepted EXTEND2.

abbrev pub request_of : Option Message → Option Extend
request_of (Some message) = extend_request message.payload
request_of None = None

abbrev pub accepted_request : Entry → Option Extend
accepted_request entry = if is_some entry.effects.dial then request_of entry.message else None

-- CREATE2: HTYPE, HLEN and HDATA as the EXTEND2 had them.
unfoldable pub create2 : Extend → CircuitCell
create2 request = record {
  command = create2_command;
  body = create2_payload request.handshake_type request.handshake;
}

abbrev pub creating : Option Extend → Effects
creating (Some request) = record no_effects { forth = Some (create2 request) }
creating None = no_effects

-- A linked next hop is sent what the last accepted EXTEND2 asked.
abbrev pub linked_effects : Log → Effects
linked_effects log = creating (newest accepted_request log)

-- EXTENDED2 has room for an HDATA of 496 bytes behind HLEN.
abbrev pub extending : Log → Option (List ℕ) → Effects
extending log (Some handshake) =
    if nat_le (length handshake) 496
    then packaging log extended2_command 0 (handshake_reply_payload handshake)
    else closing destroy_protocol
extending log None = closing destroy_protocol

-- CREATED2 from the next hop, by its payload.
abbrev pub answered_effects : Log → List ℕ → Effects
answered_effects log payload = extending log (handshake_reply payload)
