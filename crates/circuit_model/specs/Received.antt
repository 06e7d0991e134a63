-- What a relay cell from the client's side is to this relay.
use Rattle.std.specs.Prelude.{ℕ, ◌==◌, ◌&&◌, List, Bool, false, if◌then◌else◌, Option, Some, None, nat_le}
use Rattle.tor_spec.specs.CellCommands.{relay_early_command}
use Rattle.tor_spec.specs.RelayCell.{relay_head, fits_length, payload_of}
use Rattle.circuit_model.specs.declared.message.Received.{Received as Declared}
use Rattle.circuit_model.specs.declared.message.Received.TheVariants.{TooManyEarly, Unrecognised, TooLong, ForUs}
use Rattle.circuit_model.specs.Events.{Event}
use Rattle.circuit_model.specs.declared.event.Event.TheVariants.{Forward}
use Rattle.circuit_model.specs.Log.{Log, Message, count_of, is_closed}
use Rattle.circuit_model.specs.Opened.{plain_body, recognises, digest_with}
use Rattle.circuit_model.specs.Places.{live_place}

-- A circuit takes eight RELAY_EARLY cells (tor-spec, "Handling RELAY_EARLY cells").
abbrev pub relay_early_limit : ℕ
relay_early_limit = 8

abbrev pub is_early : Event → Bool
is_early (Forward command body) = command == relay_early_command
is_early event = false

-- How many RELAY_EARLY cells came, whatever was in them.
abbrev pub early_count : Log → ℕ
early_count log = count_of (λ entry. is_early entry.event) log

-- One more RELAY_EARLY than a circuit takes, a cell that isn't for this relay, one with a Length that no relay
-- cell has, or a message.
abbrev pub Received : Type 0
Received = Declared

-- The message in a recognised body.
abbrev pub message_in_body : Log → ℕ → List ℕ → Message
message_in_body log command plain = record {
  command = (relay_head plain).command;
  stream = (relay_head plain).stream;
  payload = payload_of plain;
  digest = digest_with log plain;
  early = command == relay_early_command;
  place = live_place log (relay_head plain).stream;
}

abbrev pub received_plain : Log → ℕ → List ℕ → Received
received_plain log command plain =
    if (command == relay_early_command) && nat_le relay_early_limit (early_count log) then TooManyEarly
    else (if recognises log plain
    then (if fits_length plain then ForUs (message_in_body log command plain) else TooLong)
    else Unrecognised plain)

-- A cell with this command and this body, as it came. The first that fits holds.
unfoldable pub received : Log → ℕ → List ℕ → Received
received log command body = received_plain log command (plain_body log body)

abbrev pub message_of : Received → Option Message
message_of (ForUs message) = Some message
message_of _ = None

abbrev pub message_in : Log → Event → Option Message
message_in log (Forward command body) = message_of (received log command body)
message_in log event = None

-- The message that an event brings to this relay, if it does. A closed circuit reads nothing.
abbrev pub message_at : Log → Event → Option Message
message_at log event = if is_closed log then None else message_in log event
