-- What the one-thread relay does with an event: the table of effects, the first row that fits.
use Rattle.std.specs.Prelude.{ℕ, ◌==◌, if◌then◌else◌, Some}
use Rattle.tor_spec.specs.Reasons.{destroy_protocol, destroy_connect_failed, end_not_directory}
use Rattle.tor_spec.specs.RelayCell.{begin_command, data_command, end_command, sendme_command, truncate_command, drop_command, resolve_command, begin_dir_command, extend2_command}
use Rattle.circuit_model.specs.Events.{Event, CircuitCell}
use Rattle.circuit_model.specs.declared.event.Event.TheVariants.{Born, Forward, Backward, Connected, Data, Ended, Drained, Freed, Linked, Answered, Failed}
use Rattle.circuit_model.specs.Rules.{Rules}
use Rattle.circuit_model.specs.Log.{Log, Message, Effects, no_effects, closing, is_closed}
use Rattle.circuit_model.specs.declared.next_hop.NextHop.{NextHop}
use Rattle.circuit_model.specs.declared.next_hop.NextHop.TheVariants.{There}
use Rattle.circuit_model.specs.NextHop.{next_hop}
use Rattle.circuit_model.specs.Places.{place_at}
use Rattle.circuit_model.specs.Received.{Received, received}
use Rattle.circuit_model.specs.declared.message.Received.TheVariants.{TooManyEarly, Unrecognised, TooLong, ForUs}
use Rattle.circuit_model.specs.Streams.{begin_effects, data_effects, end_effects, sendme_effects, resolve_effects, ending, connected_effects, edge_data_effects, ended_effects, drained_effects}
use Rattle.circuit_model.specs.Extending.{extend_effects, truncate_effects, linked_effects, answered_effects}

-- A relay message for this relay, by its relay command.
unfoldable pub message_effects : Rules → Log → Message → Effects
message_effects rules log message =
    if message.command == begin_command then begin_effects rules log message
    else (if message.command == data_command then data_effects log message
    else (if message.command == end_command then end_effects message
    else (if message.command == sendme_command then sendme_effects rules log message
    else (if message.command == truncate_command then truncate_effects log
    else (if message.command == drop_command then no_effects
    else (if message.command == resolve_command then resolve_effects rules log message
    else (if message.command == begin_dir_command then ending log message.stream end_not_directory
    else (if message.command == extend2_command then extend_effects log message
    else no_effects))))))))

-- A body for another hop goes on with the command of its cell, if there is a next hop.
abbrev pub passed_on : NextHop → CircuitCell → Effects
passed_on There cell = record no_effects { forth = Some cell }
passed_on hop cell = closing destroy_protocol

-- A relay cell from the client's side.
abbrev pub forward_effects : Rules → Log → ℕ → Received → Effects
forward_effects rules log command TooManyEarly = closing destroy_protocol
forward_effects rules log command (Unrecognised plain) = passed_on (next_hop log) (record { command = command; body = plain })
forward_effects rules log command TooLong = closing destroy_protocol
forward_effects rules log command (ForUs message) = message_effects rules log message

-- An event in a circuit that has not closed.
unfoldable pub open_effects : Rules → Log → Event → Effects
open_effects rules log (Born reply keys pad) = no_effects
open_effects rules log (Forward command body) = forward_effects rules log command (received log command body)
open_effects rules log (Backward body) = record no_effects { back = Some body }
open_effects rules log (Connected serial) = connected_effects log (place_at log serial)
open_effects rules log (Data serial bytes) = edge_data_effects log bytes (place_at log serial)
open_effects rules log (Ended serial reason) = ended_effects log reason (place_at log serial)
open_effects rules log (Drained serial) = drained_effects log (place_at log serial)
open_effects rules log (Freed serial) = no_effects
open_effects rules log Linked = linked_effects log
open_effects rules log (Answered payload) = answered_effects log payload
open_effects rules log Failed = closing destroy_connect_failed

-- After it closed, a circuit gives nothing.
abbrev pub effects_after : Rules → Log → Event → Effects
effects_after rules log event = if is_closed log then no_effects else open_effects rules log event
