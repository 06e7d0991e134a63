-- The answer to `take`. The first line that fits holds.
use Rattle.std.specs.Prelude.{ℕ, ◌==◌, ◌||◌, ◌&&◌, not, List, Bool, false, if◌then◌else◌, Option, Some, None}
use Rattle.cell_codec.specs.declared.cell.Cell.{Cell}
use Rattle.circuit_model.specs.Events.{CircuitCell}
use Rattle.circuit_model.specs.declared.event.Event.TheVariants.{Answered}
use Rattle.circuit_model.specs.NextHop.{next_hop}
use Rattle.circuit_model.specs.Rules.{Rules}
use Rattle.circuit_model.specs.Words.{closes}
use Rattle.tor_spec.specs.CellCommands.{asks_for_circuit, padding_command, relay_command, destroy_command, versions_command, netinfo_command, relay_early_command, created2_command, padding_negotiate_command, vpadding_command, certs_command, auth_challenge_command, authenticate_command}
use Rattle.tor_spec.specs.Reasons.{destroy_protocol, destroy_resource_limit, destroy_destroyed}
use Rattle.tr_io.specs.declared.answers.TakeAnswer.{TakeAnswer}
use Rattle.tr_io.specs.declared.answers.TakeAnswer.TheVariants.{PassedOver, Queued}
use Rattle.tr_io.specs.declared.answers.Why.{Why}
use Rattle.tr_io.specs.declared.names.Dir.{Dir}
use Rattle.tr_io.specs.declared.names.Dir.TheVariants.{Forth, Back}
use Rattle.tr_io.specs.declared.step.Step.{Step}
use Rattle.switch_model.specs.Names.{Leg, circ_no, circuit_cell}
use Rattle.switch_model.specs.History.Channels.{is_live_channel}
use Rattle.switch_model.specs.History.Legs.{at}
use Rattle.switch_model.specs.History.Circuit.{is_live_circuit, events, current_leg, is_waiting}
use Rattle.switch_model.specs.Waiting.Queues.{circuit_log, is_full}

-- PADDING, PADDING_NEGOTIATE, VPADDING.
abbrev pub is_padding : ℕ → Bool
is_padding command = (command == padding_command) || ((command == padding_negotiate_command) || (command == vpadding_command))

-- VERSIONS, NETINFO, CERTS, AUTH_CHALLENGE, AUTHENTICATE.
abbrev pub is_link : ℕ → Bool
is_link command =
    (command == versions_command) || ((command == netinfo_command)
    || ((command == certs_command) || ((command == auth_challenge_command) || (command == authenticate_command))))

-- RELAY, DESTROY, RELAY_EARLY, CREATED2.
abbrev pub is_relay : ℕ → Bool
is_relay command = command == relay_command

abbrev pub is_destroy : ℕ → Bool
is_destroy command = command == destroy_command

abbrev pub is_relay_early : ℕ → Bool
is_relay_early command = command == relay_early_command

abbrev pub is_created2 : ℕ → Bool
is_created2 command = command == created2_command

-- The commands that a circuit takes.
abbrev pub is_for_circuit : ℕ → Bool
is_for_circuit command = is_relay command || (is_destroy command || (is_relay_early command || is_created2 command))

-- A cell that waits in a direction, unless the direction is full.
abbrev pub queued : Rules → List Step → ℕ → Dir → TakeAnswer
queued rules h c dir =
    if is_full rules h c dir then TakeAnswer.Down (circ_no c) destroy_resource_limit
    else Queued

-- A cell on leg 0. RELAY_EARLY is counted when it settles, not here.
abbrev pub from_client : Rules → List Step → ℕ → CircuitCell → TakeAnswer
from_client rules h c cell =
    if is_destroy cell.command then TakeAnswer.Down (circ_no c) destroy_destroyed
    else if is_created2 cell.command then TakeAnswer.Down (circ_no c) destroy_protocol
    else queued rules h c Forth

-- CREATED2 is awaited once; its handshake must fit an EXTENDED2, which is packaged.
abbrev pub answered : Rules → List Step → ℕ → Option ℕ → TakeAnswer
answered rules h c (Some reason) = TakeAnswer.Down (circ_no c) reason
answered rules h c None = queued rules h c Back

-- A cell on the current leg, before CREATED2 was taken (`awaiting`) or behind it.
abbrev pub from_hop : Rules → List Step → ℕ → Bool → CircuitCell → TakeAnswer
from_hop rules h c awaiting cell =
    if is_destroy cell.command then TakeAnswer.Down (circ_no c) destroy_destroyed
    else if is_relay_early cell.command then TakeAnswer.Down (circ_no c) destroy_protocol
    else if is_created2 cell.command && awaiting
    then answered rules h c (closes rules (events rules h c) (Answered cell.body))
    else if is_created2 cell.command || awaiting then TakeAnswer.Down (circ_no c) destroy_protocol
    else queued rules h c Back

abbrev pub is_number : ℕ → Option ℕ → Bool
is_number n (Some m) = m == n
is_number n None = false

-- A cell whose CircID is leg 0 or the current leg of a live circuit is the circuit's.
abbrev pub taken_at : Rules → List Step → CircuitCell → Option Leg → TakeAnswer
taken_at rules h cell None = PassedOver Why.NoCircuit
taken_at rules h cell (Some leg) =
    if not (is_live_circuit rules h leg.circ) then PassedOver Why.NoCircuit
    else if leg.number == 0 then from_client rules h leg.circ cell
    else if is_number leg.number (current_leg (circuit_log rules h leg.circ))
    then from_hop rules h leg.circ (is_waiting (next_hop (circuit_log rules h leg.circ))) cell
    else PassedOver Why.NoCircuit

-- A cell that a channel brings, by its command and then by its CircID.
abbrev pub take_answer : Rules → List Step → ℕ → Cell → TakeAnswer
take_answer rules h chan cell =
    if not (is_live_channel h chan) then PassedOver Why.NoChannel
    else if is_padding cell.command then PassedOver Why.Padding
    else if asks_for_circuit cell.command then PassedOver Why.Opening
    else if is_link cell.command then PassedOver Why.Link
    else if not (is_for_circuit cell.command) then PassedOver Why.Unknown
    else taken_at rules h (circuit_cell cell) (at h chan cell.circ)
