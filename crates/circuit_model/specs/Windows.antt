-- Flow control (tor-spec, "Flow control"; proposal 289). A count is what was packaged or accepted
-- over the whole log; a grant is how far that count may go. Only DATA counts, one without bytes too.
use Rattle.std.specs.Prelude.{ℕ, ◌+◌, ◌*◌, ◌/◌, ◌==◌, ◌&&◌, Bool, false, List, Option, Some, None, is_none}
use Rattle.tor_spec.specs.CircuitWindow.{granted_after}
use Rattle.tor_spec.specs.RelayCell.{data_command, sendme_command, relay_head}
use Rattle.tor_spec.specs.StreamWindow.{stream_start, stream_step}
use Rattle.circuit_model.specs.Events.{Event}
use Rattle.circuit_model.specs.declared.event.Event.TheVariants.{Data, Drained}
use Rattle.circuit_model.specs.Rules.{Rules}
use Rattle.circuit_model.specs.Log.{Entry, Log, Order, Message, count_of}
use Rattle.circuit_model.specs.declared.effects.Order.TheVariants.{Carry}
use Rattle.circuit_model.specs.Packaged.{packaged_by}

abbrev pub has_command : ℕ → Option Message → Bool
has_command command (Some message) = message.command == command
has_command command None = false

abbrev pub has_stream : ℕ → Option Message → Bool
has_stream stream (Some message) = message.stream == stream
has_stream stream None = false

abbrev pub is_serial : ℕ → Option ℕ → Bool
is_serial serial (Some n) = n == serial
is_serial serial None = false

abbrev pub has_place : ℕ → Option Message → Bool
has_place serial (Some message) = is_serial serial message.place
has_place serial None = false

-- Whether an entry is a message of this command that did not close the circuit.
abbrev pub is_accepted : ℕ → Entry → Bool
is_accepted command entry = has_command command entry.message && is_none entry.effects.close

-- What this relay packages.

abbrev pub is_data_body : Option (List ℕ) → Bool
is_data_body (Some body) = (relay_head body).command == data_command
is_data_body None = false

abbrev pub packs_data : Entry → Bool
packs_data entry = is_data_body (packaged_by entry.event entry.effects.back)

-- How many DATA the circuit packaged.
abbrev pub circuit_packaged : Log → ℕ
circuit_packaged log = count_of packs_data log

-- How many circuit SENDMEs were right.
abbrev pub good_sendmes : Log → ℕ
good_sendmes log = count_of (λ entry. is_accepted sendme_command entry && has_stream 0 entry.message) log

abbrev pub circuit_grant : Rules → Log → ℕ
circuit_grant rules log = granted_after rules.window (good_sendmes log)

abbrev pub is_data_of : ℕ → Event → Bool
is_data_of serial (Data n bytes) = n == serial
is_data_of serial event = false

-- How many DATA a place packaged, whatever their bytes.
abbrev pub stream_packaged : Log → ℕ → ℕ
stream_packaged log serial = count_of (λ entry. is_data_of serial entry.event) log

-- How many SENDMEs a place accepted.
abbrev pub stream_sendmes : Log → ℕ → ℕ
stream_sendmes log serial = count_of (λ entry. is_accepted sendme_command entry && has_place serial entry.message) log

abbrev pub stream_grant : Log → ℕ → ℕ
stream_grant log serial = stream_start + stream_step * stream_sendmes log serial

-- What this relay accepts.

-- How many DATA the circuit accepted, those for no live stream among them.
abbrev pub accepted_data : Log → ℕ
accepted_data log = count_of (is_accepted data_command) log

abbrev pub carries : ℕ → Option Order → Bool
carries serial (Some (Carry key bytes)) = key.serial == serial
carries serial order = false

-- How many DATA a place accepted: each gives a Carry order.
abbrev pub carried_count : Log → ℕ → ℕ
carried_count log serial = count_of (λ entry. carries serial entry.effects.edge) log

abbrev pub drains : ℕ → Event → Bool
drains serial (Drained n) = n == serial
drains serial event = false

-- How many of them were drained.
abbrev pub drained_count : Log → ℕ → ℕ
drained_count log serial = count_of (λ entry. drains serial entry.event) log

-- How many DATA a place may accept: each 50th that is drained grants 50 more.
abbrev pub accept_grant : Log → ℕ → ℕ
accept_grant log serial = stream_start + stream_step * (drained_count log serial / stream_step)
