-- The answer to `edge_in`. The first line that fits holds.
use Rattle.std.specs.Prelude.{ℕ, ◌==◌, nat_le, not, List, Bool, true, false, if◌then◌else◌, Option, Some, None}
use Rattle.circuit_model.specs.Log.{Log}
use Rattle.circuit_model.specs.declared.places.Phase.{Phase}
use Rattle.circuit_model.specs.declared.places.Phase.TheVariants.{Reaching, Joined, Free}
use Rattle.circuit_model.specs.Places.{Place, place_at, phase, is_live_phase}
use Rattle.circuit_model.specs.Rules.{Rules}
use Rattle.circuit_model.specs.Windows.{circuit_packaged, circuit_grant, stream_packaged, stream_grant}
use Rattle.tor_spec.specs.Reasons.{destroy_resource_limit}
use Rattle.tr_io.specs.declared.answers.EdgeAnswer.{EdgeAnswer}
use Rattle.tr_io.specs.declared.answers.EdgeAnswer.TheVariants.{Packed, Shut, Gone, Down}
use Rattle.tr_io.specs.declared.answers.ShutWhy.{ShutWhy}
use Rattle.tr_io.specs.declared.names.Dir.TheVariants.{Back}
use Rattle.tr_io.specs.declared.names.StreamKey.{StreamKey}
use Rattle.tr_io.specs.declared.step.EventStep.{EventStep}
use Rattle.tr_io.specs.declared.step.Step.{Step}
use Rattle.switch_model.specs.Limits.{held_limit}
use Rattle.switch_model.specs.History.Circuit.{is_live_circuit}
use Rattle.switch_model.specs.Waiting.Queues.{circuit_log, is_full}

-- The phase of the place that a key names, by its StreamID and its serial; free where there is none.
abbrev pub phase_with : Log → StreamKey → Option Place → Phase
phase_with log key (Some place) = if place.key.stream == key.id then phase log key.serial else Free
phase_with log key None = Free

-- The phase of the stream with this key.
abbrev pub phase_of : Log → StreamKey → Phase
phase_of log key = phase_with log key (place_at log key.serial)

abbrev pub is_reaching : Phase → Bool
is_reaching Reaching = true
is_reaching other = false

abbrev pub is_joined : Phase → Bool
is_joined Joined = true
is_joined other = false

-- One more body goes back, unless the direction is full.
abbrev pub packed : Rules → List Step → ℕ → EdgeAnswer
packed rules h c =
    if is_full rules h c Back then Down destroy_resource_limit
    else Packed

-- Data of a place, where both windows and the direction allow it.
abbrev pub data_answer : Rules → List Step → StreamKey → Log → EdgeAnswer
data_answer rules h key log =
    if nat_le (stream_grant log key.serial) (stream_packaged log key.serial)
    then Shut ShutWhy.Stream (stream_packaged log key.serial)
    else if nat_le (circuit_grant rules log) (circuit_packaged log) then Shut ShutWhy.Circuit (circuit_packaged log)
    else if is_full rules h key.circ.0 Back then Shut ShutWhy.Held held_limit
    else Packed

-- What the edge reports of a place of a live circuit.
abbrev pub reported : Rules → List Step → StreamKey → EventStep → Log → EdgeAnswer
reported rules h key EventStep.Connected log =
    if not (is_reaching (phase_of log key)) then Gone
    else packed rules h key.circ.0
reported rules h key (EventStep.Data octets) log =
    if not (is_joined (phase_of log key)) then Gone
    else data_answer rules h key log
reported rules h key (EventStep.Ended reason) log =
    if not (is_live_phase (phase_of log key)) then Gone
    else packed rules h key.circ.0

-- An event of the edge.
abbrev pub edge_in_answer : Rules → List Step → StreamKey → EventStep → EdgeAnswer
edge_in_answer rules h key event =
    if not (is_live_circuit rules h key.circ.0) then Gone
    else reported rules h key event (circuit_log rules h key.circ.0)
