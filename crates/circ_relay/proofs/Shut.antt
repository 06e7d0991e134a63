-- Which window keeps a stream's bytes, by the circuit's log.
use Rattle.std.proofs.Common.{◌≡◌, ℕ, ◌<◌, ◌≤◌, ◌↔◌, List, Bool, true, false, Some, None, nat_lt, refl, sym, ap, ◌∙◌, arith}
use Rattle.std.proofs.lemmas.Bool.{ltb-true, ltb-false}
use Rattle.tr_io.specs.declared.answers.ShutWhy.TheVariants.{Stream, Circuit as CircuitShut}
use Rattle.tr_io.specs.declared.names.StreamKey.{StreamKey}
use Rattle.sendme_windows.specs.WindowsState.{HasRoom}
use Rattle.stream_edge.specs.declared.placed_stream.PlacedStream.{PlacedStream}
use Rattle.stream_edge.specs.Streams.{may_package}
use Rattle.tor_spec.specs.CircuitWindow.{granted_after}
use Rattle.circuit_model.specs.Events.{Event}
use Rattle.circuit_model.specs.Rules.{Rules}
use Rattle.circuit_model.specs.Log.{Log}
use Rattle.circuit_model.specs.Windows.{stream_packaged, stream_grant, circuit_packaged, circuit_grant}
use Rattle.circuit_model.specs.Words.{log}
use Rattle.circ_relay.specs.declared.circuit.Circuit.{Circuit}
use Rattle.circ_relay.specs.CircuitOfLog.{IsAt, HasParts, IsCircuit, IsMadeBy}
use Rattle.circ_relay.specs.ShutWindows.{shut_window}
use Rattle.circ_relay.proofs.Edges.{named}
use Rattle.circ_relay.proofs.Reading.{may_package_by_the_log}
use Rattle.circ_relay.specs.WindowOfLog.{window_of}
use Rattle.circ_relay.proofs.WindowMoves.{packaged_count}

-- A test that tells of room is the test of the counts.

tested_by : (packed granted : ℕ) (test result : Bool) → nat_lt packed granted ≡ test
    → ((result ≡ true → packed < granted) × (packed < granted → result ≡ true)) → test ≡ result
tested_by packed granted true true is tells = refl
tested_by packed granted false false is tells = refl
tested_by packed granted true false is tells = sym (tells.1 (ltb-true packed granted is))
tested_by packed granted false true is tells =
    let beyond : granted ≤ packed = ltb-false packed granted is in
    let within : packed < granted = tells.0 refl in
    absurd (omega (arith, beyond, within))

-- The counts of the stream and of the circuit.

stream_count : (c : Circuit) (log : Log) (key : StreamKey) (place : ℕ) (stream : PlacedStream) → IsAt c key place stream
    → HasParts c log
    → stream.packed ≡ stream_packaged log key.serial
stream_count c log key place stream at parts =
    (parts.places.streams place stream at.held).packed ∙ ap (λ n. stream_packaged log n) (named c key place stream at).1

circuit_count : (c : Circuit) (log : Log) → HasParts c log → c.windows.packed ≡ circuit_packaged log
circuit_count c log parts = parts.windows.packed ∙ packaged_count log

circuit_grant_is : (c : Circuit) (rules : Rules) (log : Log) → IsMadeBy c rules → HasParts c log
    → granted_after c.windows.start c.windows.good ≡ circuit_grant rules log
unfolding window_of
circuit_grant_is c rules log made parts = (λ i. granted_after (made.start i) (parts.windows.good i))

stream_test : (c : Circuit) (log : Log) (key : StreamKey) (place : ℕ) (stream : PlacedStream) → IsAt c key place stream
    → HasParts c log
    → nat_lt (stream_packaged log key.serial) (stream_grant log key.serial) ≡ may_package stream
stream_test c log key place stream at parts =
    ap (λ n. nat_lt (stream_packaged log n) (stream_grant log n)) (sym (named c key place stream at).1)
    ∙ sym (may_package_by_the_log c.places log place stream parts.places at.held)

circuit_test : (c : Circuit) (rules : Rules) (log : Log) (result : Bool) → IsMadeBy c rules → HasParts c log
    → (result ≡ true ↔ HasRoom c.windows)
    → nat_lt (circuit_packaged log) (circuit_grant rules log) ≡ result
circuit_test c rules log result made parts tells =
    let packed = circuit_count c log parts in
    let granted = circuit_grant_is c rules log made parts in
    sym (λ i. nat_lt (packed i) (granted i))
    ∙ tested_by c.windows.packed (granted_after c.windows.start c.windows.good) _ result refl tells

-- Each answer.

pub stream_shuts : (c : Circuit) (rules : Rules) (h : List Event) (key : StreamKey) (place : ℕ) (stream : PlacedStream)
    (count : ℕ)
    → IsAt c key place stream → may_package stream ≡ false → count ≡ stream.packed → IsCircuit c rules h
    → Some (Stream, count) ≡ shut_window rules (log rules h) key.serial
stream_shuts c rules h key place stream count at shut count_is is =
    let test : nat_lt (stream_packaged (log rules h) key.serial) (stream_grant (log rules h) key.serial) ≡ false =
    stream_test c (log rules h) key place stream at is.parts ∙ shut in
    rw test (ap (λ n. Some (Stream, n)) (count_is ∙ stream_count c (log rules h) key place stream at is.parts))

pub circuit_shuts : (c : Circuit) (rules : Rules) (h : List Event) (key : StreamKey) (place : ℕ) (stream : PlacedStream)
    (result : Bool) (count : ℕ)
    → IsAt c key place stream → may_package stream ≡ true → (result ≡ true ↔ HasRoom c.windows) → result ≡ false
    → count ≡ c.windows.packed → IsCircuit c rules h
    → Some (CircuitShut, count) ≡ shut_window rules (log rules h) key.serial
circuit_shuts c rules h key place stream result count at may tells shut count_is is =
    let test : nat_lt (stream_packaged (log rules h) key.serial) (stream_grant (log rules h) key.serial) ≡ true =
    stream_test c (log rules h) key place stream at is.parts ∙ may in
    let closed : nat_lt (circuit_packaged (log rules h)) (circuit_grant rules (log rules h)) ≡ false =
    circuit_test c rules (log rules h) result is.made is.parts tells ∙ shut in
    rw (test, closed) (ap (λ n. Some (CircuitShut, n)) (count_is ∙ circuit_count c (log rules h) is.parts))

pub none_shuts : (c : Circuit) (rules : Rules) (h : List Event) (key : StreamKey) (place : ℕ) (stream : PlacedStream)
    (result : Bool)
    → IsAt c key place stream → may_package stream ≡ true → (result ≡ true ↔ HasRoom c.windows) → result ≡ true
    → IsCircuit c rules h
    → None ≡ shut_window rules (log rules h) key.serial
none_shuts c rules h key place stream result at may tells allows is =
    let test : nat_lt (stream_packaged (log rules h) key.serial) (stream_grant (log rules h) key.serial) ≡ true =
    stream_test c (log rules h) key place stream at is.parts ∙ may in
    let room : nat_lt (circuit_packaged (log rules h)) (circuit_grant rules (log rules h)) ≡ true =
    circuit_test c rules (log rules h) result is.made is.parts tells ∙ allows in
    rw (test, room) refl
