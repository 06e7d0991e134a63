-- When a circuit's state is that of its log.
use Rattle.std.specs.Prelude.{◌≡◌, ◌≢◌, ◌<◌, ◌^◌, ℕ, List, Some, false, position, slice_index_or, IsTrue}
use Rattle.tor_spec.specs.CellCommands.{create2_command}
use Rattle.tr_io.specs.declared.names.Dest.{Dest}
use Rattle.tr_io.specs.declared.names.StreamKey.{StreamKey}
use Rattle.sendme_windows.specs.WindowsState.{HasCountsOf, HasRoom}
use Rattle.stream_edge.specs.PlacesState.{PlacesState, held_at}
use Rattle.stream_edge.specs.declared.placed_stream.PlacedStream.{PlacedStream}
use Rattle.stream_edge.specs.declared.placed_stream.Phase.{Phase}
use Rattle.stream_edge.specs.declared.placed_stream.Phase.TheVariants.{Joined, Ending}
use Rattle.stream_edge.specs.Streams.{is_stream, may_package}
use Rattle.circuit_model.specs.Events.{Event}
use Rattle.circuit_model.specs.Rules.{Rules}
use Rattle.circuit_model.specs.Log.{Log, Effects, is_closed, no_effects}
use Rattle.circuit_model.specs.Extending.{linked_effects}
use Rattle.circuit_model.specs.declared.next_hop.NextHop.TheVariants.{Dialling}
use Rattle.circuit_model.specs.NextHop.{next_hop}
use Rattle.circuit_model.specs.Places.{Place, place_at}
use Rattle.circuit_model.specs.Received.{early_count}
use Rattle.circuit_model.specs.Words.{log}
use Rattle.circ_relay.specs.declared.circuit.Circuit.{Circuit}
use Rattle.circ_relay.specs.Packaging.{IsPackager}
use Rattle.circ_relay.specs.PlacesOfLog.{ArePlaces}
use Rattle.circ_relay.specs.Values.{address_of}
use Rattle.circ_relay.specs.WindowOfLog.{window_of}

-- What goes to the next hop when it is linked.
abbrev pub sends_create2 : List ℕ → Effects
sends_create2 payload = record no_effects { forth = Some (record { command = create2_command; body = payload }) }

-- Each stream's address is kept at its place.
abbrev pub AreAddresses : List Dest → PlacesState → Log → Type 0
AreAddresses addresses state log =
    (place : ℕ) (stream : PlacedStream) (of_log : Place) (none : Dest) → held_at state place ≡ Some stream
    → place_at log stream.serial ≡ Some of_log →
    of_log.to ≡ address_of (slice_index_or addresses place none)

-- The parts of a circuit are those of its log, but for its count of RELAY_EARLY cells.
pub record HasParts (c : Circuit) (log : Log) : Type 0 where
  pub hop : c.next_hop ≡ next_hop log
  pub asked : c.next_hop ≡ Dialling → linked_effects log ≡ sends_create2 c.create2
  pub packager : IsPackager c.packager log
  pub windows : HasCountsOf c.windows (window_of log)
  pub places : ArePlaces c.places log
  pub addresses : AreAddresses c.addresses c.places log

-- Its windows are as the rules have them.
pub record IsMadeBy (c : Circuit) (rules : Rules) : Type 0 where
  pub start : c.windows.start ≡ rules.window
  pub least : c.windows.least ≡ rules.least

-- The circuit has not closed after this history, the newest event first, and its state is that of its log.
pub record IsCircuit (c : Circuit) (rules : Rules) (history : List Event) : Type 0 where
  pub unclosed : is_closed (log rules history) ≡ false
  pub early : c.early_cells ≡ early_count (log rules history)
  pub made : IsMadeBy c rules
  pub parts : HasParts c (log rules history)

-- There is room to count one more event.
pub record HasCalls (c : Circuit) : Type 0 where
  pub windows : c.windows.calls < 2 ^ 63
  pub packager : c.packager.padding.count < 2 ^ 63
  pub places : c.places.calls < 2 ^ 63

-- The first place with this StreamID and serial, and the stream that it holds.
pub record IsAt (c : Circuit) (key : StreamKey) (place : ℕ) (stream : PlacedStream) : Type 0 where
  pub first : position (is_stream key.id key.serial) c.places.streams ≡ Some place
  pub held : held_at c.places place ≡ Some stream

-- The stream of this name is in this phase.
pub record HasStream (c : Circuit) (key : StreamKey) (phase : Phase) : Type 0 where
  pub place : ℕ
  pub stream : PlacedStream
  pub at : IsAt c key place stream
  pub now : stream.phase ≡ phase

-- It isn't ending, and a DATA that was accepted for it is undrained.
pub record HasUndrained (c : Circuit) (key : StreamKey) : Type 0 where
  pub place : ℕ
  pub stream : PlacedStream
  pub at : IsAt c key place stream
  pub live : stream.phase ≢ Ending
  pub undrained : stream.drained < stream.accepted

-- It is connected, and its window and the circuit's allow one more DATA.
pub record MaySend (c : Circuit) (key : StreamKey) : Type 0 where
  pub place : ℕ
  pub stream : PlacedStream
  pub at : IsAt c key place stream
  pub now : stream.phase ≡ Joined
  pub allowed : IsTrue (may_package stream)
  pub circuit_allows : HasRoom c.windows

pub record IsLiveStream (c : Circuit) (key : StreamKey) : Type 0 where
  pub place : ℕ
  pub stream : PlacedStream
  pub at : IsAt c key place stream
  pub live : stream.phase ≢ Ending
