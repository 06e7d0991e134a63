-- When the places that a circuit keeps are those of its log.
use Rattle.std.specs.Prelude.{◌≡◌, ◌≢◌, ◌<◌, ◌≤◌, ℕ, ◌==◌, ◌&&◌, ◌∷◌, Bool, true, false, length, filter, not, Some, IsTrue}
use Rattle.tor_spec.specs.RelayCell.{sendme_command}
use Rattle.stream_edge.specs.declared.placed_stream.PlacedStream.{PlacedStream}
use Rattle.stream_edge.specs.declared.placed_stream.Phase.{Phase as HeldPhase}
use Rattle.stream_edge.specs.declared.placed_stream.Phase.TheVariants.{Reaching as held_reaching, Joined as held_joined, Ending as held_ending}
use Rattle.stream_edge.specs.PlacesState.{PlacesState, held_at}
use Rattle.stream_edge.specs.Streams.{is_free}
use Rattle.circuit_model.specs.Events.{Event}
use Rattle.circuit_model.specs.declared.event.Event.TheVariants.{Connected, Data, Ended, Drained, Freed}
use Rattle.circuit_model.specs.Rules.{Rules}
use Rattle.circuit_model.specs.Log.{Entry, Log, StreamKey}
use Rattle.circuit_model.specs.declared.places.Phase.{Phase}
use Rattle.circuit_model.specs.declared.places.Phase.TheVariants.{Reaching, Joined, Ending, Free}
use Rattle.circuit_model.specs.Places.{Place, places, place_at, phase, is_live, connects, frees, closes_place}
use Rattle.circuit_model.specs.Windows.{stream_packaged, stream_sendmes, carried_count, drained_count, is_data_of, is_accepted, has_place, carries, drains}
use Rattle.circuit_model.specs.Words.{entry_after}

-- The phase of a stream that is held. A place that was freed holds none.
abbrev pub model_phase : HeldPhase → Phase
model_phase held_reaching = Reaching
model_phase held_joined = Joined
model_phase held_ending = Ending

-- The name of a stream that is held.
abbrev pub stream_key : PlacedStream → StreamKey
stream_key h = record { stream = h.stream; serial = h.serial }

-- The stream is the one of a place of the log that isn't freed: it has the place's StreamID and serial,
-- and its phase and its counts are those of the place.
pub record IsOfLog (log : Log) (h : PlacedStream) : Type 0 where
  pub place : Place
  pub found : place_at log h.serial ≡ Some place
  pub key : place.key ≡ stream_key h
  pub phase : phase log h.serial ≡ model_phase h.phase
  pub packed : h.packed ≡ stream_packaged log h.serial
  pub credits : h.credits ≡ stream_sendmes log h.serial
  pub accepted : h.accepted ≡ carried_count log h.serial
  pub drained : h.drained ≡ drained_count log h.serial

-- The log says nothing yet of the place with this serial.
pub record IsUntold (log : Log) (serial : ℕ) : Type 0 where
  pub phase : phase log serial ≡ Reaching
  pub packed : stream_packaged log serial ≡ 0
  pub credits : stream_sendmes log serial ≡ 0
  pub accepted : carried_count log serial ≡ 0
  pub drained : drained_count log serial ≡ 0

-- What the edge reports of a place.
abbrev pub is_edge_report : Event → Bool
is_edge_report (Connected serial) = true
is_edge_report (Data serial bytes) = true
is_edge_report (Ended serial reason) = true
is_edge_report (Drained serial) = true
is_edge_report (Freed serial) = true
is_edge_report event = false

-- The entry says nothing of the place with this serial.
pub record IsSilent (entry : Entry) (serial : ℕ) : Type 0 where
  pub connects : connects serial entry.event ≡ false
  pub frees : frees serial entry.event ≡ false
  pub closes : closes_place serial entry.effects.edge ≡ false
  pub packs : is_data_of serial entry.event ≡ false
  pub credits : (is_accepted sendme_command entry && has_place serial entry.message) ≡ false
  pub carries : carries serial entry.effects.edge ≡ false
  pub drains : drains serial entry.event ≡ false

-- A place of the state that holds the stream with this serial.
pub record IsHeld (state : PlacesState) (serial : ℕ) : Type 0 where
  pub place : ℕ
  pub stream : PlacedStream
  pub holds : held_at state place ≡ Some stream
  pub named : stream.serial ≡ serial

-- The state holds the places of the log that aren't freed, each once, and the next accepted BEGIN makes
-- the place with its next serial.
pub record ArePlaces (state : PlacesState) (log : Log) : Type 0 where
  pub next : state.next_serial ≡ length (places log)
  pub streams : (place : ℕ) (h : PlacedStream) → held_at state place ≡ Some h → IsOfLog log h
  pub once : (one other : ℕ) (g h : PlacedStream) → held_at state one ≡ Some g → held_at state other ≡ Some h
      → g.serial ≡ h.serial
      → one ≡ other
  pub whole : (serial : ℕ) → serial < length (places log) → phase log serial ≢ Free → IsHeld state serial
  pub untold : (serial : ℕ) → length (places log) ≤ serial → IsUntold log serial

-- If the old state holds the places of this log, the new one holds those of the log with this event.
unfoldable pub PlacesGoOn : PlacesState → PlacesState → Rules → Log → Event → Type 0
PlacesGoOn old new rules log event = ArePlaces old log → ArePlaces new (entry_after rules log event ∷ log)

-- How many places of the state are taken.
abbrev pub taken_count : PlacesState → ℕ
taken_count state = length (filter (λ stream. not (is_free stream)) state.streams)

-- What holds of every log of a history: places are numbered in the order of their BEGINs, none has
-- StreamID 0, and a StreamID is live at one place at most.
pub record AreNamed (log : Log) : Type 0 where
  pub numbered : (serial : ℕ) (place : Place) → place_at log serial ≡ Some place → place.key.serial ≡ serial
  pub nonzero : (serial : ℕ) (place : Place) → place_at log serial ≡ Some place → (place.key.stream == 0) ≡ false
  pub live_once : (one other : ℕ) (p q : Place) → place_at log one ≡ Some p → place_at log other ≡ Some q →
      IsTrue (is_live log p) → IsTrue (is_live log q) → p.key.stream ≡ q.key.stream → one ≡ other
