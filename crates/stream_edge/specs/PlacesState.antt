-- What contracts see of a `Places`.
use Rattle.std.specs.Prelude.{◌≡◌, ◌≢◌, ℕ, ◌+◌, ◌≤◌, ◌^◌, List, Option, Some, None, IsTrue, get_or, set, length}
use Rattle.tor_spec.specs.StreamWindow.{stream_start}
use Rattle.stream_edge.specs.declared.placed_stream.PlacedStream.{PlacedStream}
use Rattle.stream_edge.specs.declared.placed_stream.Phase.TheVariants.{Ending}
use Rattle.stream_edge.specs.Streams.{accept_grant, is_live_as, pack_grant}

-- The 32 places, the serial of the next stream, and the calls that could change them.
pub record PlacesState : Type 0 where
  pub streams : List (Option PlacedStream)
  pub next_serial : ℕ
  pub calls : ℕ

-- What a place holds; nothing where there is no such place.
abbrev pub held_at : PlacesState → ℕ → Option PlacedStream
held_at s place = get_or s.streams place None

abbrev pub IsTaken : PlacesState → ℕ → Type 0
IsTaken s place = (h : PlacedStream) × (held_at s place ≡ Some h)

-- The place is taken by a stream that is not ending.
abbrev pub IsLive : PlacesState → ℕ → Type 0
IsLive s place = (h : PlacedStream) × (held_at s place ≡ Some h) × (h.phase ≢ Ending)

abbrev pub IsEnding : PlacesState → ℕ → Type 0
IsEnding s place = (h : PlacedStream) × (held_at s place ≡ Some h) × (h.phase ≡ Ending)

-- One call more, after which the place holds this.
abbrev pub with_held : PlacesState → ℕ → Option PlacedStream → PlacesState
with_held s place content = record s { streams = set s.streams place content; calls = s.calls + 1 }

-- No count of a stream passes its grant, its window never opens past its start, what was drained was
-- accepted before, and no count passes the calls.
pub record IsCounted (h : PlacedStream) (calls : ℕ) : Type 0 where
  pub packed : h.packed ≤ pack_grant h
  pub window : pack_grant h ≤ stream_start + h.packed
  pub accepted : h.accepted ≤ accept_grant h
  pub drained : h.drained ≤ h.accepted
  pub serial_within : h.serial ≤ calls
  pub packed_within : h.packed ≤ calls
  pub accepted_within : h.accepted ≤ calls

-- A StreamID is live at one place at most.
abbrev pub LivesOnce : List (Option PlacedStream) → Type 0
LivesOnce streams =
    (one other id : ℕ) → IsTrue (is_live_as id (get_or streams one None)) → IsTrue (is_live_as id (get_or streams other None))
    → one ≡ other

pub record IsInStep (s : PlacesState) : Type 0 where
  pub places : length s.streams ≡ 32
  pub next_serial : s.next_serial ≤ s.calls
  pub calls : s.calls ≤ 2 ^ 63
  pub live_once : LivesOnce s.streams
  pub counted : (place : ℕ) (h : PlacedStream) → held_at s place ≡ Some h → IsCounted h s.calls
