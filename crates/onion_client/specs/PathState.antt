-- What has gone on a client's path so far: with each hop, in its windows, on its streams.
use Rattle.std.specs.Prelude.{ℕ, [], ◌∷◌, ◌==◌, List, Bool, false, if◌then◌else◌, Option, Some, find}
use Rattle.tor_spec.specs.CircuitWindow.{CircuitWindow, fresh_window}
use Rattle.stream_edge.specs.declared.placed_stream.PlacedStream.{PlacedStream}
use Rattle.circuit_model.specs.PathLayers.{PathHop}
use Rattle.onion_client.specs.Calls.{Start, Answer}

pub record PathState : Type 0 where
  pub circuit : ℕ
  pub pad : Option (List ℕ)
  -- the hops, the first hop first, with all bodies that went each way
  pub hops : List PathHop
  -- the X of the handshake whose answer is awaited
  pub awaited_x : Option (List ℕ)
  -- how many relay bodies the client made, for whichever hop
  pub made_count : ℕ
  -- the windows between the client and the last hop
  pub window : CircuitWindow
  -- the live streams: those that were begun and have neither ended nor been finished
  pub streams : List PlacedStream
  pub is_closed : Bool

-- At first the answer to CREATE_FAST is awaited.
abbrev pub started : Start → PathState
started start = record {
  circuit = start.circuit;
  pad = start.pad;
  hops = [];
  awaited_x = Some start.x;
  made_count = 0;
  window = fresh_window;
  streams = [];
  is_closed = false;
}

-- What a call comes to.
pub record Outcome : Type 0 where
  pub answer : Answer
  pub state : PathState

-- ---- streams

abbrev pub has_id : ℕ → PlacedStream → Bool
has_id id stream = stream.stream == id

-- The live stream with this StreamID.
abbrev pub stream_of : ℕ → List PlacedStream → Option PlacedStream
stream_of id streams = find (has_id id) streams

-- It has become this one.
abbrev pub with_stream : ℕ → PlacedStream → List PlacedStream → List PlacedStream
with_stream id successor [] = []
with_stream id successor (stream ∷ streams) =
    if has_id id stream then successor ∷ streams else stream ∷ with_stream id successor streams

-- It is no longer live.
abbrev pub without : ℕ → List PlacedStream → List PlacedStream
without id [] = []
without id (stream ∷ streams) = if has_id id stream then streams else stream ∷ without id streams
