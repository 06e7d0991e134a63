-- What is asked of a client's path, and what it answers.
use Rattle.std.specs.Prelude.{ℕ, List, Option}
use Rattle.cell_codec.specs.declared.cell.Cell.{Cell}
use Rattle.tor_spec.specs.Extend.{Address}
use Rattle.tr_io.specs.declared.answers.ShutWhy.{ShutWhy}
use Rattle.onion_client.specs.declared.close_cause.CloseCause.{CloseCause}

-- The CircID, the X of the first hop, and the key that makes the padding of the client's bodies, if there is
-- one.
pub record Start : Type 0 where
  pub circuit : ℕ
  pub x : List ℕ
  pub pad : Option (List ℕ)

-- A call: a cell of the link is taken; one more hop, with the client's X for it; a stream to a host and port;
-- bytes of a stream; its end, with a reason; one more of its DATA was read.
pub data Call : Type 0 where
  Take : (cell : Cell) → Call
  Extend : (to : Address) (x : List ℕ) → Call
  Begin : (stream : ℕ) (host : List ℕ) (port : ℕ) → Call
  Send : (stream : ℕ) (bytes : List ℕ) → Call
  Finish : (stream reason : ℕ) → Call
  Drained : (stream : ℕ) → Call

-- What came of it. `Sends` has the cell that goes to the link.
pub data Answer : Type 0 where
  Hop : (number : ℕ) → Answer
  Connected : (stream : ℕ) → Answer
  Carried : (stream : ℕ) (bytes : List ℕ) (reply : Option Cell) → Answer
  Ended : (stream reason : ℕ) → Answer
  Credit : Answer
  Truncated : (reason : ℕ) → Answer
  PassedOver : Answer
  Closed : (cause : CloseCause) → Answer
  Gone : Answer
  Sends : (cell : Cell) → Answer
  Nothing : Answer
  Shut : (why : ShutWhy) (packaged : ℕ) → Answer
