-- A client's path over a whole history of calls.
--
-- A history is a list of calls, the newest first, behind a start. `path start history` is what has gone on it
-- by then, and `answer start history call` what the next call answers.
use Rattle.std.specs.Prelude.{[], ◌∷◌, List}
use Rattle.onion_client.specs.Calls.{Start, Call, Answer}
use Rattle.onion_client.specs.Calls.Call.{Take, Extend, Begin, Send, Finish, Drained}
use Rattle.onion_client.specs.PathState.{PathState, Outcome, started}
use Rattle.onion_client.specs.Asked.{extending, beginning, sending_bytes, finishing, draining}
use Rattle.onion_client.specs.Taking.{taking}

abbrev pub outcome : PathState → Call → Outcome
outcome p (Take cell) = taking p cell
outcome p (Extend to x) = extending p to x
outcome p (Begin stream host port) = beginning p stream host port
outcome p (Send stream bytes) = sending_bytes p stream bytes
outcome p (Finish stream reason) = finishing p stream reason
outcome p (Drained stream) = draining p stream

abbrev pub path : Start → List Call → PathState
path start [] = started start
path start (call ∷ history) = (outcome (path start history) call).state

abbrev pub answer : Start → List Call → Call → Answer
answer start history call = (outcome (path start history) call).answer
