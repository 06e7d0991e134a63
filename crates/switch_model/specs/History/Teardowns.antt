-- Which circuits a step tears down, and with which reason.
use Rattle.std.specs.Prelude.{ℕ, ◌==◌, Bool, if◌then◌else◌, Option, Some, None}
use Rattle.tor_spec.specs.Reasons.{destroy_connect_failed, destroy_channel_closed}
use Rattle.tr_io.specs.declared.answers.BackAnswer.{BackAnswer}
use Rattle.tr_io.specs.declared.answers.DialAnswer.{DialAnswer}
use Rattle.tr_io.specs.declared.answers.EdgeAnswer.{EdgeAnswer}
use Rattle.tr_io.specs.declared.answers.TakeAnswer.{TakeAnswer}
use Rattle.tr_io.specs.declared.step.Step.{Step}
use Rattle.tr_io.specs.declared.step.Step.TheVariants.{ChannelDown, Take, GiveBack, Abandon, EdgeIn, Drained, DialDone, TearDown}

pub data Teardown : Type 0 where
  NoTeardown : Teardown
  OneCircuit : (circ reason : ℕ) → Teardown
  -- each live circuit with leg 0 or its current leg on this channel
  OnChannel : (chan : ℕ) → Teardown

-- What a step tears down.
abbrev pub teardown : Step → Teardown
teardown (Take chan cell (TakeAnswer.Down circ reason)) = OneCircuit circ.0 reason
teardown (GiveBack note place (BackAnswer.Down reason)) = OneCircuit note.circ.0 reason
teardown (Abandon note place (BackAnswer.Down reason)) = OneCircuit note.circ.0 reason
teardown (EdgeIn key event (EdgeAnswer.Down reason)) = OneCircuit key.circ.0 reason
teardown (Drained key (EdgeAnswer.Down reason)) = OneCircuit key.circ.0 reason
teardown (DialDone order outcome (DialAnswer.Closed reason)) = OneCircuit order.circ.0 reason
teardown (DialDone order outcome (DialAnswer.Full n)) = OneCircuit order.circ.0 destroy_connect_failed
teardown (TearDown circ asked (BackAnswer.Down reason)) = OneCircuit circ.0 reason
teardown (ChannelDown chan BackAnswer.Settled) = OnChannel chan.0
teardown s = NoTeardown

-- The reason with which circuit c goes down, if it does; `lies_on` tells of a channel whether leg 0
-- or the current leg of c lies on it.
abbrev pub reason_of : ℕ → (ℕ → Bool) → Teardown → Option ℕ
reason_of c lies_on NoTeardown = None
reason_of c lies_on (OneCircuit circ reason) = if circ == c then Some reason else None
reason_of c lies_on (OnChannel chan) = if lies_on chan then Some destroy_channel_closed else None
