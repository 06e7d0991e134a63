-- A message that an event brings decides what the event does.
use Rattle.std.proofs.Common.{◌≡◌, ℕ, Bool, true, false, if◌then◌else◌, Some, None}
use Rattle.circuit_model.specs.Events.{Event}
use Rattle.circuit_model.specs.declared.event.Event.TheVariants.{Born, Forward, Backward, Connected, Data, Ended, Drained, Freed, Linked, Answered, Failed}
use Rattle.circuit_model.specs.Rules.{Rules}
use Rattle.circuit_model.specs.Log.{Log, Message, no_effects, is_closed}
use Rattle.circuit_model.specs.Received.{Received, received, message_of, message_in, message_at}
use Rattle.circuit_model.specs.declared.message.Received.TheVariants.{TooManyEarly, Unrecognised, TooLong, ForUs}
use Rattle.circuit_model.specs.Effects.{message_effects, forward_effects, open_effects, effects_after}

read-received : (rules : Rules) (log : Log) (command : ℕ) (r : Received) (m : Message) → message_of r ≡ Some m
    → forward_effects rules log command r ≡ message_effects rules log m
read-received rules log command TooManyEarly m found = cc
read-received rules log command (Unrecognised plain) m found = cc
read-received rules log command TooLong m found = cc
read-received rules log command (ForUs message) m found = cc

read-event : (rules : Rules) (log : Log) (e : Event) (m : Message) → message_in log e ≡ Some m
    → open_effects rules log e ≡ message_effects rules log m
unfolding open_effects
read-event rules log (Forward command body) m found = read-received rules log command (received log command body) m found
read-event rules log (Born reply keys pad) m found = cc
read-event rules log (Backward body) m found = cc
read-event rules log (Connected serial) m found = cc
read-event rules log (Data serial bytes) m found = cc
read-event rules log (Ended serial reason) m found = cc
read-event rules log (Drained serial) m found = cc
read-event rules log (Freed serial) m found = cc
read-event rules log Linked m found = cc
read-event rules log (Answered payload) m found = cc
read-event rules log Failed m found = cc

read-by : (rules : Rules) (log : Log) (e : Event) (m : Message) (closed : Bool)
    → (if closed then None else message_in log e) ≡ Some m
    → (if closed then no_effects else open_effects rules log e) ≡ message_effects rules log m
read-by rules log e m true found = cc
read-by rules log e m false found = read-event rules log e m found

pub read-effects : (rules : Rules) (log : Log) (e : Event) (m : Message) → message_at log e ≡ Some m
    → effects_after rules log e ≡ message_effects rules log m
read-effects rules log e m found = read-by rules log e m (is_closed log) found
