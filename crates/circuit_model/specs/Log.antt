-- A circuit's log: each event with what it brought to this relay and what it had the relay do. All
-- other words are counts, filters and looks over the whole log. A log lists the newest entry first,
-- so that the entries behind one are those that came before it.
use Rattle.std.specs.Prelude.{ℕ, ◌+◌, [], ◌∷◌, ◌++◌, List, Bool, false, if◌then◌else◌, Option, Some, None, is_some}
use Rattle.std.specs.List.{list_any}
use Rattle.std.specs.Option.{option_or}
use Rattle.circuit_model.specs.declared.effects.Effects.{Effects as DeclaredEffects}
use Rattle.circuit_model.specs.declared.effects.Order.{Order as DeclaredOrder}
use Rattle.circuit_model.specs.declared.message.Message.{Message as DeclaredMessage}
use Rattle.circuit_model.specs.declared.places.StreamKey.{StreamKey as DeclaredKey}
use Rattle.circuit_model.specs.Events.{Event}

-- A relay message that is for this relay: a recognised relay cell of a fitting Length.
abbrev pub Message : Type 0
Message = DeclaredMessage

-- The name of a stream at the edge: its StreamID and the serial of its place.
abbrev pub StreamKey : Type 0
StreamKey = DeclaredKey

-- What the edge is to do: make a connection, write bytes to it, close it with a reason.
abbrev pub Order : Type 0
Order = DeclaredOrder

-- What an event has the relay do.
abbrev pub Effects : Type 0
Effects = DeclaredEffects

pub record Entry : Type 0 where
  pub event : Event
  pub message : Option Message
  pub effects : Effects

abbrev pub Log : Type 0
Log = List Entry

abbrev pub no_effects : Effects
no_effects = record { back = None; forth = None; edge = None; dial = None; cut = false; close = None }

abbrev pub closing : ℕ → Effects
closing reason = record no_effects { close = Some reason }

abbrev pub ordering : Order → Effects
ordering order = record no_effects { edge = Some order }

-- How many entries pass the test.
abbrev pub count_of : (Entry → Bool) → Log → ℕ
count_of test [] = 0
count_of test (entry ∷ log) = if test entry then count_of test log + 1 else count_of test log

-- The answer of the newest entry that has one.
abbrev pub newest : {A : Type 0} → (Entry → Option A) → Log → Option A
newest answer [] = None
newest answer (entry ∷ log) = option_or (answer entry) (newest answer log)

-- A list with one more at its end, if there is one.
abbrev pub pushed : {A : Type 0} → List A → Option A → List A
pushed xs None = xs
pushed xs (Some x) = xs ++ x ∷ []

-- All answers, oldest first.
abbrev pub collected : {A : Type 0} → (Entry → Option A) → Log → List A
collected answer [] = []
collected answer (entry ∷ log) = pushed (collected answer log) (answer entry)

-- Whether the circuit has closed.
abbrev pub is_closed : Log → Bool
is_closed log = list_any (λ entry. is_some entry.effects.close) log
