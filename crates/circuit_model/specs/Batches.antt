-- A worker's batches: the cipher's state that a log gives, and what comes of bodies one after another (tor-spec,
-- "Routing relay cells").
use Rattle.std.specs.Prelude.{ℕ, ◌*◌, List, [], ◌∷◌}
use Rattle.crypto_spec.specs.HopLayer.{OpeningLayer, OpenedBody, opened}
use Rattle.circuit_model.specs.Events.{CircuitCell, Event}
use Rattle.circuit_model.specs.declared.event.Event.TheVariants.{Forward}
use Rattle.circuit_model.specs.Log.{Log}
use Rattle.circuit_model.specs.Opened.{born_keys, forward_count, recognised_bodies}
use Rattle.circuit_model.specs.Rules.{Rules}
use Rattle.circuit_model.specs.Words.{log}

-- A cell from the client as an event.
abbrev pub forward_of : CircuitCell → Event
forward_of cell = Forward cell.command cell.body

-- The events with all of some cells behind them.
abbrev pub events_behind : List Event → List CircuitCell → List Event
events_behind events [] = events
events_behind events (cell ∷ cells) = events_behind (forward_of cell ∷ events) cells

abbrev pub body_of : CircuitCell → List ℕ
body_of cell = cell.body

-- The layer with which the next forward body is opened.
abbrev pub next_layer : Log → OpeningLayer
next_layer log = record {
  key = (born_keys log).kf;
  seed = (born_keys log).df;
  position = 509 * forward_count log;
  absorbed = recognised_bodies log;
}

-- What comes out of each cell's body, by the log behind the cells before it.
abbrev pub opened_each : Rules → List Event → List CircuitCell → List OpenedBody
opened_each rules events [] = []
opened_each rules events (cell ∷ cells) =
    opened (next_layer (log rules events)) cell.body ∷ opened_each rules (forward_of cell ∷ events) cells
