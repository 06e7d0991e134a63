-- The numbers of a document, as the program has them.
use Rattle.std.specs.Prelude.{◌≡◌, Some}
use Rattle.toml.specs.Data.{Members}
use Rattle.tor_settings.specs.Numbers.{accept_slots, accepts, circuit_window, dial_slots, edge_slots, sendme_least, workers}
use Rattle.tor_settings.specs.declared.number_values.Numbers.{Numbers}

pub record AreNumbers (members : Members) (n : Numbers) : Type 0 where
  pub accept_slots : accept_slots members ≡ Some n.accept_slots
  pub dial_slots : dial_slots members ≡ Some n.dial_slots
  pub edge_slots : edge_slots members ≡ Some n.edge_slots
  pub workers : workers members ≡ Some n.workers
  pub accepts : accepts members ≡ Some n.accepts
  pub window : circuit_window members ≡ Some n.circuit_window
  pub least : sendme_least members ≡ Some n.sendme_least
