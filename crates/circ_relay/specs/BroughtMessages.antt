-- A relay message in the program, by the event that brings it.
use Rattle.std.specs.Prelude.{◌≡◌, ◌==◌, ◌&&◌, ◌∷◌, ℕ, List, false, nat_le}
use Rattle.tor_spec.specs.CellCommands.{relay_early_command}
use Rattle.relay_cell.specs.declared.head.Opened.{Opened}
use Rattle.circuit_model.specs.declared.event.Event.TheVariants.{Forward}
use Rattle.circuit_model.specs.Rules.{Rules}
use Rattle.circuit_model.specs.Log.{Log, Message as ModelMessage, is_closed}
use Rattle.circuit_model.specs.Received.{received, relay_early_limit, early_count}
use Rattle.circuit_model.specs.declared.message.Received.TheVariants.{ForUs}
use Rattle.circuit_model.specs.Words.{entry_after}
use Rattle.circ_relay.specs.declared.message.Message.{Message}
use Rattle.circ_relay.specs.OpenedBodies.{IsOpened}
use Rattle.circ_relay.specs.PlacesOfLog.{AreNamed}

-- The message `m` is the one that a relay cell with this command and this body brings behind the log.
pub record IsBrought (message : Message) (log : Log) (command : ℕ) (body : List ℕ) (m : ModelMessage) : Type 0 where
  pub unclosed : is_closed log ≡ false
  pub named : AreNamed log
  pub received : received log command body ≡ ForUs m
  pub relay_command : message.command ≡ m.command
  pub stream : message.stream ≡ m.stream
  pub payload : message.payload.now ≡ m.payload
  pub digest : message.digest ≡ m.digest
  pub early : message.is_early ≡ m.early

-- An opened relay cell is the next behind the log, which has not closed, and is no RELAY_EARLY too many.
pub record IsNextCell (opened : Opened) (log : Log) (command : ℕ) (body : List ℕ) : Type 0 where
  pub unclosed : is_closed log ≡ false
  pub named : AreNamed log
  pub opens : IsOpened opened log body
  pub few : ((command == relay_early_command) && nat_le relay_early_limit (early_count log)) ≡ false

-- The log with a relay cell from the client's side.
abbrev pub after_cell : Rules → Log → ℕ → List ℕ → Log
after_cell rules log command body = entry_after rules log (Forward command body) ∷ log
