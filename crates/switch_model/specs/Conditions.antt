-- The conditions of the calls: what each asks of its arguments. Whoever makes a call sees to them, so a
-- legal history has no step without them.
use Rattle.std.specs.Prelude.{ℕ, ◌≡◌, ◌≤◌, ◌<◌, ⊤, List, length, false, Option, IfSome, IsTrue}
use Rattle.cell_codec.specs.declared.cell.Cell.{Cell}
use Rattle.cell_codec.specs.Cells.{is_var, IsWellFormed}
use Rattle.kdf_tor.specs.declared.LayerKeys.{LayerKeys}
use Rattle.tor_spec.specs.CellCommands.{opens_circuit}
use Rattle.tr_io.specs.declared.step.EventStep.{EventStep}
use Rattle.tr_io.specs.declared.step.Step.{Step}
use Rattle.tr_io.specs.declared.step.Step.TheVariants.{OpenCircuit, Take, Claim, EdgeIn}
use Rattle.switch_model.specs.Limits.{worker_limit, data_limit}

-- The cell that answers an opening has a fixed length and, where the handshake gave keys, is CREATED_FAST
-- or CREATED2 (tor-spec, "CREATE and CREATED cells").
pub record IsReply (reply : Cell) (keys : Option LayerKeys) : Type 0 where
  pub fixed : is_var reply.body ≡ false
  pub command : IfSome keys (λ _. IsTrue (opens_circuit reply.command))

-- The bytes of one DATA: some, and no more than a relay cell has room for (tor-spec, "Relay cells").
pub record FitsData (bytes : List ℕ) : Type 0 where
  pub some : 1 ≤ length bytes
  pub room : length bytes ≤ data_limit

-- What the edge reports.
abbrev pub IsReport : EventStep → Type 0
IsReport (EventStep.Data octets) = FitsData octets.bytes.items
IsReport event = ⊤

-- The condition of a step's call. Calls that aren't named have none.
abbrev pub MeetsCondition : Step → Type 0
MeetsCondition (OpenCircuit chan id reply keys pad a) = IsReply reply keys
MeetsCondition (Take chan cell a) = IsWellFormed cell
MeetsCondition (Claim worker a) = worker < worker_limit
MeetsCondition (EdgeIn key event a) = IsReport event
MeetsCondition s = ⊤
