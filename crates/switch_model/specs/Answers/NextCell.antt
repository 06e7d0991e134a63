-- The cell that a channel sends next.
use Rattle.std.specs.Prelude.{ℕ, ◌≡◌, not, List, [], ◌∷◌, if◌then◌else◌, Option, Some, None}
use Rattle.cell_codec.specs.declared.cell.Body.TheVariants.{Fixed}
use Rattle.cell_codec.specs.declared.cell.Cell.{Cell}
use Rattle.circuit_model.specs.Events.{CircuitCell}
use Rattle.circuit_model.specs.Rules.{Rules}
use Rattle.circuit_model.specs.Sent.{destroy}
use Rattle.tr_io.specs.declared.step.Step.{Step}
use Rattle.switch_model.specs.Names.{Leg}
use Rattle.switch_model.specs.History.Channels.{is_live_channel}
use Rattle.switch_model.specs.History.Legs.{Port, port}
use Rattle.switch_model.specs.Waiting.Queues.{queue}
use Rattle.switch_model.specs.Waiting.Lanes.{Destroy, lane}
use Rattle.switch_model.specs.Waiting.Counts.{pick}

-- A cell with this CircID.
abbrev pub cell_at : ℕ → CircuitCell → Cell
cell_at id cell = record { circ = id; command = cell.command; body = Fixed cell.body }

-- The first cell of a queue, with this CircID.
abbrev pub first_of_queue : ℕ → List CircuitCell → Option Cell
first_of_queue id (cell ∷ cells) = Some (cell_at id cell)
first_of_queue id [] = None

-- The same at a port.
abbrev pub first_queued : Option Port → List CircuitCell → Option Cell
first_queued (Some place) cells = first_of_queue place.id cells
first_queued None cells = None

-- The same of the leg that was picked.
abbrev pub first_of : Rules → List Step → Option Leg → Option Cell
first_of rules h (Some leg) = first_queued (port h leg.circ leg.number) (queue rules h leg.circ leg.number)
first_of rules h None = None

-- The oldest DESTROY of the lane goes first, then the first cell of the leg that is picked.
abbrev pub destroy_or : List Destroy → Option Cell → Option Cell
destroy_or (d ∷ lane) cell = Some (cell_at d.id (destroy d.reason))
destroy_or [] cell = cell

-- The cell that leaves on a channel where this tick is given.
abbrev pub next_cell_answer : Rules → List Step → ℕ → ℕ → Option Cell
next_cell_answer rules h chan tick =
    if not (is_live_channel h chan) then None
    else destroy_or (lane rules h chan) (first_of rules h (pick rules h chan tick))

-- A cell is the DESTROY at the head of a channel's lane.
pub record IsOldestDestroy (rules : Rules) (h : List Step) (chan : ℕ) (cell : Cell) : Type 0 where
  pub oldest : Destroy
  pub later : List Destroy
  pub lane_is : lane rules h chan ≡ oldest ∷ later
  pub cell_is : cell ≡ cell_at oldest.id (destroy oldest.reason)
