-- A DESTROY as a cell (tor-spec, "Tearing down circuits"): its payload begins with the reason.
use Rattle.std.specs.Prelude.{◌∷◌, replicate}
use Rattle.cell_codec.specs.declared.cell.Body.TheVariants.{Fixed}
use Rattle.cell_codec.specs.declared.cell.Cell.{Cell}
use Rattle.tor_spec.specs.CellCommands.{destroy_command}
use Rattle.out_lanes.specs.declared.destroy.Destroy.{Destroy}

abbrev pub destroy_cell : Destroy → Cell
destroy_cell d = record { circ = d.id; command = destroy_command; body = Fixed (d.reason ∷ replicate 508 0) }
