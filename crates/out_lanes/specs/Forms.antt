-- Every cell that waits is well formed.
use Rattle.std.specs.Prelude.{◌≡◌, List, [], ◌∷◌, Some}
use Rattle.std.specs.Map.{lookup}
use Rattle.cell_codec.specs.Cells.{IsWellFormed}
use Rattle.cell_codec.specs.Roomy.{Roomy}
use Rattle.cell_codec.specs.declared.cell.Cell.{Cell}
use Rattle.hashed_maps.specs.Pairs.{pair_eq}
use Rattle.out_lanes.specs.Waiting.{LegName}

abbrev pub EachWellFormed : List Cell → Type 0
EachWellFormed [] = Unit {0}
EachWellFormed (cell ∷ cells) = IsWellFormed cell × EachWellFormed cells

abbrev pub AreWellFormed : List (LegName × Roomy Cell) → Type 0
AreWellFormed queues =
    (leg : LegName) (queue : Roomy Cell) → lookup (pair_eq leg) queues ≡ Some queue → EachWellFormed queue.items
