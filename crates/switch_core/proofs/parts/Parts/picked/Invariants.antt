use Rattle.std.proofs.Common.{◌≡◌, max}
use Rattle.switch_model.specs.Waiting.Counts.{least_of}
use Rattle.switch_machine.specs.Calls.NextCell.{cell_count_in, waiting_before}
use Rattle.switch_core.specs.Picking.{Picks}
use Rattle.switch_core.proofs.parts.Parts.picked.Given as goal

abbrev pub invariant-loop-number : goal.invariant-loop-number
invariant-loop-number l =
    (l.now ≡ max l.self.tick l.new_tick)
    × Picks l.self l.new_tick l.number l.least
    (least_of (cell_count_in l.self l.new_tick) (waiting_before l.self l.chan.0 l.number))
