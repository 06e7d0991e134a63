-- How the records of a tape are read, by their kind.
use Rattle.std.specs.Prelude.{ℕ, List, [], ◌∷◌, Bool, ◌==◌, ◌||◌, ◌&&◌, nat_le, if◌then◌else◌}
use Rattle.tape.specs.Kinds.ChannelUp.{channel_up_front}
use Rattle.tape.specs.Kinds.OpenCircuit.{open_circuit_front, padded_circuit_front}
use Rattle.tape.specs.Kinds.Take.{take_front}
use Rattle.tape.specs.Kinds.Claim.{claim_front}
use Rattle.tape.specs.Kinds.Return.{return_front}
use Rattle.tape.specs.Kinds.NextCell.{next_cell_front}
use Rattle.tape.specs.Kinds.DialOrder.{dial_order_front}
use Rattle.tape.specs.Kinds.TearDown.{tear_down_front}
use Rattle.tape.specs.declared.record.Record.TheVariants.{GiveBack, Abandon}
use Rattle.tape.specs.Fronts.{FrontOf, less, no_record, unbuilt}

-- 02, 09 to 0b, and 0d.
abbrev pub is_unbuilt : ℕ → Bool
is_unbuilt kind = (kind == 2) || ((nat_le 9 kind && nat_le kind 11) || (kind == 13))

unfoldable pub front_of : List ℕ → FrontOf
front_of [] = less
front_of (kind ∷ fields) =
    if kind == 1 then channel_up_front fields
    else (if kind == 3 then open_circuit_front fields
    else (if kind == 4 then take_front fields
    else (if kind == 5 then claim_front fields
    else (if kind == 6 then return_front GiveBack fields
    else (if kind == 7 then return_front Abandon fields
    else (if kind == 8 then next_cell_front fields
    else (if kind == 12 then dial_order_front fields
    else (if kind == 14 then tear_down_front fields
    else (if kind == 15 then padded_circuit_front fields
    else (if is_unbuilt kind then unbuilt kind else no_record))))))))))
