-- Kind 0c, `dial_order`: it has no fields; how it is read, and its answer.
use Rattle.std.specs.Prelude.{ℕ, ◌++◌, List, [], ◌∷◌, Option, Some, None}
use Rattle.std.specs.Int.{w16, w64, to_be_bytes}
use Rattle.tr_io.specs.declared.dials.DialStep.{DialStep}
use Rattle.tr_io.specs.declared.names.ChanNo.{ChanNo}
use Rattle.tape.specs.declared.record.Record.TheVariants.{DialOrder}
use Rattle.tape.specs.Fronts.{FrontOf, record_and}

abbrev pub dial_order_spelling : List ℕ
dial_order_spelling = 12 ∷ []

abbrev pub dial_order_front : List ℕ → FrontOf
dial_order_front fields = record_and DialOrder fields

-- 00 where no live channel leads to the destination, or 01 and that channel (8 bytes).
abbrev pub over_bytes : Option ChanNo → List ℕ
over_bytes None = 0 ∷ []
over_bytes (Some chan) = 1 ∷ to_be_bytes w64 chan.0

-- 00 where no order waits, or 01, the order (8 bytes), its circuit (8), address (4) and port (2), and the channel.
abbrev pub dial_order_bytes : Option DialStep → List ℕ
dial_order_bytes None = 12 ∷ 0 ∷ []
dial_order_bytes (Some step) =
    12 ∷ 1
    ∷ (to_be_bytes w64 step.order
    ++ (to_be_bytes w64 step.circ.0 ++ (step.to.ip ++ (to_be_bytes w16 step.to.port ++ over_bytes step.over))))
