use Rattle.std.proofs.Common.{[], get_or, lit<}
use Rattle.aes_lanes.specs.Sliced.{IsState}
use Rattle.aes_lanes.proofs.BlockRows.{row_sliced}
use Rattle.aes_lanes.proofs.Eight.{below_eight}
use Rattle.aes_lanes.proofs.rows.sliced.Goals as goal

pub returns : goal.returns
returns c =
    let x = c.transposed.result in
    below_eight (λ b. IsState x b (get_or c.args.blocks.now b []))
    (row_sliced x c.row.result _ 0 c.row.ensures (λ l p v h m bit. c.transposed.ensures l 0 p v h (lit< tt) m bit))
    (row_sliced x c.row-2.result _ 1 c.row-2.ensures (λ l p v h m bit. c.transposed.ensures l 1 p v h (lit< tt) m bit))
    (row_sliced x c.row-3.result _ 2 c.row-3.ensures (λ l p v h m bit. c.transposed.ensures l 2 p v h (lit< tt) m bit))
    (row_sliced x c.row-4.result _ 3 c.row-4.ensures (λ l p v h m bit. c.transposed.ensures l 3 p v h (lit< tt) m bit))
    (row_sliced x c.row-5.result _ 4 c.row-5.ensures (λ l p v h m bit. c.transposed.ensures l 4 p v h (lit< tt) m bit))
    (row_sliced x c.row-6.result _ 5 c.row-6.ensures (λ l p v h m bit. c.transposed.ensures l 5 p v h (lit< tt) m bit))
    (row_sliced x c.row-7.result _ 6 c.row-7.ensures (λ l p v h m bit. c.transposed.ensures l 6 p v h (lit< tt) m bit))
    (row_sliced x c.row-8.result _ 7 c.row-8.ensures (λ l p v h m bit. c.transposed.ensures l 7 p v h (lit< tt) m bit))
