use Rattle.aes_block.proofs.Words.{columns-xor}
use Rattle.aes_block.proofs.state.State.add_round_key.Goals as goal

pub returns : goal.returns
returns c =
    let s = c.args.self in
    let k = c.args.key in
    columns-xor s.first s.second s.third s.fourth k.first k.second k.third k.fourth
