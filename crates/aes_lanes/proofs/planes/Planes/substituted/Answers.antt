use Rattle.aes_lanes.proofs.Circuit.{run, substituted_bit0, substituted_bit1, substituted_bit2, substituted_bit3, substituted_bit4, substituted_bit5, substituted_bit6, substituted_bit7}
use Rattle.aes_lanes.proofs.Eight.{below_eight}
use Rattle.aes_lanes.proofs.planes.Planes.substituted.Goals as goal

pub returns : goal.returns
unfolding run
returns c = λ i b v h l s e.
    let x = c.args.self in
    record {
      bits = below_eight _
          (substituted_bit0 x i b v s e)
          (substituted_bit1 x i b v s e)
          (substituted_bit2 x i b v s e)
          (substituted_bit3 x i b v s e)
          (substituted_bit4 x i b v s e)
          (substituted_bit5 x i b v s e)
          (substituted_bit6 x i b v s e)
          (substituted_bit7 x i b v s e);
    }
