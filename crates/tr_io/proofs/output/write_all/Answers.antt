use Rattle.std.proofs.Common.{◌≡◌, ◌-◌, ◌+◌, ◌∙◌, ap, length, length-drop, arith}
use Rattle.tr_io.proofs.OutputLaws.{write_more, left_more}
use Rattle.tr_io.proofs.output.write_all.Goals as goal

pub loop-rest_bytes-preserved : goal.loop-rest_bytes-preserved
loop-rest_bytes-preserved g c =
    let size : length c.loop-rest_bytes.rest_bytes.now ≡ length c.args.piece.now - c.loop-rest_bytes.invariant.count =
    ap length c.loop-rest_bytes.invariant.rest ∙ length-drop c.loop-rest_bytes.invariant.count c.args.piece.now in
    record {
      count = c.loop-rest_bytes.invariant.count + c.in-Took.count;
      within = omega (arith, size, c.in-Took.ensures.within.0, c.loop-rest_bytes.invariant.within);
      rest = left_more _ _ _ _ c.loop-rest_bytes.invariant.rest;
      written =
          write_more _ _ _ _ _ _ _ c.loop-rest_bytes.invariant.rest c.loop-rest_bytes.invariant.written c.in-Took.ensures.bytes;
      counted = omega (arith, c.loop-rest_bytes.invariant.counted, c.in-Took.ensures.counted);
    }
