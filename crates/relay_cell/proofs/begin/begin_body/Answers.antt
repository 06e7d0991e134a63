use Rattle.std.proofs.Common.{arith, length-append}
use Rattle.tor_spec.proofs.Decimals.{port_digits_short}
use Rattle.relay_cell.proofs.begin.begin_body.Goals as goal

pub put_decimal-requires : goal.put_decimal-requires
put_decimal-requires c =
    let short = port_digits_short c.args.port c.ranges.port.fits in
    rw (c.put-2.ensures, c.put.ensures, c.new-payload.ensures) (simp length-append (omega (arith, short)))

pub put-requires-3 : goal.put-requires-3
put-requires-3 c =
    let short = port_digits_short c.args.port c.ranges.port.fits in
    rw (c.put_decimal.ensures, c.put-2.ensures, c.put.ensures, c.new-payload.ensures) (simp length-append (omega (arith, short)))

pub write_body-requires : goal.write_body-requires
write_body-requires c =
    let short = port_digits_short c.args.port c.ranges.port.fits in
    rw (c.as_slice.ensures, c.put-3.ensures, c.put_decimal.ensures, c.put-2.ensures, c.put.ensures, c.new-payload.ensures)
    (simp length-append (omega (arith, short)))
