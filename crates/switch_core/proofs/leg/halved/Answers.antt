use Rattle.std.proofs.Common.{◌<◌, ◌≤◌, ◌^◌, sym, arith}
use Rattle.std.proofs.Math.Nat.{div-eq_of_lt}
use Rattle.std.proofs.Math.Pow.{pow_mono}
use Rattle.switch_core.proofs.leg.halved.Goals as goal

pub returns-else-ticks-lt64 : goal.returns-else-ticks-lt64
returns-else-ticks-lt64 c =
    let wide : 2 ^ 64 ≤ 2 ^ c.args.ticks = pow_mono c.if-ticks-lt64.false in
    let small : c.args.count < 2 ^ c.args.ticks = omega (arith, wide, c.ranges.count.fits) in
    sym (div-eq_of_lt small)
