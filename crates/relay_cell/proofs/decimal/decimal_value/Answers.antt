use Rattle.tor_spec.proofs.Texts.{value_more}
use Rattle.relay_cell.proofs.decimal.decimal_value.Goals as goal

pub loop-digit-preserved : goal.loop-digit-preserved
loop-digit-preserved c =
    value_more c.args.digits.now c.loop-digit.digit-index c.loop-digit.value c.from.result
    c.requires c.loop-digit-test.true c.from.ensures c.loop-digit.invariant
