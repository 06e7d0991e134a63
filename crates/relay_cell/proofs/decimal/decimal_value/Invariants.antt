use Rattle.tor_spec.proofs.Texts.{IsValueSoFar}
use Rattle.relay_cell.proofs.decimal.decimal_value.Given as goal

abbrev pub invariant-loop-digit : goal.invariant-loop-digit
invariant-loop-digit l = IsValueSoFar l.digits l.digit-index l.value
