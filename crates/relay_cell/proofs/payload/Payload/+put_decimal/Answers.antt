use Rattle.std.proofs.Common.{◌∙◌, ◌++◌, ◌∷◌, [], ◌+◌, ◌%◌, ◌/◌, ap, length, arith, length-append}
use Rattle.tor_spec.specs.Decimal.{decimal_digits}
use Rattle.tor_spec.proofs.Decimals.{last_digit, only_digit, length-decimal_step, length-decimal_digit}
use Rattle.relay_cell.proofs.payload.Payload.+put_decimal.Goals as goal
use Rattle.relay_cell.proofs.payload.Payload.+put_decimal.Goals.{then-n-ge10, else-n-ge10}

pub put_decimal-requires : goal.put_decimal-requires
put_decimal-requires t c =
    (omega arith, omega (arith, length-decimal_step c.args.n c.if-n-ge10.true c.ranges.n.fits))

pub put-requires : goal.put-requires
put-requires t c =
    elim c.if-n-ge10.branch [
      | then-n-ge10 w ↦
          omega (
            arith,
            ap length (w.self-is ∙ w.put_decimal.ensures),
            length-append c.args.self.now (decimal_digits (c.args.n / 10)),
            length-decimal_step c.args.n w.if-n-ge10.true c.ranges.n.fits,
          )
      | else-n-ge10 w ↦
          omega (arith, ap length w.self-is, length-decimal_digit c.args.n w.if-n-ge10.false)
    ]

pub returns : goal.returns
returns t c =
    c.put.ensures
    ∙ elim c.if-n-ge10.branch [
      | then-n-ge10 w ↦
          last_digit c.args.n c.args.self.now c.if-n-ge10.self w.if-n-ge10.true c.ranges.n.fits
          (w.self-is ∙ w.put_decimal.ensures)
      | else-n-ge10 w ↦
          ap (λ l. l ++ (48 + c.args.n % 10) ∷ []) w.self-is ∙ only_digit c.args.n c.args.self.now w.if-n-ge10.false
    ]
