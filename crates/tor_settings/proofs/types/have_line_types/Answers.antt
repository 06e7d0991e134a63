use Rattle.std.proofs.Common.{◌≡◌, true, false, sym, arith}
use Rattle.toml.specs.View.{view}
use Rattle.tor_settings.specs.Types.{has_line_types}
use Rattle.tor_settings.proofs.Tables.{all_fails, all_more}
use Rattle.tor_settings.proofs.types.have_line_types.Goals as goal

pub loop-line-preserved : goal.loop-line-preserved
loop-line-preserved c =
    let passes : has_line_types (view c.line-item.result) ≡ true = cc in
    all_more has_line_types c.args.lines.now c.loop-line.line-index c.line-item.result (omega arith) c.line-item.is
    c.loop-line.invariant passes

pub returns-then-not-has_line_types : goal.returns-then-not-has_line_types
returns-then-not-has_line_types c =
    let fails : has_line_types (view c.line-item.result) ≡ false = cc in
    sym (all_fails has_line_types c.args.lines.now c.loop-line.line-index c.line-item.result (omega arith) c.line-item.is fails)
