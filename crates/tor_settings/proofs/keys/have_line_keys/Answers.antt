use Rattle.std.proofs.Common.{◌≡◌, true, false, sym, arith}
use Rattle.toml.specs.View.{view}
use Rattle.tor_settings.specs.Keys.{has_line_keys}
use Rattle.tor_settings.proofs.Tables.{all_fails, all_more}
use Rattle.tor_settings.proofs.keys.have_line_keys.Goals as goal

pub loop-line-preserved : goal.loop-line-preserved
loop-line-preserved c =
    let passes : has_line_keys (view c.line-item.result) ≡ true = cc in
    all_more has_line_keys c.args.lines.now c.loop-line.line-index c.line-item.result (omega arith) c.line-item.is
    c.loop-line.invariant passes

pub returns-then-not-has_line_keys : goal.returns-then-not-has_line_keys
returns-then-not-has_line_keys c =
    let fails : has_line_keys (view c.line-item.result) ≡ false = cc in
    sym (all_fails has_line_keys c.args.lines.now c.loop-line.line-index c.line-item.result (omega arith) c.line-item.is fails)
