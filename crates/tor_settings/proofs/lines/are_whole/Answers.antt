use Rattle.std.proofs.Common.{◌≡◌, true, false, sym, arith}
use Rattle.toml.specs.View.{view}
use Rattle.tor_settings.specs.Lines.{is_whole_line}
use Rattle.tor_settings.proofs.Tables.{all_fails, all_more}
use Rattle.tor_settings.proofs.lines.are_whole.Goals as goal

pub loop-line-preserved : goal.loop-line-preserved
loop-line-preserved c =
    let passes : is_whole_line (view c.line-item.result) ≡ true = cc in
    all_more is_whole_line c.args.lines.now c.loop-line.line-index c.line-item.result (omega arith) c.line-item.is
    c.loop-line.invariant passes

pub returns-then-not-is_whole_line : goal.returns-then-not-is_whole_line
returns-then-not-is_whole_line c =
    let fails : is_whole_line (view c.line-item.result) ≡ false = cc in
    sym (all_fails is_whole_line c.args.lines.now c.loop-line.line-index c.line-item.result (omega arith) c.line-item.is fails)
