use Rattle.std.proofs.Common.{◌≡◌, true, false, sym, arith}
use Rattle.toml.specs.View.{view}
use Rattle.tor_settings.specs.Numbers.{has_port_in_range}
use Rattle.tor_settings.proofs.Tables.{all_fails, all_more}
use Rattle.tor_settings.proofs.numbers.have_ports_in_range.Goals as goal

pub loop-line-preserved : goal.loop-line-preserved
loop-line-preserved c =
    let passes : has_port_in_range (view c.line-item.result) ≡ true = cc in
    all_more has_port_in_range c.args.lines.now c.loop-line.line-index c.line-item.result (omega arith) c.line-item.is
    c.loop-line.invariant passes

pub returns-then-not-has_port_in_range : goal.returns-then-not-has_port_in_range
returns-then-not-has_port_in_range c =
    let fails : has_port_in_range (view c.line-item.result) ≡ false = cc in
    sym (all_fails has_port_in_range c.args.lines.now c.loop-line.line-index c.line-item.result (omega arith) c.line-item.is
    fails)
