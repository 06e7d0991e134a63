use Rattle.std.proofs.Common.{◌≡◌, false, is_some, option_map, sym, ap, ◌∙◌, arith}
use Rattle.toml.specs.View.{view}
use Rattle.tor_settings.specs.Addresses.{allow_of_line}
use Rattle.tor_settings.specs.Values.{allow_of}
use Rattle.tor_settings.proofs.Tables.{all_fails}
use Rattle.tor_settings.proofs.lines.allow_of_lines.Goals as goal

pub returns-in-None-clause-none : goal.returns-in-None-clause-none
returns-in-None-clause-none c =
    let fails : is_some (allow_of_line (view c.line-item.result)) ≡ false =
    ap is_some (sym c.in_ok-allowed_name.ensures ∙ ap (option_map allow_of) c.in-None.is) in
    all_fails (λ line. is_some (allow_of_line line)) c.args.lines.now c.loop-line.line-index c.line-item.result
    (omega arith) c.line-item.is fails
