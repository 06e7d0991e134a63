use Rattle.std.proofs.Common.{◌≡◌, true, false, sym, ap, not, arith}
use Rattle.toml.specs.View.{view}
use Rattle.tor_settings.specs.Lines.{are_alike, name_of}
use Rattle.tor_settings.proofs.Tables.{all_fails, all_more}
use Rattle.tor_settings.proofs.lines.have_other_names.Goals as goal

pub loop-other-preserved : goal.loop-other-preserved
loop-other-preserved c =
    let other : are_alike (name_of (view c.args.line.now)) (name_of (view c.other-item.result)) ≡ false = cc in
    let passes : not (are_alike (name_of (view c.args.line.now)) (name_of (view c.other-item.result))) ≡ true = ap not other in
    all_more (λ other. not (are_alike (name_of (view c.args.line.now)) (name_of other))) c.args.more.now c.loop-other.other-index
    c.other-item.result (omega arith) c.other-item.is
    c.loop-other.invariant passes

pub returns-then-have_one_name : goal.returns-then-have_one_name
returns-then-have_one_name c =
    let same : are_alike (name_of (view c.args.line.now)) (name_of (view c.other-item.result)) ≡ true = cc in
    let fails : not (are_alike (name_of (view c.args.line.now)) (name_of (view c.other-item.result))) ≡ false = ap not same in
    sym (all_fails (λ other. not (are_alike (name_of (view c.args.line.now)) (name_of other))) c.args.more.now
    c.loop-other.other-index c.other-item.result (omega arith) c.other-item.is fails)
