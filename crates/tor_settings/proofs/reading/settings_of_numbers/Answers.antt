use Rattle.std.proofs.Common.{◌≡◌, true, false, map, Some, is_some, sym, arith}
use Rattle.std.specs.List.{list_all}
use Rattle.toml.specs.View.{table_view, view}
use Rattle.tor_settings.specs.Addresses.{allow_of_line}
use Rattle.tor_settings.specs.Lines.{have_distinct_names, is_whole_line}
use Rattle.tor_settings.specs.Values.{address_of, allow_of}
use Rattle.tor_settings.proofs.LineRules.{all_allowed}
use Rattle.tor_settings.proofs.RuleOrder.{later}
use Rattle.tor_settings.proofs.reading.settings_of_numbers.Goals as goal

pub returns-in-Some-allow_list-clause-kept : goal.returns-in-Some-allow_list-clause-kept
returns-in-Some-allow_list-clause-kept c =
    let whole : list_all is_whole_line (map view c.lines-lines.result.now) ≡ true = cc in
    let distinct : have_distinct_names (map view c.lines-lines.result.now) ≡ true = cc in
    let same : map allow_of_line (map view c.lines-lines.result.now) ≡ map Some (map allow_of c.in-Some-allow_list.allow.items) =
    rw c.in-Some-allow_list.is at c.in-Ok.ensures.some in
    later (table_view c.args.table.now) c.lines-lines.result.now c.args.numbers.now.accept_slots c.args.numbers.now.dial_slots
    (address_of c.in-Some.listen) true c.lines-lines.ensures c.requires.numbers.accept_slots c.requires.numbers.dial_slots
    (omega arith) (omega arith) whole distinct (sym c.in-Some.ensures) c.requires.ports
    (all_allowed (map view c.lines-lines.result.now) (map allow_of c.in-Some-allow_list.allow.items) same)

pub returns-in-None-clause-err : goal.returns-in-None-clause-err
returns-in-None-clause-err c =
    let whole : list_all is_whole_line (map view c.lines-lines.result.now) ≡ true = cc in
    let distinct : have_distinct_names (map view c.lines-lines.result.now) ≡ true = cc in
    let all : list_all (λ line. is_some (allow_of_line line)) (map view c.lines-lines.result.now) ≡ false =
    rw c.in-None.is at c.in-Ok.ensures.none in
    later (table_view c.args.table.now) c.lines-lines.result.now c.args.numbers.now.accept_slots c.args.numbers.now.dial_slots
    (address_of c.in-Some.listen) false c.lines-lines.ensures c.requires.numbers.accept_slots c.requires.numbers.dial_slots
    (omega arith) (omega arith) whole distinct (sym c.in-Some.ensures) c.requires.ports all
