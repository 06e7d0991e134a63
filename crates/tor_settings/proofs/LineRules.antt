-- Lines that are whole, with ports in their range, have a name.
use Rattle.std.proofs.Common.{◌≡◌, ℕ, Bool, true, false, ◌&&◌, List, [], ◌∷◌, map, Option, Some, None, is_some, option_map, codes, refl, ap, ◌∙◌}
use Rattle.std.specs.Prelude.{option_and_then}
use Rattle.std.specs.List.{list_all}
use Rattle.toml.specs.Data.{Data, get}
use Rattle.tor_spec.specs.Begin.{Target}
use Rattle.tor_spec.specs.Extend.{Address}
use Rattle.tor_spec.proofs.Texts.{and_true}
use Rattle.circuit_model.specs.Rules.{Allow}
use Rattle.tor_settings.specs.Addresses.{allow_of_line, address_to}
use Rattle.tor_settings.specs.Lines.{is_name, is_whole_line, name_of, text_at}
use Rattle.tor_settings.specs.Numbers.{has_port_in_range, number_within, port_is_in_range, port_of, port_within}

-- the name of these parts, and what it allows
abbrev named : Option (List ℕ) → Option ℕ → Option Target
named host port = option_and_then (λ h. option_map (λ p. record { host = h; port = p }) port) host

abbrev allowed : Option Target → Option Address → Option Allow
allowed name to = option_and_then (λ n. option_map (λ a. record { host = n.host; port = n.port; to = a }) to) name

with_port : (host : List ℕ) (port : Option ℕ) (to : Option Address) → is_some port ≡ true
    → is_some (allowed (named (Some host) port) to) ≡ is_some to
with_port host (Some p) (Some a) there = refl
with_port host (Some p) None there = refl
with_port host None to there = cc

with_name : (host : Option (List ℕ)) (port : Option Data) (rest : Bool) (to : Option Address) → port_is_in_range port ≡ true
    → is_name host && is_some port && rest ≡ true → is_some (allowed (named host (port_within port)) to) ≡ is_some to
with_name (Some host) (Some d) rest to within whole = with_port host (number_within 1 65535 d) to within
with_name (Some host) None rest to within whole =
    let parts = and_true (is_name (Some host) && false) rest whole in
    let none : false ≡ true = (and_true (is_name (Some host)) false parts.0).1 in cc
with_name None port rest to within whole =
    let parts = and_true (false && is_some port) rest whole in
    let none : false ≡ true = (and_true false (is_some port) parts.0).0 in cc

line_agrees : (line : Data) → has_port_in_range line ≡ true → is_whole_line line ≡ true
    → is_some (allow_of_line line) ≡ is_some (address_to line)
unfolding has_port_in_range is_whole_line allow_of_line name_of port_of
line_agrees line within whole =
    with_name (text_at (codes "host") line) (get (codes "port") line) (is_some (get (codes "to") line)) (address_to line) within whole

pub lines_agree : (ds : List Data) → list_all has_port_in_range ds ≡ true → list_all is_whole_line ds ≡ true
    → list_all (λ d. is_some (allow_of_line d)) ds ≡ list_all (λ d. is_some (address_to d)) ds
lines_agree [] within whole = refl
lines_agree (d ∷ ds) within whole =
    let ports = and_true (has_port_in_range d) (list_all has_port_in_range ds) within in
    let names = and_true (is_whole_line d) (list_all is_whole_line ds) whole in
    ap (λ b. b && list_all (λ e. is_some (allow_of_line e)) ds) (line_agrees d ports.0 names.0)
    ∙ ap (λ b. is_some (address_to d) && b) (lines_agree ds ports.1 names.1)

pub all_allowed : (ds : List Data) (allow : List Allow) → map allow_of_line ds ≡ map Some allow
    → list_all (λ d. is_some (allow_of_line d)) ds ≡ true
all_allowed [] allow same = refl
all_allowed (d ∷ ds) [] same = cc
all_allowed (d ∷ ds) (a ∷ allow) same =
    let here : allow_of_line d ≡ Some a = cc in
    let more : map allow_of_line ds ≡ map Some allow = cc in
    rw (here, all_allowed ds allow more)
