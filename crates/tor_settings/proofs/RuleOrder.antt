-- Which rule is the first that is broken.
use Rattle.std.proofs.Common.{◌≡◌, ◌≤◌, ℕ, ◌+◌, Bool, true, false, cond, List, [], ◌∷◌, length, map, Some, None, is_some, refl, ap, sym, ◌∙◌, arith, le-leb}
use Rattle.std.proofs.lemmas.List.{length-map}
use Rattle.std.specs.List.{list_all}
use Rattle.toml.specs.Data.{Members}
use Rattle.toml.specs.View.{view}
use Rattle.toml.specs.declared.value.Value.{Value}
use Rattle.tor_spec.specs.Extend.{Address}
use Rattle.tor_settings.specs.Addresses.{allow_of_line, address_to, has_addresses, listen_address}
use Rattle.tor_settings.specs.Keys.{lines}
use Rattle.tor_settings.specs.Lines.{has_distinct_names, has_few_lines, has_whole_lines, have_distinct_names, is_whole_line}
use Rattle.tor_settings.specs.NumberValues.{AreNumbers}
use Rattle.tor_settings.specs.Numbers.{accept_slots, dial_slots, has_few_slots, has_numbers_in_range, has_port_in_range, settings_are_in_range}
use Rattle.tor_settings.specs.Rules.{first_broken, later_rules}
use Rattle.tor_settings.specs.declared.number_values.Numbers.{Numbers}
use Rattle.tor_settings.proofs.LineRules.{lines_agree}

pub numbers_in_range : (ms : Members) (n : Numbers) → AreNumbers ms n → list_all has_port_in_range (lines ms) ≡ true
    → has_numbers_in_range ms ≡ true
unfolding has_numbers_in_range settings_are_in_range
numbers_in_range ms n are ports =
    rw (are.accept_slots, are.dial_slots, are.edge_slots, are.workers, are.accepts, are.window, are.least, ports)

few_slots : (ms : Members) (a d : ℕ) → accept_slots ms ≡ Some a → dial_slots ms ≡ Some d → a + d ≤ 64 → has_few_slots ms ≡ true
unfolding has_few_slots
few_slots ms a d accepting dialling few = rw (accepting, dialling) (le-leb (a + d) 64 few)

few_lines : (ms : Members) (vs : List Value) → map view vs ≡ lines ms → length vs ≤ 1000 → has_few_lines ms ≡ true
unfolding has_few_lines
few_lines ms vs are few =
    let same : length (lines ms) ≡ length vs = ap length (sym are) ∙ length-map vs view in
    le-leb (length (lines ms)) 1000 (omega arith)

whole_lines : (ms : Members) (vs : List Value) → map view vs ≡ lines ms → list_all is_whole_line (map view vs) ≡ true
    → has_whole_lines ms ≡ true
unfolding has_whole_lines
whole_lines ms vs are whole = ap (list_all is_whole_line) (sym are) ∙ whole

distinct_names : (ms : Members) (vs : List Value) → map view vs ≡ lines ms → have_distinct_names (map view vs) ≡ true
    → has_distinct_names ms ≡ true
unfolding has_distinct_names
distinct_names ms vs are distinct = ap have_distinct_names (sym are) ∙ distinct

addresses : (ms : Members) (vs : List Value) (to : Address) (b : Bool) → map view vs ≡ lines ms → listen_address ms ≡ Some to
    → list_all has_port_in_range (lines ms) ≡ true → list_all is_whole_line (map view vs) ≡ true
    → list_all (λ line. is_some (allow_of_line line)) (map view vs) ≡ b → has_addresses ms ≡ b
unfolding has_addresses
addresses ms vs to b are listening ports whole all =
    let agree : list_all (λ line. is_some (address_to line)) (lines ms) ≡ b =
    sym (lines_agree (lines ms) ports (ap (list_all is_whole_line) (sym are) ∙ whole))
    ∙ ap (list_all (λ line. is_some (allow_of_line line))) (sym are) ∙ all in
    rw (listening, agree)

last : (b : Bool) → first_broken 11 (b ∷ []) ≡ cond b None (Some 11)
last true = refl
last false = refl

-- the rules from 7 on, where all but the last is kept
pub later : (ms : Members) (vs : List Value) (a d : ℕ) (to : Address) (b : Bool)
    → map view vs ≡ lines ms → accept_slots ms ≡ Some a → dial_slots ms ≡ Some d → a + d ≤ 64 → length vs ≤ 1000
    → list_all is_whole_line (map view vs) ≡ true → have_distinct_names (map view vs) ≡ true
    → listen_address ms ≡ Some to → list_all has_port_in_range (lines ms) ≡ true
    → list_all (λ line. is_some (allow_of_line line)) (map view vs) ≡ b
    → first_broken 7 (later_rules ms) ≡ cond b None (Some 11)
later ms vs a d to b are accepting dialling few short whole distinct listening ports all =
    rw (
      few_slots ms a d accepting dialling few,
      few_lines ms vs are short,
      whole_lines ms vs are whole,
      distinct_names ms vs are distinct,
      addresses ms vs to b are listening ports whole all,
    ) (last b)
