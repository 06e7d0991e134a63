-- Which rule a document breaks first.
use Rattle.std.specs.Prelude.{ℕ, ◌+◌, [], ◌∷◌, List, Bool, false, true, Option, None, Some}
use Rattle.toml.specs.Data.{Members}
use Rattle.tor_settings.specs.Addresses.{has_addresses}
use Rattle.tor_settings.specs.Keys.{has_known_keys, has_listen}
use Rattle.tor_settings.specs.Lines.{has_distinct_names, has_few_lines, has_whole_lines}
use Rattle.tor_settings.specs.Numbers.{has_few_slots, has_numbers_in_range}
use Rattle.tor_settings.specs.Types.{has_types}

-- The number of the first rule that isn't kept, where the list tells it of each from this number on.
abbrev pub first_broken : ℕ → List Bool → Option ℕ
first_broken rule [] = None
first_broken rule (true ∷ more) = first_broken (rule + 1) more
first_broken rule (false ∷ more) = Some rule

-- Whether each rule from 7 on is kept.
abbrev pub later_rules : Members → List Bool
later_rules members =
    has_few_slots members ∷ has_few_lines members ∷ has_whole_lines members ∷ has_distinct_names members
    ∷ has_addresses members ∷ []

-- The first rule that a document breaks. It can't break the first two.
abbrev pub broken_rule : Members → Option ℕ
broken_rule members =
    first_broken 3
    (has_listen members ∷ has_known_keys members ∷ has_types members ∷ has_numbers_in_range members
    ∷ later_rules members)
