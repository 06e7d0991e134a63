-- The lines of `allow`: the names that a stream may reach.
use Rattle.std.specs.Prelude.{ℕ, ◌&&◌, ◌==◌, not, [], ◌∷◌, List, Bool, Option, None, Some, codes, false, true, is_some, length, nat_le, option_and_then, option_map}
use Rattle.std.specs.List.{list_all}
use Rattle.std.specs.Str.{str_eq_ignore_ascii_case}
use Rattle.toml.specs.Data.{Data, Members, as_str, get}
use Rattle.tor_spec.specs.Begin.{Target, is_host_name}
use Rattle.tor_settings.specs.Keys.{lines}
use Rattle.tor_settings.specs.Numbers.{port_of}

-- The text of a line at a key.
abbrev pub text_at : List ℕ → Data → Option (List ℕ)
text_at key line = option_and_then as_str (get key line)

-- The host and port that a line allows.
unfoldable pub name_of : Data → Option Target
name_of line =
    option_and_then
    (λ host. option_map (λ port. record { host = host; port = port }) (port_of line))
    (text_at (codes "host") line)

abbrev pub is_name : Option (List ℕ) → Bool
is_name None = false
is_name (Some host) = is_host_name host

-- Host, port and address are there, and the host has 1 to 255 bytes other than zero, as in BEGIN.
unfoldable pub is_whole_line : Data → Bool
is_whole_line line =
    is_name (text_at (codes "host") line) && is_some (get (codes "port") line) && is_some (get (codes "to") line)

-- Whether two names have the same host, without the case of ASCII letters, and the same port.
abbrev pub are_alike : Option Target → Option Target → Bool
are_alike (Some one) (Some other) = str_eq_ignore_ascii_case one.host other.host && (one.port == other.port)
are_alike (Some one) None = false
are_alike None other = false

abbrev pub have_distinct_names : List Data → Bool
have_distinct_names [] = true
have_distinct_names (line ∷ more) =
    list_all (λ other. not (are_alike (name_of line) (name_of other))) more && have_distinct_names more

-- Rule 8: there are at most 1,000 lines.
unfoldable pub has_few_lines : Members → Bool
has_few_lines members = nat_le (length (lines members)) 1000

-- Rule 9: every line has all its keys, and a host name.
unfoldable pub has_whole_lines : Members → Bool
has_whole_lines members = list_all is_whole_line (lines members)

-- Rule 10: no two lines allow the same name.
unfoldable pub has_distinct_names : Members → Bool
has_distinct_names members = have_distinct_names (lines members)
