-- Which keys the settings may have.
use Rattle.std.specs.Prelude.{ℕ, [], ◌∷◌, ◌&&◌, ◌||◌, List, Bool, Option, None, Some, bytes_eq, codes, is_some, true}
use Rattle.std.specs.List.{list_all}
use Rattle.toml.specs.Data.{Data, Items, no_items, item, Members, no_members, member, get_member, as_array, as_table}

-- The keys of a table.
abbrev pub keys_of : Members → List (List ℕ)
keys_of no_members = []
keys_of (member key value members) = key ∷ keys_of members

unfoldable pub is_setting : List ℕ → Bool
is_setting key =
    bytes_eq key (codes "listen") || bytes_eq key (codes "accept_slots") || bytes_eq key (codes "dial_slots")
    || bytes_eq key (codes "edge_slots") || bytes_eq key (codes "workers") || bytes_eq key (codes "accepts")
    || bytes_eq key (codes "circuit_window") || bytes_eq key (codes "sendme_least") || bytes_eq key (codes "allow")

unfoldable pub is_line_key : List ℕ → Bool
is_line_key key = bytes_eq key (codes "host") || bytes_eq key (codes "port") || bytes_eq key (codes "to")

-- The values of a list.
abbrev pub list_of : Items → List Data
list_of no_items = []
list_of (item value items) = value ∷ list_of items

abbrev pub values_in : Option Items → List Data
values_in None = []
values_in (Some items) = list_of items

abbrev pub items_at : Option Data → Option Items
items_at None = None
items_at (Some value) = as_array value

-- The lines of `allow`, in their order; none where it isn't there, or is no list.
unfoldable pub lines : Members → List Data
lines members = values_in (items_at (get_member (codes "allow") members))

abbrev pub line_keys_are_known : Option Members → Bool
line_keys_are_known None = true
line_keys_are_known (Some members) = list_all is_line_key (keys_of members)

-- Whether a line has known keys alone. One that is no table has none.
unfoldable pub has_line_keys : Data → Bool
has_line_keys line = line_keys_are_known (as_table line)

-- Rule 3: `listen` is there.
unfoldable pub has_listen : Members → Bool
has_listen members = is_some (get_member (codes "listen") members)

-- Rule 4: the document and the lines of `allow` have known keys alone.
unfoldable pub has_known_keys : Members → Bool
has_known_keys members = list_all is_setting (keys_of members) && list_all has_line_keys (lines members)
