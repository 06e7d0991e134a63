-- The map as it is stored: legs in a slab, an index from ports to their places there, and a count of
-- the ports of each channel.
use Rattle.std.specs.Prelude.{◌≡◌, ℕ, nat_eq, List, map, unwrap_or, IsSome, Option, Some}
use Rattle.std.specs.FinMap.{from_entries}
use Rattle.std.specs.Map.{lookup}
use Rattle.hashed_maps.specs.Pairs.{pair_eq}
use Rattle.slab.specs.Slab.{Slab, get}
use Rattle.circuit_table.specs.Ports.{Port, LegName, Ports, ids_of}

-- The leg at a place. A place of the index has one.
abbrev pub leg_at : Slab LegName → ℕ → LegName
leg_at legs place = unwrap_or (get legs place) (record { 0 = 0 }, 0)

abbrev pub ports_of : Slab LegName → List (Port × ℕ) → Ports
ports_of legs places = from_entries (map (λ e. (e.0, leg_at legs e.1)) places)

-- The place of a port.
abbrev pub place_of : List (Port × ℕ) → Port → Option ℕ
place_of places port = lookup (pair_eq port) places

-- How many ports a channel has.
abbrev pub count_of : List (ℕ × ℕ) → ℕ → ℕ
count_of counts chan = unwrap_or (lookup (nat_eq chan) counts) 0

-- Each port has a leg of its own, and each channel's ports are counted.
pub record IsIndexed (legs : Slab LegName) (places : List (Port × ℕ)) (counts : List (ℕ × ℕ)) : Type 0 where
  pub has_leg : (port : Port) (place : ℕ) → place_of places port ≡ Some place → IsSome (get legs place)
  pub apart : (p q : Port) (place : ℕ) → place_of places p ≡ Some place → place_of places q ≡ Some place → p ≡ q
  pub counted : (chan : ℕ) → count_of counts chan ≡ ids_of (ports_of legs places) chan
