-- The CircIDs that are in use: a finite map from a channel and a CircID of it to a circuit and one of
-- its legs.
use Rattle.std.specs.Prelude.{ℕ, ◌==◌, refl}
use Rattle.std.specs.Coded.{Coded, code_by, coded×, coded_ℕ}
use Rattle.std.specs.FinMap.{FinMap, len, retain_keys}
use Rattle.hashed_maps.specs.Pairs.{Pair, pair_cmp}
use Rattle.tr_io.specs.declared.names.CircNo.{CircNo}

-- A channel's number and a CircID.
abbrev pub Port : Type 0
Port = Pair

-- A circuit's number and the number of one of its legs.
abbrev pub LegName : Type 0
LegName = CircNo × ℕ

abbrev pub leg_code : Coded LegName
leg_code =
    code_by (ℕ × ℕ) (coded× coded_ℕ coded_ℕ) (λ leg. (leg.0.0, leg.1)) (λ p. (record { 0 = p.0 }, p.1)) (λ _. refl)

abbrev pub Ports : Type 0
Ports = FinMap pair_cmp LegName

-- The part of the map that is on one channel.
abbrev pub on_channel : Ports → ℕ → Ports
on_channel ports chan = retain_keys ports (λ p. p.0 == chan)

-- How many CircIDs the map has for a channel.
abbrev pub ids_of : Ports → ℕ → ℕ
ids_of ports chan = len (on_channel ports chan)
