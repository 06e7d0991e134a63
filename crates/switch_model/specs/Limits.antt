-- The limits of a switch. They are this relay's own where no section of the standard is named.
use Rattle.std.specs.Prelude.{ℕ, ◌-◌, ◌^◌}

-- So many channels are live at most.
abbrev pub channel_limit : ℕ
channel_limit = 64

-- So many circuits may be live where a switch isn't made for fewer.
abbrev pub circuit_limit : ℕ
circuit_limit = 512

-- A direction of a circuit that holds so many cells takes no more.
abbrev pub held_limit : ℕ
held_limit = 1500

-- So many DESTROYs of refused openings wait on a channel at most.
abbrev pub refusal_limit : ℕ
refusal_limit = 512

-- A claim takes so many bodies at most.
abbrev pub claim_limit : ℕ
claim_limit = 32

-- Workers have the numbers below this one.
abbrev pub worker_limit : ℕ
worker_limit = 64

-- A DATA has so many bytes at most: what a relay cell has room for (tor-spec, "Relay cells").
abbrev pub data_limit : ℕ
data_limit = 498

-- A channel gives out so many CircIDs at most, those behind this one, in turn and never again.
abbrev pub given_id_limit : ℕ
given_id_limit = 2 ^ 31 - 1

abbrev pub given_id_base : ℕ
given_id_base = 2 ^ 31

-- What a cell that is sent adds to its leg's count, and where the count stops.
abbrev pub cell_charge : ℕ
cell_charge = 65536

abbrev pub count_limit : ℕ
count_limit = 2 ^ 64 - 1
