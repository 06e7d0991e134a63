-- What the one-thread relay sends on each leg of a circuit: the whole list of cells, by command and
-- body.
use Rattle.std.specs.Prelude.{ℕ, ◌+◌, ◌*◌, ◌==◌, ◌&&◌, [], ◌∷◌, ◌++◌, List, if◌then◌else◌, option_to_list}
use Rattle.crypto_spec.specs.HopLayer.{layered}
use Rattle.tor_spec.specs.CellCommands.{relay_command, destroy_command}
use Rattle.tor_spec.specs.CellEncoding.{fixed_payload}
use Rattle.tor_spec.specs.Reasons.{destroy_requested}
use Rattle.circuit_model.specs.Events.{CircuitCell}
use Rattle.circuit_model.specs.Log.{Entry, Log}
use Rattle.circuit_model.specs.Opened.{born_keys, born_reply}
use Rattle.circuit_model.specs.NextHop.{next_hop, has_leg, leg_count}
use Rattle.circuit_model.specs.Packaged.{back_bodies}

-- A RELAY cell with the backward body with number n, this relay's layer put on: it uses the 509 bytes of
-- the keystream from number 509 n on.
abbrev pub sealed : List ℕ → ℕ → List ℕ → CircuitCell
sealed key n body = record { command = relay_command; body = layered key (509 * n) body }

-- The bodies as RELAY cells, numbered from n on.
abbrev pub all_sealed : List ℕ → ℕ → List (List ℕ) → List CircuitCell
all_sealed key n [] = []
all_sealed key n (body ∷ bodies) = sealed key n body ∷ all_sealed key (n + 1) bodies

-- Leg 0, towards the client: the answer to the opening, then all bodies that went back.
abbrev pub sent_to_client : Log → List CircuitCell
sent_to_client log = option_to_list (born_reply log) ++ all_sealed (born_keys log).kb 0 (back_bodies log)

-- DESTROY with this reason.
abbrev pub destroy : ℕ → CircuitCell
destroy reason = record { command = destroy_command; body = fixed_payload (reason ∷ []) }

-- REQUESTED ends the leg of a next hop that TRUNCATE gave up.
abbrev pub destroys : Log → Entry → List CircuitCell
destroys log entry = if entry.effects.cut && has_leg (next_hop log) then destroy destroy_requested ∷ [] else []

-- The cells that an entry behind this log gives to the newest leg.
abbrev pub given_forth : Log → Entry → List CircuitCell
given_forth log entry = option_to_list entry.effects.forth ++ destroys log entry

-- Leg k towards a next hop: CREATE2, then relay cells, then DESTROY where TRUNCATE ended it.
abbrev pub sent_to_hop : Log → ℕ → List CircuitCell
sent_to_hop [] leg = []
sent_to_hop (entry ∷ log) leg =
    sent_to_hop log leg ++ (if leg_count (entry ∷ log) == leg then given_forth log entry else [])

abbrev pub leg_cells : Log → ℕ → List CircuitCell
leg_cells log leg = if leg == 0 then sent_to_client log else sent_to_hop log leg
