-- The answer to `open_circuit`. The first line that fits holds.
use Rattle.std.specs.Prelude.{ℕ, ◌==◌, ◌||◌, nat_le, not, is_some, is_none, List, Bool, if◌then◌else◌, Option}
use Rattle.std.specs.List.{list_any}
use Rattle.circuit_model.specs.Rules.{Rules}
use Rattle.kdf_tor.specs.declared.LayerKeys.{LayerKeys}
use Rattle.tr_io.specs.declared.answers.OpenAnswer.{OpenAnswer}
use Rattle.tr_io.specs.declared.answers.OpenAnswer.TheVariants.{Opened, Refused}
use Rattle.tr_io.specs.declared.answers.OpenRefusal.{OpenRefusal}
use Rattle.tr_io.specs.declared.step.Step.{Step}
use Rattle.switch_model.specs.Start.{SwitchStart}
use Rattle.switch_model.specs.Limits.{given_id_base}
use Rattle.switch_model.specs.Names.{circ_no}
use Rattle.switch_model.specs.History.Channels.{Channel, channel_at, is_live_channel, opened_by_us, count_below}
use Rattle.switch_model.specs.History.Legs.{circuits, at}
use Rattle.switch_model.specs.History.Circuit.{is_live_circuit}
use Rattle.switch_model.specs.Waiting.Lanes.{lane}

-- How many circuits are live.
abbrev pub live_circuits : Rules → List Step → ℕ
live_circuits rules h = count_below (is_live_circuit rules h) (circuits h)

-- A CircID is in use while a leg has it or its DESTROY waits.
abbrev pub is_in_use : Rules → List Step → ℕ → ℕ → Bool
is_in_use rules h chan id = is_some (at h chan id) || list_any (λ d. d.id == id) (lane rules h chan)

-- The side that opened the channel sets the highest bit of its CircIDs, the other side clears it
-- (tor-spec, "Choosing circuit IDs in create cells").
abbrev pub is_peers_id : Option Channel → ℕ → Bool
is_peers_id channel id =
    if opened_by_us channel then not (nat_le given_id_base id) else nat_le given_id_base id

-- An opening at a CircID, with the keys of its handshake where that was good.
abbrev pub open_answer : SwitchStart → List Step → ℕ → ℕ → Option LayerKeys → OpenAnswer
open_answer start h chan id keys =
    if not (is_live_channel h chan) then Refused OpenRefusal.NoChannel
    else if id == 0 then Refused OpenRefusal.BadId
    else if is_in_use start.rules h chan id then Refused OpenRefusal.InUse
    else if not (is_peers_id (channel_at h chan) id) then Refused OpenRefusal.BadId
    else if is_none keys then Refused OpenRefusal.BadHandshake
    else if nat_le start.circuits (live_circuits start.rules h) then Refused (OpenRefusal.Full start.circuits)
    else Opened (circ_no (circuits h))
