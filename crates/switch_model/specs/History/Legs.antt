-- The circuits of a history and their legs: on which channel a leg lies, at which CircID, and how
-- long it has that CircID.
use Rattle.std.specs.Prelude.{ℕ, ◌+◌, ◌==◌, ◌&&◌, List, [], ◌∷◌, Bool, false, if◌then◌else◌, Option, Some, None}
use Rattle.cell_codec.specs.declared.cell.Cell.{Cell}
use Rattle.tor_spec.specs.CellCommands.{destroy_command}
use Rattle.tr_io.specs.declared.answers.BackAnswer.{BackAnswer}
use Rattle.tr_io.specs.declared.answers.DialAnswer.{DialAnswer}
use Rattle.tr_io.specs.declared.answers.OpenAnswer.TheVariants.{Opened}
use Rattle.tr_io.specs.declared.names.ChanNo.{ChanNo}
use Rattle.tr_io.specs.declared.step.Step.{Step}
use Rattle.tr_io.specs.declared.step.Step.TheVariants.{ChannelDown, OpenCircuit, Take, NextCell, DialDone}
use Rattle.switch_model.specs.Names.{Leg, is_leg}
use Rattle.switch_model.specs.History.Channels.{next_given_id}

-- How many circuits were opened. The next one has this number.
abbrev pub circuits : List Step → ℕ
circuits [] = 0
circuits (OpenCircuit chan id reply keys pad (Opened n) ∷ h) = circuits h + 1
circuits (s ∷ h) = circuits h

-- How many next hops were linked to the circuit. The next leg has this number and one more.
abbrev pub hops : List Step → ℕ → ℕ
hops [] c = 0
hops (DialDone order outcome (DialAnswer.Up n) ∷ h) c =
    if order.circ.0 == c then hops h c + 1 else hops h c
hops (s ∷ h) c = hops h c

-- Where a leg lies: the channel and the CircID.
pub record Port : Type 0 where
  pub chan : ℕ
  pub id : ℕ

-- The port that a leg was given when it was made. Leg 0 has the CircID that the peer chose, every
-- other one the next that this side gives out on its channel.
abbrev pub port : List Step → ℕ → ℕ → Option Port
port [] c k = None
port (OpenCircuit chan id reply keys pad (Opened n) ∷ h) c k =
    if (n.0 == c) && (k == 0) then Some (record { chan = chan.0; id = id }) else port h c k
port (DialDone order outcome (DialAnswer.Up n) ∷ h) c k =
    if (order.circ.0 == c) && (k == hops h c + 1)
    then Some (record { chan = n.0; id = next_given_id h n.0 }) else port h c k
port (s ∷ h) c k = port h c k

-- Whether a port is on this channel.
abbrev pub on_channel : ℕ → Option Port → Bool
on_channel chan (Some place) = place.chan == chan
on_channel chan None = false

-- Whether a cell on channel n is a DESTROY for this CircID of channel chan (command 4).
abbrev pub is_destroy_for : ChanNo → Cell → ℕ → ℕ → Bool
is_destroy_for n cell chan id = (n.0 == chan) && ((cell.circ == id) && (cell.command == destroy_command))

-- The leg that has this CircID, draining legs included: from its opening or link on, until its
-- DESTROY has left, the peer's DESTROY was taken or the channel went down.
abbrev pub at : List Step → ℕ → ℕ → Option Leg
at [] chan id = None
at (OpenCircuit n i reply keys pad (Opened c) ∷ h) chan id =
    if (n.0 == chan) && (i == id) then Some (record { circ = c.0; number = 0 }) else at h chan id
at (DialDone order outcome (DialAnswer.Up n) ∷ h) chan id =
    if (n.0 == chan) && (next_given_id h chan == id)
    then Some (record { circ = order.circ.0; number = hops h order.circ.0 + 1 }) else at h chan id
at (NextCell n tick (Some cell) ∷ h) chan id = if is_destroy_for n cell chan id then None else at h chan id
at (Take n cell answer ∷ h) chan id = if is_destroy_for n cell chan id then None else at h chan id
at (ChannelDown n BackAnswer.Settled ∷ h) chan id = if n.0 == chan then None else at h chan id
at (s ∷ h) chan id = at h chan id

-- Whether a leg still has the CircID that it was given.
abbrev pub holds_port : List Step → ℕ → ℕ → Option Port → Bool
holds_port h c k (Some place) = is_leg c k (at h place.chan place.id)
holds_port h c k None = false

-- The same by the port that the leg was given.
abbrev pub holds_id : List Step → ℕ → ℕ → Bool
holds_id h c k = holds_port h c k (port h c k)
