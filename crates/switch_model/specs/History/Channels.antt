-- The channels of a history. A history lists its steps newest first, so that the steps behind one
-- are those that came before it.
use Rattle.std.specs.Prelude.{ℕ, ◌+◌, ◌==◌, zero, suc, List, [], ◌∷◌, Bool, true, false, if◌then◌else◌, Option, Some, None, is_some}
use Rattle.tr_io.specs.declared.answers.BackAnswer.{BackAnswer}
use Rattle.tr_io.specs.declared.answers.DialAnswer.{DialAnswer}
use Rattle.tr_io.specs.declared.answers.UpAnswer.{UpAnswer}
use Rattle.tr_io.specs.declared.dials.DialOutcome.{DialOutcome}
use Rattle.tr_io.specs.declared.names.Dest.{Dest}
use Rattle.tr_io.specs.declared.names.Side.{Side}
use Rattle.tr_io.specs.declared.names.Side.TheVariants.{PeerOpened, WeOpened}
use Rattle.tr_io.specs.declared.step.Step.{Step}
use Rattle.tr_io.specs.declared.step.Step.TheVariants.{ChannelUp, ChannelDown, DialDone}
use Rattle.switch_model.specs.Limits.{given_id_base}

-- A live channel: the side that opened its connection and, where a dial order brought it up, where
-- it leads.
pub record Channel : Type 0 where
  pub side : Side
  pub to : Option Dest

-- How many channels came up. The next one has this number.
abbrev pub channels : List Step → ℕ
channels [] = 0
channels (ChannelUp slot side (UpAnswer.Up n) ∷ h) = channels h + 1
channels (DialDone order (DialOutcome.Opened slot) (DialAnswer.Up n) ∷ h) = channels h + 1
channels (s ∷ h) = channels h

-- The channel with this number, while it is live.
abbrev pub channel_at : List Step → ℕ → Option Channel
channel_at [] chan = None
channel_at (ChannelUp slot side (UpAnswer.Up n) ∷ h) chan =
    if n.0 == chan then Some (record { side = side; to = None }) else channel_at h chan
channel_at (DialDone order (DialOutcome.Opened slot) (DialAnswer.Up n) ∷ h) chan =
    if n.0 == chan then Some (record { side = WeOpened; to = Some order.to }) else channel_at h chan
channel_at (ChannelDown n BackAnswer.Settled ∷ h) chan =
    if n.0 == chan then None else channel_at h chan
channel_at (s ∷ h) chan = channel_at h chan

-- Whether the channel is live.
abbrev pub is_live_channel : List Step → ℕ → Bool
is_live_channel h chan = is_some (channel_at h chan)

-- How many numbers below n pass the test.
abbrev pub count_below : (ℕ → Bool) → ℕ → ℕ
count_below test zero = 0
count_below test (suc n) = if test n then count_below test n + 1 else count_below test n

-- How many channels are live.
abbrev pub live_channels : List Step → ℕ
live_channels h = count_below (is_live_channel h) (channels h)

-- Whether this side opened the channel's connection.
abbrev pub is_ours : Side → Bool
is_ours WeOpened = true
is_ours PeerOpened = false

-- Whether it is live and this side opened it.
abbrev pub opened_by_us : Option Channel → Bool
opened_by_us (Some channel) = is_ours channel.side
opened_by_us None = false

-- How many CircIDs this side gave out on the channel: one to each next hop that was linked over it.
abbrev pub given_ids : List Step → ℕ → ℕ
given_ids [] chan = 0
given_ids (DialDone order outcome (DialAnswer.Up n) ∷ h) chan =
    if n.0 == chan then given_ids h chan + 1 else given_ids h chan
given_ids (s ∷ h) chan = given_ids h chan

-- The CircID that it gives out next: 80000001 (hex), 80000002 and so on.
abbrev pub next_given_id : List Step → ℕ → ℕ
next_given_id h chan = given_id_base + given_ids h chan + 1
