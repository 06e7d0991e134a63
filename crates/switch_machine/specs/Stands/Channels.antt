-- Live channels with their lanes, and the CircIDs given out.
use Rattle.std.specs.Prelude.{ℕ, ◌≡◌, ◌≤◌, List, [], length, Option, Some, None}
use Rattle.circuit_model.specs.Rules.{Rules}
use Rattle.tr_io.specs.declared.step.Step.{Step}
use Rattle.switch_model.specs.History.Channels.{Channel, channel_at, given_ids}
use Rattle.switch_model.specs.Waiting.Lanes.{Destroy, lane}
use Rattle.switch_machine.specs.State.{ChannelState, slot_at}

pub record ChannelPast : Type 0 where
  pub channel : Option Channel
  pub given_count : ℕ
  pub lane : List Destroy

abbrev pub channel_past : Rules → List Step → ℕ → ChannelPast
channel_past rules h chan = record { channel = channel_at h chan; given_count = given_ids h chan; lane = lane rules h chan }

-- A live channel.
pub record ChannelStands (x : ChannelState) (p : ChannelPast) : Type 0 where
  pub channel : p.channel ≡ Some (record { side = x.side; to = x.to })
  pub given_count : x.given_count ≡ p.given_count
  pub lane : x.lane ≡ p.lane

-- Any other number.
pub record ChannelGone (p : ChannelPast) : Type 0 where
  pub channel : p.channel ≡ None
  pub lane : p.lane ≡ []

abbrev pub ChannelAt : Option ChannelState → ChannelPast → Type 0
ChannelAt None p = ChannelGone p
ChannelAt (Some x) p = ChannelStands x p

pub record ChannelsStand (slots : List (Option ChannelState)) (p : ℕ → ChannelPast) : Type 0 where
  pub channel : (chan : ℕ) → ChannelAt (slot_at slots chan) (p chan)
  pub no_channel : (chan : ℕ) → length slots ≤ chan → (p chan).given_count ≡ 0
