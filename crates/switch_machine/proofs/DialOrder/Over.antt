-- The channel over which an order's circuit can go on is the one that the history tells.
use Rattle.std.proofs.Common.{◌≡◌, ℕ, zero, suc, length, List, Option, Some, None, refl}
use Rattle.tr_io.specs.declared.names.Dest.{Dest}
use Rattle.tr_io.specs.declared.step.Step.{Step}
use Rattle.switch_model.specs.Start.{SwitchStart}
use Rattle.switch_model.specs.History.Channels.{channels}
use Rattle.switch_model.specs.Waiting.Dials.{channel_to, leads_to}
use Rattle.switch_machine.specs.Calls.DialOrder.{dialled_below, is_dialled_to}
use Rattle.switch_machine.specs.Stands.{Stands}
use Rattle.switch_machine.specs.Stands.Channels.{ChannelAt, ChannelPast, channel_past}
use Rattle.switch_machine.specs.State.{ChannelState, State, slot_at}

leads-said : (to : Dest) (x : Option ChannelState) (p : ChannelPast) → ChannelAt x p →
    is_dialled_to to x ≡ leads_to to p.channel
leads-said to None p gone = rw gone.channel refl
leads-said to (Some x) p own = rw own.channel refl

below-said : (start : SwitchStart) (s : State) (h : List Step) (to : Dest) (n : ℕ) → Stands start s h →
    dialled_below s.channels to n ≡ channel_to h to n
below-said start s h to zero st = refl
below-said start s h to (suc n) st = rw (
  below-said start s h to n st,
  leads-said to (slot_at s.channels n)
      (channel_past start.rules h n) (st.channels.channel n),
) refl

pub over-said : (start : SwitchStart) (s : State) (h : List Step) (to : Dest) → Stands start s h →
    dialled_below s.channels to (length s.channels) ≡ channel_to h to (channels h)
over-said start s h to st = rw (st.numbers.channels) (below-said start s h to (channels h) st)
