-- channel_up keeps what a state stands for.
use Rattle.std.proofs.Common.{◌≡◌, ℕ, Bool, true, false, if◌then◌else◌, is_some, List, [], ◌∷◌, ◌++◌, length, Option, Some, None, nat_le, refl, sym, ◌∙◌, ap, subst, arith, inl, inr}
use Rattle.std.proofs.lemmas.Grind.{common_steps}
use Rattle.std.proofs.lemmas.Bool.Decides.{eqb_tells}
use Rattle.tr_io.specs.declared.answers.UpAnswer.{UpAnswer}
use Rattle.tr_io.specs.declared.names.Side.{Side}
use Rattle.tr_io.specs.declared.step.Step.{Step}
use Rattle.tr_io.specs.declared.step.Step.TheVariants.{ChannelUp}
use Rattle.switch_model.specs.Limits.{channel_limit}
use Rattle.switch_model.specs.Answers.ChannelUp.{channel_up_answer}
use Rattle.switch_model.specs.Start.{SwitchStart}
use Rattle.switch_model.specs.Names.{chan_no}
use Rattle.switch_model.specs.History.Channels.{is_live_channel, live_channels, count_below}
use Rattle.switch_machine.specs.State.{ChannelState, State, slot_at}
use Rattle.switch_machine.specs.Machine.{counted, filled_slots, leg_in}
use Rattle.switch_machine.specs.Stands.Numbers.{numbers_in, numbers_past}
use Rattle.switch_machine.specs.Stands.Channels.{ChannelPast, channel_past, ChannelAt, ChannelStands}
use Rattle.switch_machine.specs.Stands.{Stands}
use Rattle.switch_machine.specs.Calls.ChannelUp.{new_channel, channel_up_result, channel_up_state}
use Rattle.switch_model.proofs.Common.{self_eq, not_equal}
use Rattle.switch_machine.proofs.OneStep.{step-added, channel-count}
use Rattle.switch_machine.proofs.Lying.{lies-push}
use Rattle.switch_machine.proofs.Slots.{slot_at-push, slot_at-past, count_below-same}
use Rattle.switch_machine.proofs.StepAlone.{step-alone}

-- what the state has of a channel says whether it is live
pub live-at : (p : ChannelPast) (x : Option ChannelState) → ChannelAt x p → is_some x ≡ is_some p.channel
live-at p None at = rw at.channel refl
live-at p (Some x) at = rw at.channel refl

pub filled-channels : (start : SwitchStart) (s : State) (h : List Step) → Stands start s h
    → filled_slots s.channels ≡ live_channels h
filled-channels start s h st =
    count_below-same (λ n. is_some (slot_at s.channels n)) (is_live_channel h)
    (λ n. live-at (channel_past start.rules h n) (slot_at s.channels n) (st.channels.channel n)) (length s.channels)
    ∙ ap (count_below (is_live_channel h)) st.numbers.channels

-- a channel that was never up
never-up : (start : SwitchStart) (s : State) (h : List Step) → Stands start s h → (chan : ℕ) → chan ≡ length s.channels
    → (side : Side) →
    ChannelStands (new_channel side)
    (record {
      channel = Some (record { side = side; to = None });
      given_count = (channel_past start.rules h chan).given_count;
      lane = (channel_past start.rules h chan).lane;
    })
never-up start s h st chan new side =
    let none : slot_at s.channels chan ≡ None = slot_at-past s.channels chan (omega arith) in
    let gone = subst (λ x. ChannelAt x (channel_past start.rules h chan)) none (st.channels.channel chan) in
    record { channel = refl; given_count = sym (st.channels.no_channel chan (omega arith)); lane = sym gone.lane }

-- the answer
pub channel_up_said : (start : SwitchStart) (s : State) (h : List Step) → Stands start s h
    → channel_up_result s ≡ channel_up_answer h
channel_up_said start s h st = rw (filled-channels start s h st, st.numbers.channels) refl

up-by : (start : SwitchStart) (s : State) (h : List Step) (slot : ℕ) (side : Side) (b : Bool)
    → (if b then UpAnswer.Full channel_limit else UpAnswer.Up (chan_no (length s.channels))) ≡ channel_up_answer h
    → Stands start s h →
    Stands start (if b then counted s else record (counted s) { channels = s.channels ++ Some (new_channel side) ∷ [] })
    (ChannelUp slot side (if b then UpAnswer.Full channel_limit else UpAnswer.Up (chan_no (length s.channels))) ∷ h)
up-by start s h slot side true said st =
    step-alone start s h (ChannelUp slot side (UpAnswer.Full channel_limit)) refl (tt, said) st
up-by start s h slot side false said st =
    let n = length s.channels in
    let step = ChannelUp slot side (UpAnswer.Up (chan_no n)) in
    record {
      steps = step-added start s.steps h step st.steps (tt, said);
      numbers = channel-count (numbers_in s) (numbers_past start.rules h) _ _ (grind (arith, common_steps, st.numbers.channels))
          st.numbers;
      channels = record {
        channel = λ chan. elim (eqb_tells chan n) [
          | inl (is_new, same) ↦ rw (slot_at-push s.channels (Some (new_channel side)) chan, is_new)
              (subst (λ m. ChannelAt (Some (new_channel side)) (channel_past start.rules (step ∷ h) m)) (sym same)
              (rw (self_eq n) (never-up start s h st n refl side)))
          | inr (is_new, other) ↦ rw (slot_at-push s.channels (Some (new_channel side)) chan, is_new)
              (rw (not_equal n chan other) (st.channels.channel chan))
        ];
        no_channel = λ chan beyond. st.channels.no_channel chan (grind (arith, common_steps));
      };
      circuits = st.circuits;
      ids = st.ids;
      legs = record { lie = λ leg. lies-push s.channels (Some (new_channel side)) (leg_in s leg) refl (st.legs.lie leg) };
      dials = st.dials;
      counts = st.counts;
      slots = st.slots;
      not_yet = st.not_yet;
    }

pub channel_up_kept : (start : SwitchStart) (s : State) (h : List Step) (slot : ℕ) (side : Side) → Stands start s h
    → Stands start (channel_up_state s side) (ChannelUp slot side (channel_up_result s) ∷ h)
channel_up_kept start s h slot side st =
    up-by start s h slot side (nat_le channel_limit (filled_slots s.channels)) (channel_up_said start s h st) st
