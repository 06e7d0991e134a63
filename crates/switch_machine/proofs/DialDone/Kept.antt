-- dial_done keeps what a state stands for.
use Rattle.std.proofs.Common.{Bool, List, None, Option, Some, [], ap, arith, false, if◌then◌else◌, inl, inr, length, nat_le, not, refl, subst, sym, true, ℕ, ◌++◌, ◌+◌, ◌∙◌, ◌∷◌, ◌≡◌}
use Rattle.std.proofs.lemmas.Bool.Decides.{eqb_tells}
use Rattle.std.proofs.lemmas.List.{length-append}
use Rattle.circuit_model.specs.Windows.{carries}
use Rattle.switch_model.proofs.Common.{not_equal, self_eq}
use Rattle.switch_model.specs.History.Channels.{channel_at, given_ids}
use Rattle.switch_model.specs.History.Circuit.{events}
use Rattle.switch_model.specs.Legal.{IsRightStep}
use Rattle.switch_model.specs.Limits.{channel_limit}
use Rattle.switch_model.specs.Names.{chan_no}
use Rattle.switch_model.specs.Start.{SwitchStart}
use Rattle.switch_model.specs.Waiting.Lanes.{lane}
use Rattle.tor_spec.specs.Reasons.{destroy_connect_failed}
use Rattle.tr_io.specs.declared.answers.DialAnswer.{DialAnswer}
use Rattle.tr_io.specs.declared.dials.DialOutcome.{DialOutcome}
use Rattle.tr_io.specs.declared.dials.DialStep.{DialStep}
use Rattle.tr_io.specs.declared.names.ChanNo.{ChanNo}
use Rattle.tr_io.specs.declared.names.Dest.{Dest}
use Rattle.tr_io.specs.declared.names.Side.TheVariants.{WeOpened}
use Rattle.tr_io.specs.declared.step.Step.{Step}
use Rattle.tr_io.specs.declared.step.Step.TheVariants.{DialDone}
use Rattle.switch_machine.proofs.DialDone.NewLeg.{linking}
use Rattle.switch_machine.proofs.DialDone.Over.{AreUp, linked-kept}
use Rattle.switch_machine.proofs.DialDone.Said.{dial_done_said}
use Rattle.switch_machine.proofs.DialDone.Unlinked.{closed-kept, full-kept, gone-kept}
use Rattle.switch_machine.proofs.Lying.{lies-push}
use Rattle.switch_machine.proofs.Slots.{slot_at-past, slot_at-push}
use Rattle.switch_machine.specs.Calls.DialDone.{can_carry, dial_done_result, dial_done_state, dial_done_state_of, dialled_channel, is_out_at, is_out_in, linked_over, outcome_result}
use Rattle.switch_machine.specs.Machine.{counted, dial_at, filled_slots, leg_in}
use Rattle.switch_machine.specs.Stands.{Stands}
use Rattle.switch_machine.specs.Stands.Channels.{ChannelAt, ChannelPast, ChannelStands, channel_past}
use Rattle.switch_machine.specs.State.{ChannelState, CircuitState, State, slot_at}

-- With this answer the state behind the call is t.
abbrev IsKept : SwitchStart → List Step → DialStep → DialOutcome → State → DialAnswer → Type 0
IsKept start h given_order outcome t a = IsRightStep start h (DialDone given_order outcome a)
    → Stands start t (DialDone given_order outcome a ∷ h)

abbrev StateKept : SwitchStart → State → List Step → DialStep → DialOutcome → Option CircuitState → DialAnswer → Type 0
StateKept start s h given_order outcome o a = IsKept start h given_order outcome (dial_done_state_of start.rules
    (events start.rules h given_order.circ.0) s given_order outcome o a) a

-- over a new channel

never-up : (start : SwitchStart) (s : State) (h : List Step) (to : Dest) → Stands start s h → (chan : ℕ)
    → chan ≡ length s.channels →
    ChannelStands (dialled_channel to) (record {
      channel = Some (record { side = WeOpened; to = Some to });
      given_count = given_ids h chan;
      lane = lane start.rules h chan;
    })
never-up start s h to st chan new =
    let none : slot_at s.channels chan ≡ None = slot_at-past s.channels chan (omega arith) in
    let gone = subst (λ x. ChannelAt x (channel_past start.rules h chan)) none (st.channels.channel chan) in
    record { channel = refl; given_count = sym (st.channels.no_channel chan (omega arith)); lane = sym gone.lane }

new-up : (start : SwitchStart) (s : State) (h : List Step) (given_order : DialStep) (slot : ℕ) → Stands start s h →
    AreUp start s h (linking given_order (DialOutcome.Opened slot) (chan_no (length s.channels))) (s.channels ++ Some
    (dialled_channel given_order.to) ∷ [])
new-up start s h given_order slot st =
    let n = length s.channels in
    let new = dialled_channel given_order.to in
    let step = linking given_order (DialOutcome.Opened slot) (chan_no n) in
    let longer = length-append s.channels (Some new ∷ []) in
    let p : ℕ → ChannelPast = λ m. record {
      channel = channel_at (step ∷ h) m;
      given_count = given_ids h m;
      lane =
          lane start.rules h m;
    } in
    record {
      size = longer ∙ ap (λ m. m + 1) st.numbers.channels;
      stand = record {
        channel = λ chan. elim (eqb_tells chan n) [
          | inl (is_new, same) ↦ rw (slot_at-push s.channels (Some new) chan, is_new)
              (subst (λ m. ChannelAt (Some new) (p m)) (sym same) (rw (self_eq n) (never-up start s h given_order.to st n refl)))
          | inr (is_new, other) ↦ rw (slot_at-push s.channels (Some new) chan, is_new) (rw (not_equal n chan other)
              (st.channels.channel chan))
        ];
        no_channel = λ chan beyond. st.channels.no_channel chan (omega (arith, beyond, longer));
      };
      lie = λ leg. lies-push s.channels (Some new) (leg_in s leg) refl (st.legs.lie leg);
    }

opened-kept : (start : SwitchStart) (s : State) (h : List Step) (given_order : DialStep) (slot : ℕ) (x : CircuitState) (b : Bool)
    →
    Stands start s h → slot_at s.circuits given_order.circ.0 ≡ Some x →
    StateKept start s h given_order (DialOutcome.Opened slot) (Some x) (if b then DialAnswer.Full channel_limit else DialAnswer.Up
    (chan_no (length s.channels)))
opened-kept start s h given_order slot x true st found =
    full-kept start s h given_order (DialOutcome.Opened slot) channel_limit x st found
opened-kept start s h given_order slot x false st found = λ right.
    let n = length s.channels in
    let new = dialled_channel given_order.to in
    let slots = s.channels ++ Some new ∷ [] in
    let there : slot_at slots n ≡ Some new = rw (slot_at-push s.channels (Some new) n, self_eq n) refl in
    subst (λ o. Stands start (linked_over start.rules (events start.rules h given_order.circ.0) s given_order.circ.0 x slots n o)
    (linking given_order (DialOutcome.Opened slot) (chan_no n) ∷ h)) (sym there)
    (linked-kept start s h given_order (DialOutcome.Opened slot) (chan_no n) x slots new st found there
    (new-up start s h given_order slot st) right)

-- over a channel that was live

same-up : (start : SwitchStart) (s : State) (h : List Step) (given_order : DialStep) (chan n : ChanNo) → Stands start s h →
    AreUp start s h (linking given_order (DialOutcome.Over chan) n) s.channels
same-up start s h given_order chan n st = record {
  size = st.numbers.channels;
  stand = record { channel = st.channels.channel; no_channel = st.channels.no_channel };
  lie = st.legs.lie;
}

over-kept : (start : SwitchStart) (s : State) (h : List Step) (given_order : DialStep) (chan : ChanNo) (x : CircuitState)
    (o : Option ChannelState) (b : Bool) → Stands start s h → slot_at s.circuits given_order.circ.0 ≡ Some x →
    slot_at s.channels chan.0 ≡ o → can_carry o ≡ b →
    StateKept start s h given_order (DialOutcome.Over chan) (Some x)
    (if not b then DialAnswer.Closed destroy_connect_failed else DialAnswer.Up chan)
over-kept start s h given_order chan x o false st found there carries = closed-kept start s h given_order
    (DialOutcome.Over chan) destroy_connect_failed x st found
over-kept start s h given_order chan x None true st found there carries = absurd cc
over-kept start s h given_order chan x (Some channel) true st found there carries = λ right.
    subst (λ o. Stands start
    (linked_over start.rules (events start.rules h given_order.circ.0) s given_order.circ.0 x s.channels chan.0 o)
    (linking given_order (DialOutcome.Over chan) chan ∷ h)) (sym there)
    (linked-kept start s h given_order (DialOutcome.Over chan) chan x s.channels channel st found there
    (same-up start s h given_order chan chan st) right)

-- an order that is out

outcome-kept : (start : SwitchStart) (s : State) (h : List Step) (given_order : DialStep) (outcome : DialOutcome)
    (x : CircuitState) →
    Stands start s h → slot_at s.circuits given_order.circ.0 ≡ Some x →
    StateKept start s h given_order outcome (Some x) (outcome_result s outcome)
outcome-kept start s h given_order (DialOutcome.Opened slot) x st found =
    opened-kept start s h given_order slot x (nat_le channel_limit
    (filled_slots s.channels)) st found
outcome-kept start s h given_order (DialOutcome.Over chan) x st found =
    over-kept start s h given_order chan x (slot_at s.channels chan.0)
    (can_carry (slot_at s.channels chan.0)) st found refl refl
outcome-kept start s h given_order DialOutcome.Failed x st found =
    closed-kept start s h given_order DialOutcome.Failed destroy_connect_failed x st found

-- or isn't

gone-state : (start : SwitchStart) (s : State) (h : List Step) (given_order : DialStep) (outcome : DialOutcome)
    (o : Option CircuitState) →
    dial_done_state_of start.rules (events start.rules h given_order.circ.0) s given_order outcome o DialAnswer.Gone ≡ counted s
gone-state start s h given_order outcome None = refl
gone-state start s h given_order outcome (Some x) = refl

kept-by : (start : SwitchStart) (s : State) (h : List Step) (given_order : DialStep) (outcome : DialOutcome)
    (o : Option CircuitState)
    (b : Bool) → Stands start s h → slot_at s.circuits given_order.circ.0 ≡ o →
    is_out_at given_order (dial_at o) ≡ b →
    StateKept start s h given_order outcome o (if not b then DialAnswer.Gone else outcome_result s outcome)
kept-by start s h given_order outcome o false st found out = λ right.
    subst (λ t. Stands start t (DialDone given_order outcome DialAnswer.Gone ∷ h))
    (sym (gone-state start s h given_order outcome o))
    (gone-kept start s h given_order outcome right st)
kept-by start s h given_order outcome None true st found out = absurd cc
kept-by start s h given_order outcome (Some x) true st found out = outcome-kept start s h given_order outcome x st found

pub dial_done_kept : (start : SwitchStart) (s : State) (h : List Step) (given_order : DialStep) (outcome : DialOutcome)
    → Stands start s h →
    Stands start (dial_done_state start.rules (events start.rules h) s given_order outcome) (DialDone given_order outcome
    (dial_done_result s given_order outcome) ∷ h)
dial_done_kept start s h given_order outcome st =
    kept-by start s h given_order outcome (slot_at s.circuits given_order.circ.0) (is_out_in s given_order) st refl refl (
      tt,
      dial_done_said start s h given_order outcome st,
    )
