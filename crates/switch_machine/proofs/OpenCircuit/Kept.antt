-- open_circuit keeps what a state stands for.
use Rattle.std.proofs.Common.{◌≡◌, ℕ, ◌==◌, Bool, true, false, not, if◌then◌else◌, is_some, is_none, List, ◌∷◌, length, Option, Some, None, nat_le, refl, sym, ◌∙◌, ap, subst}
use Rattle.cell_codec.specs.declared.cell.Cell.{Cell}
use Rattle.circuit_model.specs.Rules.{Rules}
use Rattle.kdf_tor.specs.declared.LayerKeys.{LayerKeys}
use Rattle.tr_io.specs.declared.answers.OpenAnswer.{OpenAnswer}
use Rattle.tr_io.specs.declared.answers.OpenAnswer.TheVariants.{Opened, Refused}
use Rattle.tr_io.specs.declared.answers.OpenRefusal.{OpenRefusal}
use Rattle.tr_io.specs.declared.step.Step.{Step}
use Rattle.tr_io.specs.declared.step.Step.TheVariants.{OpenCircuit}
use Rattle.switch_model.specs.Start.{SwitchStart}
use Rattle.switch_model.specs.Conditions.{IsReply}
use Rattle.switch_model.specs.Names.{Leg, chan_no, circ_no}
use Rattle.switch_model.specs.History.Channels.{count_below}
use Rattle.switch_model.specs.History.Legs.{at, holds_id}
use Rattle.switch_model.specs.History.Circuit.{is_live_circuit}
use Rattle.switch_model.specs.Waiting.Lanes.{lane}
use Rattle.switch_model.specs.Answers.OpenCircuit.{live_circuits, is_in_use, open_answer}
use Rattle.switch_model.specs.History.Past.{Past, past}
use Rattle.switch_model.specs.History.EdgePast.{EdgePast, edge_past}
use Rattle.switch_model.specs.Answers.EdgeOut.{Ordered}
use Rattle.switch_machine.specs.State.{ChannelState, CircuitState, State, slot_at}
use Rattle.switch_machine.specs.Machine.{counted, filled_slots}
use Rattle.switch_machine.specs.Stands.Channels.{channel_past, ChannelAt, ChannelStands}
use Rattle.switch_machine.specs.Stands.OneCircuit.{CircuitAt}
use Rattle.switch_machine.specs.Stands.{Stands}
use Rattle.switch_machine.specs.Calls.OpenCircuit.{is_id_taken, has_peers_bit, open_result_on, open_result, open_state_by, open_state}
use Rattle.switch_machine.proofs.OneStep.{step-added}
use Rattle.switch_machine.proofs.Slots.{count_below-same}
use Rattle.switch_machine.proofs.Ids.{taken-said}
use Rattle.switch_model.proofs.Common.{or-first}
use Rattle.switch_machine.proofs.OpenCircuit.Refused.{refused-kept}
use Rattle.switch_machine.proofs.OpenCircuit.Accepted.{opened-kept}

-- what the state has of a circuit says whether it is live
circuit-live : (rules : Rules) (closes : List Ordered) (x : Option CircuitState) (c : ℕ) (p : Past) (has_id : ℕ → Bool)
    (e : EdgePast) → CircuitAt rules closes x c p has_id e → is_some x ≡ p.live
circuit-live rules closes None c p has_id e at = sym at.live
circuit-live rules closes (Some x) c p has_id e at = sym at.live

filled-circuits : (start : SwitchStart) (s : State) (h : List Step) → Stands start s h
    → filled_slots s.circuits ≡ live_circuits start.rules h
filled-circuits start s h st =
    count_below-same (λ c. is_some (slot_at s.circuits c)) (is_live_circuit start.rules h)
    (λ c. circuit-live start.rules s.last_closes (slot_at s.circuits c) c (past start.rules h c) (λ k. holds_id h c k)
    (edge_past start.rules h c) (st.circuits.circuit c)) (length s.circuits)
    ∙ ap (count_below (is_live_circuit start.rules h)) st.numbers.circuits

-- the answer
open_said_by : (start : SwitchStart) (s : State) (h : List Step) (chan id : ℕ) (keys : Option LayerKeys) (x : Option ChannelState)
    → Stands start s h → ChannelAt x (channel_past start.rules h chan) →
    open_result_on start.circuits s chan id keys x ≡ open_answer start h chan id keys
open_said_by start s h chan id keys None st at = rw at.channel refl
open_said_by start s h chan id keys (Some channel) st at =
    rw (at.channel, taken-said start s h st chan id channel at.lane, filled-circuits start s h st, st.numbers.circuits) refl

pub open_said : (start : SwitchStart) (s : State) (h : List Step) (chan id : ℕ) (keys : Option LayerKeys) → Stands start s h
    → open_result start.circuits s chan id keys ≡ open_answer start h chan id keys
open_said start s h chan id keys st = open_said_by start s h chan id keys (slot_at s.channels chan) st (st.channels.channel chan)

-- a refusal that sends nothing
if-both : {A : Type 0} (b : Bool) (x : A) → (if b then x else x) ≡ x
if-both true x = refl
if-both false x = refl

unknown-channel : (start : SwitchStart) (s : State) (h : List Step) (chan id : ℕ) (reply : Cell) (keys : Option LayerKeys)
    (pad : Option (List ℕ)) → Stands start s h → IsReply reply keys →
    Refused OpenRefusal.NoChannel ≡ open_answer start h chan id keys →
    Stands start (counted s) (OpenCircuit (chan_no chan) id reply keys pad (Refused OpenRefusal.NoChannel) ∷ h)
unknown-channel start s h chan id reply keys pad st asked said =
    let rules = start.rules in
    let same : (n : ℕ) → (if chan == n then lane rules h n else lane rules h n) ≡ lane rules h n =
    λ n. if-both (chan == n) (lane rules h n) in
    record {
      steps = step-added start s.steps h _ st.steps (asked, said);
      numbers = st.numbers;
      channels = record { channel = λ n. rw (same n) (st.channels.channel n); no_channel = st.channels.no_channel };
      circuits = st.circuits;
      ids = record { used = λ n i. rw (same n) (st.ids.used n i) };
      legs = st.legs;
      dials = st.dials;
      counts = st.counts;
      slots = st.slots;
      not_yet = st.not_yet;
    }

unused : (x : Option Leg) → is_some x ≡ false → x ≡ None
unused None e = refl
unused (Some leg) e = cc

judged : ℕ → Bool → Bool → Bool → Option LayerKeys → Bool → ℕ → OpenAnswer
judged most zero taken peers keys full n =
    if zero then Refused OpenRefusal.BadId
    else if taken then Refused OpenRefusal.InUse
    else if not peers then Refused OpenRefusal.BadId
    else if is_none keys then Refused OpenRefusal.BadHandshake
    else if full then Refused (OpenRefusal.Full most)
    else Opened (circ_no n)

open-by : (start : SwitchStart) (s : State) (h : List Step) (chan id : ℕ) (reply : Cell) (pad : Option (List ℕ))
    (channel : ChannelState) (zero taken peers : Bool) (keys : Option LayerKeys) (full : Bool) →
    Stands start s h → IsReply reply keys → slot_at s.channels chan ≡ Some channel → is_in_use start.rules h chan id ≡ taken →
    judged start.circuits zero taken peers keys full (length s.circuits) ≡ open_answer start h chan id keys →
    Stands start
    (open_state_by s chan id reply keys (Some channel) (judged start.circuits zero taken peers keys full (length s.circuits)))
    (OpenCircuit (chan_no chan) id reply keys pad (judged start.circuits zero taken peers keys full (length s.circuits)) ∷ h)
unfolding judged
open-by start s h chan id reply pad channel true taken peers keys full st asked found is_taken said =
    refused-kept start s h chan id reply keys pad OpenRefusal.BadId channel st found (asked, said)
open-by start s h chan id reply pad channel false true peers keys full st asked found is_taken said =
    refused-kept start s h chan id reply keys pad OpenRefusal.InUse channel st found (asked, said)
open-by start s h chan id reply pad channel false false false keys full st asked found is_taken said =
    refused-kept start s h chan id reply keys pad OpenRefusal.BadId channel st found (asked, said)
open-by start s h chan id reply pad channel false false true None full st asked found is_taken said =
    refused-kept start s h chan id reply None pad OpenRefusal.BadHandshake channel st found (asked, said)
open-by start s h chan id reply pad channel false false true (Some keys) true st asked found is_taken said =
    refused-kept start s h chan id reply (Some keys) pad (OpenRefusal.Full start.circuits) channel st found (asked, said)
open-by start s h chan id reply pad channel false false true (Some keys) false st asked found is_taken said =
    opened-kept start s h chan id reply keys pad st (asked, said) (rw found refl) (unused (at h chan id) (or-first _ _ is_taken))

open-on : (start : SwitchStart) (s : State) (h : List Step) (chan id : ℕ) (reply : Cell) (keys : Option LayerKeys)
    (pad : Option (List ℕ)) (x : Option ChannelState) → Stands start s h → IsReply reply keys → slot_at s.channels chan ≡ x →
    open_result_on start.circuits s chan id keys x ≡ open_answer start h chan id keys →
    Stands start (open_state_by s chan id reply keys x (open_result_on start.circuits s chan id keys x))
    (OpenCircuit (chan_no chan) id reply keys pad (open_result_on start.circuits s chan id keys x) ∷ h)
unfolding judged
open-on start s h chan id reply keys pad None st asked found said = unknown-channel start s h chan id reply keys pad st asked said
open-on start s h chan id reply keys pad (Some channel) st asked found said =
    let own : ChannelStands channel (channel_past start.rules h chan) =
    subst (λ x. ChannelAt x (channel_past start.rules h chan)) found (st.channels.channel chan) in
    open-by start s h chan id reply pad channel (id == 0) (is_id_taken s chan channel id) (has_peers_bit channel.side id) keys
    (nat_le start.circuits (filled_slots s.circuits)) st asked found
    (sym (taken-said start s h st chan id channel own.lane)) said

pub open_kept : (start : SwitchStart) (s : State) (h : List Step) (chan id : ℕ) (reply : Cell) (keys : Option LayerKeys)
    (pad : Option (List ℕ)) → IsReply reply keys → Stands start s h →
    Stands start (open_state start.circuits s chan id reply keys)
    (OpenCircuit (chan_no chan) id reply keys pad (open_result start.circuits s chan id keys) ∷ h)
open_kept start s h chan id reply keys pad asked st =
    open-on start s h chan id reply keys pad (slot_at s.channels chan) st asked refl (open_said start s h chan id keys st)
