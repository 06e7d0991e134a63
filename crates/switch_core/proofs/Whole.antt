-- Each call as a step of the histories that a switch stands for, its relays among it.
use Rattle.std.proofs.Common.{◌≡◌, ℕ, ◌+◌, ◌==◌, not, nat_le, Bool, true, false, if◌then◌else◌, List, [], ◌∷◌, length, Option, Some, None, refl, sym, ◌∙◌, ap, subst, arith}
use Rattle.std.specs.Prelude.{⊤, IfSome, IsTrue}
use Rattle.cell_codec.specs.Cells.{is_var}
use Rattle.cell_codec.specs.declared.cell.Cell.{Cell}
use Rattle.kdf_tor.specs.declared.LayerKeys.{LayerKeys}
use Rattle.tor_spec.specs.CellCommands.{opens_circuit}
use Rattle.tr_io.specs.declared.answers.OpenAnswer.{OpenAnswer}
use Rattle.tr_io.specs.declared.answers.OpenRefusal.{OpenRefusal}
use Rattle.tr_io.specs.declared.answers.UpAnswer.{UpAnswer}
use Rattle.tr_io.specs.declared.names.ChanNo.{ChanNo}
use Rattle.tr_io.specs.declared.names.CircNo.{CircNo}
use Rattle.tr_io.specs.declared.names.Side.{Side}
use Rattle.tr_io.specs.declared.step.Step.{Step}
use Rattle.tr_io.specs.declared.step.Step.TheVariants.{ChannelUp, OpenCircuit, NextCell}
use Rattle.switch_model.specs.Start.{SwitchStart}
use Rattle.switch_model.specs.History.Legs.{circuits}
use Rattle.switch_model.specs.History.Past.{past}
use Rattle.switch_model.specs.Names.{circ_no, circuit_cell}
use Rattle.switch_machine.specs.State.{ChannelState, State, slot_at}
use Rattle.switch_machine.specs.Machine.{new_state, filled_slots}
use Rattle.switch_machine.specs.Calls.ChannelUp.{channel_up_result, channel_up_state}
use Rattle.switch_machine.specs.Calls.NextCell.{next_cell_result, next_cell_state}
use Rattle.switch_machine.specs.Calls.OpenCircuit.{is_id_taken, has_peers_bit, open_result, open_result_on, open_state}
use Rattle.switch_machine.specs.Adds.{Adds, UpCase, OpenCase}
use Rattle.switch_machine.proofs.Laws.{stands_new, channel_up_adds, open_adds, next_cell_adds}
use Rattle.switch_core.specs.Opened.{OneRelayMore, KeepsBy}
use Rattle.switch_core.specs.Relays.{RelayOfPast, RelaysStand}
use Rattle.switch_core.specs.Started.{Started, SwitchStandsForSome, SwitchAdds}
use Rattle.switch_core.specs.declared.relay.Relay.{Relay}
use Rattle.switch_core.proofs.Relays.{opened_relays}

abbrev pub started : SwitchStart → State → List (Option Relay) → Started
started start state relays = record { start = start; state = state; relays = relays }

-- A new switch.
pub new_whole : (start : SwitchStart) (s : State) (relays : List (Option Relay)) → s ≡ new_state → relays ≡ []
    → SwitchStandsForSome (started start s relays)
unfolding slot_at
new_whole start s relays is none = record {
  history = [];
  stands = record {
    state = stands_new start s is;
    relays = rw none (record { count_is = refl; relay = λ c. refl });
  };
}

-- A switch that stands for some history goes on to do so.
pub whole_stays : (old new : Started) (step : Step) → SwitchAdds old new step → SwitchStandsForSome old → SwitchStandsForSome new
unfolding SwitchAdds
whole_stays old new step adds some = record { history = step ∷ some.history; stands = adds.stands some.history some.stands }

-- A step behind which the history says the same of what is kept of the circuits.
same-relays : (start : SwitchStart) (old new : State) (relays : List (Option Relay)) (step : Step) →
    ((h : List Step) → circuits (step ∷ h) ≡ circuits h) →
    ((relay : Option Relay) (h : List Step) (c : ℕ) → RelayOfPast relay start.rules (past start.rules h c) →
    RelayOfPast relay start.rules (past start.rules (step ∷ h) c)) →
    Adds start old new step → SwitchAdds (started start old relays) (started start new relays) step
unfolding Adds SwitchAdds
same-relays start old new relays step count leaves adds = record {
  start = refl;
  steps = adds.steps;
  stands = λ h st. record {
    state = adds.stands h st.state;
    relays = record {
      count_is = st.relays.count_is ∙ sym (count h);
      relay = λ c. leaves (slot_at relays c) h c (st.relays.relay c);
    };
  };
}

-- channel_up

up-adds : (start : SwitchStart) (old new : State) (relays : List (Option Relay)) (slot : ℕ) (side : Side) (a : UpAnswer)
    → Adds start old new (ChannelUp slot side a) →
    SwitchAdds (started start old relays) (started start new relays) (ChannelUp slot side a)
up-adds start old new relays slot side a adds =
    same-relays start old new relays (ChannelUp slot side a) (λ h. refl) (λ relay h c own. own) adds

pub up_whole : (start : SwitchStart) (old new : State) (relays : List (Option Relay)) (slot : ℕ) (side : Side) (a : UpAnswer)
    → UpCase a (new ≡ old) (new ≡ channel_up_state old side) → UpCase a ⊤ (a ≡ channel_up_result old) →
    UpCase a (started start new relays ≡ started start old relays)
    (SwitchAdds (started start old relays) (started start new relays) (ChannelUp slot side a))
up_whole start old new relays slot side UpAnswer.Memory state answer = ap (λ s. started start s relays) state
up_whole start old new relays slot side (UpAnswer.Up n) state answer =
    up-adds start old new relays slot side (UpAnswer.Up n) (channel_up_adds start old new slot side (UpAnswer.Up n) state answer)
up_whole start old new relays slot side (UpAnswer.Full n) state answer =
    up-adds start old new relays slot side (UpAnswer.Full n)
    (channel_up_adds start old new slot side (UpAnswer.Full n) state answer)

pub up_goes_on : (old new : Started) (slot : ℕ) (side : Side) (a : UpAnswer)
    → UpCase a (new ≡ old) (SwitchAdds old new (ChannelUp slot side a)) → SwitchStandsForSome old → SwitchStandsForSome new
up_goes_on old new slot side UpAnswer.Memory is some = subst SwitchStandsForSome (sym is) some
up_goes_on old new slot side (UpAnswer.Up n) adds some = whole_stays old new (ChannelUp slot side (UpAnswer.Up n)) adds some
up_goes_on old new slot side (UpAnswer.Full n) adds some = whole_stays old new (ChannelUp slot side (UpAnswer.Full n)) adds some

-- next_cell

next-adds : (start : SwitchStart) (old new : State) (relays : List (Option Relay)) (chan : ChanNo) (tick : ℕ) (a : Option Cell)
    → Adds start old new (NextCell chan tick a) →
    SwitchAdds (started start old relays) (started start new relays) (NextCell chan tick a)
next-adds start old new relays chan tick a adds =
    same-relays start old new relays (NextCell chan tick a) (λ h. refl) (λ relay h c own. own) adds

pub next_whole : (start : SwitchStart) (old new : State) (relays : List (Option Relay)) (chan : ChanNo) (tick : ℕ)
    (a : Option Cell) → new ≡ next_cell_state old chan.0 tick → a ≡ next_cell_result old chan.0 tick →
    SwitchAdds (started start old relays) (started start new relays) (NextCell chan tick a)
next_whole start old new relays chan tick a state answer =
    next-adds start old new relays chan tick a (next_cell_adds start old new chan tick a state answer)

-- open_circuit

refused-adds : (start : SwitchStart) (old new : State) (relays : List (Option Relay)) (chan : ChanNo) (id : ℕ) (reply : Cell)
    (keys : Option LayerKeys) (pad : Option (List ℕ)) (why : OpenRefusal)
    → Adds start old new (OpenCircuit chan id reply keys pad (OpenAnswer.Refused why)) →
    SwitchAdds (started start old relays) (started start new relays) (OpenCircuit chan id reply keys pad (OpenAnswer.Refused why))
refused-adds start old new relays chan id reply keys pad why adds =
    same-relays start old new relays (OpenCircuit chan id reply keys pad (OpenAnswer.Refused why)) (λ h. refl)
    (λ relay h c own. own) adds

-- an opening without keys is refused
refused-anyway : (a b c : Bool) (x y z w : OpenRefusal) (n : CircNo) →
    OpenAnswer.Opened n ≡ (if a then OpenAnswer.Refused x else if b then OpenAnswer.Refused y else if c then OpenAnswer.Refused z
    else OpenAnswer.Refused w) → ⊥
refused-anyway true b c x y z w n is = cc
refused-anyway false true c x y z w n is = cc
refused-anyway false false true x y z w n is = cc
refused-anyway false false false x y z w n is = cc

keyless : (most : ℕ) (s : State) (chan id : ℕ) (channel : Option ChannelState) (n : CircNo)
    → OpenAnswer.Opened n ≡ open_result_on most s chan id None channel → ⊥
keyless most s chan id None n is = cc
keyless most s chan id (Some channel) n is =
    refused-anyway (id == 0) (is_id_taken s chan channel id) (not (has_peers_bit channel.side id)) OpenRefusal.BadId
    OpenRefusal.InUse OpenRefusal.BadId OpenRefusal.BadHandshake n is

opened-number-by : (a b c d : Bool) (x y z v : OpenRefusal) (m : CircNo) (n : CircNo) →
    OpenAnswer.Opened n ≡ (if a then OpenAnswer.Refused x else if b then OpenAnswer.Refused y else if c then OpenAnswer.Refused z
    else if d then OpenAnswer.Refused v else OpenAnswer.Opened m) → n ≡ m
opened-number-by true b c d x y z v m n is = absurd cc
opened-number-by false true c d x y z v m n is = absurd cc
opened-number-by false false true d x y z v m n is = absurd cc
opened-number-by false false false true x y z v m n is = absurd cc
opened-number-by false false false false x y z v m n is = cc

opened-number : (most : ℕ) (s : State) (chan id : ℕ) (keys : LayerKeys) (channel : Option ChannelState) (n : CircNo)
    → OpenAnswer.Opened n ≡ open_result_on most s chan id (Some keys) channel → n.0 ≡ length s.circuits
opened-number most s chan id keys None n is = absurd cc
opened-number most s chan id keys (Some channel) n is =
    ap (λ (m : CircNo). m.0)
    (opened-number-by (id == 0) (is_id_taken s chan channel id) (not (has_peers_bit channel.side id))
    (nat_le most (filled_slots s.circuits))
    OpenRefusal.BadId OpenRefusal.InUse OpenRefusal.BadId (OpenRefusal.Full most) (circ_no (length s.circuits)) n is)

opened-adds : (start : SwitchStart) (old new : State) (relays after : List (Option Relay)) (chan : ChanNo) (id : ℕ) (reply : Cell)
    (keys : LayerKeys) (pad : Option (List ℕ)) (n : CircNo) →
    OpenAnswer.Opened n ≡ open_result start.circuits old chan.0 id (Some keys) → OneRelayMore keys pad start.rules relays after
    → Adds start old new (OpenCircuit chan id reply (Some keys) pad (OpenAnswer.Opened n)) →
    SwitchAdds (started start old relays) (started start new after)
    (OpenCircuit chan id reply (Some keys) pad (OpenAnswer.Opened n))
unfolding Adds SwitchAdds
opened-adds start old new relays after chan id reply keys pad n answer more adds = record {
  start = refl;
  steps = adds.steps;
  stands = λ h st.
      let number : n.0 ≡ length old.circuits =
      opened-number start.circuits old chan.0 id keys (slot_at old.channels chan.0) n answer in
      record {
        state = adds.stands h st.state;
        relays =
            subst (λ (xs : List (Option Relay)). RelaysStand start.rules xs (circuits h + 1)
            (λ c. past start.rules (OpenCircuit chan id reply (Some keys) pad (OpenAnswer.Opened n) ∷ h) c))
            (sym more.relay_added)
            (opened_relays start.rules h chan.0 id reply keys pad n.0 more.relay relays
            (number ∙ st.state.numbers.circuits ∙ sym st.relays.count_is)
            ((st.state.circuits.fresh n.0 (omega (arith, number))).past)
            (more.stands (circuit_cell reply)) st.relays);
      };
}

by-keys : (start : SwitchStart) (old new : State) (relays after : List (Option Relay)) (chan : ChanNo) (id : ℕ) (reply : Cell)
    (keys : Option LayerKeys) (pad : Option (List ℕ)) (n : CircNo) →
    OpenAnswer.Opened n ≡ open_result start.circuits old chan.0 id keys
    → KeepsBy (OpenAnswer.Opened n) keys pad start.rules relays after
    → Adds start old new (OpenCircuit chan id reply keys pad (OpenAnswer.Opened n)) →
    SwitchAdds (started start old relays) (started start new after) (OpenCircuit chan id reply keys pad (OpenAnswer.Opened n))
by-keys start old new relays after chan id reply None pad n answer more adds =
    absurd (keyless start.circuits old chan.0 id (slot_at old.channels chan.0) n answer)
by-keys start old new relays after chan id reply (Some keys) pad n answer more adds =
    opened-adds start old new relays after chan id reply keys pad n answer more adds

pub opening_whole : (start : SwitchStart) (old new : State) (relays after : List (Option Relay)) (chan : ChanNo) (id : ℕ)
    (reply : Cell) (keys : Option LayerKeys) (pad : Option (List ℕ)) (a : OpenAnswer) → is_var reply.body ≡ false
    → IfSome keys (λ _. IsTrue (opens_circuit reply.command)) →
    OpenCase a (new ≡ old) (new ≡ open_state start.circuits old chan.0 id reply keys)
    → OpenCase a ⊤ (a ≡ open_result start.circuits old chan.0 id keys) → KeepsBy a keys pad start.rules relays after →
    OpenCase a (started start new after ≡ started start old relays)
    (SwitchAdds (started start old relays) (started start new after) (OpenCircuit chan id reply keys pad a))
opening_whole start old new relays after chan id reply keys pad OpenAnswer.Memory fixed command state answer same =
    rw (state, same) refl
opening_whole start old new relays after chan id reply keys pad (OpenAnswer.Refused why) fixed command state answer same =
    rw same
    (refused-adds start old new relays chan id reply keys pad why
    (open_adds start old new chan id reply keys pad (OpenAnswer.Refused why) (record { fixed = fixed; command = command }) state
    answer))
opening_whole start old new relays after chan id reply keys pad (OpenAnswer.Opened n) fixed command state answer more =
    by-keys start old new relays after chan id reply keys pad n answer more
    (open_adds start old new chan id reply keys pad (OpenAnswer.Opened n) (record { fixed = fixed; command = command }) state
    answer)

pub opening_goes_on : (old new : Started) (chan : ChanNo) (id : ℕ) (reply : Cell) (keys : Option LayerKeys)
    (pad : Option (List ℕ)) (a : OpenAnswer) →
    OpenCase a (new ≡ old) (SwitchAdds old new (OpenCircuit chan id reply keys pad a)) → SwitchStandsForSome old
    → SwitchStandsForSome new
opening_goes_on old new chan id reply keys pad OpenAnswer.Memory is some = subst SwitchStandsForSome (sym is) some
opening_goes_on old new chan id reply keys pad (OpenAnswer.Opened n) adds some =
    whole_stays old new (OpenCircuit chan id reply keys pad (OpenAnswer.Opened n)) adds some
opening_goes_on old new chan id reply keys pad (OpenAnswer.Refused why) adds some =
    whole_stays old new (OpenCircuit chan id reply keys pad (OpenAnswer.Refused why)) adds some
