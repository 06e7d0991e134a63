-- next_cell that gives nothing, or a DESTROY of the lane, keeps what a state stands for.
use Rattle.std.proofs.Common.{◌≡◌, ℕ, ◌-◌, ◌==◌, ◌&&◌, ◌||◌, Bool, true, false, if◌then◌else◌, max, List, ◌∷◌, length, Option, Some, None, refl, sym, ◌∙◌, ap, subst, inl, inr}
use Rattle.std.specs.List.{AllByRecursion, list_any}
use Rattle.std.proofs.Math.Path.{fun_ext}
use Rattle.std.proofs.lemmas.Bool.Decides.{eqb_tells}
use Rattle.cell_codec.specs.declared.cell.Cell.{Cell}
use Rattle.circuit_model.specs.Rules.{Rules}
use Rattle.circuit_model.specs.Sent.{destroy}
use Rattle.tr_io.specs.declared.step.Step.{Step}
use Rattle.tr_io.specs.declared.step.Step.TheVariants.{NextCell}
use Rattle.switch_model.specs.Start.{SwitchStart}
use Rattle.switch_model.specs.Names.{Leg, is_leg, chan_no}
use Rattle.switch_model.specs.History.Legs.{Port, port, at, is_destroy_for, holds_id, holds_port}
use Rattle.switch_model.specs.History.Circuit.{is_live_circuit}
use Rattle.switch_model.specs.Waiting.Lanes.{Destroy, lane}
use Rattle.switch_model.specs.Waiting.Counts.{tick, cell_count}
use Rattle.switch_model.specs.History.Past.{past}
use Rattle.switch_model.specs.History.EdgePast.{edge_past}
use Rattle.switch_model.specs.Answers.EdgeOut.{Ordered}
use Rattle.switch_model.specs.Answers.NextCell.{cell_at, next_cell_answer}
use Rattle.switch_machine.specs.State.{ChannelState, LegState, CircuitState, State, slot_at}
use Rattle.switch_machine.specs.Machine.{leg_in}
use Rattle.switch_machine.specs.Stands.Numbers.{numbers_in, numbers_past}
use Rattle.switch_machine.specs.Stands.Channels.{channel_past}
use Rattle.switch_machine.specs.Stands.OneCircuit.{CircuitAt, CircuitStands}
use Rattle.switch_machine.specs.Stands.CircIds.{IsUsed}
use Rattle.switch_machine.specs.Stands.{Stands}
use Rattle.switch_machine.specs.Calls.NextCell.{ticked, next_state_on}
use Rattle.switch_model.proofs.Common.{self_eq, not_equal, and-first, and-second, same-number}
use Rattle.switch_model.proofs.LaneIds.{IsApart, apart as lane-apart}
use Rattle.switch_machine.proofs.Slots.{length-with, slot_at-inside}
use Rattle.switch_machine.proofs.OneStep.{step-added, channel-count, tick-given}
use Rattle.switch_machine.proofs.OneChannel.{channel-own, channel-changed}
use Rattle.switch_machine.proofs.Lying.{lies-with}
use Rattle.switch_machine.proofs.Counting.{count-later, halved-none}

-- nothing leaves
pub nothing-left : (start : SwitchStart) (s : State) (h : List Step) (chan new_tick : ℕ) → Stands start s h
    → None ≡ next_cell_answer start.rules h chan new_tick →
    Stands start (ticked s new_tick) (NextCell (chan_no chan) new_tick None ∷ h)
nothing-left start s h chan new_tick st said = record {
  steps = step-added start s.steps h _ st.steps (tt, said);
  numbers = tick-given (numbers_in s) (numbers_past start.rules h) _ _ (ap (λ t. max t new_tick) st.numbers.tick) st.numbers;
  channels = st.channels;
  circuits = st.circuits;
  ids = st.ids;
  legs = st.legs;
  dials = st.dials;
  counts = record {
    counts = λ leg. count-later (leg_in s leg) (cell_count start.rules h leg.circ leg.number) (tick h) new_tick
        (st.counts.counts leg);
    no_count = λ c k beyond. rw (st.counts.no_count c k beyond) (halved-none (new_tick - tick h));
  };
  slots = st.slots;
  not_yet = st.not_yet;
}

holds-when : (d k : ℕ) (b : Bool) (x y : Option Leg) → (b ≡ true → x ≡ y) → is_leg d k y ≡ false
    → is_leg d k (if b then None else x) ≡ is_leg d k x
holds-when d k true x y same none = rw (same refl) (sym none)
holds-when d k false x y same none = refl

freed-at : (h : List Step) (chan : ℕ) (cell : Cell) (m i : ℕ) → is_destroy_for (chan_no chan) cell m i ≡ true
    → at h m i ≡ at h chan cell.circ
freed-at h chan cell m i frees =
    let same_chan = same-number chan m (and-first (chan == m) _ frees) in
    let same_id = same-number cell.circ i (and-first (cell.circ == i) _ (and-second (chan == m) _ frees)) in
    rw (← same_chan, ← same_id) refl

-- a circuit's leg without that CircID has its own on
holds-by : (h : List Step) (chan new_tick : ℕ) (cell : Cell) (d k : ℕ) (p : Option Port)
    → is_leg d k (at h chan cell.circ) ≡ false →
    holds_port (NextCell (chan_no chan) new_tick (Some cell) ∷ h) d k p ≡ holds_port h d k p
holds-by h chan new_tick cell d k None none = refl
holds-by h chan new_tick cell d k (Some place) none =
    holds-when d k (is_destroy_for (chan_no chan) cell place.chan place.id) (at h place.chan place.id) (at h chan cell.circ)
    (freed-at h chan cell place.chan place.id) none

pub holds-on : (h : List Step) (chan new_tick : ℕ) (cell : Cell) (d k : ℕ) → is_leg d k (at h chan cell.circ) ≡ false →
    holds_id (NextCell (chan_no chan) new_tick (Some cell) ∷ h) d k ≡ holds_id h d k
holds-on h chan new_tick cell d k none = holds-by h chan new_tick cell d k (port h d k) none

-- a circuit none of whose legs is named by the cell
pub past-on : (rules : Rules) (h : List Step) (chan new_tick : ℕ) (cell : Cell) (d : ℕ)
    → ((k : ℕ) → (is_leg d k (at h chan cell.circ) && is_live_circuit rules h d) ≡ false) →
    past rules (NextCell (chan_no chan) new_tick (Some cell) ∷ h) d ≡ past rules h d
past-on rules h chan new_tick cell d none = simp none

not-live : (b : Bool) → (b && true) ≡ false → b ≡ false
not-live true e = e
not-live false e = refl

pub circuit-on : (rules : Rules) (closes : List Ordered) (h : List Step) (chan new_tick : ℕ) (cell : Cell) (d : ℕ)
    (x : Option CircuitState) →
    ((k : ℕ) → (is_leg d k (at h chan cell.circ) && is_live_circuit rules h d) ≡ false) →
    CircuitAt rules closes x d (past rules h d) (λ k. holds_id h d k) (edge_past rules h d) →
    CircuitAt rules closes x d (past rules (NextCell (chan_no chan) new_tick (Some cell) ∷ h) d)
    (λ k. holds_id (NextCell (chan_no chan) new_tick (Some cell) ∷ h) d k)
    (edge_past rules (NextCell (chan_no chan) new_tick (Some cell) ∷ h) d)
circuit-on rules closes h chan new_tick cell d None none own = rw (past-on rules h chan new_tick cell d none) own
circuit-on rules closes h chan new_tick cell d (Some x) none own =
    let alive : is_live_circuit rules h d ≡ true = own.live in
    let no_leg : (k : ℕ) → is_leg d k (at h chan cell.circ) ≡ false = λ k. not-live _ (rw alive at (none k)) in
    rw (past-on rules h chan new_tick cell d none)
    (subst (λ f. CircuitStands rules closes x d (past rules h d) f (edge_past rules h d))
    (sym (fun_ext (λ k. holds-on h chan new_tick cell d k (no_leg k)))) own)

-- the lane has one fewer
used-less : (legs : Leg → Option LegState) (waits less : List Destroy) (m i : ℕ) (b : Bool) (x : Option Leg) →
    (b ≡ false → list_any (λ d. d.id == i) waits ≡ true → list_any (λ d. d.id == i) less ≡ true) → IsUsed legs waits m i x
    → IsUsed legs less m i (if b then None else x)
used-less legs waits less m i true x fewer used = tt
used-less legs waits less m i false None fewer used = tt
used-less legs waits less m i false (Some leg) fewer (inl has) = inl has
used-less legs waits less m i false (Some leg) fewer (inr waiting) = inr (fewer refl waiting)

other-first : (b rest : Bool) → (b && true) ≡ false → (b || rest) ≡ true → rest ≡ true
other-first true rest unlike some = cc
other-first false rest unlike some = some

not-both : (a b : Bool) → (a ≡ true → b ≡ false) → (a && b) ≡ false
not-both true b never = never refl
not-both false b never = refl

pub destroy-left : (start : SwitchStart) (s : State) (h : List Step) (chan new_tick : ℕ) (channel : ChannelState) (d : Destroy)
    (waits : List Destroy) → Stands start s h →
    slot_at s.channels chan ≡ Some channel → channel.lane ≡ d ∷ waits
    → Some (cell_at d.id (destroy d.reason)) ≡ next_cell_answer start.rules h chan new_tick →
    Stands start (next_state_on s chan new_tick (Some channel) (d ∷ waits))
    (NextCell (chan_no chan) new_tick (Some (cell_at d.id (destroy d.reason))) ∷ h)
destroy-left start s h chan new_tick channel d waits st found first said =
    let rules = start.rules in
    let cell = cell_at d.id (destroy d.reason) in
    let step = NextCell (chan_no chan) new_tick (Some cell) in
    let t = next_state_on s chan new_tick (Some channel) (d ∷ waits) in
    let own = channel-own s.channels (λ n. channel_past rules h n) chan channel found st.channels in
    let inside = slot_at-inside s.channels chan channel found in
    let waiting : lane rules h chan ≡ d ∷ waits = sym own.lane ∙ first in
    let apart : AllByRecursion (IsApart rules h chan) (d ∷ waits) =
    subst (λ l. AllByRecursion (IsApart rules h chan) l) waiting (lane-apart start h st.steps.legal chan) in
    let none : (c k : ℕ) → (is_leg c k (at h chan d.id) && is_live_circuit rules h c) ≡ false =
    λ c k. not-both _ _ (apart.0 c k) in
    record {
      steps = step-added start s.steps h step st.steps (tt, said);
      numbers = tick-given (record (numbers_in s) { channels = length t.channels }) (numbers_past rules h) _ _
          (ap (λ n. max n new_tick) st.numbers.tick)
          (channel-count (numbers_in s) (numbers_past rules h) _ _ (length-with s.channels chan _ ∙ st.numbers.channels)
          st.numbers);
      channels = channel-changed s.channels (λ n. channel_past rules h n) (λ n. channel_past rules (step ∷ h) n) chan channel
          (record channel { lane = waits }) found (λ n other. rw other refl)
          (record { channel = own.channel; given_count = own.given_count; lane = rw (self_eq chan, waiting) refl }) st.channels;
      circuits = record {
        circuit = λ c. circuit-on rules s.last_closes h chan new_tick cell c (slot_at s.circuits c) (none c)
            (st.circuits.circuit c);
        fresh = λ c beyond. rw (past-on rules h chan new_tick cell c (none c)) (st.circuits.fresh c beyond);
      };
      ids = record {
        used = λ m i. elim (eqb_tells m chan) [
          | inl (is_here, same) ↦ subst (λ n. IsUsed (leg_in s) (lane rules (step ∷ h) n) n i (at (step ∷ h) n i)) (sym same)
              (rw (self_eq chan, waiting) (used-less (leg_in s) (d ∷ waits) waits chan i ((d.id == i) && true) (at h chan i)
              (λ unlike some. other-first (d.id == i) (list_any (λ e. e.id == i) waits) unlike some)
              (rw waiting at (st.ids.used chan i))))
          | inr (is_here, other) ↦ rw (not_equal chan m other) (st.ids.used m i)
        ];
      };
      legs = record
          { lie = λ leg. lies-with s.channels chan (record channel { lane = waits }) (leg_in s leg) inside (st.legs.lie leg) };
      dials = st.dials;
      counts = record {
        counts = λ leg. rw (none leg.circ leg.number)
            (count-later (leg_in s leg) (cell_count rules h leg.circ leg.number) (tick h) new_tick (st.counts.counts leg));
        no_count = λ c k beyond. rw (none c k, st.counts.no_count c k beyond) (halved-none (new_tick - tick h));
      };
      slots = st.slots;
      not_yet = st.not_yet;
    }
