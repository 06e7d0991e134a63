-- A cell that is passed over keeps what a state stands for. The peer's DESTROY for a CircID that no live circuit's
-- leg has takes ours for it away.
use Rattle.std.proofs.Common.{◌&&◌, ◌==◌, ◌∙◌, ◌∷◌, ◌≡◌, Bool, List, None, Option, Some, [], ap, false, length, not, refl, subst, sym, true, ℕ}
use Rattle.std.specs.List.{filter}
use Rattle.cell_codec.specs.declared.cell.Cell.{Cell}
use Rattle.circuit_model.specs.Rules.{Rules}
use Rattle.tr_io.specs.declared.answers.TakeAnswer.TheVariants.{PassedOver}
use Rattle.tr_io.specs.declared.answers.Why.{Why}
use Rattle.tr_io.specs.declared.step.Step.{Step}
use Rattle.tr_io.specs.declared.step.Step.TheVariants.{Take}
use Rattle.switch_model.specs.History.EdgePast.{edge_past, numbers_of}
use Rattle.switch_model.specs.History.Legs.{at}
use Rattle.switch_model.specs.History.Past.{past}
use Rattle.switch_model.specs.Legal.{IsRightStep}
use Rattle.switch_model.specs.Names.{Leg, Way, chan_no}
use Rattle.switch_model.specs.Start.{SwitchStart}
use Rattle.switch_model.specs.Waiting.Claims.{born_bodies}
use Rattle.switch_model.specs.Waiting.Lanes.{Destroy, lane}
use Rattle.switch_machine.specs.Calls.Take.{without_destroys}
use Rattle.switch_machine.specs.Machine.{counted, has_port, leg_in}
use Rattle.switch_machine.specs.Stands.{Stands}
use Rattle.switch_machine.specs.Stands.Channels.{ChannelAt, ChannelsStand, channel_past}
use Rattle.switch_machine.specs.Stands.Legs.{LiesOn}
use Rattle.switch_machine.specs.State.{ChannelState, LegState, State, slot_at, with_slot}
use Rattle.switch_model.proofs.Common.{self_eq}
use Rattle.switch_machine.proofs.Lying.{lies-with}
use Rattle.switch_model.proofs.Ported.{turned}
use Rattle.switch_machine.proofs.OneChannel.{channel-changed, channel-own}
use Rattle.switch_machine.proofs.OneStep.{step-added}
use Rattle.switch_machine.proofs.Slots.{length-with, slot_at-inside}
use Rattle.switch_machine.proofs.Take.Frames.{born-same, edge-taken, events-passed}
use Rattle.switch_machine.proofs.Take.Frees.{circuit-taken, freed-is, frees, ids-freed, lane-stays}

pub past-passed : (rules : Rules) (h : List Step) (chan : ℕ) (cell : Cell) (why : Why) (d : ℕ)
    → past rules (Take (chan_no chan) cell (PassedOver why) ∷ h) d ≡ past rules h d
past-passed rules h chan cell why d = ap (λ ev. record (past rules h d) { events = ev }) (events-passed rules h chan cell why d)

pub born-passed : (rules : Rules) (h : List Step) (chan : ℕ) (cell : Cell) (why : Why)
    → born_bodies rules (Take (chan_no chan) cell (PassedOver why) ∷ h) ≡ born_bodies rules h
born-passed rules h chan cell why = born-same rules h chan cell (PassedOver why) (events-passed rules h chan cell why) (λ c. refl)

pub edge-passed : (rules : Rules) (h : List Step) (chan : ℕ) (cell : Cell) (why : Why) (d : ℕ)
    → edge_past rules (Take (chan_no chan) cell (PassedOver why) ∷ h) d ≡ edge_past rules h d
edge-passed rules h chan cell why d =
    edge-taken rules h chan cell (PassedOver why) d (events-passed rules h chan cell why d)
    (ap (λ born dir. numbers_of (record { circ = d; dir = dir }) born) (born-passed rules h chan cell why))

-- no leg of the state has the CircID that the cell frees, if it frees one
abbrev pub FreesNoLeg : State → ℕ → Cell → Type 0
FreesNoLeg s chan cell = (cell.command == 4) ≡ true → (leg : Leg) → has_port chan cell.circ (leg_in s leg) ≡ false

unfreed-by : (chan : ℕ) (cell : Cell) (l : LegState) (b : Bool) → frees chan cell l.chan l.id ≡ b
    → ((cell.command == 4) ≡ true → has_port chan cell.circ (Some l) ≡ false) → b ≡ false
unfreed-by chan cell l true is none =
    let it = freed-is chan cell l.chan l.id is in
    let has : has_port chan cell.circ (Some l) ≡ true = rw (it.on_channel, it.on_id, self_eq l.chan, self_eq l.id) refl in
    let both : true ≡ false = sym has ∙ none it.by_destroy in absurd cc
unfreed-by chan cell l false is none = refl

unfreed : (s : State) (chan : ℕ) (cell : Cell) (leg : Leg) (l : LegState) → leg_in s leg ≡ Some l → FreesNoLeg s chan cell
    → frees chan cell l.chan l.id ≡ false
unfreed s chan cell leg l found none =
    unfreed-by chan cell l (frees chan cell l.chan l.id) refl
    (λ is. subst (λ y. has_port chan cell.circ y ≡ false) found (none is leg))

-- with channels that stand for the lanes behind the step
passed-with : (start : SwitchStart) (s : State) (h : List Step) (chan : ℕ) (cell : Cell) (why : Why)
    (slots : List (Option ChannelState)) → Stands start s h → IsRightStep start h (Take (chan_no chan) cell (PassedOver why))
    → FreesNoLeg s chan cell →
    ChannelsStand slots (λ m. channel_past start.rules (Take (chan_no chan) cell (PassedOver why) ∷ h) m)
    → length slots ≡ length s.channels → ((leg : Leg) → LiesOn s.channels (leg_in s leg) → LiesOn slots (leg_in s leg)) →
    Stands start (record (counted s) { channels = slots }) (Take (chan_no chan) cell (PassedOver why) ∷ h)
passed-with start s h chan cell why slots st right none stand size lies =
    let rules = start.rules in
    let step = Take (chan_no chan) cell (PassedOver why) in
    record {
      steps = step-added start s.steps h step st.steps right;
      numbers = record {
        channels = size ∙ st.numbers.channels;
        circuits = st.numbers.circuits;
        claims = st.numbers.claims;
        bodies = st.numbers.bodies ∙ ap (λ (l : List Way). length l) (sym (born-passed rules h chan cell why));
        dial_orders = st.numbers.dial_orders;
        tick = st.numbers.tick;
      };
      channels = stand;
      circuits = record {
        circuit = λ d. circuit-taken rules s.last_closes h chan cell (PassedOver why) d (slot_at s.circuits d)
            (λ k l found. unfreed s chan cell (record { circ = d; number = k }) l found none)
            (past-passed rules h chan cell why d) (edge-passed rules h chan cell why d) (st.circuits.circuit d);
        fresh = λ d beyond. rw (past-passed rules h chan cell why d, edge-passed rules h chan cell why d)
            (st.circuits.fresh d beyond);
      };
      ids = ids-freed (leg_in s) (leg_in s) (λ m. lane rules h m) (at h) (frees chan cell) (λ leg m i free has. has) st.ids;
      legs = record { lie = λ leg. lies leg (st.legs.lie leg) };
      dials = st.dials;
      counts = st.counts;
      slots = st.slots;
      not_yet = st.not_yet;
    }

-- on channels whose lanes stay

lane-at : (rules : Rules) (h : List Step) (chan : ℕ) (cell : Cell) (why : Why) (m : ℕ) (x : Option ChannelState)
    → ((y : ChannelState) → x ≡ Some y → (i : ℕ) → frees chan cell m i ≡ false) →
    ChannelAt x (channel_past rules h m) → ChannelAt x (channel_past rules (Take (chan_no chan) cell (PassedOver why) ∷ h) m)
lane-at rules h chan cell why m None none own = record { channel = own.channel; lane = rw own.lane refl }
lane-at rules h chan cell why m (Some x) none own =
    record {
      channel = own.channel;
      given_count = own.given_count;
      lane =
          own.lane ∙ sym (lane-stays (frees chan cell m) (lane rules h m) (λ d. none x refl d.id));
    }

pub passed-by : (start : SwitchStart) (s : State) (h : List Step) (chan : ℕ) (cell : Cell) (why : Why) → Stands start s h
    → IsRightStep start h (Take (chan_no chan) cell (PassedOver why)) → FreesNoLeg s chan cell →
    ((m : ℕ) (x : ChannelState) → slot_at s.channels m ≡ Some x → (i : ℕ) → frees chan cell m i ≡ false)
    → Stands start (counted s) (Take (chan_no chan) cell (PassedOver why) ∷ h)
passed-by start s h chan cell why st right none quiet =
    passed-with start s h chan cell why s.channels st right none
    (record {
      channel = λ m. lane-at start.rules h chan cell why m (slot_at s.channels m) (quiet m) (st.channels.channel m);
      no_channel = st.channels.no_channel;
    })
    refl (λ leg lies. lies)

-- where our DESTROY for it goes

filter-same : (f g : Destroy → Bool) (xs : List Destroy) → ((d : Destroy) → f d ≡ g d) → filter f xs ≡ filter g xs
filter-same f g [] same = refl
filter-same f g (x ∷ xs) same = rw (same x, filter-same f g xs same) refl

and-true : (b : Bool) → not b ≡ not (b && true)
and-true true = refl
and-true false = refl

freed-here : (chan : ℕ) (cell : Cell) (i : ℕ) → (cell.command == 4) ≡ true → not (i == cell.circ) ≡ not (frees chan cell chan i)
freed-here chan cell i is = rw (self_eq chan, is, turned i cell.circ) (and-true (cell.circ == i))

lane-elsewhere : (rules : Rules) (h : List Step) (chan : ℕ) (cell : Cell) (why : Why) (m : ℕ) → (chan == m) ≡ false →
    channel_past rules (Take (chan_no chan) cell (PassedOver why) ∷ h) m ≡ channel_past rules h m
lane-elsewhere rules h chan cell why m other =
    ap (λ l. record (channel_past rules h m) { lane = l }) (lane-stays (frees chan cell m) (lane rules h m) (λ d. rw other refl))

pub freed-kept : (start : SwitchStart) (s : State) (h : List Step) (chan : ℕ) (cell : Cell) (why : Why) (x : ChannelState)
    → Stands start s h → slot_at s.channels chan ≡ Some x → (cell.command == 4) ≡ true →
    IsRightStep start h (Take (chan_no chan) cell (PassedOver why)) → FreesNoLeg s chan cell →
    Stands start (record (counted s) { channels = with_slot s.channels chan (Some (without_destroys cell.circ x)) })
    (Take (chan_no chan) cell (PassedOver why) ∷ h)
freed-kept start s h chan cell why x st found is right none =
    let rules = start.rules in
    let own = channel-own s.channels (λ m. channel_past rules h m) chan x found st.channels in
    passed-with start s h chan cell why (with_slot s.channels chan (Some (without_destroys cell.circ x))) st right none
    (channel-changed s.channels (λ m. channel_past rules h m)
    (λ m. channel_past rules (Take (chan_no chan) cell (PassedOver why) ∷ h) m) chan x (without_destroys cell.circ x) found
    (λ m other. lane-elsewhere rules h chan cell why m other)
    (record {
      channel = own.channel;
      given_count = own.given_count;
      lane =
          rw own.lane (filter-same _ _ (lane rules h chan) (λ d. freed-here chan cell d.id is));
    }) st.channels)
    (length-with s.channels chan _)
    (λ leg. lies-with s.channels chan (without_destroys cell.circ x) (leg_in s leg) (slot_at-inside s.channels chan x found))
