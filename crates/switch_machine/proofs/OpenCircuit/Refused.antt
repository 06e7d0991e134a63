-- open_circuit that is refused keeps what a state stands for.
use Rattle.std.proofs.Common.{◌≡◌, ℕ, ◌==◌, ◌||◌, Bool, true, false, if◌then◌else◌, List, [], ◌∷◌, ◌++◌, Option, Some, None, nat_le, refl, ◌∙◌, inl, inr}
use Rattle.std.specs.List.{list_any, count_by}
use Rattle.cell_codec.specs.declared.cell.Cell.{Cell}
use Rattle.kdf_tor.specs.declared.LayerKeys.{LayerKeys}
use Rattle.tr_io.specs.declared.answers.OpenAnswer.TheVariants.{Refused}
use Rattle.tr_io.specs.declared.answers.OpenRefusal.{OpenRefusal}
use Rattle.tr_io.specs.declared.step.Step.{Step}
use Rattle.tr_io.specs.declared.step.Step.TheVariants.{OpenCircuit}
use Rattle.switch_model.specs.Limits.{refusal_limit}
use Rattle.switch_model.specs.Start.{SwitchStart}
use Rattle.switch_model.specs.Names.{Leg, chan_no}
use Rattle.switch_model.specs.History.Channels.{is_ours, opened_by_us, channel_at}
use Rattle.switch_model.specs.History.Legs.{at}
use Rattle.switch_model.specs.Waiting.Lanes.{Destroy, lane, refusal_reason, with_refusal}
use Rattle.switch_model.specs.Legal.{IsRightStep}
use Rattle.switch_machine.specs.State.{ChannelState, LegState, State, slot_at}
use Rattle.switch_machine.specs.Machine.{leg_in}
use Rattle.switch_machine.specs.Stands.Numbers.{numbers_in, numbers_past}
use Rattle.switch_machine.specs.Stands.Channels.{channel_past}
use Rattle.switch_machine.specs.Stands.CircIds.{IsUsed}
use Rattle.switch_machine.specs.Stands.{Stands}
use Rattle.switch_machine.specs.Calls.OpenCircuit.{refusing, open_state_by}
use Rattle.switch_model.proofs.Common.{self_eq}
use Rattle.switch_machine.proofs.OneStep.{step-added, channel-count}
use Rattle.switch_machine.proofs.OneChannel.{channel-own, channel-changed}
use Rattle.switch_machine.proofs.Lying.{lies-with}
use Rattle.switch_machine.proofs.Slots.{length-with, slot_at-inside}

-- a lane with a refusal has what it had
any-by : (test : Destroy → Bool) (xs : List Destroy) (d : Destroy) (b : Bool)
    → (list_any test xs ≡ true → list_any test (xs ++ d ∷ []) ≡ true) → (b || list_any test xs) ≡ true
    → (b || list_any test (xs ++ d ∷ [])) ≡ true
any-by test xs d true more some = refl
any-by test xs d false more some = more some

any-more : (test : Destroy → Bool) (xs : List Destroy) (d : Destroy) → list_any test xs ≡ true
    → list_any test (xs ++ d ∷ []) ≡ true
any-more test [] d some = absurd cc
any-more test (x ∷ xs) d some = any-by test xs d (test x) (any-more test xs d) some

any-if : (test : Destroy → Bool) (b : Bool) (xs ys : List Destroy) → list_any test xs ≡ true → list_any test ys ≡ true
    → list_any test (if b then xs else ys) ≡ true
any-if test true xs ys f g = f
any-if test false xs ys f g = g

any-refusal : (test : Destroy → Bool) (id : ℕ) (reason : Option ℕ) (xs : List Destroy) → list_any test xs ≡ true
    → list_any test (with_refusal id reason xs) ≡ true
any-refusal test id None xs some = some
any-refusal test id (Some r) xs some =
    any-if test (nat_le refusal_limit (count_by (λ d. d.refusal) xs)) xs _ some (any-more test xs _ some)

used-more : (legs : Leg → Option LegState) (xs ys : List Destroy) (chan id : ℕ) (x : Option Leg) →
    (list_any (λ d. d.id == id) xs ≡ true → list_any (λ d. d.id == id) ys ≡ true) → IsUsed legs xs chan id x
    → IsUsed legs ys chan id x
used-more legs xs ys chan id None more used = tt
used-more legs xs ys chan id (Some leg) more (inl has) = inl has
used-more legs xs ys chan id (Some leg) more (inr waits) = inr (more waits)

pub refused-kept : (start : SwitchStart) (s : State) (h : List Step) (chan id : ℕ) (reply : Cell) (keys : Option LayerKeys)
    (pad : Option (List ℕ)) (why : OpenRefusal) (channel : ChannelState) →
    Stands start s h → slot_at s.channels chan ≡ Some channel
    → IsRightStep start h (OpenCircuit (chan_no chan) id reply keys pad (Refused why)) →
    Stands start (open_state_by s chan id reply keys (Some channel) (Refused why))
    (OpenCircuit (chan_no chan) id reply keys pad (Refused why) ∷ h)
refused-kept start s h chan id reply keys pad why channel st found answered =
    let rules = start.rules in
    let step = OpenCircuit (chan_no chan) id reply keys pad (Refused why) in
    let own = channel-own s.channels (λ n. channel_past rules h n) chan channel found st.channels in
    let ours : opened_by_us (channel_at h chan) ≡ is_ours channel.side = rw own.channel refl in
    let inside = slot_at-inside s.channels chan channel found in
    let owed : ℕ → Option ℕ = λ n. refusal_reason (opened_by_us (channel_at h n)) id why in
    record {
      steps = step-added start s.steps h step st.steps answered;
      numbers = channel-count (numbers_in s) (numbers_past rules h) _ _ (length-with s.channels chan _ ∙ st.numbers.channels)
          st.numbers;
      channels = channel-changed s.channels (λ n. channel_past rules h n) (λ n. channel_past rules (step ∷ h) n) chan channel
          (refusing id why channel) found (λ n other. rw other refl)
          (record { channel = own.channel; given_count = own.given_count; lane = rw (self_eq chan, ours, own.lane) refl })
          st.channels;
      circuits = st.circuits;
      ids = record {
        used = λ n i.
            let waits : Destroy → Bool = λ d. d.id == i in
            used-more (leg_in s) (lane rules h n) _ n i (at h n i)
            (λ some. any-if waits (chan == n) _ _ (any-refusal waits id (owed n) (lane rules h n) some) some) (st.ids.used n i);
      };
      legs = record { lie = λ leg. lies-with s.channels chan (refusing id why channel) (leg_in s leg) inside (st.legs.lie leg) };
      dials = st.dials;
      counts = st.counts;
      slots = st.slots;
      not_yet = st.not_yet;
    }
