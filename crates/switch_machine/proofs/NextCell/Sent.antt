-- next_cell that gives the first cell of a leg keeps what a state stands for: all circuits together.
use Rattle.std.proofs.Common.{◌≡◌, ℕ, ◌-◌, ◌≤◌, ◌==◌, ◌&&◌, Bool, true, false, if◌then◌else◌, max, List, [], ◌∷◌, length, drop, Option, Some, None, refl, ◌∙◌, ap, subst, arith, inl, inr}
use Rattle.std.proofs.lemmas.Bool.Decides.{eqb_tells}
use Rattle.circuit_model.specs.Events.{CircuitCell}
use Rattle.tr_io.specs.declared.step.Step.{Step}
use Rattle.tr_io.specs.declared.step.Step.TheVariants.{NextCell}
use Rattle.switch_model.specs.Start.{SwitchStart}
use Rattle.switch_model.specs.Names.{Leg, is_leg, chan_no}
use Rattle.switch_model.specs.History.Legs.{at, is_destroy_for, holds_id}
use Rattle.switch_model.specs.History.Circuit.{is_live_circuit}
use Rattle.switch_model.specs.Waiting.Lanes.{Destroy, lane}
use Rattle.switch_model.specs.Waiting.Counts.{tick, cell_count, halved, charged}
use Rattle.switch_model.specs.History.Past.{past}
use Rattle.switch_model.specs.History.EdgePast.{edge_past}
use Rattle.switch_model.specs.Answers.NextCell.{cell_at, next_cell_answer}
use Rattle.switch_machine.specs.State.{ChannelState, LegState, CircuitState, State, slot_at, with_slot}
use Rattle.switch_machine.specs.Machine.{has_port, leg_at, leg_in, dial_in}
use Rattle.switch_machine.specs.Stands.Numbers.{numbers_in, numbers_past}
use Rattle.switch_machine.specs.Stands.CircIds.{IsUsed}
use Rattle.switch_machine.specs.Stands.Legs.{LiesOn}
use Rattle.switch_machine.specs.Stands.Counts.{CountAt, CountStands}
use Rattle.switch_machine.specs.Stands.{Stands}
use Rattle.switch_machine.specs.Calls.NextCell.{count_of, ticked, sent_first, sent_after, circuit_sent}
use Rattle.switch_model.proofs.Common.{not_equal, and-first, and-second, same-number}
use Rattle.switch_model.proofs.Ported.{turned}
use Rattle.switch_machine.proofs.OneStep.{step-added, circuit-count, tick-given}
use Rattle.switch_machine.proofs.OneCircuit.{circuit-own, circuit-changed, dial_in-kept}
use Rattle.switch_machine.proofs.Dials.{again-kept}
use Rattle.switch_machine.proofs.Lying.{lies-first}
use Rattle.switch_machine.proofs.Slots.{slot_at-with, length-with, slot_at-inside}
use Rattle.switch_machine.proofs.Ids.{leg-has_id}
use Rattle.switch_machine.proofs.Counting.{count-later, later-by, halved-none, halved-never}
use Rattle.switch_machine.proofs.NextCell.Destroy.{circuit-on, past-on}
use Rattle.switch_machine.proofs.NextCell.Leg.{leg-named, circuit-sent}

-- the state after the leg's first cell left
abbrev pub sent_state : State → ℕ → ℕ → ℕ → CircuitState → LegState → List CircuitCell → State
sent_state s new_tick c k x leg cells =
    record (ticked s new_tick) { circuits = with_slot s.circuits c (Some (circuit_sent (max s.tick new_tick) k x leg cells)) }

-- its legs
leg_in-sent : (s : State) (c k n : ℕ) (x : CircuitState) (y : Option LegState) (old : LegState) → slot_at s.circuits c ≡ Some x
    → slot_at x.legs k ≡ Some old → (leg : Leg) →
    leg_at (slot_at (with_slot s.circuits c (Some (record x { sent_count = n; legs = with_slot x.legs k y }))) leg.circ)
    leg.number ≡ (if (leg.circ == c) && (leg.number == k) then y else leg_in s leg)
leg_in-sent s c k n x y old found_circuit found_leg leg =
    let new = Some (record x { sent_count = n; legs = with_slot x.legs k y }) in
    let inside = slot_at-inside s.circuits c x found_circuit in
    let leg_inside = slot_at-inside x.legs k old found_leg in
    elim (eqb_tells leg.circ c) [
      | inl (is, same) ↦ rw (
        slot_at-with s.circuits c new leg.circ inside,
        is,
        slot_at-with x.legs k y leg.number leg_inside,
        same,
        found_circuit,
      ) refl
      | inr (is, other) ↦ rw (slot_at-with s.circuits c new leg.circ inside, is) refl
    ]

clash : (a b : Bool) → (a && (b && true)) ≡ false → (a && b) ≡ true → ⊥
clash true true kept has = cc
clash true false kept has = cc
clash false b kept has = cc

port-when : (m i : ℕ) (leg : LegState) (now : ℕ) (cell : CircuitCell) (cells : List CircuitCell) (d : Bool)
    → (cell.command == 4) ≡ d → ((leg.chan == m) && ((leg.id == i) && d)) ≡ false →
    has_port m i (Some leg) ≡ true → has_port m i (sent_first now leg (cell ∷ cells)) ≡ true
port-when m i leg now cell cells true is_destroy kept has = absurd (clash (leg.chan == m) (leg.id == i) kept has)
port-when m i leg now cell cells false is_destroy kept has = rw is_destroy has

port-by : (m i : ℕ) (b : Bool) (y z : Option LegState) → (b ≡ true → has_port m i y ≡ true) → has_port m i z ≡ true
    → has_port m i (if b then y else z) ≡ true
port-by m i true y z here there = here refl
port-by m i false y z here there = there

leg-is : (s : State) (c k : ℕ) (leg : LegState) → leg_at (slot_at s.circuits c) k ≡ Some leg → (other : Leg)
    → ((other.circ == c) && (other.number == k)) ≡ true → leg_in s other ≡ Some leg
leg-is s c k leg found other it =
    let same_circ : other.circ ≡ c = same-number other.circ c (and-first (other.circ == c) _ it) in
    let same_leg : other.number ≡ k = same-number other.number k (and-second (other.circ == c) _ it) in
    rw (same_circ, same_leg) found

used-sent : (s t : State) (waits : List Destroy) (m i : ℕ) (b : Bool) (x : Option Leg)
    → ((other : Leg) → b ≡ false → has_port m i (leg_in s other) ≡ true → has_port m i (leg_in t other) ≡ true) →
    IsUsed (leg_in s) waits m i x → IsUsed (leg_in t) waits m i (if b then None else x)
used-sent s t waits m i true x keeps used = tt
used-sent s t waits m i false None keeps used = tt
used-sent s t waits m i false (Some other) keeps (inl has) = inl (keeps other refl has)
used-sent s t waits m i false (Some other) keeps (inr waiting) = inr waiting

-- the leg lies where it lay
lies-sent : (slots : List (Option ChannelState)) (b : Bool) (now : ℕ) (leg : LegState) (z : Option LegState) (cell : CircuitCell)
    (cells : List CircuitCell) → LiesOn slots (Some leg) → LiesOn slots z →
    LiesOn slots (if b then sent_first now leg (cell ∷ cells) else z)
lies-sent slots true now leg z cell cells own other = lies-first slots now leg cell cells (cell.command == 4) refl own
lies-sent slots false now leg z cell cells own other = other

-- the lane of the leg's channel was empty
drop-none : (b : Bool) (waits : List Destroy) → (b ≡ true → waits ≡ []) → (if b then drop 1 waits else waits) ≡ waits
drop-none true waits none = rw (none refl) refl
drop-none false waits none = refl

-- counts
count-first : (leg : LegState) (n now before new_tick : ℕ) (cell : CircuitCell) (cells : List CircuitCell) (b : Bool)
    → before ≡ now → CountStands leg n now →
    CountAt (if b then None
    else Some (record leg {
      queue = cells;
      count = charged (count_of (max before new_tick) leg);
      counted_at = max before new_tick;
    })) (charged (halved n (new_tick - now))) (max now new_tick)
count-first leg n now before new_tick cell cells true same own = tt
count-first leg n now before new_tick cell cells false same own =
    let none : max now new_tick - max before new_tick ≡ 0 = omega (arith, same) in
    record {
      since = omega (arith, same);
      count = rw (none, halved-never (charged (count_of (max before new_tick) leg)), same, later-by leg n now new_tick own) refl;
    }

count-by : (b l : Bool) (y z : Option LegState) (n more now : ℕ) → (b ≡ true → l ≡ true) → (b ≡ true → CountAt y more now)
    → CountAt z n now → CountAt (if b then y else z) (if b && l then more else n) now
count-by true l y z n more now alive here there = rw (alive refl) (here refl)
count-by false l y z n more now alive here there = there

pub leg-left : (start : SwitchStart) (s : State) (h : List Step) (new_tick c k : ℕ) (x : CircuitState) (leg : LegState)
    (cell : CircuitCell) (cells : List CircuitCell) → Stands start s h →
    slot_at s.circuits c ≡ Some x → slot_at x.legs k ≡ Some leg → leg.queue ≡ cell ∷ cells → lane start.rules h leg.chan ≡ [] →
    Some (cell_at leg.id cell) ≡ next_cell_answer start.rules h leg.chan new_tick →
    Stands start (sent_state s new_tick c k x leg (cell ∷ cells))
    (NextCell (chan_no leg.chan) new_tick (Some (cell_at leg.id cell)) ∷ h)
leg-left start s h new_tick c k x leg cell cells st found_circuit found_leg queued no_destroy said =
    let rules = start.rules in
    let step = NextCell (chan_no leg.chan) new_tick (Some (cell_at leg.id cell)) in
    let now = max s.tick new_tick in
    let y = sent_first now leg (cell ∷ cells) in
    let t = sent_state s new_tick c k x leg (cell ∷ cells) in
    let inside = slot_at-inside s.circuits c x found_circuit in
    let own = circuit-own rules s.last_closes s.circuits (λ d. past rules h d) (λ d j. holds_id h d j) (λ d. edge_past rules h d)
    c x found_circuit st.circuits in
    let many : length t.circuits ≡ length s.circuits =
    length-with s.circuits c (Some (circuit_sent now k x leg (cell ∷ cells))) in
    let found : leg_at (slot_at s.circuits c) k ≡ Some leg = rw found_circuit found_leg in
    let named : is_leg c k (at h leg.chan leg.id) ≡ true = leg-has_id start s h st c k leg found in
    let others : (d j : ℕ) → is_leg d j (at h leg.chan leg.id) ≡ ((c == d) && (k == j)) =
    λ d j. leg-named c k d j (at h leg.chan leg.id) named in
    let none : (d : ℕ) → (c == d) ≡ false → (j : ℕ) → (is_leg d j (at h leg.chan leg.id) && is_live_circuit rules h d) ≡ false =
    λ d unlike j. rw (others d j, unlike) refl in
    let beyond_c : (d : ℕ) → length s.circuits ≤ d → (c == d) ≡ false =
    λ d beyond. not_equal c d (λ same. absurd (omega (arith, beyond, inside, same))) in
    let same_lane : (n : ℕ) → lane rules (step ∷ h) n ≡ lane rules h n =
    λ n. drop-none (leg.chan == n) (lane rules h n)
    (λ here. subst (λ a. lane rules h a ≡ []) (same-number leg.chan n here) no_destroy) in
    let is_it : Leg → Bool = λ other. (other.circ == c) && (other.number == k) in
    let leg_of : (other : Leg) → leg_in t other ≡ (if is_it other then y else leg_in s other) =
    leg_in-sent s c k (sent_after k x.sent_count) x y leg found_circuit found_leg in
    record {
      steps = step-added start s.steps h step st.steps (tt, said);
      numbers = tick-given (record (numbers_in s) { circuits = length t.circuits }) (numbers_past rules h) _ _
          (ap (λ n. max n new_tick) st.numbers.tick)
          (circuit-count (numbers_in s) (numbers_past rules h) _ _ (many ∙ st.numbers.circuits) st.numbers);
      channels = record { channel = λ n. rw (same_lane n) (st.channels.channel n); no_channel = st.channels.no_channel };
      circuits = circuit-changed rules s.last_closes s.circuits (λ d. past rules h d) (λ d. past rules (step ∷ h) d)
          (λ d j. holds_id h d j) (λ d j. holds_id (step ∷ h) d j)
          (λ d. edge_past rules h d) (λ d. edge_past rules (step ∷ h) d) c x (Some (circuit_sent now k x leg (cell ∷ cells)))
          found_circuit
          (λ d other. circuit-on rules s.last_closes h leg.chan new_tick (cell_at leg.id cell) d (slot_at s.circuits d)
          (none d other))
          (λ d other fresh. rw (past-on rules h leg.chan new_tick (cell_at leg.id cell) d (none d other)) fresh)
          (circuit-sent rules s.last_closes h new_tick now c k x leg cell cells found_leg queued named own) st.circuits;
      ids = record {
        used = λ m i. rw (same_lane m)
            (used-sent s t (lane rules h m) m i (is_destroy_for (chan_no leg.chan) (cell_at leg.id cell) m i) (at h m i)
            (λ other unlike has. rw (leg_of other) (port-by m i (is_it other) y (leg_in s other)
            (λ it. port-when m i leg now cell cells (cell.command == 4) refl unlike (rw (leg-is s c k leg found other it) at has))
            has)) (st.ids.used m i));
      };
      legs = record {
        lie = λ other. rw (leg_of other)
            (lies-sent s.channels (is_it other) now leg (leg_in s other) cell cells
            (subst (λ z. LiesOn s.channels z) found (st.legs.lie (record { circ = c; number = k }))) (st.legs.lie other));
      };
      dials = record {
        are_out = again-kept (dial_in s) (dial_in t) s.again
            (λ d out. rw (dial_in-kept s c x (circuit_sent now k x leg (cell ∷ cells)) found_circuit refl d) out)
            st.dials.are_out;
        once = st.dials.once;
        never = st.dials.never;
      };
      counts = record {
        counts = λ other. rw (leg_of other, others other.circ other.number, turned c other.circ, turned k other.number)
            (count-by (is_it other) (is_live_circuit rules h other.circ) y (leg_in s other) _ _ (max (tick h) new_tick)
            (λ it. rw (same-number other.circ c (and-first (other.circ == c) _ it)) own.live)
            (λ it. count-first leg (cell_count rules h other.circ other.number) (tick h) s.tick new_tick cell cells
            (cell.command == 4) st.numbers.tick
            (subst (λ z. CountAt z (cell_count rules h other.circ other.number) (tick h)) (leg-is s c k leg found other it)
            (st.counts.counts other)))
            (count-later (leg_in s other) (cell_count rules h other.circ other.number) (tick h) new_tick
            (st.counts.counts other)));
        no_count = λ d j beyond.
            let past_end : length s.circuits ≤ d = omega (arith, beyond, many) in
            rw (none d (beyond_c d past_end) j, st.counts.no_count d j past_end) (halved-none (new_tick - tick h));
      };
      slots = st.slots;
      not_yet = st.not_yet;
    }
