-- What a cell that leaves makes of the switch's parts.
use Rattle.std.proofs.Common.{◌≡◌, ◌<◌, ◌≤◌, ◌+◌, ◌-◌, ◌==◌, ℕ, Bool, true, false, if◌then◌else◌, List, [], ◌∷◌, length, get_or, max, Option, Some, None, IfSome, IfNone, slice_set, refl, sym, ap, subst, ◌∙◌, arith, zero, suc}
use Rattle.cell_codec.specs.declared.cell.Cell.{Cell}
use Rattle.circuit_model.specs.Events.{CircuitCell}
use Rattle.tor_spec.specs.CellCommands.{destroy_command}
use Rattle.switch_model.specs.Names.{Leg}
use Rattle.switch_machine.specs.State.{ChannelState, LegState, WayState, CircuitState, State, slot_at, with_slot, all_there}
use Rattle.switch_machine.specs.Machine.{leg_at, leg_in}
use Rattle.switch_machine.specs.Calls.NextCell.{ticked, first_cell, cell_of_leg, picked_leg, sent_first, circuit_sent, with_leg, sent_from, lane_of, next_cell_result, next_cell_state}
use Rattle.switch_machine.proofs.PlainLists.{length-all_there, with_slot-all_there}
use Rattle.switch_core.specs.Meaning.{state_of, home_count, circuit_of, FirstLeaves}
use Rattle.switch_core.specs.declared.counters.Counters.{Counters}
use Rattle.switch_core.specs.Ordering.{OrdersState}
use Rattle.switch_core.specs.Picking.{first_leg_of, FirstSent, SlotSent, DestroyLeaves}
use Rattle.switch_core.proofs.Gone.{slot-get, slot-set, with-same}
use Rattle.switch_core.proofs.Plain.{there}

-- a place of the lists

there_in : {A : Type 0} (xs : List A) (slots : List (Option A)) (n : ℕ) (d : A) → all_there xs ≡ slots → n < length slots
    → slot_at slots n ≡ Some (get_or xs n d)
there_in xs slots n d is below =
    ap (λ l. slot_at l n) (sym is)
    ∙ there xs n d (subst (λ k. n < k) (ap length (sym is) ∙ length-all_there xs) below)

pub channel_at : (k : Counters) (channels : List ChannelState) (circuits : List (Option CircuitState)) (s : State) (n : ℕ)
    (d : ChannelState) → state_of k channels circuits ≡ s → n < length s.channels →
    slot_at s.channels n ≡ Some (get_or channels n d)
channel_at k channels circuits s n d is below = there_in channels s.channels n d (ap (λ x. x.channels) is) below

pub circuit_at : (k : Counters) (channels : List ChannelState) (circuits : List (Option CircuitState)) (s : State) (n : ℕ)
    (d : Option CircuitState) → state_of k channels circuits ≡ s → n < length s.circuits →
    slot_at s.circuits n ≡ get_or circuits n d
circuit_at k channels circuits s n d is below =
    ap (λ (x : State). slot_at x.circuits n) (sym is)
    ∙ slot-get circuits n d (subst (λ (x : State). n < length x.circuits) (sym is) below)

-- the same, as it was read from the list
pub circuit_read : (k : Counters) (channels : List ChannelState) (circuits : List (Option CircuitState)) (s : State) (n : ℕ)
    (x : Option CircuitState) → state_of k channels circuits ≡ s → n < length circuits → x ≡ get_or circuits n x →
    slot_at s.circuits n ≡ x
circuit_read k channels circuits s n x is below at =
    ap (λ (y : State). slot_at y.circuits n) (sym is) ∙ slot-get circuits n x below ∙ sym at

pub channel_put : (k : Counters) (channels : List ChannelState) (circuits : List (Option CircuitState)) (s : State) (n : ℕ)
    (new : ChannelState) → state_of k channels circuits ≡ s →
    state_of k (slice_set channels n new) circuits ≡ record s { channels = with_slot s.channels n (Some new) }
channel_put k channels circuits s n new is =
    ap {A = List (Option ChannelState)} (λ l. record (state_of k channels circuits) { channels = l })
    (sym (with_slot-all_there channels n new))
    ∙ ap {A = State} (λ x. record x { channels = with_slot x.channels n (Some new) }) is

pub circuit_put : (k : Counters) (channels : List ChannelState) (circuits : List (Option CircuitState)) (s : State) (n : ℕ)
    (new : Option CircuitState) → state_of k channels circuits ≡ s →
    state_of k channels (slice_set circuits n new) ≡ record s { circuits = with_slot s.circuits n new }
circuit_put k channels circuits s n new is =
    ap {A = List (Option CircuitState)} (λ l. record (state_of k channels circuits) { circuits = l })
    (sym (slot-set circuits n new))
    ∙ ap {A = State} (λ x. record x { circuits = with_slot x.circuits n new }) is

pub inside : {A : Type 0} (slots : List (Option A)) (n : ℕ) (x : A) → slot_at slots n ≡ Some x → n < length slots
unfolding slot_at
inside [] n x there = absurd cc
inside (y ∷ slots) zero x there = omega arith
inside (y ∷ slots) (suc n) x there = let rest : n < length slots = inside slots n x there in omega (arith, rest)

-- a leg's first cell

new-queue : (b : Bool) (old new : LegState) (cells : List CircuitCell) (count now : ℕ)
    → Some new ≡ (if b then None else Some (record old { queue = cells; count = count; counted_at = now })) → new.queue ≡ cells
new-queue true old new cells count now e = absurd cc
new-queue false old new cells count now e = cc

circuit-same : (x : CircuitState) (m n : ℕ) (legs more : List (Option LegState)) → m ≡ n → legs ≡ more
    → ◌≡◌ {A = CircuitState} (record x { sent_count = m; legs = legs }) (record x { sent_count = n; legs = more })
circuit-same x m n legs more e f = rw (e, f) refl

sent-by : (forth back : WayState) (orders : OrdersState) (old new : LegState) (now : ℕ) (cells : List CircuitCell)
    → length cells ≤ 1 + home_count back → old.queue ≡ cells → Some new ≡ sent_first now old cells →
    circuit_of new forth back orders ≡ circuit_sent now 0 (circuit_of old forth back orders) old cells
unfolding slot_at with_slot
sent-by forth back orders old new now [] fits queued e = let same : new ≡ old =
    cc in ap (λ leg. circuit_of leg forth back orders) same
sent-by forth back orders old new now (cell ∷ cells) fits queued e =
    let fewer : length new.queue ≡ length cells = ap length (new-queue (cell.command == destroy_command) old new cells _ now e) in
    let all : length old.queue ≡ suc (length cells) = ap length queued in
    circuit-same (circuit_of old forth back orders) (1 + home_count back - length new.queue)
    (1 + home_count back - length old.queue + 1) (Some new ∷ []) (sent_first now old (cell ∷ cells) ∷ [])
    (omega (arith, fewer, all, fits)) (ap (λ o. o ∷ []) e)

pub first_sent : (forth back : WayState) (orders : OrdersState) (old new : LegState) (now : ℕ)
    → length old.queue ≤ 1 + home_count back → Some new ≡ sent_first now old old.queue
    → FirstSent now (circuit_of old forth back orders) (circuit_of new forth back orders)
unfolding slot_at
first_sent forth back orders old new now fits e =
    record { found = old; first = refl; sent = sent-by forth back orders old new now old.queue fits refl e }

fewer-by : (old new : LegState) (now : ℕ) (cells : List CircuitCell) → old.queue ≡ cells → Some new ≡ sent_first now old cells
    → length new.queue ≤ length old.queue
fewer-by old new now [] queued e = let same : new ≡ old = cc in omega (arith, ap (λ (l : LegState). length l.queue) same)
fewer-by old new now (cell ∷ cells) queued e =
    let fewer : length new.queue ≡ length cells = ap length (new-queue (cell.command == destroy_command) old new cells _ now e) in
    let all : length old.queue ≡ suc (length cells) = ap length queued in
    omega (arith, fewer, all)

-- no more cells wait than before
pub fewer_wait : (old new : LegState) (now : ℕ) → Some new ≡ sent_first now old old.queue → length new.queue ≤ length old.queue
fewer_wait old new now e = fewer-by old new now old.queue refl e

sent-slot : (s t : State) (now n : ℕ) (old new : Option CircuitState) → slot_at s.circuits n ≡ old → SlotSent now old new →
    t ≡ record s { circuits = with_slot s.circuits n new } → t ≡ sent_from s now (Some (first_leg_of n))
sent-slot s t now n None new live sent put =
    put
    ∙ ap (λ (x : Option CircuitState). record s { circuits = with_slot s.circuits n x }) (sent ∙ sym live)
    ∙ ap (λ l. record s { circuits = l }) (with-same s.circuits n)
    ∙ rw live refl
sent-slot s t now n (Some old) None live sent put = absurd sent
sent-slot s t now n (Some old) (Some new) live sent put = put ∙ rw (live, sent.first, sent.sent) refl

pub picked_sent : (s t : State) (now n : ℕ) (picked : Option Leg) (old new : Option CircuitState) → picked ≡ Some (first_leg_of n)
    → slot_at s.circuits n ≡ old → SlotSent now old new →
    t ≡ record s { circuits = with_slot s.circuits n new } → t ≡ sent_from s now picked
picked_sent s t now n picked old new is live sent put = rw is (sent-slot s t now n old new live sent put)

pub picked_cell : (s : State) (n : ℕ) (picked : Option Leg) (old : Option CircuitState) → picked ≡ Some (first_leg_of n)
    → slot_at s.circuits n ≡ old →
    first_cell (leg_at old 0) ≡ cell_of_leg s picked
picked_cell s n picked old is live = rw (is, live) refl

-- the oldest DESTROY

pub destroy_leaves : (s t : State) (chan : ℕ) (old new : ChannelState) (o : Option Cell) → slot_at s.channels chan ≡ Some old
    → t ≡ record s { channels = with_slot s.channels chan (Some new) } →
    IfSome o (λ cell. FirstLeaves old new cell) → IfSome o (λ cell. DestroyLeaves s t chan cell)
destroy_leaves s t chan old new None live is leaves = tt
destroy_leaves s t chan old new (Some cell) live is leaves = record {
  channel = old;
  first = leaves.first;
  rest = leaves.rest;
  live = live;
  lane = leaves.lane;
  left = is ∙ ap (λ x. record s { channels = with_slot s.channels chan (Some x) }) leaves.left;
  is = leaves.is;
}

-- the machine's call, by what leaves

ticked-with : (s : State) (new_tick now : ℕ) (leg : Leg) (x : Option CircuitState) (y : Option LegState)
    → ticked (with_leg s now leg x y) new_tick ≡ with_leg (ticked s new_tick) now leg x y
ticked-with s new_tick now leg (Some x) (Some y) = refl
ticked-with s new_tick now leg (Some x) None = refl
ticked-with s new_tick now leg None y = refl

ticked-from : (s : State) (new_tick now : ℕ) (o : Option Leg)
    → ticked (sent_from s now o) new_tick ≡ sent_from (ticked s new_tick) now o
ticked-from s new_tick now (Some leg) = ticked-with s new_tick now leg (slot_at s.circuits leg.circ) (leg_in s leg)
ticked-from s new_tick now None = refl

pub none_left : (s : State) (chan new_tick : ℕ) → slot_at s.channels chan ≡ None
    → ticked s new_tick ≡ next_cell_state s chan new_tick
none_left s chan new_tick none = rw none refl

pub none_said : (s : State) (chan new_tick : ℕ) → slot_at s.channels chan ≡ None → None ≡ next_cell_result s chan new_tick
none_said s chan new_tick none = rw none refl

pub picked_left : (s t : State) (chan new_tick : ℕ) (channel : ChannelState) → slot_at s.channels chan ≡ Some channel
    → channel.lane ≡ [] → t ≡ sent_from s (max s.tick new_tick) (picked_leg s chan new_tick) →
    ticked t new_tick ≡ next_cell_state s chan new_tick
picked_left s t chan new_tick channel live quiet is =
    rw (is, live, quiet) (ticked-from s new_tick (max s.tick new_tick) (picked_leg s chan new_tick))

pub picked_said : (s : State) (chan new_tick : ℕ) (channel : ChannelState) → slot_at s.channels chan ≡ Some channel
    → channel.lane ≡ [] → cell_of_leg s (picked_leg s chan new_tick) ≡ next_cell_result s chan new_tick
picked_said s chan new_tick channel live quiet = rw (live, quiet) refl

pub destroy_left : (s t : State) (chan new_tick : ℕ) (channel : ChannelState) (o : Option Cell)
    → slot_at s.channels chan ≡ Some channel → (channel.lane ≡ [] → ⊥) →
    IfSome o (λ cell. DestroyLeaves s t chan cell) → IfNone o (lane_of (slot_at s.channels chan) ≡ [])
    → ticked t new_tick ≡ next_cell_state s chan new_tick
destroy_left s t chan new_tick channel None live waits leaves none = absurd (waits (ap lane_of (sym live) ∙ none))
destroy_left s t chan new_tick channel (Some cell) live waits leaves none = rw (leaves.left, leaves.live, leaves.lane) refl

pub destroy_said : (s t : State) (chan new_tick : ℕ) (channel : ChannelState) (o : Option Cell)
    → slot_at s.channels chan ≡ Some channel → (channel.lane ≡ [] → ⊥) →
    IfSome o (λ cell. DestroyLeaves s t chan cell) → IfNone o (lane_of (slot_at s.channels chan) ≡ [])
    → o ≡ next_cell_result s chan new_tick
destroy_said s t chan new_tick channel None live waits leaves none = absurd (waits (ap lane_of (sym live) ∙ none))
destroy_said s t chan new_tick channel (Some cell) live waits leaves none = rw (leaves.live, leaves.lane) (ap Some leaves.is)
