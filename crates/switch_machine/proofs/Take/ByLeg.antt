-- A cell on a leg of a live circuit keeps what a state stands for.
use Rattle.std.proofs.Common.{Bool, List, None, Option, Some, false, if◌then◌else◌, nat_le, refl, subst, suc, sym, true, zero, ℕ, ◌&&◌, ◌==◌, ◌||◌, ◌∷◌, ◌≡◌}
use Rattle.std.proofs.Math.Dec.{eqb-suc-zero}
use Rattle.cell_codec.specs.declared.cell.Cell.{Cell}
use Rattle.circuit_model.specs.Events.{CircuitCell, Event}
use Rattle.circuit_model.specs.NextHop.{has_leg, leg_count, next_hop}
use Rattle.circuit_model.specs.Rules.{Rules}
use Rattle.circuit_model.specs.Words.{closes, log}
use Rattle.circuit_model.specs.declared.event.Event.TheVariants.{Answered}
use Rattle.switch_model.proofs.Common.{and-first, and-second, same-number}
use Rattle.switch_model.specs.Answers.Take.{is_created2, is_destroy, is_number, is_relay_early}
use Rattle.switch_model.specs.History.Circuit.{current_leg, events, is_waiting}
use Rattle.switch_model.specs.History.Legs.{at}
use Rattle.switch_model.specs.Legal.{IsRightStep}
use Rattle.switch_model.specs.Limits.{held_limit}
use Rattle.switch_model.specs.Names.{chan_no, circ_no, circuit_cell}
use Rattle.switch_model.specs.Start.{SwitchStart}
use Rattle.tor_spec.specs.Reasons.{destroy_destroyed, destroy_protocol, destroy_resource_limit}
use Rattle.tr_io.specs.declared.answers.TakeAnswer.{TakeAnswer}
use Rattle.tr_io.specs.declared.answers.TakeAnswer.TheVariants.{Down, PassedOver, Queued}
use Rattle.tr_io.specs.declared.answers.Why.{Why}
use Rattle.tr_io.specs.declared.names.Dir.TheVariants.{Back, Forth}
use Rattle.tr_io.specs.declared.step.Step.{Step}
use Rattle.tr_io.specs.declared.step.Step.TheVariants.{Take}
use Rattle.switch_machine.proofs.Take.BackKept.{queued-back}
use Rattle.switch_machine.proofs.Take.Down.{down-kept}
use Rattle.switch_machine.proofs.Take.Draining.{drained-kept}
use Rattle.switch_machine.proofs.Take.FoundLeg.{at-found}
use Rattle.switch_machine.proofs.Take.QueuedForth.{queued-forth}
use Rattle.switch_machine.specs.Calls.Take.{answered_in, held_by, hop_result, leg_result, leg_state, queued_in}
use Rattle.switch_machine.specs.Machine.{has_port, leg_in}
use Rattle.switch_machine.specs.Stands.{Stands}
use Rattle.switch_machine.specs.State.{CircuitState, LegState, State, slot_at}

-- with this answer the state behind the cell is t
abbrev pub IsKept : SwitchStart → List Step → ℕ → Cell → State → TakeAnswer → Type 0
IsKept start h chan cell t a = IsRightStep start h (Take (chan_no chan) cell a) → Stands start t (Take (chan_no chan) cell a ∷ h)

-- a cell on leg 0 of a live circuit

abbrev client_answer : ℕ → Bool → Bool → Bool → TakeAnswer
client_answer c is_end is_answer full =
    if is_end then Down (circ_no c) destroy_destroyed else if is_answer then Down
    (circ_no c) destroy_protocol else if full then Down (circ_no c) destroy_resource_limit else Queued

client-by : (start : SwitchStart) (s : State) (h : List Step) (chan c : ℕ) (cell : Cell) (x : CircuitState) (l : LegState) →
    Stands start s h → slot_at s.circuits c ≡ Some x → slot_at x.legs 0 ≡ Some l → l.chan ≡ chan → l.id ≡ cell.circ →
    at h chan cell.circ ≡ Some (record { circ = c; number = 0 }) → (is_end is_answer full : Bool) → (cell.command == 4) ≡ is_end →
    IsKept start h chan cell (leg_state start.rules (events start.rules h c) s (record { circ = c; number = 0 })
    (circuit_cell cell) x (client_answer c is_end is_answer full)) (client_answer c is_end is_answer full)
client-by start s h chan c cell x l st found first on_channel on_id here true is_answer full is =
    down-kept start s h chan c 0 destroy_destroyed cell x l st found first on_channel on_id here
client-by start s h chan c cell x l st found first on_channel on_id here false true full is =
    down-kept start s h chan c 0 destroy_protocol cell x l st found first on_channel on_id here
client-by start s h chan c cell x l st found first on_channel on_id here false false true is =
    down-kept start s h chan c 0 destroy_resource_limit cell x l st found first on_channel on_id here
client-by start s h chan c cell x l st found first on_channel on_id here false false false is =
    queued-forth start s h chan c cell x st found here is

-- one on a leg towards a next hop, by what is kept with each answer

abbrev Downs : (TakeAnswer → Type 0) → ℕ → Type 0
Downs K c = (r : ℕ) → K (Down (circ_no c) r)

if-kept : (K : TakeAnswer → Type 0) (b : Bool) (a other : TakeAnswer) → K a → K other → K (if b then a else other)
if-kept K true a other one two = one
if-kept K false a other one two = two

queued-kept : (K : TakeAnswer → Type 0) (rules : Rules) (ev : List Event) (x : CircuitState) (c : ℕ) → Downs K c → K Queued →
    K (queued_in rules ev x c Back)
queued-kept K rules ev x c down queued = if-kept K (nat_le held_limit (held_by rules ev x Back)) _ Queued
    (down destroy_resource_limit) queued

answered-kept : (K : TakeAnswer → Type 0) (rules : Rules) (ev : List Event) (x : CircuitState) (c : ℕ) (closing : Option ℕ) →
    Downs K c → K Queued → K (answered_in rules ev x c closing)
answered-kept K rules ev x c (Some reason) down queued = down reason
answered-kept K rules ev x c None down queued = queued-kept K rules ev x c down queued

hop-by : (K : TakeAnswer → Type 0) (rules : Rules) (ev : List Event) (x : CircuitState) (c : ℕ)
    (awaiting is_end is_early is_answer : Bool) (closing : Option ℕ) → Downs K c → (is_end ≡ false → K Queued) →
    K (if is_end then Down (circ_no c) destroy_destroyed else if is_early then Down
    (circ_no c) destroy_protocol else if is_answer && awaiting then answered_in rules ev x c closing
    else if is_answer || awaiting then Down (circ_no c) destroy_protocol else queued_in rules ev x c Back)
hop-by K rules ev x c awaiting true is_early is_answer closing down queued = down destroy_destroyed
hop-by K rules ev x c awaiting false is_early is_answer closing down queued =
    if-kept K is_early _ _ (down destroy_protocol) (if-kept K (is_answer && awaiting) _ _
    (answered-kept K rules ev x c closing down (queued refl))
    (if-kept K (is_answer || awaiting) _ _ (down destroy_protocol) (queued-kept K rules ev x c down (queued refl))))

leg-if : (b : Bool) (n k : ℕ) → is_number n (if b then Some k else None) ≡ true → b ≡ true
leg-if true n k is = refl
leg-if false n k is = absurd cc

current-by : (K : TakeAnswer → Type 0) (rules : Rules) (ev : List Event) (x : CircuitState) (c k : ℕ) (cell : CircuitCell)
    (b : Bool) → is_number k (current_leg (log rules ev)) ≡ b → Downs K c → K (PassedOver Why.NoCircuit) →
    (is_destroy cell.command ≡ false → has_leg (next_hop (log rules ev)) ≡ true → K Queued) →
    K (if b then hop_result rules ev x c (is_waiting (next_hop (log rules ev))) cell else PassedOver Why.NoCircuit)
current-by K rules ev x c k cell true is down over queued =
    hop-by K rules ev x c (is_waiting (next_hop (log rules ev))) (is_destroy cell.command) (is_relay_early cell.command)
    (is_created2 cell.command) (closes rules ev (Answered cell.body)) down
    (λ other. queued other (leg-if (has_leg (next_hop (log rules ev))) k (leg_count (log rules ev)) is))
current-by K rules ev x c k cell false is down over queued = over

-- by the leg

abbrev pub leg_answer : SwitchStart → List Step → ℕ → ℕ → Cell → CircuitState → TakeAnswer
leg_answer start h c k cell x = leg_result start.rules (events start.rules h c) (record { circ = c; number = k })
    (circuit_cell cell) (Some x)

abbrev pub LegKept : SwitchStart → State → List Step → ℕ → ℕ → ℕ → Cell → CircuitState → TakeAnswer → Type 0
LegKept start s h chan c k cell x a = IsKept start h chan cell (leg_state start.rules (events start.rules h c) s
    (record { circ = c; number = k }) (circuit_cell cell) x a) a

hop-leg : (start : SwitchStart) (s : State) (h : List Step) (chan c k : ℕ) (cell : Cell) (x : CircuitState) (l : LegState) →
    Stands start s h → slot_at s.circuits c ≡ Some x → slot_at x.legs (suc k) ≡ Some l → l.chan ≡ chan → l.id ≡ cell.circ →
    at h chan cell.circ ≡ Some (record { circ = c; number = suc k }) →
    LegKept start s h chan c (suc k) cell x (leg_answer start h c (suc k) cell x)
hop-leg start s h chan c k cell x l st found has on_channel on_id here =
    let K : TakeAnswer → Type 0 = LegKept start s h chan c (suc k) cell x in
    let ev = events start.rules h c in
    let same : leg_answer start h c (suc k) cell x ≡ (if is_number (suc k) (current_leg
    (log start.rules ev)) then hop_result start.rules ev x c (is_waiting (next_hop (log start.rules ev)))
    (circuit_cell cell) else PassedOver Why.NoCircuit) =
    rw (eqb-suc-zero k) refl in
    subst K (sym same) (current-by K start.rules ev x c (suc k) (circuit_cell cell) (is_number (suc k) (current_leg
    (log start.rules ev))) refl
    (λ r. down-kept start s h chan c (suc k) r cell x l st found has on_channel on_id here)
    (drained-kept start s h chan c (suc k) cell x l st found has on_channel on_id here)
    (λ other linked. queued-back start s h chan c k cell x st found here other linked))

pub by-leg : (start : SwitchStart) (s : State) (h : List Step) (chan c k : ℕ) (cell : Cell) (x : CircuitState)
    (y : Option LegState) →
    Stands start s h → slot_at s.circuits c ≡ Some x → slot_at x.legs k ≡ y → has_port chan cell.circ y ≡ true →
    LegKept start s h chan c k cell x (leg_answer start h c k cell x)
by-leg start s h chan c k cell x None st found has on = absurd cc
by-leg start s h chan c zero cell x (Some l) st found has on =
    let its : leg_in s (record { circ = c; number = 0 }) ≡ Some l = rw found has in
    client-by start s h chan c cell x l st found has (same-number l.chan chan (and-first (l.chan == chan) _ on))
    (same-number l.id cell.circ (and-second (l.chan == chan) _ on))
    (at-found start s h st chan cell.circ (record { circ = c; number = 0 }) (Some l) its on)
    (cell.command == 4) (is_created2 cell.command) (nat_le held_limit (held_by start.rules (events start.rules h c) x Forth)) refl
by-leg start s h chan c (suc k) cell x (Some l) st found has on =
    let its : leg_in s (record { circ = c; number = suc k }) ≡ Some l = rw found has in
    hop-leg start s h chan c k cell x l st found has (same-number l.chan chan (and-first (l.chan == chan) _ on))
    (same-number l.id cell.circ (and-second (l.chan == chan) _ on))
    (at-found start s h st chan cell.circ (record { circ = c; number = suc k }) (Some l) its on)
