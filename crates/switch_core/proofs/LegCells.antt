-- A cell that a channel brings on a circuit's leg.
use Rattle.std.proofs.Common.{◌≡◌, ℕ, ◌+◌, ◌++◌, ◌==◌, nat_le, true, false, List, [], ◌∷◌, length, Option, Some, None, refl, sym, ◌∙◌, ap, append-nil, add-zero, ◌-◌, arith, zero, suc}
use Rattle.circuit_model.specs.Events.{CircuitCell, Event}
use Rattle.circuit_model.specs.Rules.{Rules}
use Rattle.circuit_model.specs.Words.{log}
use Rattle.switch_model.specs.History.Circuit.{current_leg}
use Rattle.switch_model.specs.Waiting.Lanes.{Destroy}
use Rattle.tor_spec.specs.Reasons.{destroy_destroyed, destroy_protocol, destroy_resource_limit}
use Rattle.tr_io.specs.declared.names.Dir.TheVariants.{Forth}
use Rattle.tr_io.specs.declared.answers.TakeAnswer.{TakeAnswer}
use Rattle.switch_machine.specs.State.{ChannelState, LegState, CircuitState, State, slot_at, with_slot}
use Rattle.switch_machine.specs.Machine.{counted}
use Rattle.switch_machine.specs.Calls.Take.{held_by, kept_length, queued_on_hops, behind_destroy, without_leg, leg_result, circuit_state}
use Rattle.switch_machine.specs.Calls.TearDown.{destroys_of, torn_lane, torn_state, with_lanes, tear_down_state, tear_down_state_of}
use Rattle.switch_core.specs.Picking.{first_leg_of, HasOneLeg}
use Rattle.switch_core.specs.Taking.{closed_answer, queued_answer, forth_queued_state, body_count}
use Rattle.switch_core.proofs.Gone.{with-same}

closed-by : (c : ℕ) (x : Option CircuitState) (rules : Rules) (ev : List Event) (cell : CircuitCell) → cell.command ≡ 11
    → closed_answer c destroy_protocol x ≡ leg_result rules ev (first_leg_of c) cell x
closed-by c None rules ev cell is = refl
closed-by c (Some x) rules ev cell is = rw is refl

pub created2_said : (s : State) (c : ℕ) (rules : Rules) (ev : List Event) (cell : CircuitCell) (a : TakeAnswer)
    → cell.command ≡ 11 → a ≡ closed_answer c destroy_protocol (slot_at s.circuits c)
    → a ≡ leg_result rules ev (first_leg_of c) cell (slot_at s.circuits c)
created2_said s c rules ev cell a is said = said ∙ closed-by c (slot_at s.circuits c) rules ev cell is

ended-by : (c : ℕ) (x : Option CircuitState) (rules : Rules) (ev : List Event) (cell : CircuitCell) → cell.command ≡ 4
    → closed_answer c destroy_destroyed x ≡ leg_result rules ev (first_leg_of c) cell x
ended-by c None rules ev cell is = refl
ended-by c (Some x) rules ev cell is = rw is refl

pub destroy_said : (s : State) (c : ℕ) (rules : Rules) (ev : List Event) (cell : CircuitCell) (a : TakeAnswer) → cell.command ≡ 4
    → a ≡ closed_answer c destroy_destroyed (slot_at s.circuits c)
    → a ≡ leg_result rules ev (first_leg_of c) cell (slot_at s.circuits c)
destroy_said s c rules ev cell a is said = said ∙ ended-by c (slot_at s.circuits c) rules ev cell is

-- a relay cell, where the direction is full and where it isn't

abbrev IsRelayCell : ℕ → Type 0
IsRelayCell n = ((n == 4) ≡ false) × ((n == 11) ≡ false)

one-leg-count : (rules : Rules) (ev : List Event) (x : CircuitState) → length x.legs ≡ 1
    → held_by rules ev x Forth ≡ body_count (Some x)
one-leg-count rules ev x one =
    ap (λ n. kept_length x.forth.claim_out + length x.forth.waiting_bodies + queued_on_hops x (n - 1)) one
    ∙ add-zero (kept_length x.forth.claim_out + length x.forth.waiting_bodies)

full-by : (c : ℕ) (x : Option CircuitState) (rules : Rules) (ev : List Event) (cell : CircuitCell) → HasOneLeg x
    → IsRelayCell cell.command → nat_le 1500 (body_count x) ≡ true
    → closed_answer c destroy_resource_limit x ≡ leg_result rules ev (first_leg_of c) cell x
full-by c None rules ev cell one relay full = cc
full-by c (Some x) rules ev cell one relay full =
    let all : nat_le 1500 (held_by rules ev x Forth) ≡ true = ap (nat_le 1500) (one-leg-count rules ev x one) ∙ full in
    rw (relay.0, relay.1, all) refl

pub full_said : (s : State) (c : ℕ) (rules : Rules) (ev : List Event) (cell : CircuitCell) (a : TakeAnswer)
    → HasOneLeg (slot_at s.circuits c) → IsRelayCell cell.command → nat_le 1500 (body_count (slot_at s.circuits c)) ≡ true →
    a ≡ closed_answer c destroy_resource_limit (slot_at s.circuits c)
    → a ≡ leg_result rules ev (first_leg_of c) cell (slot_at s.circuits c)
full_said s c rules ev cell a one relay full said = said ∙ full-by c (slot_at s.circuits c) rules ev cell one relay full

queued-by : (c : ℕ) (x : Option CircuitState) (rules : Rules) (ev : List Event) (cell : CircuitCell) → HasOneLeg x
    → IsRelayCell cell.command → nat_le 1500 (body_count x) ≡ false
    → queued_answer x ≡ leg_result rules ev (first_leg_of c) cell x
queued-by c None rules ev cell one relay room = refl
queued-by c (Some x) rules ev cell one relay room =
    let all : nat_le 1500 (held_by rules ev x Forth) ≡ false = ap (nat_le 1500) (one-leg-count rules ev x one) ∙ room in
    rw (relay.0, relay.1, all) refl

pub queued_said : (s : State) (c : ℕ) (rules : Rules) (ev : List Event) (cell : CircuitCell) (a : TakeAnswer)
    → HasOneLeg (slot_at s.circuits c) → IsRelayCell cell.command → nat_le 1500 (body_count (slot_at s.circuits c)) ≡ false →
    a ≡ queued_answer (slot_at s.circuits c) → a ≡ leg_result rules ev (first_leg_of c) cell (slot_at s.circuits c)
queued_said s c rules ev cell a one relay room said = said ∙ queued-by c (slot_at s.circuits c) rules ev cell one relay room

-- the state behind it

queued-left : (s t : State) (c : ℕ) (x : Option CircuitState) (rules : Rules) (ev : ℕ → List Event) (cell : CircuitCell)
    (a : TakeAnswer) → a ≡ queued_answer x → t ≡ forth_queued_state s c cell x
    → t ≡ circuit_state rules ev s (first_leg_of c) cell x a
queued-left s t c None rules ev cell a said is = is
queued-left s t c (Some x) rules ev cell a said is = rw said is

pub queued_left : (s t : State) (c : ℕ) (rules : Rules) (ev : ℕ → List Event) (cell : CircuitCell) (a : TakeAnswer)
    → a ≡ queued_answer (slot_at s.circuits c) → t ≡ forth_queued_state s c cell (slot_at s.circuits c) →
    t ≡ circuit_state rules ev s (first_leg_of c) cell (slot_at s.circuits c) a
queued_left s t c rules ev cell a said is = queued-left s t c (slot_at s.circuits c) rules ev cell a said is

put-back : (s : State) (c : ℕ) (x : CircuitState) → slot_at s.circuits c ≡ Some x
    → record (counted s) { circuits = with_slot s.circuits c (Some x) } ≡ counted s
put-back s c x live =
    ap {A = List (Option CircuitState)} (λ l. record (counted s) { circuits = l })
    (ap (with_slot s.circuits c) (sym live) ∙ with-same s.circuits c)

not-destroy : (cell : CircuitCell) (c : ℕ) (x : CircuitState) → (cell.command == 4) ≡ false → behind_destroy cell 0 x ≡ x
not-destroy cell c x other = rw other refl

closed-left : (s t : State) (c reason : ℕ) (x : Option CircuitState) (rules : Rules) (ev : ℕ → List Event) (cell : CircuitCell)
    (a : TakeAnswer) → (cell.command == 4) ≡ false → slot_at s.circuits c ≡ x → a ≡ closed_answer c reason x →
    t ≡ tear_down_state_of rules (ev c) s c reason x → t ≡ circuit_state rules ev s (first_leg_of c) cell x a
closed-left s t c reason None rules ev cell a other live said is = is
closed-left s t c reason (Some x) rules ev cell a other live said is =
    is
    ∙ ap (λ (y : State). torn_state rules (ev c) y c reason x) (sym (put-back s c x live))
    ∙ rw (said, not-destroy cell c x other) refl

pub closed_left : (s t : State) (c reason : ℕ) (rules : Rules) (ev : ℕ → List Event) (cell : CircuitCell) (a : TakeAnswer)
    → (cell.command == 4) ≡ false → a ≡ closed_answer c reason (slot_at s.circuits c) →
    t ≡ tear_down_state rules ev s c reason → t ≡ circuit_state rules ev s (first_leg_of c) cell (slot_at s.circuits c) a
closed_left s t c reason rules ev cell a other said is =
    closed-left s t c reason (slot_at s.circuits c) rules ev cell a other refl said is

-- the peer's DESTROY: its leg is gone before the teardown, which so puts none

no-lanes : (put : ℕ → List Destroy) (n : ℕ) (channels : List (Option ChannelState)) → ((m : ℕ) → put m ≡ [])
    → with_lanes put n channels ≡ channels
no-lanes put n [] none = refl
no-lanes put n (None ∷ channels) none = ap (λ l. None ∷ l) (no-lanes put (n + 1) channels none)
no-lanes put n (Some channel ∷ channels) none =
    ap (λ (more : List Destroy). Some (record channel { lane = channel.lane ++ more }) ∷ with_lanes put (n + 1) channels) (none n)
    ∙ ap (λ (l : List Destroy). Some (record channel { lane = l }) ∷ with_lanes put (n + 1) channels) (append-nil channel.lane)
    ∙ ap (λ l. Some channel ∷ l) (no-lanes put (n + 1) channels none)

one-gone : (legs : List (Option LegState)) (chan : ℕ) (current : Option ℕ) (reason : ℕ) → length legs ≡ 1
    → destroys_of (with_slot legs 0 None) chan current reason (length (with_slot legs 0 None)) ≡ []
unfolding slot_at with_slot
one-gone [] chan current reason one = cc
one-gone (x ∷ []) chan current reason one = refl
one-gone (x ∷ y ∷ legs) chan current reason one = absurd (omega (arith, one))

twice-set : {A : Type 0} (xs : List (Option A)) (n : ℕ) (x y : Option A) → with_slot (with_slot xs n x) n y ≡ with_slot xs n y
unfolding with_slot
twice-set [] n x y = refl
twice-set (z ∷ xs) zero x y = refl
twice-set (z ∷ xs) (suc n) x y = ap (λ l. z ∷ l) (twice-set xs n x y)

ended-left : (s t : State) (c : ℕ) (x : Option CircuitState) (rules : Rules) (ev : ℕ → List Event) (cell : CircuitCell)
    (a : TakeAnswer) → HasOneLeg x → s.again ≡ [] → cell.command ≡ 4 → slot_at s.circuits c ≡ x →
    a ≡ closed_answer c destroy_destroyed x → t ≡ record (counted s) { circuits = with_slot s.circuits c None }
    → t ≡ circuit_state rules ev s (first_leg_of c) cell x a
ended-left s t c None rules ev cell a one again is4 live said is =
    is ∙ ap {A = List (Option CircuitState)} (λ l. record (counted s) { circuits = l })
    (ap (with_slot s.circuits c) (sym live) ∙ with-same s.circuits c)
ended-left s t c (Some x) rules ev cell a one again is4 live said is =
    let none = no-lanes (torn_lane rules (ev c) (without_leg 0 x) destroy_destroyed) 0 s.channels
    (λ m. one-gone x.legs m (current_leg (log rules (ev c))) destroy_destroyed one) in
    is ∙ rw (said, is4, again, twice-set s.circuits c (Some (without_leg 0 x)) None, none) refl

pub ended_left : (s t : State) (c : ℕ) (rules : Rules) (ev : ℕ → List Event) (cell : CircuitCell) (a : TakeAnswer)
    → HasOneLeg (slot_at s.circuits c) → s.again ≡ [] → cell.command ≡ 4 →
    a ≡ closed_answer c destroy_destroyed (slot_at s.circuits c)
    → t ≡ record (counted s) { circuits = with_slot s.circuits c None }
    → t ≡ circuit_state rules ev s (first_leg_of c) cell (slot_at s.circuits c) a
ended_left s t c rules ev cell a one again is4 said is =
    ended-left s t c (slot_at s.circuits c) rules ev cell a one again is4 refl said is
