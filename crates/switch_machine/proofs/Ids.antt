-- CircIDs that are in use, by the state and by the history.
use Rattle.std.proofs.Common.{◌≡◌, ℕ, ◌==◌, ◌||◌, ◌⊎◌, Bool, true, false, is_some, List, Option, Some, None, refl, subst, inl, inr}
use Rattle.std.specs.List.{list_any}
use Rattle.tr_io.specs.declared.step.Step.{Step}
use Rattle.switch_model.specs.Start.{SwitchStart}
use Rattle.switch_model.specs.Names.{Leg, is_leg}
use Rattle.switch_model.specs.History.Legs.{at, holds_id, holds_port}
use Rattle.switch_model.specs.Waiting.Lanes.{Destroy, lane}
use Rattle.switch_model.specs.History.Past.{past}
use Rattle.switch_model.specs.History.EdgePast.{edge_past}
use Rattle.switch_model.specs.Answers.OpenCircuit.{is_in_use}
use Rattle.switch_machine.specs.State.{LegState, CircuitState, ChannelState, State, slot_at}
use Rattle.switch_machine.specs.Machine.{has_port, leg_at, leg_in}
use Rattle.switch_machine.specs.Stands.OneLeg.{LegAt, LegStands}
use Rattle.switch_machine.specs.Stands.OneCircuit.{CircuitAt}
use Rattle.switch_machine.specs.Stands.CircIds.{IsUsed}
use Rattle.switch_machine.specs.Stands.{Stands}
use Rattle.switch_machine.specs.Calls.OpenCircuit.{circuit_has_id, is_id_taken}
use Rattle.switch_machine.proofs.Slots.{list_any-slot, slot-list_any}
use Rattle.switch_model.proofs.Common.{and-first, and-second, same-number}

-- what a circuit's state has at a leg number, against the history
pub leg-by : (start : SwitchStart) (s : State) (h : List Step) (c k : ℕ) (x : Option CircuitState) (leg : LegState) →
    CircuitAt start.rules s.last_closes x c (past start.rules h c) (λ j. holds_id h c j) (edge_past start.rules h c)
    → leg_at x k ≡ Some leg →
    LegStands start.rules leg k (past start.rules h c) (holds_id h c k)
leg-by start s h c k None leg at found = absurd cc
leg-by start s h c k (Some x) leg own found =
    subst (λ y. LegAt start.rules y k (past start.rules h c) (holds_id h c k)) found (own.legs k)

leg-stands : (start : SwitchStart) (s : State) (h : List Step) → Stands start s h → (c k : ℕ) (leg : LegState)
    → leg_at (slot_at s.circuits c) k ≡ Some leg →
    LegStands start.rules leg k (past start.rules h c) (holds_id h c k)
leg-stands start s h st c k leg found = leg-by start s h c k (slot_at s.circuits c) leg (st.circuits.circuit c) found

-- such a leg has its CircID
pub leg-has_id : (start : SwitchStart) (s : State) (h : List Step) → Stands start s h → (c k : ℕ) (leg : LegState)
    → leg_at (slot_at s.circuits c) k ≡ Some leg →
    is_leg c k (at h leg.chan leg.id) ≡ true
leg-has_id start s h st c k leg found =
    let own = leg-stands start s h st c k leg found in
    subst (λ p. holds_port h c k p ≡ true) own.port own.holds

some-leg : (c k : ℕ) (x : Option Leg) → is_leg c k x ≡ true → is_some x ≡ true
some-leg c k (Some leg) e = refl
some-leg c k None e = cc

port-used : (start : SwitchStart) (s : State) (h : List Step) → Stands start s h → (c k chan id : ℕ) (x : Option LegState)
    → leg_at (slot_at s.circuits c) k ≡ x →
    has_port chan id x ≡ true → is_some (at h chan id) ≡ true
port-used start s h st c k chan id None found has = cc
port-used start s h st c k chan id (Some leg) found has =
    let same_chan : leg.chan ≡ chan = same-number leg.chan chan (and-first (leg.chan == chan) _ has) in
    let same_id : leg.id ≡ id = same-number leg.id id (and-second (leg.chan == chan) _ has) in
    some-leg c k (at h chan id)
    (subst (λ i. is_leg c k (at h chan i) ≡ true) same_id
    (subst (λ n. is_leg c k (at h n leg.id) ≡ true) same_chan (leg-has_id start s h st c k leg found)))

circuit-leg : (chan id : ℕ) (x : Option CircuitState) → circuit_has_id chan id x ≡ true
    → (k : ℕ) × (has_port chan id (leg_at x k) ≡ true)
circuit-leg chan id None has = absurd cc
circuit-leg chan id (Some x) has = slot-list_any (has_port chan id) x.legs has

leg-circuit : (chan id k : ℕ) (x : Option CircuitState) → has_port chan id (leg_at x k) ≡ true → circuit_has_id chan id x ≡ true
leg-circuit chan id k None has = has
leg-circuit chan id k (Some x) has = list_any-slot (has_port chan id) x.legs k refl has

-- a leg of the state is one of the history
taken-used : (start : SwitchStart) (s : State) (h : List Step) → Stands start s h → (chan id : ℕ)
    → list_any (circuit_has_id chan id) s.circuits ≡ true → is_some (at h chan id) ≡ true
taken-used start s h st chan id taken =
    let c = slot-list_any (circuit_has_id chan id) s.circuits taken in
    let k = circuit-leg chan id (slot_at s.circuits c.0) c.1 in
    port-used start s h st c.0 k.0 chan id (leg_at (slot_at s.circuits c.0) k.0) refl k.1

-- and the other way, unless its DESTROY waits
used-taken : (s : State) (lane : List Destroy) (chan id : ℕ) (x : Option Leg) → IsUsed (leg_in s) lane chan id x
    → is_some x ≡ true →
    (list_any (circuit_has_id chan id) s.circuits ≡ true) ⊎ (list_any (λ d. d.id == id) lane ≡ true)
used-taken s lane chan id None used some = absurd cc
used-taken s lane chan id (Some leg) (inl has) some =
    inl (list_any-slot (circuit_has_id chan id) s.circuits leg.circ refl
    (leg-circuit chan id leg.number (slot_at s.circuits leg.circ) has))
used-taken s lane chan id (Some leg) (inr waits) some = inr waits

agree : (a b l : Bool) → (a ≡ true → b ≡ true) → (b ≡ true → (a ≡ true) ⊎ (l ≡ true)) → (a || l) ≡ (b || l)
agree true true l to back = refl
agree true false l to back = let no : false ≡ true = to refl in cc
agree false true true to back = refl
agree false true false to back = elim (back refl) [ inl e ↦ cc | inr e ↦ cc ]
agree false false l to back = refl

pub taken-said : (start : SwitchStart) (s : State) (h : List Step) → Stands start s h → (chan id : ℕ) (channel : ChannelState)
    → channel.lane ≡ lane start.rules h chan →
    is_id_taken s chan channel id ≡ is_in_use start.rules h chan id
taken-said start s h st chan id channel same =
    rw same (agree (list_any (circuit_has_id chan id) s.circuits) (is_some (at h chan id))
    (list_any (λ d. d.id == id) (lane start.rules h chan))
    (taken-used start s h st chan id) (used-taken s (lane start.rules h chan) chan id (at h chan id) (st.ids.used chan id)))
