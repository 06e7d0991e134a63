-- open_circuit that opens a circuit keeps what a state stands for.
use Rattle.std.proofs.Common.{◌≡◌, ℕ, ◌+◌, ◌-◌, ◌^◌, ◌≤◌, ◌==◌, ◌&&◌, Bool, true, false, if◌then◌else◌, is_some, List, [], ◌∷◌, ◌++◌, length, Option, Some, None, refl, sym, ◌∙◌, subst, arith, inl, inr, zero, suc}
use Rattle.std.proofs.Math.Nat.{zero-div}
use Rattle.std.proofs.Math.Path.{fun_ext}
use Rattle.std.proofs.lemmas.Grind.{common_steps}
use Rattle.std.proofs.lemmas.Bool.Decides.{eqb_tells}
use Rattle.cell_codec.specs.declared.cell.Cell.{Cell}
use Rattle.kdf_tor.specs.declared.LayerKeys.{LayerKeys}
use Rattle.tr_io.specs.declared.step.Step.{Step}
use Rattle.switch_model.specs.Start.{SwitchStart}
use Rattle.switch_model.specs.Names.{Leg}
use Rattle.switch_model.specs.History.Legs.{at, holds_id}
use Rattle.switch_model.specs.Waiting.Lanes.{Destroy, lane}
use Rattle.switch_model.specs.Waiting.Counts.{cell_count, tick}
use Rattle.switch_model.specs.Legal.{IsRightStep}
use Rattle.switch_model.specs.History.Past.{past}
use Rattle.switch_model.specs.History.EdgePast.{edge_past}
use Rattle.switch_machine.specs.State.{ChannelState, LegState, CircuitState, State, slot_at}
use Rattle.switch_machine.specs.Machine.{leg_at, leg_in, has_port, dial_at, dial_in, is_handed_out}
use Rattle.switch_machine.specs.Stands.Numbers.{numbers_in, numbers_past}
use Rattle.switch_machine.specs.Stands.OneCircuit.{CircuitAt, left_at}
use Rattle.switch_machine.specs.Stands.CircIds.{IsUsed}
use Rattle.switch_machine.specs.Stands.Legs.{LiesOn}
use Rattle.switch_machine.specs.Stands.Counts.{CountAt}
use Rattle.switch_machine.specs.Stands.{Stands}
use Rattle.switch_machine.specs.Calls.OpenCircuit.{new_circuit, with_circuit}
use Rattle.switch_model.proofs.Common.{self_eq, not_equal}
use Rattle.switch_machine.proofs.OneStep.{step-added, circuit-count}
use Rattle.switch_machine.proofs.Dials.{again-kept}
use Rattle.switch_machine.proofs.Slots.{slot_at-push, slot_at-past}
use Rattle.switch_machine.proofs.OpenCircuit.Past.{opening, past-other, edge-other, holds-other, circuit-opened}

-- a number that no circuit had leaves no orders
no-left : (start : SwitchStart) (s : State) (h : List Step) → Stands start s h → (n serial : ℕ) → n ≡ length s.circuits
    → left_at s.last_closes n serial ≡ []
no-left start s h st n serial new =
    let none : slot_at s.circuits n ≡ None = slot_at-past s.circuits n (omega arith) in
    let gone = subst
    (λ x. CircuitAt start.rules s.last_closes x n (past start.rules h n) (λ k. holds_id h n k) (edge_past start.rules h n))
    none (st.circuits.circuit n) in
    gone.left serial ∙ (st.circuits.fresh n (omega arith)).left serial

-- the legs of the state
leg_in-other : (s : State) (x : Option CircuitState) (leg : Leg) → (leg.circ ≡ length s.circuits → ⊥) →
    leg_at (slot_at (s.circuits ++ x ∷ []) leg.circ) leg.number ≡ leg_in s leg
leg_in-other s x leg other =
    rw (slot_at-push s.circuits x leg.circ, not_equal leg.circ (length s.circuits) (λ e. other (sym e))) refl

none-past : (s : State) (leg : Leg) → leg.circ ≡ length s.circuits → leg_in s leg ≡ None
none-past s leg new = let none : slot_at s.circuits leg.circ ≡ None = slot_at-past s.circuits leg.circ (omega arith) in
    rw none refl

-- whatever holds of the new circuit's legs, and of each leg that was there
leg-pushed : (P : Option LegState → Type 0) (s : State) (x : CircuitState) (leg : Leg)
    → (leg.circ ≡ length s.circuits → P (slot_at x.legs leg.number)) → P (leg_in s leg) →
    P (leg_at (slot_at (s.circuits ++ Some x ∷ []) leg.circ) leg.number)
leg-pushed P s x leg here there = elim (eqb_tells leg.circ (length s.circuits)) [
  | inl (is, same) ↦ rw (slot_at-push s.circuits (Some x) leg.circ, is) (here same)
  | inr (is, other) ↦ rw (leg_in-other s (Some x) leg other) there
]

port-push : (s : State) (x : CircuitState) (leg : Leg) (chan id : ℕ) → has_port chan id (leg_in s leg) ≡ true →
    has_port chan id (leg_at (slot_at (s.circuits ++ Some x ∷ []) leg.circ) leg.number) ≡ true
port-push s x leg chan id has =
    leg-pushed (λ y. has_port chan id y ≡ true) s x leg (λ same. let no : false ≡ true = rw (none-past s leg same) at has in
    absurd cc) has

first-port : (chan id : ℕ) (reply : Cell) (m i : ℕ)
    → has_port m i (leg_at (Some (new_circuit chan id reply)) 0) ≡ ((chan == m) && (id == i))
unfolding slot_at
first-port chan id reply m i = refl

new-port : (s : State) (chan id : ℕ) (reply : Cell) (m i : ℕ) → ((chan == m) && (id == i)) ≡ true →
    has_port m i (leg_at (slot_at (s.circuits ++ Some (new_circuit chan id reply) ∷ []) (length s.circuits)) 0) ≡ true
new-port s chan id reply m i same =
    rw (slot_at-push s.circuits (Some (new_circuit chan id reply)) (length s.circuits), self_eq (length s.circuits))
    (first-port chan id reply m i ∙ same)

used-push : (s t : State) (x : CircuitState) (lane : List Destroy) (m i : ℕ) (found : Option Leg)
    → t.circuits ≡ s.circuits ++ Some x ∷ [] → IsUsed (leg_in s) lane m i found → IsUsed (leg_in t) lane m i found
used-push s t x lane m i None grown used = tt
used-push s t x lane m i (Some leg) grown (inl has) = inl (rw grown (port-push s x leg m i has))
used-push s t x lane m i (Some leg) grown (inr waits) = inr waits

used-if : (legs : Leg → Option LegState) (lane : List Destroy) (m i : ℕ) (b : Bool) (new found : Option Leg)
    → (b ≡ true → IsUsed legs lane m i new) → IsUsed legs lane m i found → IsUsed legs lane m i (if b then new else found)
used-if legs lane m i true new found first later = first refl
used-if legs lane m i false new found first later = later

-- the new circuit's legs: they were sent nothing, and the first lies on the live channel
count-new : (chan id : ℕ) (reply : Cell) (k n now : ℕ) → n ≡ 0 → CountAt (slot_at (new_circuit chan id reply).legs k) n now
unfolding slot_at
count-new chan id reply zero n now none = record { since = omega arith; count = none ∙ sym (zero-div (2 ^ (now - 0))) }
count-new chan id reply (suc k) n now none = tt

lies-new : (slots : List (Option ChannelState)) (chan id : ℕ) (reply : Cell) (k : ℕ) → is_some (slot_at slots chan) ≡ true
    → LiesOn slots (slot_at (new_circuit chan id reply).legs k)
unfolding slot_at
lies-new slots chan id reply zero on_live = on_live
lies-new slots chan id reply (suc k) on_live = tt

-- a circuit that dials nothing
dial-pushed : (s : State) (x : CircuitState) (c : ℕ) → is_handed_out (dial_in s c) ≡ true
    → is_handed_out (dial_at (slot_at (s.circuits ++ Some x ∷ []) c)) ≡ true
dial-pushed s x c out = elim (eqb_tells c (length s.circuits)) [
  | inl (is, same) ↦ let none : slot_at s.circuits c ≡ None = slot_at-past s.circuits c (omega arith) in let no : false ≡ true =
      rw none at out in absurd cc
  | inr (is, other) ↦ rw (slot_at-push s.circuits (Some x) c, is) out
]

pub opened-kept : (start : SwitchStart) (s : State) (h : List Step) (chan id : ℕ) (reply : Cell) (keys : LayerKeys)
    (pad : Option (List ℕ)) → Stands start s h →
    IsRightStep start h (opening chan id reply keys pad (length s.circuits)) → is_some (slot_at s.channels chan) ≡ true
    → at h chan id ≡ None →
    Stands start (with_circuit s chan id reply (Some keys)) (opening chan id reply keys pad (length s.circuits) ∷ h)
opened-kept start s h chan id reply keys pad st answered on_live free =
    let rules = start.rules in
    let n = length s.circuits in
    let new = new_circuit chan id reply in
    let step = opening chan id reply keys pad n in
    let t = with_circuit s chan id reply (Some keys) in
    record {
      steps = step-added start s.steps h step st.steps answered;
      numbers = circuit-count (numbers_in s) (numbers_past rules h) _ _ (grind (arith, common_steps, st.numbers.circuits))
          st.numbers;
      channels = st.channels;
      circuits = record {
        circuit = λ c. elim (eqb_tells c n) [
          | inl (is_new, same) ↦ rw (slot_at-push s.circuits (Some new) c, is_new)
              (subst (λ m. CircuitAt rules s.last_closes (Some new) m (past rules (step ∷ h) m) (λ k. holds_id (step ∷ h) m k)
              (edge_past rules (step ∷ h) m)) (sym same)
              (circuit-opened rules s.last_closes h chan id reply keys pad n (st.circuits.fresh n (omega arith))
              (λ serial. no-left start s h st n serial refl)))
          | inr (is_new, other) ↦ let unlike_n = not_equal n c other in
              rw (
                slot_at-push s.circuits (Some new) c,
                is_new,
                past-other rules h chan id reply keys pad n c unlike_n,
                edge-other rules h chan id reply keys pad n c unlike_n,
              )
              (subst (λ f. CircuitAt rules s.last_closes (slot_at s.circuits c) c (past rules h c) f (edge_past rules h c))
              (sym (fun_ext (λ k. holds-other h chan id reply keys pad n c k free unlike_n))) (st.circuits.circuit c))
        ];
        fresh = λ c beyond.
            let past_end : n + 1 ≤ c = grind (arith, common_steps) in
            let unlike_n = not_equal n c (λ same. absurd (omega arith)) in
            rw (past-other rules h chan id reply keys pad n c unlike_n, edge-other rules h chan id reply keys pad n c unlike_n)
            (st.circuits.fresh c (omega arith));
      };
      ids = record {
        used = λ m i. used-if (leg_in t) (lane rules h m) m i ((chan == m) && (id == i)) (Some (record { circ = n; number = 0 }))
            (at h m i)
            (λ same. inl (new-port s chan id reply m i same))
            (used-push s t new (lane rules h m) m i (at h m i) refl (st.ids.used m i));
      };
      legs = record {
        lie = λ leg. leg-pushed (LiesOn s.channels) s new leg (λ same. lies-new s.channels chan id reply leg.number on_live)
            (st.legs.lie leg);
      };
      dials = record {
        are_out = again-kept (dial_in s) (dial_in t) s.again (dial-pushed s new) st.dials.are_out;
        once = st.dials.once;
        never = st.dials.never;
      };
      counts = record {
        counts = λ leg. leg-pushed (λ y. CountAt y (cell_count rules h leg.circ leg.number) (tick h)) s new leg
            (λ same. count-new chan id reply leg.number (cell_count rules h leg.circ leg.number) (tick h)
            (st.counts.no_count leg.circ leg.number (omega (arith, same)))) (st.counts.counts leg);
        no_count = λ c k beyond. st.counts.no_count c k (grind (arith, common_steps));
      };
      slots = st.slots;
      not_yet = st.not_yet;
    }
