-- One circuit of the switch changes.
use Rattle.std.proofs.Common.{◌≡◌, ℕ, ◌==◌, Bool, false, List, Option, Some, refl, sym, subst, arith, inl, inr}
use Rattle.std.proofs.lemmas.Bool.Decides.{eqb_tells}
use Rattle.circuit_model.specs.Rules.{Rules}
use Rattle.switch_model.specs.Names.{Leg}
use Rattle.switch_model.specs.Answers.EdgeOut.{Ordered}
use Rattle.switch_model.specs.History.Past.{Past}
use Rattle.switch_model.specs.History.EdgePast.{EdgePast}
use Rattle.switch_machine.specs.State.{CircuitState, State, slot_at, with_slot}
use Rattle.switch_machine.specs.Machine.{leg_at, leg_in, dial_at, dial_in}
use Rattle.switch_machine.specs.Stands.OneCircuit.{CircuitAt, CircuitStands, IsFresh}
use Rattle.switch_machine.specs.Stands.Circuits.{CircuitsStand}
use Rattle.switch_model.proofs.Common.{not_equal}
use Rattle.switch_machine.proofs.Slots.{slot_at-with, length-with, slot_at-inside}

-- what the state has of a live circuit
pub circuit-own : (rules : Rules) (closes : List Ordered) (slots : List (Option CircuitState)) (p : ℕ → Past)
    (has_id : ℕ → ℕ → Bool) (e : ℕ → EdgePast) (c : ℕ) (x : CircuitState) →
    slot_at slots c ≡ Some x → CircuitsStand rules closes slots p has_id e → CircuitStands rules closes x c (p c) (has_id c) (e c)
circuit-own rules closes slots p has_id e c x found own =
    subst (λ y. CircuitAt rules closes y c (p c) (has_id c) (e c)) found (own.circuit c)

-- circuit c has a new state, or is gone, and each other one stands as it stood
pub circuit-changed : (rules : Rules) (closes : List Ordered) (slots : List (Option CircuitState)) (p q : ℕ → Past)
    (had has_id : ℕ → ℕ → Bool) (e f : ℕ → EdgePast) (c : ℕ) (x : CircuitState) (y : Option CircuitState) →
    slot_at slots c ≡ Some x →
    ((d : ℕ) → (c == d) ≡ false → CircuitAt rules closes (slot_at slots d) d (p d) (had d) (e d)
    → CircuitAt rules closes (slot_at slots d) d (q d) (has_id d) (f d)) →
    ((d : ℕ) → (c == d) ≡ false → IsFresh (p d) (e d) → IsFresh (q d) (f d)) →
    CircuitAt rules closes y c (q c) (has_id c) (f c) → CircuitsStand rules closes slots p had e
    → CircuitsStand rules closes (with_slot slots c y) q has_id f
circuit-changed rules closes slots p q had has_id e f c x y found others unopened new own =
    let inside = slot_at-inside slots c x found in
    record {
      circuit = λ d. elim (eqb_tells d c) [
        | inl (is, same) ↦ rw (slot_at-with slots c y d inside, is)
            (subst (λ b. CircuitAt rules closes y b (q b) (has_id b) (f b)) (sym same) new)
        | inr (is, other) ↦ rw (slot_at-with slots c y d inside, is) (others d (not_equal c d other) (own.circuit d))
      ];
      fresh = λ d beyond.
          let size = length-with slots c y in
          unopened d (not_equal c d (λ same. absurd (omega (arith, beyond, size, inside, same))))
          (own.fresh d (omega (arith, beyond, size)));
    }

-- a circuit with the same legs
pub leg_in-kept : (s : State) (c : ℕ) (x y : CircuitState) → slot_at s.circuits c ≡ Some x → y.legs ≡ x.legs → (leg : Leg) →
    leg_at (slot_at (with_slot s.circuits c (Some y)) leg.circ) leg.number ≡ leg_in s leg
leg_in-kept s c x y found same leg = elim (eqb_tells leg.circ c) [
  | inl (is, here) ↦ rw (slot_at-with s.circuits c (Some y) leg.circ (slot_at-inside s.circuits c x found), is, here, found, same)
      refl
  | inr (is, other) ↦ rw (slot_at-with s.circuits c (Some y) leg.circ (slot_at-inside s.circuits c x found), is) refl
]

-- a circuit with the same dial order
pub dial_in-kept : (s : State) (c : ℕ) (x y : CircuitState) → slot_at s.circuits c ≡ Some x → y.dial ≡ x.dial → (d : ℕ) →
    dial_at (slot_at (with_slot s.circuits c (Some y)) d) ≡ dial_in s d
dial_in-kept s c x y found same d = elim (eqb_tells d c) [
  | inl (is, here) ↦ rw (slot_at-with s.circuits c (Some y) d (slot_at-inside s.circuits c x found), is, here, found, same) refl
  | inr (is, other) ↦ rw (slot_at-with s.circuits c (Some y) d (slot_at-inside s.circuits c x found), is) refl
]
