-- Circuits where one more dial order is handed out: it is the open order of one circuit, and the others' stay.
use Rattle.std.proofs.Common.{◌≡◌, ℕ, ◌==◌, Bool, true, false, if◌then◌else◌, List, Option, Some, None, option_map, refl, sym, ◌∙◌, subst}
use Rattle.std.proofs.Math.Path.{fun_ext}
use Rattle.circuit_model.specs.NextHop.{next_hop}
use Rattle.circuit_model.specs.Rules.{Rules}
use Rattle.circuit_model.specs.Words.{log}
use Rattle.switch_model.specs.Answers.EdgeOut.{Ordered}
use Rattle.switch_model.specs.History.EdgePast.{EdgePast}
use Rattle.switch_model.specs.History.Past.{Past}
use Rattle.switch_model.specs.Waiting.Dials.{Dial, is_dialling}
use Rattle.switch_machine.specs.Calls.DialOrder.{circuit_dialled, dial_out}
use Rattle.switch_machine.specs.Stands.OneCircuit.{last_of, CircuitAt, CircuitStands}
use Rattle.switch_machine.specs.State.{CircuitState}
use Rattle.switch_model.proofs.Common.{same-number, self_eq}
use Rattle.switch_machine.proofs.DialOrder.Open.{state_of}

-- The orders that were handed out, with one more.
abbrev pub handed_with : ℕ → (ℕ → Bool) → ℕ → Bool
handed_with m handed_out order = if m == order then true else handed_out order

-- one that was handed out before
same-if : (handed_out : ℕ → Bool) (m order : ℕ) (b : Bool) → (m == order) ≡ b → handed_out m ≡ true →
    (if b then true else handed_out order) ≡ handed_out order
same-if handed_out m order true is before = let same : m ≡ order = same-number m order is in sym
    (subst (λ n. handed_out n ≡ true) same before)
same-if handed_out m order false is before = refl

pub handed-same : (handed_out : ℕ → Bool) (m : ℕ) → handed_out m ≡ true →
    ◌≡◌ {A = ℕ → Bool} (handed_with m handed_out) handed_out
handed-same handed_out m before = fun_ext (λ order. same-if handed_out m order (m == order) refl before)

abbrev pub behind_order : ℕ → EdgePast → EdgePast
behind_order m e = record e { handed_out = handed_with m e.handed_out }

-- the open order, by the circuit's last
other-open : (b : Bool) (o : Option Dial) (handed_out : ℕ → Bool) (m : ℕ) →
    ((last : Dial) → o ≡ Some last → (m == last.order) ≡ false) →
    (if b then option_map (state_of handed_out) o else None) ≡ (if b then option_map
    (state_of (handed_with m handed_out)) o else None)
other-open true (Some last) handed_out m other = rw (other last refl) refl
other-open true None handed_out m other = refl
other-open false o handed_out m other = refl

own-open : (b : Bool) (o : Option Dial) (handed_out : ℕ → Bool) (m : ℕ) → ((last : Dial) → o ≡ Some last → last.order ≡ m) →
    option_map dial_out (if b then option_map (state_of handed_out) o else None) ≡ (if b then option_map
    (state_of (handed_with m handed_out)) o else None)
own-open true (Some last) handed_out m own = rw (own last refl, self_eq m) refl
own-open true None handed_out m own = refl
own-open false o handed_out m own = refl

pub other-handed : (rules : Rules) (closes : List Ordered) (x : Option CircuitState) (c m : ℕ) (p : Past) (has_id : ℕ →
    Bool) (e : EdgePast) → ((last : Dial) → last_of e.dials ≡ Some last → (m == last.order) ≡ false) →
    CircuitAt rules closes x c p has_id e → CircuitAt rules closes x c p has_id (behind_order m e)
other-handed rules closes None c m p has_id e other own = record { live = own.live; left = own.left }
other-handed rules closes (Some x) c m p has_id e other own = record {
  live = own.live;
  sent_count = own.sent_count;
  born = own.born;
  sealed = own.sealed;
  linked = own.linked;
  hops = own.hops;
  legs = own.legs;
  forth = own.forth;
  back = own.back;
  orders = own.orders;
  no_left = own.no_left;
  dial = own.dial ∙ other-open (is_dialling (next_hop (log rules p.events))) (last_of e.dials) e.handed_out m other;
}

pub own-handed : (rules : Rules) (closes : List Ordered) (x : CircuitState) (c m : ℕ) (p : Past) (has_id : ℕ →
    Bool) (e : EdgePast) → ((last : Dial) → last_of e.dials ≡ Some last → last.order ≡ m) →
    CircuitStands rules closes x c p has_id e → CircuitStands rules closes (circuit_dialled x) c p has_id (behind_order m e)
own-handed rules closes x c m p has_id e same own = record {
  live = own.live;
  sent_count = own.sent_count;
  born = own.born;
  sealed = own.sealed;
  linked = own.linked;
  hops = own.hops;
  legs = own.legs;
  forth = own.forth;
  back = own.back;
  orders = own.orders;
  no_left = own.no_left;
  dial = rw own.dial (own-open (is_dialling (next_hop (log rules p.events))) (last_of e.dials) e.handed_out m same);
}
