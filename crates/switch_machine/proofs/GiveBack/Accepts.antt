-- A return that is accepted: its circuit is live, its note is that of the claim that is out, and nothing differs.
use Rattle.std.proofs.Common.{◌≡◌, ℕ, ◌==◌, Bool, true, false, not, nat_lt, if◌then◌else◌, length, Option, Some, None, refl, sym, ◌∙◌, subst}
use Rattle.switch_machine.specs.Calls.GiveBack.{return_result, return_result_on}
use Rattle.switch_machine.specs.Machine.{kept_note, way_of_circuit}
use Rattle.switch_machine.specs.State.{CircuitState, State, slot_at}
use Rattle.switch_model.specs.Answers.GiveBack.{is_note, returned}
use Rattle.switch_model.specs.History.Circuit.{is_accepted_return}
use Rattle.tr_io.specs.declared.answers.BackAnswer.{BackAnswer}
use Rattle.tr_io.specs.declared.answers.Difference.{Difference}
use Rattle.tr_io.specs.declared.names.ClaimNote.{ClaimNote}

pub record Accepts (s : State) (n : ClaimNote) (place : Option ℕ) (answer : CircuitState → BackAnswer) (a : BackAnswer) : Type 0
  where
    pub circuit : CircuitState
    pub found : slot_at s.circuits n.circ.0 ≡ Some circuit
    pub is : is_note n (kept_note (way_of_circuit circuit n.dir).claim_out) ≡ true
    pub nothing_differs : place ≡ None
    pub says : answer circuit ≡ a

not-refused : (refusal a : BackAnswer) → is_accepted_return refusal ≡ false → refusal ≡ a → is_accepted_return a ≡ true → ⊥
not-refused refusal a refused same accepted = let no : false ≡ true =
    sym refused ∙ subst (λ z. is_accepted_return z ≡ true) (sym same) accepted in cc

passes : (b : Bool) (refusal rest a : BackAnswer) → is_accepted_return refusal ≡ false → (if not b then refusal else rest) ≡ a
    → is_accepted_return a ≡ true → (b ≡ true) × (rest ≡ a)
passes true refusal rest a refused same accepted = (refl, same)
passes false refusal rest a refused same accepted = absurd (not-refused refusal a refused same accepted)

nowhere : (n : ClaimNote) (place : Option ℕ) (answer a : BackAnswer) → returned n place answer ≡ a → is_accepted_return a ≡ true
    → (place ≡ None) × (answer ≡ a)
nowhere n None answer a same accepted = (refl, same)
nowhere n (Some p) answer a same accepted = absurd (not-refused (returned n (Some p) answer) a refl same accepted)

accepts-on : (s : State) (n : ClaimNote) (place : Option ℕ) (x : Option CircuitState) (answer : CircuitState → BackAnswer)
    (a : BackAnswer) → slot_at s.circuits n.circ.0 ≡ x → is_accepted_return a ≡ true →
    return_result_on n place x answer ≡ a → Accepts s n place answer a
accepts-on s n place None answer a found accepted same = absurd (not-refused BackAnswer.Gone a refl same accepted)
accepts-on s n place (Some x) answer a found accepted same =
    let noted =
    passes (is_note n (kept_note (way_of_circuit x n.dir).claim_out))
    (BackAnswer.Stranger (Difference.Note (kept_note (way_of_circuit x n.dir).claim_out) n)) (returned n place (answer x)) a
    refl same accepted in
    let here = nowhere n place (answer x) a noted.1 accepted in
    record { circuit = x; found = found; is = noted.0; nothing_differs = here.0; says = here.1 }

pub accepts : (name : ℕ) (s : State) (n : ClaimNote) (place : Option ℕ) (answer : CircuitState → BackAnswer) (a : BackAnswer)
    → is_accepted_return a ≡ true → return_result name s n place answer ≡ a → Accepts s n place answer a
accepts name s n place answer a accepted same =
    let ours = passes (n.switch == name) (BackAnswer.Stranger (Difference.Note None n)) _ a refl same accepted in
    let opened =
    passes (nat_lt n.circ.0 (length s.circuits)) (BackAnswer.Stranger (Difference.Note None n))
    (return_result_on n place (slot_at s.circuits n.circ.0) answer) a refl ours.1 accepted in
    accepts-on s n place (slot_at s.circuits n.circ.0) answer a refl accepted opened.1
